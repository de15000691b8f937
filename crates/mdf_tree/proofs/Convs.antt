-- Conversions that are written stand as they were given.
use Rattle.std.proofs.Common.{◌≡◌, ◌+◌, ◌%◌, ◌^◌, ◌<◌, ℕ, zero, suc, List, [], ◌∷◌, ◌++◌, length, get_or, refl, sym, ◌∙◌, ap, subst, inl, inr, arith}
use Rattle.std.specs.List.{AllByRecursion}
use Rattle.std.specs.Int.{to_le_bytes, w16, w64}
use Rattle.mdf_format.specs.Number.{le_number}
use Rattle.mdf_format.specs.Block.{link_at}
use Rattle.mdf_block.specs.declared.link.Link.TheVariants as links
use Rattle.mdf_block.specs.declared.note.Note.TheVariants as notes
use Rattle.mdf_block.specs.Draft.{Placed, address_of, link_number, AllStand}
use Rattle.mdf_conv.specs.declared.row.Conversion.{Conversion}
use Rattle.mdf_conv.specs.declared.row.Ref.{Ref}
use Rattle.mdf_conv.specs.declared.row.Ref.TheOpen as layers
use Rattle.mdf_conv.specs.declared.row.Ref.TheViews.{out-Ref, roll-Ref, roll-out-Ref, rolls-Nothing, rolls-Words, rolls-Conv}
use Rattle.mdf_conv.specs.Conv.{numbers_at, the_conversion}
use Rattle.mdf_conv.specs.Standing.{IsRefBy, AreRefsBy, IsConversionBy, IsConversion}
use Rattle.mdf_tree.specs.Text.{note_blocks, note_link}
use Rattle.mdf_tree.specs.Conv.{Layer, conv_body, layer_blocks, layer_link, ref_blocks, ref_link, refs_blocks, refs_links, conv_unit, conv_comment, conv_first, conv_blocks_by, conv_blocks, IsLayerWritable, IsConvWritableBy, IsConvWritable}
use Rattle.mdf_tree.proofs.Has.{Has, has_left, has_right, has_more, here, address_some}
use Rattle.mdf_tree.proofs.Texts.{note_stands, linked_note}
use Rattle.mdf_tree.proofs.Numbers.{back16, back64, length-words, last_back}

-- the body reads back as the conversion
conv_back : (IsInner : Conversion → Type 0) (conv : Conversion) → IsConvWritableBy IsInner conv
    → the_conversion (conv_body conv) (record { name = conv.name; unit = conv.unit; comment = conv.comment }) conv.refs ≡ conv
conv_back IsInner conv fits =
    let flags = back16 conv.flags fits.flags in
    let count : le_number (to_le_bytes w16 (length conv.numbers % 2 ^ 16)) ≡ length conv.numbers = omega (arith, fits.count) in
    let low = back64 conv.low fits.low in
    let high = back64 conv.high fits.high in
    let pre = conv.kind ∷ conv.precision ∷ (to_le_bytes w16 conv.flags ++ (to_le_bytes w16 (length conv.refs % 2 ^ 16)
    ++ (to_le_bytes w16 (length conv.numbers % 2 ^ 16) ++ (to_le_bytes w64 conv.low ++ to_le_bytes w64 conv.high)))) in
    let numbers : numbers_at (conv_body conv) 24 (length conv.numbers) ≡ conv.numbers =
    last_back pre conv.numbers 24 (length conv.numbers) refl refl fits.numbers in
    rw (flags, count, low, high, numbers) refl

module _ (file : List ℕ) (blocks : List Placed) (all : AllStand file blocks) (inner : ℕ → Conversion → List Placed) (IsInner : Conversion → Type 0)
    (IsConv : ℕ → Conversion → Type 0)
    (stands : (n : ℕ) (conv : Conversion) → IsInner conv → Has blocks n (inner n conv) → IsConv (address_of blocks n) conv) where
  layer_stands : (n : ℕ) (found : Ref) (layer : Layer) → roll-Ref layer ≡ found → IsLayerWritable IsInner layer
      → Has blocks n (layer_blocks inner n layer) → IsRefBy IsConv file (link_number blocks (layer_link n layer)) found
  unfolding note_link
  layer_stands n found layers.Nothing same is has = inl (refl, sym same ∙ rolls-Nothing)
  layer_stands n found (layers.Words notes.Nothing) same is has = absurd is
  layer_stands n found (layers.Words (notes.Plain bytes)) same is has =
      let note = notes.Plain bytes in
      inr (inl (address_some blocks n, (note, sym same ∙ rolls-Words note, note_stands file blocks all n note is has)))
  layer_stands n found (layers.Words (notes.Xml bytes)) same is has =
      let note = notes.Xml bytes in
      inr (inl (address_some blocks n, (note, sym same ∙ rolls-Words note, note_stands file blocks all n note is has)))
  layer_stands n found (layers.Conv conv) same is has =
      inr (inr (address_some blocks n, (conv, sym same ∙ rolls-Conv conv, stands n conv is has)))

  refs_stand : (at k n : ℕ) (rows : List Ref)
      → ((i : ℕ) → i < length rows → link_at file at (k + i) ≡ link_number blocks (get_or (refs_links inner n rows) i links.Nothing))
      → AllByRecursion (λ found. IsLayerWritable IsInner (out-Ref found)) rows → Has blocks n (refs_blocks inner n rows)
      → AreRefsBy IsConv file at k rows
  unfolding refs_blocks refs_links ref_blocks ref_link
  refs_stand at k n [] named is has = tt
  refs_stand at k n (first ∷ rest) named is has =
      let next = n + length (ref_blocks inner n first) in
      let own = has_left blocks n (ref_blocks inner n first) (refs_blocks inner next rest) has in
      let behind = has_right blocks n (ref_blocks inner n first) (refs_blocks inner next rest) has in
      let zero_more : k ≡ k + 0 = omega arith in
      let link : link_at file at k ≡ link_number blocks (ref_link n first) = ap (λ (i : ℕ). link_at file at i) zero_more ∙ named 0 (omega arith) in
      let one = layer_stands n first (out-Ref first) (roll-out-Ref first) is.0 own in (
        subst (λ (place : ℕ). IsRefBy IsConv file place first) (sym link) one,
        refs_stand at (k + 1) next rest
            (λ i below.
            let moved : k + 1 + i ≡ k + suc i = omega arith in
            ap (λ (j : ℕ). link_at file at j) moved ∙ named (suc i) (omega (arith, below)))
            is.1 behind,
      )

  refs_long : (n : ℕ) (rows : List Ref) → length (refs_links inner n rows) ≡ length rows
  unfolding refs_links
  refs_long n [] = refl
  refs_long n (first ∷ rest) = ap suc (refs_long (n + length (ref_blocks inner n first)) rest)

  conv_by_stands : (n : ℕ) (conv : Conversion) → IsConvWritableBy IsInner conv → Has blocks n (conv_blocks_by inner n conv)
      → IsConversionBy IsConv file (address_of blocks n) conv
  unfolding conv_blocks_by
  conv_by_stands n conv is has =
      let at = address_of blocks n in
      let s = here file blocks n _ _ all has in
      let first = conv_first n conv in
      let refs = refs_blocks inner first conv.refs in
      let long = refs_long first conv.refs in
      let parts = has_more blocks n _ _ has in
      let name = has_left blocks (n + 1) (note_blocks conv.name) (note_blocks conv.unit ++ (note_blocks conv.comment ++ refs)) parts in
      let two = has_right blocks (n + 1) (note_blocks conv.name) (note_blocks conv.unit ++ (note_blocks conv.comment ++ refs)) parts in
      let unit = has_left blocks (conv_unit n conv) (note_blocks conv.unit) (note_blocks conv.comment ++ refs) two in
      let three = has_right blocks (conv_unit n conv) (note_blocks conv.unit) (note_blocks conv.comment ++ refs) two in
      let comment = has_left blocks (conv_comment n conv) (note_blocks conv.comment) refs three in
      let four = has_right blocks (conv_comment n conv) (note_blocks conv.comment) refs three in
      let fifth : (i : ℕ) → 4 + i ≡ suc (suc (suc (suc i))) = λ i. omega arith in
      let count : le_number (to_le_bytes w16 (length conv.numbers % 2 ^ 16)) ≡ length conv.numbers = omega (arith, is.count) in record {
        block = s.whole (record { linked = omega (arith, long); filled = omega (arith, count, length-words conv.numbers) });
        texts = record { name = conv.name; unit = conv.unit; comment = conv.comment };
        references = conv.refs;
        fields = sym (conv_back IsInner conv is)
            ∙ ap (λ (body : List ℕ). the_conversion body (record { name = conv.name; unit = conv.unit; comment = conv.comment }) conv.refs) (sym s.body);
        name = linked_note file blocks all (n + 1) conv.name at 0 (s.link 0 (omega arith)) is.name name;
        unit = linked_note file blocks all (conv_unit n conv) conv.unit at 1 (s.link 1 (omega arith)) is.unit unit;
        comment = linked_note file blocks all (conv_comment n conv) conv.comment at 2 (s.link 2 (omega arith)) is.comment comment;
        count = omega (arith, s.count, long);
        each = refs_stand at 4 first conv.refs
            (λ i below. ap (link_at file at) (fifth i) ∙ s.link (suc (suc (suc (suc i)))) (omega (arith, long, below))) is.refs four;
      }

pub conv_stands : (file : List ℕ) (blocks : List Placed) → AllStand file blocks → (levels n : ℕ) (conv : Conversion) → IsConvWritable levels conv
    → Has blocks n (conv_blocks levels n conv) → IsConversion levels file (address_of blocks n) conv
unfolding conv_blocks IsConvWritable IsConversion
conv_stands file blocks all zero n conv is has = absurd is
conv_stands file blocks all (suc levels) n conv is has =
    conv_by_stands file blocks all (conv_blocks levels) (IsConvWritable levels) (IsConversion levels file)
    (λ m inner inner_is inner_has. conv_stands file blocks all levels m inner inner_is inner_has) n conv is has
