-- What is counted of a conversion is how many blocks it has, wherever they stand.
use Rattle.std.proofs.Common.{◌≡◌, ◌≢◌, ◌+◌, ◌-◌, ℕ, zero, suc, List, [], ◌∷◌, ◌++◌, length, Option, Some, refl, sym, ◌∙◌, ap, arith, length-append}
use Rattle.std.proofs.lemmas.List.Sums.{sum_by-cons}
use Rattle.std.specs.Prelude.{sum_by}
use Rattle.mdf_block.specs.Draft.{Placed}
use Rattle.mdf_conv.specs.declared.row.Conversion.{Conversion}
use Rattle.mdf_conv.specs.declared.row.Ref.{Ref}
use Rattle.mdf_conv.specs.declared.row.Ref.TheOpen as layers
use Rattle.mdf_conv.specs.declared.row.Ref.TheViews.{out-Ref}
use Rattle.mdf_tree.specs.Text.{note_blocks}
use Rattle.mdf_tree.specs.Conv.{Layer, layer_blocks, ref_blocks, refs_blocks, conv_first, conv_blocks_by, conv_blocks}
use Rattle.mdf_tree.specs.Group.{conv_part}
use Rattle.mdf_tree.specs.Count.{layer_count, ref_count, conv_count_by, conv_count}

module _ (inner : ℕ → Conversion → List Placed) (counter : Conversion → ℕ)
    (counts : (n : ℕ) (conv : Conversion) → length (inner n conv) ≡ counter conv) where
  layer_counts : (n : ℕ) (layer : Layer) → length (layer_blocks inner n layer) ≡ layer_count counter layer
  layer_counts n layers.Nothing = refl
  layer_counts n (layers.Words note) = refl
  layer_counts n (layers.Conv conv) = counts n conv

  pub ref_counts : (n : ℕ) (found : Ref) → length (ref_blocks inner n found) ≡ ref_count counter found
  unfolding ref_blocks ref_count
  ref_counts n found = layer_counts n (out-Ref found)

  refs_counts : (n : ℕ) (refs : List Ref) → length (refs_blocks inner n refs) ≡ sum_by (ref_count counter) refs
  unfolding refs_blocks
  refs_counts n [] = refl
  refs_counts n (first ∷ rest) =
      let next = n + length (ref_blocks inner n first) in
      omega (
        arith,
        length-append (ref_blocks inner n first) (refs_blocks inner next rest),
        ref_counts n first,
        refs_counts next rest,
        sum_by-cons (ref_count counter) first rest,
      )

  conv_by_counts : (n : ℕ) (conv : Conversion) → length (conv_blocks_by inner n conv) ≡ conv_count_by counter conv
  unfolding conv_blocks_by conv_count_by
  conv_by_counts n conv =
      let refs = refs_blocks inner (conv_first n conv) conv.refs in
      omega (
        arith,
        length-append (note_blocks conv.name) (note_blocks conv.unit ++ (note_blocks conv.comment ++ refs)),
        length-append (note_blocks conv.unit) (note_blocks conv.comment ++ refs),
        length-append (note_blocks conv.comment) refs,
        refs_counts (conv_first n conv) conv.refs,
      )

pub conv_counts : (levels n : ℕ) (conv : Conversion) → length (conv_blocks levels n conv) ≡ conv_count levels conv
unfolding conv_blocks conv_count
conv_counts zero n conv = refl
conv_counts (suc levels) n conv = conv_by_counts (conv_blocks levels) (conv_count levels) (λ m inner. conv_counts levels m inner) n conv

-- with a level left
pub count_more : (levels : ℕ) (conv : Conversion) → levels ≢ 0
    → conv_count levels conv
    ≡ 1 + length (note_blocks conv.name) + length (note_blocks conv.unit) + length (note_blocks conv.comment)
    + sum_by (ref_count (conv_count (levels - 1))) conv.refs
unfolding conv_count conv_count_by
count_more zero conv some = absurd (some refl)
count_more (suc levels) conv some =
    let one_less : levels ≡ suc levels - 1 = omega arith in
    ap (λ (n : ℕ). 1 + length (note_blocks conv.name) + length (note_blocks conv.unit) + length (note_blocks conv.comment)
    + sum_by (ref_count (conv_count n)) conv.refs) one_less

-- the conversion of a channel
pub part_counts : (conv : Option Conversion) (one : Conversion) → conv ≡ Some one → (n : ℕ) → conv_count 4 one ≡ length (conv_part n conv)
unfolding conv_part
part_counts conv one is n = sym (conv_counts 4 n one) ∙ sym (ap (λ (c : Option Conversion). length (conv_part n c)) is)
