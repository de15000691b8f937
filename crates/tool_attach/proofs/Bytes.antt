-- The bytes of the blocks of a sorted file with attachments behind them.
use Rattle.std.proofs.Common.{◌≡◌, ◌+◌, ◌≤◌, ℕ, zero, suc, List, [], ◌∷◌, ◌++◌, length, take, drop, replicate, codes, refl, sym, ◌∙◌, ap, subst, arith, length-append, append_assoc, append-nil}
use Rattle.std.proofs.lemmas.List.{take_all, take_at, drop_at, take-append-le}
use Rattle.std.proofs.lemmas.List.Concat.{flat_map-append}
use Rattle.std.proofs.lemmas.List.Sums.{sum_by-cons, sum_by-append}
use Rattle.std.specs.Prelude.{set, sum_by}
use Rattle.std.specs.List.{flat_map}
use Rattle.std.specs.Int.{to_le_bytes, w64}
use Rattle.mdf_format.specs.Number.{patched}
use Rattle.mdf_format.specs.Block.{name_of}
use Rattle.mdf_format.specs.declared.kind.Kind.{Kind}
use Rattle.mdf_format.specs.declared.kind.Kind.TheVariants.{Hd}
use Rattle.mdf_block.specs.declared.link.Link.{Link}
use Rattle.mdf_block.specs.declared.link.Link.TheVariants as links
use Rattle.mdf_block.specs.declared.note.Note.{Note}
use Rattle.mdf_block.specs.declared.note.Note.TheVariants as notes
use Rattle.mdf_block.specs.Draft.{Placed, size_of, room_of, filler_of, end_of, address_of, link_number, link_bytes, block_bytes, written, linked, with_link}
use Rattle.mdf_block.proofs.Laid.{room_of-set}
use Rattle.mdf_block.proofs.Laying.{length-blocks, length-written}
use Rattle.mdf_block.proofs.Names.{length-name_of}
use Rattle.mdf_attach.specs.declared.attachment.Attachment.{Attachment}
use Rattle.mdf_tree.specs.Text.{note_blocks, note_link}
use Rattle.mdf_tree.specs.Group.{next_link}
use Rattle.mdf_tree.specs.Head.{past_history, history_blocks, head_body, head_blocks}
use Rattle.mdf_tree.proofs.Has.{Has, has_left, has_right, has_more, address_is}
use Rattle.mdf_spell.specs.Session.{finalized_ident}
use Rattle.mdf_model.specs.Measurement.{Measured}
use Rattle.tool_sort.specs.Sorted.{measures_blocks, sorted_history, first_measure, sorted_blocks, sorted_file}
use Rattle.tool_attach.specs.Attached.{mime_number, comment_number, past_attachment, attachment_own, attachment_blocks, attachments_blocks, attached_to, attached_file, first_place}
use Rattle.tool_attach.specs.Bytes.{text_bytes, text_place, name_place, mime_place, comment_place, place_behind, attachment_bytes, attachments_bytes, with_attachments}
use Rattle.tool_attach.proofs.Placing.{attachment_long, length-with_link}
use Rattle.tool_attach.proofs.Among.{IsAmong, AreLinksAmong, AreAmong, sorted_among}

-- what comes behind blocks, and a link of the first one, move none of them
rooms_taken : (blocks more : List Placed) (n : ℕ) (link : Link) → n ≤ length blocks
    → sum_by room_of (take n (with_link blocks 0 3 link ++ more)) ≡ sum_by room_of (take n blocks)
rooms_taken [] more zero link within = refl
rooms_taken [] more (suc n) link within = absurd (omega (arith, within))
rooms_taken (b ∷ blocks) more zero link within = refl
rooms_taken (b ∷ blocks) more (suc n) link within =
    let own = record b { links = set b.links 3 link } in
    omega (
      arith,
      ap (sum_by room_of) (take-append-le n blocks more (omega (arith, within))),
      sum_by-cons room_of own (take n (blocks ++ more)),
      sum_by-cons room_of b (take n blocks),
      room_of-set b 3 link,
    )

module _ (all blocks : List Placed) (same : (n : ℕ) → n ≤ length blocks → address_of all n ≡ address_of blocks n) where
  number_same : (link : Link) → IsAmong (length blocks) link → link_number all link ≡ link_number blocks link
  number_same links.Nothing is = refl
  number_same (links.Block n) is = same n is
  number_same links.End is = absurd is

  links_same : (names : List Link) → AreLinksAmong (length blocks) names → flat_map (link_bytes all) names ≡ flat_map (link_bytes blocks) names
  links_same [] are = refl
  links_same (name ∷ names) are =
      ap (λ (n : ℕ). to_le_bytes w64 n ++ flat_map (link_bytes all) names) (number_same name are.0)
      ∙ ap (λ (bytes : List ℕ). link_bytes blocks name ++ bytes) (links_same names are.1)

  block_same : (b : Placed) → AreLinksAmong (length blocks) b.links → block_bytes all b ≡ block_bytes blocks b
  block_same b are =
      ap (λ (bytes : List ℕ). name_of b.kind ++ replicate 4 0 ++ to_le_bytes w64 (size_of b) ++ to_le_bytes w64 (length b.links)
      ++ bytes ++ b.body ++ replicate (filler_of b) 0) (links_same b.links are)

  blocks_same : (some : List Placed) → AreAmong (length blocks) some → flat_map (block_bytes all) some ≡ flat_map (block_bytes blocks) some
  blocks_same [] are = refl
  blocks_same (b ∷ some) are =
      ap (λ (bytes : List ℕ). bytes ++ flat_map (block_bytes all) some) (block_same b are.0)
      ∙ ap (λ (bytes : List ℕ). block_bytes blocks b ++ bytes) (blocks_same some are.1)

-- bytes with a part in the place of another one
patched_at : (front part other behind : List ℕ) (at : ℕ) → length front ≡ at → length part ≡ length other
    → patched at part (front ++ (other ++ behind)) ≡ front ++ (part ++ behind)
patched_at front part other behind at long same =
    ap (λ (xs : List ℕ). xs ++ part ++ drop (at + length part) (front ++ (other ++ behind))) (take_at front (other ++ behind) at long)
    ∙ ap (λ (xs : List ℕ). front ++ part ++ drop (at + length part) xs) (sym (append_assoc front other behind))
    ∙ ap (λ (xs : List ℕ). front ++ part ++ xs) (drop_at (front ++ other) behind (at + length part) (omega (arith, long, same, length-append front other)))
    ∙ append_assoc front part behind

-- the first of blocks, whose fourth link alone is another one
module _ (ident : List ℕ) (begins : length ident ≡ 64) (kind : Kind) (one two three : List ℕ) (rest body : List ℕ) (size count fill : ℕ)
    (is_one : length one ≡ 8) (is_two : length two ≡ 8) (is_three : length three ≡ 8) where
  abbrev own_bytes : List ℕ → List ℕ
  own_bytes four =
      name_of kind ++ replicate 4 0 ++ to_le_bytes w64 size ++ to_le_bytes w64 count ++ (one ++ (two ++ (three ++ (four ++ rest)))) ++ body ++ replicate fill 0

  abbrev first_bytes : List ℕ → List ℕ → List ℕ
  first_bytes four behind = ident ++ (own_bytes four ++ behind)

  bytes_behind : (four xs tail : List ℕ) → first_bytes four (xs ++ tail) ≡ first_bytes four xs ++ tail
  bytes_behind four xs tail =
      ap (λ (ys : List ℕ). ident ++ ys) (sym (append_assoc (own_bytes four) xs tail)) ∙ sym (append_assoc ident (own_bytes four ++ xs) tail)

  abbrev front : List ℕ
  front = ident ++ (name_of kind ++ (replicate 4 0 ++ (to_le_bytes w64 size ++ (to_le_bytes w64 count ++ (one ++ (two ++ three))))))

  split : (four behind : List ℕ) → first_bytes four behind ≡ front ++ (four ++ (rest ++ (body ++ (replicate fill 0 ++ behind))))
  split four behind = simp (append_assoc) refl

  front_long : length front ≡ 112
  front_long = simp (length-append) (omega (arith, begins, is_one, is_two, is_three, length-name_of kind))

  first_patched : (part four behind : List ℕ) → length part ≡ 8 → length four ≡ 8 → first_bytes part behind ≡ patched 112 part (first_bytes four behind)
  first_patched part four behind is_part is_four =
      split part behind
      ∙ sym (patched_at front part four (rest ++ (body ++ (replicate fill 0 ++ behind))) 112 front_long (omega (arith, is_part, is_four)))
      ∙ ap (patched 112 part) (sym (split four behind))

-- texts
module _ (blocks : List Placed) where
  text_is : (note : Note) → flat_map (block_bytes blocks) (note_blocks note) ≡ text_bytes note
  unfolding note_blocks
  text_is notes.Nothing = refl
  text_is (notes.Plain bytes) = append-nil _
  text_is (notes.Xml bytes) = append-nil _

  text_long : (note : Note) → length (text_bytes note) ≡ sum_by room_of (note_blocks note)
  text_long note = sym (ap length (text_is note)) ∙ length-blocks blocks (note_blocks note)

  text_number : (n : ℕ) (note : Note) → link_number blocks (note_link n note) ≡ text_place (address_of blocks n) note
  unfolding note_link
  text_number n notes.Nothing = refl
  text_number n (notes.Plain bytes) = refl
  text_number n (notes.Xml bytes) = refl

  -- the address behind some blocks
  behind_part : (n : ℕ) (part rest : List Placed) → Has blocks n (part ++ rest)
      → address_of blocks (n + length part) ≡ address_of blocks n + sum_by room_of part
  behind_part n part rest has =
      address_is blocks (n + length part) rest (has_right blocks n part rest has)
      ∙ omega (arith, sum_by-append room_of has.front part, address_is blocks n (part ++ rest) has)

  next_number : (n : ℕ) (rows : List Attachment) → link_number blocks (next_link n rows) ≡ first_place rows (address_of blocks n)
  next_number n [] = refl
  next_number n (row ∷ rows) = refl

  -- an attachment
  attachment_is : (n at : ℕ) (next : Link) (row : Attachment) → address_of blocks (n + 1) ≡ name_place at row
      → address_of blocks (mime_number n row) ≡ mime_place at row → address_of blocks (comment_number n row) ≡ comment_place at row
      → flat_map (block_bytes blocks) (attachment_blocks n next row) ≡ attachment_bytes at (link_number blocks next) row
  unfolding attachment_blocks
  attachment_is n at next row is_name is_mime is_comment =
      let name = note_blocks row.name in
      let mime = note_blocks row.mime in
      let comment = note_blocks row.comment in
      let texts : flat_map (block_bytes blocks) (name ++ (mime ++ comment)) ≡ text_bytes row.name ++ (text_bytes row.mime ++ text_bytes row.comment) =
      flat_map-append (block_bytes blocks) name (mime ++ comment)
      ∙ ap (λ (bytes : List ℕ). bytes ++ flat_map (block_bytes blocks) (mime ++ comment)) (text_is row.name)
      ∙ ap (λ (bytes : List ℕ). text_bytes row.name ++ bytes) (flat_map-append (block_bytes blocks) mime comment)
      ∙ ap (λ (bytes : List ℕ). text_bytes row.name ++ (bytes ++ flat_map (block_bytes blocks) comment)) (text_is row.mime)
      ∙ ap (λ (bytes : List ℕ). text_bytes row.name ++ (text_bytes row.mime ++ bytes)) (text_is row.comment) in
      let first : link_number blocks (note_link (n + 1) row.name) ≡ text_place (name_place at row) row.name =
      text_number (n + 1) row.name ∙ ap (λ (place : ℕ). text_place place row.name) is_name in
      let second : link_number blocks (note_link (mime_number n row) row.mime) ≡ text_place (mime_place at row) row.mime =
      text_number (mime_number n row) row.mime ∙ ap (λ (place : ℕ). text_place place row.mime) is_mime in
      let third : link_number blocks (note_link (comment_number n row) row.comment) ≡ text_place (comment_place at row) row.comment =
      text_number (comment_number n row) row.comment ∙ ap (λ (place : ℕ). text_place place row.comment) is_comment in
      rw (texts, first, second, third) refl

  has_whole : (n : ℕ) (next : Link) (row : Attachment) (more : List Placed) → Has blocks n (attachment_blocks n next row ++ more)
      → Has blocks n (attachment_own n next row ∷ (note_blocks row.name ++ (note_blocks row.mime ++ note_blocks row.comment)))
  unfolding attachment_blocks
  has_whole n next row more has = has_left blocks n (attachment_own n next row ∷ (note_blocks row.name ++ (note_blocks row.mime ++ note_blocks row.comment))) more has

  has_past : (n : ℕ) (next : Link) (row : Attachment) (more : List Placed) → Has blocks n (attachment_blocks n next row ++ more)
      → Has blocks (past_attachment n row) more
  has_past n next row more has =
      subst (λ (k : ℕ). Has blocks k more) (attachment_long n next row) (has_right blocks n (attachment_blocks n next row) more has)

  has_all : (n : ℕ) (part : List Placed) → Has blocks n part → Has blocks n (part ++ [])
  has_all n part has = subst (Has blocks n) (sym (append-nil part)) has

  -- attachments
  rows_bytes : (n at : ℕ) (rows : List Attachment) → Has blocks n (attachments_blocks n rows) → address_of blocks n ≡ at
      → flat_map (block_bytes blocks) (attachments_blocks n rows) ≡ attachments_bytes at rows
  unfolding attachments_blocks
  rows_bytes n at [] has is = refl
  rows_bytes n at (row ∷ rest) has is =
      let past = past_attachment n row in
      let next = next_link past rest in
      let own = attachment_blocks n next row in
      let more = attachments_blocks past rest in
      let name = note_blocks row.name in
      let mime = note_blocks row.mime in
      let comment = note_blocks row.comment in
      let texts = name ++ (mime ++ comment) in
      let first = has_whole n next row more has in
      let is_name : address_of blocks (n + 1) ≡ name_place at row =
      behind_part n (attachment_own n next row ∷ []) texts first ∙ omega (arith, is, sum_by-cons room_of (attachment_own n next row) []) in
      let words = has_more blocks n (attachment_own n next row) texts first in
      let is_mime : address_of blocks (mime_number n row) ≡ mime_place at row =
      behind_part (n + 1) name (mime ++ comment) words ∙ omega (arith, is_name, text_long row.name) in
      let second = has_right blocks (n + 1) name (mime ++ comment) words in
      let is_comment : address_of blocks (comment_number n row) ≡ comment_place at row =
      behind_part (mime_number n row) mime comment second ∙ omega (arith, is_mime, text_long row.mime) in
      let third = has_right blocks (mime_number n row) mime comment second in
      let is_past : address_of blocks past ≡ place_behind at row =
      behind_part (comment_number n row) comment [] (has_all (comment_number n row) comment third) ∙ omega (arith, is_comment, text_long row.comment) in
      let behind = has_past n next row more has in
      flat_map-append (block_bytes blocks) own more
      ∙ ap (λ (bytes : List ℕ). bytes ++ flat_map (block_bytes blocks) more) (attachment_is n at next row is_name is_mime is_comment)
      ∙ ap (λ (place : ℕ). attachment_bytes at place row ++ flat_map (block_bytes blocks) more)
      (next_number past rest ∙ ap (first_place rest) is_past)
      ∙ ap (λ (bytes : List ℕ). attachment_bytes at (first_place rest (place_behind at row)) row ++ bytes)
      (rows_bytes past (place_behind at row) rest behind is_past)

-- the whole file, by its first block
module _ (ident : List ℕ) (begins : length ident ≡ 64) (kind : Kind) (one two three four : Link) (more : List Link) (body : List ℕ)
    (rest : List Placed) (rows : List Attachment) where
  abbrev first : Placed
  first = linked kind (one ∷ two ∷ three ∷ four ∷ more) body

  abbrev blocks : List Placed
  blocks = first ∷ rest

  abbrev named : Link
  named = next_link (length blocks) rows

  abbrev behind : List Placed
  behind = attachments_blocks (length blocks) rows

  abbrev all : List Placed
  all = attached_to blocks rows

  address_same : (n : ℕ) → n ≤ length blocks → address_of all n ≡ address_of blocks n
  address_same n within = ap (λ (k : ℕ). 64 + k) (rooms_taken blocks behind n named within)

  has_behind : Has all (length blocks) behind
  has_behind = record {
    front = with_link blocks 0 3 named;
    rest = [];
    split = ap (λ (xs : List Placed). with_link blocks 0 3 named ++ xs) (sym (append-nil behind));
    number = length-with_link blocks 0 3 named;
  }

  abbrev sorted : List ℕ
  sorted = written ident blocks

  abbrev laid : List ℕ → List ℕ → List ℕ
  laid link xs =
      first_bytes ident begins kind (link_bytes blocks one) (link_bytes blocks two) (link_bytes blocks three)
      (flat_map (link_bytes blocks) more) body (size_of first) (length first.links) (filler_of first) refl refl refl link xs

  whole_bytes : AreAmong (length blocks) blocks → written ident all ≡ with_attachments sorted rows
  whole_bytes are =
      let end : address_of all (length blocks) ≡ length sorted =
      address_same (length blocks) (omega arith) ∙ ap end_of (take_all (length blocks) blocks (omega arith)) ∙ sym (length-written ident blocks begins) in
      let link : link_number all named ≡ first_place rows (length sorted) = next_number all (length blocks) rows ∙ ap (first_place rows) end in
      let tail = attachments_bytes (length sorted) rows in
      let part = to_le_bytes w64 (first_place rows (length sorted)) in
      let others : flat_map (block_bytes all) (rest ++ behind) ≡ flat_map (block_bytes blocks) rest ++ tail =
      flat_map-append (block_bytes all) rest behind
      ∙ ap (λ (xs : List ℕ). xs ++ flat_map (block_bytes all) behind) (blocks_same all blocks address_same rest are.1)
      ∙ ap (λ (xs : List ℕ). flat_map (block_bytes blocks) rest ++ xs) (rows_bytes all (length blocks) (length sorted) rows has_behind end) in
      let is_one = number_same all blocks address_same one are.0.0 in
      let is_two = number_same all blocks address_same two are.0.1.0 in
      let is_three = number_same all blocks address_same three are.0.1.1.0 in
      let is_more = links_same all blocks address_same more are.0.1.1.1.1 in
      let written_is : written ident all ≡ laid part (flat_map (block_bytes blocks) rest ++ tail) = rw (others, is_one, is_two, is_three, is_more, link) refl in
      let apart : laid part (flat_map (block_bytes blocks) rest ++ tail) ≡ laid part (flat_map (block_bytes blocks) rest) ++ tail =
      bytes_behind ident begins kind (link_bytes blocks one) (link_bytes blocks two) (link_bytes blocks three) (flat_map (link_bytes blocks) more)
      body (size_of first) (length first.links) (filler_of first) refl refl refl part (flat_map (block_bytes blocks) rest) tail in
      let first_is : laid part (flat_map (block_bytes blocks) rest) ≡ patched 112 part sorted =
      first_patched ident begins kind (link_bytes blocks one) (link_bytes blocks two) (link_bytes blocks three) (flat_map (link_bytes blocks) more)
      body (size_of first) (length first.links) (filler_of first) refl refl refl part (link_bytes blocks four) (flat_map (block_bytes blocks) rest) refl refl in
      written_is ∙ apart ∙ ap (λ (xs : List ℕ). xs ++ tail) first_is

bytes_of : (m : Measured) (rows : List Attachment) (now : ℕ)
    → AreAmong (length (sorted_blocks m (codes "attach") now)) (sorted_blocks m (codes "attach") now)
    → attached_file m rows now ≡ with_attachments (sorted_file m (codes "attach") now) rows
unfolding sorted_blocks head_blocks
bytes_of m rows now are =
    let n = first_measure m (codes "attach") now in
    let entries = sorted_history m (codes "attach") now in
    whole_bytes finalized_ident refl Hd (next_link n m.groups) (next_link 1 entries) links.Nothing links.Nothing
    (links.Nothing ∷ note_link (past_history 1 entries) m.head.comment ∷ []) (head_body m.head)
    ((history_blocks 1 entries ++ note_blocks m.head.comment) ++ measures_blocks n m.groups) rows are

-- the file with attachments
pub attached_bytes : (m : Measured) (rows : List Attachment) (now : ℕ)
    → attached_file m rows now ≡ with_attachments (sorted_file m (codes "attach") now) rows
attached_bytes m rows now = bytes_of m rows now (sorted_among m (codes "attach") now)
