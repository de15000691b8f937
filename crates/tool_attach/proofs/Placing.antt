-- Attachments that are placed one behind the other, behind the blocks of a sorted file.
use Rattle.std.proofs.Common.{◌≡◌, ◌+◌, ◌≤◌, ℕ, zero, suc, Bool, not, List, [], ◌∷◌, ◌++◌, length, drop, refl, sym, ◌∙◌, ap, arith, append-nil, append_assoc, length-append}
use Rattle.std.proofs.lemmas.List.{drop_all}
use Rattle.std.proofs.lemmas.List.Sums.{sum_by-cons}
use Rattle.std.specs.Prelude.{◌↔◌, IsTrue, codes, set, sum_by}
use Rattle.mdf_block.specs.declared.link.Link.{Link}
use Rattle.mdf_block.specs.declared.link.Link.TheVariants as links
use Rattle.mdf_block.specs.Draft.{Placed, room_of, HasLink, with_link}
use Rattle.mdf_block.proofs.Laid.{room_of-set}
use Rattle.mdf_attach.specs.declared.attachment.Attachment.{Attachment}
use Rattle.mdf_tree.specs.Text.{note_blocks}
use Rattle.mdf_tree.specs.Group.{next_link, next_if}
use Rattle.mdf_tree.specs.Head.{linked_head_blocks, head_blocks}
use Rattle.mdf_tree.proofs.Placing.{placed_step, next_some}
use Rattle.mdf_model.specs.Measurement.{Measured}
use Rattle.tool_sort.specs.Sorted.{measures_blocks, sorted_history, first_measure, sorted_blocks}
use Rattle.tool_attach.specs.Attached.{past_attachment, attachment_blocks, attachments_blocks, attached_blocks}

-- the block behind an attachment
pub attachment_long : (n : ℕ) (next : Link) (row : Attachment) → n + length (attachment_blocks n next row) ≡ past_attachment n row
unfolding attachment_blocks
attachment_long n next row =
    omega (
      arith,
      length-append (note_blocks row.name) (note_blocks row.mime ++ note_blocks row.comment),
      length-append (note_blocks row.mime) (note_blocks row.comment),
    )

-- one more attachment is placed
pub attachments_step : (w after : List Placed) (row : Attachment) (rest : List Attachment) (next : Link)
    → next ≡ next_link (past_attachment (length w) row) rest → after ≡ w ++ attachment_blocks (length w) next row
    → after ++ attachments_blocks (length after) rest ≡ w ++ attachments_blocks (length w) (row ∷ rest)
unfolding attachments_blocks
attachments_step w after row rest next is placed =
    let past = past_attachment (length w) row in
    let own = attachment_blocks (length w) (next_link past rest) row in
    placed_step w own (λ n. attachments_blocks n rest) after past
    (placed ∙ ap (λ (link : Link). w ++ attachment_blocks (length w) link row) is)
    (attachment_long (length w) (next_link past rest) row)

-- no attachment is left
pub attachments_done : (w : List Placed) (rows : List Attachment) (k : ℕ) → length rows ≤ k → w ≡ w ++ attachments_blocks (length w) (drop k rows)
unfolding attachments_blocks
attachments_done w rows k past =
    sym (ap (λ (left : List Attachment). w ++ attachments_blocks (length w) left) (drop_all k rows past) ∙ append-nil w)

-- a link that is set changes no count of blocks
pub length-with_link : (blocks : List Placed) (n k : ℕ) (link : Link) → length (with_link blocks n k link) ≡ length blocks
length-with_link [] n k link = refl
length-with_link (b ∷ blocks) zero k link = refl
length-with_link (b ∷ blocks) (suc n) k link = ap suc (length-with_link blocks n k link)

-- and no address
pub rooms_same : (blocks : List Placed) (n k : ℕ) (link : Link) → sum_by room_of (with_link blocks n k link) ≡ sum_by room_of blocks
rooms_same [] n k link = refl
rooms_same (b ∷ blocks) zero k link =
    omega (arith, sum_by-cons room_of b blocks, sum_by-cons room_of (record b { links = set b.links k link }) blocks, room_of-set b k link)
rooms_same (b ∷ blocks) (suc n) k link =
    omega (arith, sum_by-cons room_of b blocks, sum_by-cons room_of b (with_link blocks n k link), rooms_same blocks n k link)

-- the header of a sorted file has a fourth link, which names nothing
pub header_linked : (m : Measured) (title : List ℕ) (now : ℕ) → HasLink (sorted_blocks m title now) 0 3
unfolding sorted_blocks head_blocks
header_linked m title now = omega arith

pub header_free : (m : Measured) (title : List ℕ) (now : ℕ) → with_link (sorted_blocks m title now) 0 3 links.Nothing ≡ sorted_blocks m title now
unfolding sorted_blocks head_blocks
header_free m title now = refl

-- where it names something, these are the blocks
pub header_named : (m : Measured) (title : List ℕ) (now : ℕ) (link : Link) (more : List Placed)
    → with_link (sorted_blocks m title now) 0 3 link ++ more
    ≡ linked_head_blocks m.head (sorted_history m title now) (next_link (first_measure m title now) m.groups) link
    ++ (measures_blocks (first_measure m title now) m.groups ++ more)
unfolding sorted_blocks head_blocks
header_named m title now link more =
    append_assoc (linked_head_blocks m.head (sorted_history m title now) (next_link (first_measure m title now) m.groups) link)
    (measures_blocks (first_measure m title now) m.groups) more

-- the blocks of the whole file
pub file_placed : (d w after : List Placed) (m : Measured) (rows : List Attachment) (now : ℕ) (empty : Bool)
    → d ≡ sorted_blocks m (codes "attach") now → (IsTrue empty ↔ (rows ≡ [])) → w ≡ with_link d 0 3 (next_if (not empty) (length d))
    → after ≡ w ++ attachments_blocks (length w) rows → after ≡ attached_blocks m rows now
file_placed d w after m rows now empty first is second third =
    let all = sorted_blocks m (codes "attach") now in
    let link = next_link (length all) rows in
    let named : w ≡ with_link all 0 3 link =
    second
    ∙ ap (λ (given : Link). with_link d 0 3 given) (next_some empty (length d) rows is)
    ∙ ap (λ (blocks : List Placed). with_link blocks 0 3 (next_link (length blocks) rows)) first in
    third
    ∙ ap (λ (blocks : List Placed). blocks ++ attachments_blocks (length blocks) rows) named
    ∙ ap (λ (n : ℕ). with_link all 0 3 link ++ attachments_blocks n rows) (length-with_link all 0 3 link)

-- without an attachment they are those of the sorted file
pub none_placed : (m : Measured) (now : ℕ) → attached_blocks m [] now ≡ sorted_blocks m (codes "attach") now
unfolding attachments_blocks
none_placed m now =
    append-nil (with_link (sorted_blocks m (codes "attach") now) 0 3 links.Nothing) ∙ header_free m (codes "attach") now
