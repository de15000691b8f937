-- The tree of a recording's head stands in every file in which its blocks do.
use Rattle.std.proofs.Common.{◌^◌, ◌<◌, ℕ, List, [], ◌∷◌, ◌++◌, refl, sym, arith}
use Rattle.std.specs.Prelude.{codes}
use Rattle.mdf_format.specs.Block.{IsChain}
use Rattle.mdf_block.specs.declared.link.Link.TheVariants as links
use Rattle.mdf_block.specs.Draft.{AllStand}
use Rattle.mdf_group.specs.declared.row.GroupRow.{GroupRow}
use Rattle.mdf_group.specs.Standing.{AreDistinct}
use Rattle.mdf_tree.specs.Text.{note_blocks, IsText}
use Rattle.mdf_tree.specs.Group.{data_group_blocks, IsDataGroupWritable}
use Rattle.mdf_tree.specs.Head.{history_blocks, head_blocks, entry_text, new_entry}
use Rattle.mdf_spell.specs.Recording.{start_head, recording_row, value_links, recording_blocks, IsRecordingTree}
use Rattle.mdf_tree.proofs.Has.{Has, has_left, has_right}
use Rattle.mdf_tree.proofs.Heads.{head_stands}
use Rattle.mdf_tree.proofs.Groups.{data_group_stands}
use Rattle.std.proofs.lemmas.List.{append-nil}

pub tree_stands : (file : List ℕ) (start : ℕ) (rows : List GroupRow) → start < 2 ^ 64 → IsDataGroupWritable (recording_row rows)
    → AllStand file (recording_blocks start rows) → IsRecordingTree file start rows
unfolding recording_blocks head_blocks history_blocks note_blocks IsChain AreDistinct
tree_stands file start rows in_time is all =
    let blocks = recording_blocks start rows in
    let entry = new_entry (codes "record") start in
    let hd = head_blocks (start_head start) (entry ∷ []) (links.Block 3) in
    let dg = data_group_blocks 3 links.Nothing links.End (value_links rows) (recording_row rows) in
    let whole : Has blocks 0 (hd ++ dg) = record { front = []; rest = []; split = sym (append-nil (hd ++ dg)); number = refl } in
    let clean : IsText (entry_text (codes "record")) = grind arith in
    let head = head_stands file blocks all (start_head start) (entry ∷ []) (links.Block 3)
    (record {
      start = in_time;
      zone = omega arith;
      daylight = omega arith;
      angle = omega arith;
      distance = omega arith;
      comment = tt;
    })
    (record { time = in_time; zone = omega arith; daylight = omega arith; comment = clean }, tt)
    (has_left blocks 0 hd dg whole) in
    let groups = data_group_stands file blocks all 3 links.Nothing links.End (value_links rows) (recording_row rows) is (has_right blocks 0 hd dg whole) in record {
      head = head;
      groups = record { chain = (refl, groups.0, groups.1); once = (tt, tt); each = (groups.2, tt) };
    }
