use Rattle.std.proofs.Common.{◌≡◌, ◌++◌, length, drop}
use Rattle.std.specs.List.{flat_map}
use Rattle.tool_complete.specs.Completed.{AreMendedIn, counts_if, first_cut, or_else}
use Rattle.tool_complete.proofs.mended.mended_rows.Given as goal

abbrev pub invariant-loop-row : goal.invariant-loop-row
invariant-loop-row l = record {
  counts : l.mended.counts ++ flat_map (counts_if l.counted l.bytes) (drop l.row-index l.rows) ≡ flat_map (counts_if l.counted l.bytes) l.rows;
  cut : or_else l.mended.cut (first_cut l.bytes l.last (drop l.row-index l.rows)) ≡ first_cut l.bytes l.last l.rows;
  inside : AreMendedIn (length l.bytes) l.mended;
}
