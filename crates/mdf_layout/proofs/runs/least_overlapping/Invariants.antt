use Rattle.std.proofs.Common.{◌≤◌, ◌<◌, ℕ, length, get_or}
use Rattle.mdf_layout.specs.Run.{Overlap}
use Rattle.mdf_layout.specs.declared.runs.Run.{Run}
use Rattle.mdf_layout.proofs.runs.least_overlapping.Given as goal

-- no run so far ends later, and none of a lesser channel overlaps another
abbrev pub invariant-loop-at : goal.invariant-loop-at
invariant-loop-at l = record {
  ends : (j : ℕ) (d : Run) → j < l.at → (get_or l.runs j d).end ≤ l.end;
  told : (j m : ℕ) (d : Run) → j < l.at → m < length l.runs → Overlap (get_or l.runs j d) (get_or l.runs m d)
      → l.least ≤ (get_or l.runs j d).channel;
}
