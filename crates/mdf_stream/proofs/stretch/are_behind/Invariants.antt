use Rattle.std.proofs.Common.{◌+◌, ◌≤◌, ◌<◌, ℕ, get_or}
use Rattle.mdf_stream.specs.declared.stretch.Stretch.{Stretch}
use Rattle.mdf_stream.proofs.stretch.are_behind.Given as goal

abbrev pub invariant-loop-item : goal.invariant-loop-item
invariant-loop-item l =
    (j : ℕ) (d : Stretch) → j < l.item-index → (get_or l.items j d).end ≤ (get_or l.items j d).part.at + (get_or l.items j d).part.len
