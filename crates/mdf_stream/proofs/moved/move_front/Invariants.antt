use Rattle.std.proofs.Common.{◌-◌, ◌≤◌}
use Rattle.mdf_stream.proofs.Moves.{Moves}
use Rattle.mdf_stream.proofs.moved.move_front.Given as goal

abbrev pub invariant-loop-at : goal.invariant-loop-at
invariant-loop-at l = record {
  moves : Moves l.initial.bytes l.view l.at l.bytes;
  within : l.at ≤ l.size;
}

abbrev pub decreases-loop-at : goal.decreases-loop-at
decreases-loop-at l = l.size - l.at
