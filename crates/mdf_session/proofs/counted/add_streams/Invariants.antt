use Rattle.std.proofs.Common.{◌≡◌, ◌++◌}
use Rattle.mdf_session.specs.Counted.{joined}
use Rattle.mdf_session.proofs.counted.add_streams.Given as goal

abbrev pub invariant-loop-list : goal.invariant-loop-list
invariant-loop-list l = l.all.items ≡ l.initial.all.items ++ joined l.yielded
