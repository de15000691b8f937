use Rattle.std.proofs.Common.{◌≡◌, ◌++◌}
use Rattle.std.specs.List.{flat_map}
use Rattle.mdf_model.specs.Measurement.{one_measure}
use Rattle.mdf_model.proofs.part.add_paired.Given as goal

abbrev pub invariant-loop-row : goal.invariant-loop-row
invariant-loop-row l = l.all.items ≡ l.initial.all.items ++ flat_map (one_measure l.comment) l.yielded
