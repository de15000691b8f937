use Rattle.std.proofs.Common.{◌≡◌, take}
use Rattle.std.specs.List.{list_all}
use Rattle.mdf_model.proofs.strict.all_strict.Given as goal

abbrev pub invariant-loop-group : goal.invariant-loop-group
invariant-loop-group g l = l.strict ≡ list_all g.T.Strict.strict (take l.group-index l.groups)
