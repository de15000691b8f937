use Rattle.std.proofs.Common.{◌≡◌}
use Rattle.tool_cut.specs.Kept.{cut_measure}
use Rattle.tool_cut.proofs.Groups.{changed}
use Rattle.tool_cut.proofs.measure.cut_all.Given as goal

-- the groups so far are cut
abbrev pub invariant-loop-group : goal.invariant-loop-group
invariant-loop-group l =
    l.measurement ≡ record l.initial.measurement { groups = changed (cut_measure l.range.from l.range.to) l.group l.initial.measurement.groups }
