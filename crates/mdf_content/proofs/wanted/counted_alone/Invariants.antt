use Rattle.std.proofs.Common.{◌≡◌, take, map}
use Rattle.mdf_content.specs.Kept.{is_counted}
use Rattle.mdf_content.proofs.wanted.counted_alone.Given as goal

abbrev pub invariant-loop-group : goal.invariant-loop-group
invariant-loop-group l = l.counted ≡ map (is_counted l.wanted) (take l.group-index l.groups)
