use Rattle.std.proofs.Common.{ℕ, ◌<◌}
use Rattle.tool_concat.specs.Difference.{SameAt}
use Rattle.tool_concat.proofs.difference.first_difference.Given as goal

-- the groups so far are the same
abbrev pub invariant-loop-group : goal.invariant-loop-group
invariant-loop-group l = (k : ℕ) → k < l.group → SameAt l.first.groups l.second.groups k
