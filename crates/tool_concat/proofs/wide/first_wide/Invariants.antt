use Rattle.tool_concat.specs.Wide.{NoneWideTo}
use Rattle.tool_concat.proofs.wide.first_wide.Given as goal

-- no group so far has such a channel
abbrev pub invariant-loop-group : goal.invariant-loop-group
invariant-loop-group l = NoneWideTo l.first.groups l.second.groups l.group
