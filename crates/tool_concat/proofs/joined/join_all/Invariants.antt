use Rattle.std.proofs.Common.{◌≡◌, ◌<◌, ◌≤◌, ℕ, length, get_or}
use Rattle.mdf_model.specs.declared.part.Measure.{Measure}
use Rattle.tool_concat.specs.Joined.{IsJoinedGroup}
use Rattle.tool_concat.proofs.joined.join_all.Given as goal

-- the groups so far are joined, and the others are as they were
abbrev pub invariant-loop-group : goal.invariant-loop-group
invariant-loop-group l = record {
  rest : l.first ≡ record l.initial.first { groups = l.first.groups };
  count : length l.first.groups ≡ length l.initial.first.groups;
  joined : (k : ℕ) (d : Measure) → k < l.group
      → IsJoinedGroup (get_or l.initial.first.groups k d) (get_or l.second.groups k d) (get_or l.first.groups k d);
  later : (k : ℕ) (d : Measure) → l.group ≤ k → get_or l.first.groups k d ≡ get_or l.initial.first.groups k d;
}
