use Rattle.std.proofs.Common.{◌≡◌, ◌+◌, ◌≤◌, replicate}
use Rattle.mdf_record.proofs.sources.add_none.Given as goal

-- so many were added, and there is room for the rest
abbrev pub invariant-loop-source : goal.invariant-loop-source
invariant-loop-source l = record {
  added : l.accepted.items ≡ replicate l._source 0;
  room : l.fn.sources ≤ l.accepted.spare + l._source;
}
