use Rattle.std.proofs.Common.{◌≡◌, ◌≤◌, ◌+◌, ◌++◌, length, map}
use Rattle.mdf_record.specs.Sources.{feds_of}
use Rattle.mdf_record.proofs.sources.feeds_of.Given as goal

-- the feeds so far, and the lists that are left
abbrev pub invariant-loop-tasks : goal.invariant-loop-tasks
invariant-loop-tasks g l = record {
  feeds : map (λ feed. feds_of feed.tasks.rest.items) l.feeds.items ++ map feds_of l.tasks-iterator.rest.items ≡ map feds_of l.fn.lists.items;
  count : l.source + length l.tasks-iterator.rest.items ≤ 255;
}
