use Rattle.std.proofs.Common.{◌≡◌, ◌+◌, ◌-◌, ◌≤◌, drop, length}
use Rattle.mdf_layout.specs.Record.{history_size}
use Rattle.book_owned.proofs.front.size_behind.Given as goal

-- the records of the samples from there on are those that were counted and those that are left
abbrev pub invariant-loop-at : goal.invariant-loop-at
invariant-loop-at g l = record {
  within : l.at ≤ length l.front.history.items;
  counted : l.size + history_size l.front.shapes (drop l.at l.front.history.items) ≡ history_size l.front.shapes (drop l.from l.front.history.items);
}

abbrev pub decreases-loop-at : goal.decreases-loop-at
decreases-loop-at g l = length l.front.history.items - l.at
