use Rattle.std.proofs.Common.{◌≡◌, All, length}
use Rattle.left_right.specs.Sides.{view as knows}
use Rattle.book_view.specs.Names.{code_of}
use Rattle.book_view.proofs.live.readers_of.Given as goal

-- so many were made
abbrev pub invariant-loop : goal.invariant-loop
invariant-loop l = record {
  kept : (l.writer.desk.shown ≡ l.initial.writer.desk.shown) × (l.writer.log ≡ l.initial.writer.log) × (l.writer.behind ≡ l.initial.writer.behind);
  named : knows l.writer.desk.place ≡ knows l.initial.writer.desk.place;
  count : length l.made.items ≡ l.counter;
  made : All (λ reader. reader ≡ record { samples = l.front.seen.log; which = code_of l.front.seen.book; refusals = 0; views = 0 }) l.made.items;
}
