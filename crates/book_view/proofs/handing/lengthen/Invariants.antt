use Rattle.std.proofs.Common.{◌≡◌, ◌++◌, take}
use Rattle.book_view.proofs.handing.lengthen.Given as goal

-- so many were added
abbrev pub invariant-loop-sample : goal.invariant-loop-sample
invariant-loop-sample l = record {
  longer : l.log.seen.log ≡ l.initial.log.seen.log ++ take l.sample-index l.samples;
  book : l.log.seen.book ≡ l.initial.log.seen.book;
}
