use Rattle.book_shared_tests.proofs.Feeding.{two_may}
use Rattle.book_shared_tests.specs.declared.workers.Meets.{Meets}
use Rattle.book_shared_tests.proofs.workers.recorded.Goals as goal

pub record_live-requires-clause-may : goal.record_live-requires-clause-may
record_live-requires-clause-may g c κs within =
    rw c.in_ok-feeds.ensures
    (two_may (λ (feed : Meets). feed.list) c.in_ok-book.book.terms c.args.listed c.args.first c.args.second c.in_ok-book.ensures.layouts c.in_ok-book.ensures.limit c.requires.first c.requires.second
    c.requires.few.0 c.requires.few.1)
