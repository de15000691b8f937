use Rattle.std.proofs.Common.{sym, subst, ◌∙◌}
use Rattle.book_view.specs.Copies.{IsWhole}
use Rattle.book_view.proofs.Publishing.{opening}
use Rattle.book_view.proofs.live.writer_of.Goals as goal

pub publish_as-writer-requires : goal.publish_as-writer-requires
publish_as-writer-requires g c =
    let first = c.in-Ok.ensures.0 ∙ c.empty_copy-first.ensures in
    opening _ _ _ _ (subst IsWhole (sym first) (sym c.requires.empty)) c.in-Ok.ensures.1
