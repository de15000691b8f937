use Rattle.book_view.proofs.Publishing.{turns}
use Rattle.book_view.proofs.handing.publish_all.Goals as goal

pub publish_as-writer-requires : goal.publish_as-writer-requires
publish_as-writer-requires g c = turns _ _ c.queue.new.fronts c.queue.ensures.pends c.in-Ok.ensures.leads _ _
