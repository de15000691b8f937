use Rattle.std.proofs.Common.{rules, subst, sym}
use denote.Param.Send.{sendable}
use Rattle.std.proofs.Crossing.{crosses}
use Rattle.acq_run.specs.Workers.{CanHand, IsReady}
use Rattle.acq_run.specs.Watching.{Watches}
use Rattle.acq_run.proofs.audience.Audience.TheSendSync.{the_send}
use Rattle.acq_run.proofs.Crossing.{book_sync}
use Rattle.acq_run.proofs.record.drive_all.Goals as goal

pub returns-clause-worked : goal.returns-clause-worked
returns-clause-worked g c k d less =
    let at = (c.for_each_mut.ensures k d less).1 in
    rw (sym at.argument_is, sym at.left) at.call.0

pub returns-clause-follow : goal.returns-clause-follow
returns-clause-follow g c k d less =
    let at = (c.for_each_mut.ensures k d less).1 in
    rw (sym at.left) at.call.1

pub for_each_mut-requires-clause-accepts : goal.for_each_mut-requires-clause-accepts
for_each_mut-requires-clause-accepts g c κs outlives i p less is = (
  subst (λ worker. IsReady c.args.book.now.table worker.seat (CanHand g.F.Feed.hands worker.feed) (Watches worker.follower)) (sym is)
      (c.requires.ready i p.now less),
  search rules,
)

pub for_each_mut-requires-sync-F : goal.for_each_mut-requires-sync-F
for_each_mut-requires-sync-F g c κs within = search (sendable, crosses, book_sync, the_send) depth 40
