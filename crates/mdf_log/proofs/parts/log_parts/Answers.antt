use Rattle.std.proofs.Common.{◌≡◌, ◌∙◌, ◌-◌, ◌^◌, true, refl, arith}
use Rattle.mdf_log.proofs.Going.{gone_on, run, still_ruled}
use Rattle.mdf_log.proofs.parts.log_parts.Goals as goal
use Rattle.mdf_log.proofs.parts.log_parts.Goals.{then-not-goes_on-via-then-not-goes_on, then-not-goes_on-via-else-not-goes_on+then-course}

pub next_part-next-requires-clause-sources : goal.next_part-next-requires-clause-sources
next_part-next-requires-clause-sources g c κs within = c.loop.invariant.gone.come.count ∙ c.requires.sources

pub next_part-next-requires-clause-totals : goal.next_part-next-requires-clause-totals
next_part-next-requires-clause-totals g c κs within = c.loop.invariant.gone.come.counts ∙ c.requires.sources

pub next_part-next-requires-clause-ruled : goal.next_part-next-requires-clause-ruled
next_part-next-requires-clause-ruled g c κs within = still_ruled g.K.Sink _ _ _ _ _ _ _ _ c.requires.ruled c.loop.invariant.gone

pub next_part-next-requires-clause-room : goal.next_part-next-requires-clause-room
next_part-next-requires-clause-room g c κs within = c.loop.invariant.room

pub returns-then-not-goes_on : goal.returns-then-not-goes_on
returns-then-not-goes_on g c =
    let next = c.next_part-next in
    let stops : next.result.1 ≡ true → next.result.0.tally.parts ≡ 2 ^ 64 - 1 = elim c.then-not-goes_on.branch [
      | then-not-goes_on-via-then-not-goes_on w ↦ λ on. absurd (cc (w.if-not-goes_on.true, on))
      | then-not-goes_on-via-else-not-goes_on+then-course w ↦ λ on. omega (arith, w.if-course.true)
    ] in
    run g.K.Sink c.args.log.now.plan.now c.args.log.now.output.now c.args.log.now.now_ns
    (λ served. g.D.Disks.serves c.args.disks.now served c.loop.disks)
    (λ served. g.D.Disks.serves c.loop.disks served next.new.disks)
    (λ served. g.D.Disks.serves c.args.disks.now served next.new.disks)
    (λ some more. g.met.D.Disks.serves_more c.args.disks.now c.loop.disks next.new.disks some more)
    _ _ _ c.args.first.feeds.items c.loop.course next.result.0 next.result.1 c.loop.invariant.gone next.ensures stops

pub loop-preserved : goal.loop-preserved
loop-preserved g c =
    let next = c.next_part-next in
    record {
      gone = gone_on g.K.Sink c.args.log.now.plan.now c.args.log.now.output.now c.args.log.now.now_ns
          (λ served. g.D.Disks.serves c.args.disks.now served c.loop.disks)
          (λ served. g.D.Disks.serves c.loop.disks served next.new.disks)
          (λ served. g.D.Disks.serves c.args.disks.now served next.new.disks)
          (λ some more. g.met.D.Disks.serves_more c.args.disks.now c.loop.disks next.new.disks some more)
          _ _ _ c.args.first.feeds.items c.loop.course next.result.0 next.result.1 c.loop.invariant.gone next.ensures
          c.if-not-goes_on.false _ refl refl c.resume_all.ensures.count c.resume_all.ensures.resumed;
      room = omega (arith, next.ensures.parts, c.loop.invariant.room, c.if-course.false);
    }
