use Rattle.std.proofs.Common.{◌∙◌, ap, arith, length, subst, sym}
use Rattle.std.proofs.lemmas.List.{length-map}
use Rattle.acq_run.specs.Ran.{AllMayHand}
use Rattle.acq_script.specs.Plan.{layout_of}
use Rattle.mdf_record.proofs.Begins.{admissible_for, are_watched}
use Rattle.mdf_record.proofs.Fed.{begun_for, unrecorded_fed, which_for, works_fed, works_for}
use Rattle.mdf_record.proofs.Tasking.{may_hand}
use Rattle.mdf_record.specs.Work.{IsUnrecorded}
use Rattle.mdf_record.proofs.feeds.record_feeds.Goals as goal

pub begin-requires-clause-admissible : goal.begin-requires-clause-admissible
begin-requires-clause-admissible g c = admissible_for c.requires.ready.0 c.requires.ready.1.is_plan _ _ _ c.requires.ready.1.shapes c.requires.ready.1.block c.requires.ready.1.session

pub begin-requires-clause-shown : goal.begin-requires-clause-shown
begin-requires-clause-shown g c = c.in-Ok.ensures.prepared.shown

pub begin-requires-clause-handed : goal.begin-requires-clause-handed
begin-requires-clause-handed g c = c.in-Ok.ensures.prepared.handed

pub work-requires-clause-may : goal.work-requires-clause-may
work-requires-clause-may g c κs within =
    let plan = c.requires.ready.0 in
    let ready = c.requires.ready.1 in
    let prepared = c.in-Ok.ensures.prepared in
    let begun = c.in-Ok-begin.ensures.begun in
    let owners = c.args.setting.owners.now in
    let feeds = c.args.feeds.items in
    record {
      fresh = begun.history;
      some = omega (arith, ready.count, ready.is_plan.some_sources);
      few = omega (arith, ready.count, ready.is_plan.few_sources);
      groups = omega (arith, ap length ready.owners, ready.is_plan.owners, ap length ready.is_plan.shapes, length-map plan.rows layout_of, ready.is_plan.few_groups);
      may = subst (λ os. AllMayHand g.F.Feed.hands os c.in-Ok-begin.book.terms 0 feeds) (sym ready.owners)
          (may_hand g.F.Feed.hands plan c.in-Ok-begin.book.terms (ap (λ t. t.layouts) begun.terms ∙ ready.shapes) (ap (λ t. t.block_limit) begun.terms ∙ ready.block) 0 feeds ready.may);
      count = omega (arith, prepared.count, c.args.feeds.ok.0, ready.count, ready.is_plan.few_sources, c.len.ensures);
      watch = are_watched c.in-Ok.prepared.watchers.items _ _ (ap (λ t. t.which) begun.terms) prepared.watch;
      none = prepared.none;
      room = omega (arith, prepared.room, c.args.feeds.ok.0, ready.count, ready.is_plan.few_sources, c.len.ensures);
    }

pub returns-in_default : goal.returns-in_default
returns-in_default g c = let met = g.met.F.Feed g.world.𝓛 g.world.𝓜 g.world.𝓡 ((λ s x. x), (λ x. x), (λ x. x), λ x. x) in record {
  recorded = λ plan ready. unrecorded_fed g.C.Disk g.F.Feed.hands g.F.Feed.waits g.F.Feed.ends met.hands_none plan c.args.setting c.args.file c.args.feeds.items ready _
      (subst (λ out. IsUnrecorded out c.args.feeds.items c.unrecorded.result) c.into_disk.ensures.disk c.unrecorded.ensures);
}

pub returns-in-Ok-begin : goal.returns-in-Ok-begin
returns-in-Ok-begin g c = let met = g.met.F.Feed g.world.𝓛 g.world.𝓜 g.world.𝓡 ((λ s x. x), (λ x. x), (λ x. x), λ x. x) in record {
  recorded = λ plan ready. works_fed g.C.Disk g.F.Feed.hands g.F.Feed.waits g.F.Feed.ends met.hands_none plan c.args.setting c.args.file c.args.feeds.items ready _ _ c.in-Ok-begin.book
      c.work.result (which_for c.args.setting.live plan.live _ ready.live c.in-Ok.ensures.prepared.which)
      (begun_for g.C.Disk _ plan c.args.file _ _ _ _ c.in-Ok-begin.book ready.shapes ready.block ready.session c.in-Ok-begin.ensures.begun)
      (works_for g.C.Disk g.F.Feed.hands g.F.Feed.waits g.F.Feed.ends plan c.args.setting.owners.now c.args.setting.live c.in-Ok-begin.book c.args.feeds.items c.work.result
      ready.owners ready.live c.work.ensures.works);
}

pub returns-in-Err : goal.returns-in-Err
returns-in-Err g c = let met = g.met.F.Feed g.world.𝓛 g.world.𝓜 g.world.𝓡 ((λ s x. x), (λ x. x), (λ x. x), λ x. x) in record {
  recorded = λ plan ready. unrecorded_fed g.C.Disk g.F.Feed.hands g.F.Feed.waits g.F.Feed.ends met.hands_none plan c.args.setting c.args.file c.args.feeds.items ready _
      (subst (λ out. IsUnrecorded out c.args.feeds.items c.unrecorded-in-Err.result) c.in-Err.ensures.back c.unrecorded-in-Err.ensures);
}
