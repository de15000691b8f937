use Rattle.std.proofs.Common.{◌∙◌, ap, arith, subst, sym}
use Rattle.mdf_disk.specs.State.{state_of}
use Rattle.mdf_spell.specs.Recording.{head_file}
use Rattle.acq_script.specs.declared.script.Plan.{Plan}
use Rattle.mdf_record.specs.Created.{IsCreated}
use Rattle.mdf_record.proofs.Recording.{was_asked}
use Rattle.mdf_record.proofs.Recovering.{not_created, run_recovers}
use Rattle.mdf_rotate.specs.Words.{part_name}
use Rattle.mdf_log.proofs.Coming.{recorded_comes, refused_comes}
use Rattle.mdf_log.proofs.part.log_part.Goals as goal

pub returns-in_default : goal.returns-in_default
returns-in_default g c =
    let k = c.unbegun.ensures in
    let laws = g.met.C.Disk g.world.𝓛 g.world.𝓜 g.world.𝓡 ((λ s x. x), (λ x. x), (λ x. x), λ x. x) in
    let feed = g.met.F.Feed g.world.𝓛 g.world.𝓜 g.world.𝓡 ((λ s x. x), (λ x. x), (λ x. x), λ x. x) in
    let plan = c.args.log.now.plan.now in
    let name = part_name c.args.log.now.output.now c.args.number in
    let none = not_created g.C.Disk name (head_file plan.form c.args.log.now.now_ns plan.rows) c.args.out c.requires.asked (laws.agrees c.args.out)
    (laws.unattached c.args.out (laws.unasked c.args.out c.requires.asked)) in
    record {
      comes = rw (k.end, k.feeds, k.none) (refused_comes g.F.Feed.hands g.F.Feed.waits g.F.Feed.ends feed.hands_none plan name c.args.log.now.now_ns (state_of g.C.Disk c.args.out) _
          c.args.feeds.items _ k.history k.marks c.requires.sources (rw k.out none.unmade));
      untouched = λ asked. k.out;
      recovered = rw (k.out, k.history, k.marks) (record {
        marks_recover = λ n mark within. absurd (omega (arith, within));
        start_recovers = none.recovers;
      });
    }

pub record_feeds-requires-clause-created : goal.record_feeds-requires-clause-created
record_feeds-requires-clause-created g c κs within = c.in-Ok-create.ensures.created.created

pub record_feeds-requires-clause-ready : goal.record_feeds-requires-clause-ready
record_feeds-requires-clause-ready g c κs within = let set = c.in-Ok.ensures in (
  c.args.log.now.plan.now,
  record {
    is_plan = c.requires.plan;
    shapes = set.shapes;
    owners = set.owners;
    block = set.block;
    session = set.session;
    live = set.live;
    count = c.requires.sources;
    may = c.requires.may;
  },
)

pub returns-in-Ok-create : goal.returns-in-Ok-create
returns-in-Ok-create g c =
    let plan = c.args.log.now.plan.now in
    let set = c.in-Ok.ensures in
    let h = c.in-Ok-create.ensures.created in
    let fed = c.record_feeds.ensures.recorded plan (record {
      is_plan = c.requires.plan;
      shapes = set.shapes;
      owners = set.owners;
      block = set.block;
      session = set.session;
      live = set.live;
      count = c.requires.sources;
      may = c.requires.may;
    }) in
    let made = subst (λ (p : Plan). IsCreated g.C.Disk c.in-Ok.name p.form c.args.log.now.now_ns p.rows c.args.out c.in-Ok-create.file) (sym fed.plan_is) h in
    record {
      comes = recorded_comes g.C.Disk g.F.Feed.hands g.F.Feed.waits g.F.Feed.ends plan _ c.args.log.now.now_ns c.args.out c.in-Ok-create.file _ c.args.feeds.items _ _ _
          (subst (λ name. IsCreated g.C.Disk name plan.form c.args.log.now.now_ns plan.rows c.args.out c.in-Ok-create.file) set.name h) fed;
      untouched = λ none. absurd (was_asked _ _ (fed.run.asked_is ∙ h.asked) none);
      recovered = run_recovers c.what_is_carried_is_recovered.ensures c.args.log.now.now_ns fed.script fed.is_script.plan made.readable g.C.Disk c.args.out
          c.in-Ok-create.file _ _ made.begun made.head made.told made.start fed.run;
    }

pub returns : goal.returns
returns g c =
    let k = c.unbegun-in-Err.ensures in
    let plan = c.args.log.now.plan.now in
    let feed = g.met.F.Feed g.world.𝓛 g.world.𝓜 g.world.𝓡 ((λ s x. x), (λ x. x), (λ x. x), λ x. x) in
    let none = c.in-Err.ensures.refused in
    record {
      comes = rw (k.end, k.feeds, k.none, sym c.in-Ok.ensures.name) (refused_comes g.F.Feed.hands g.F.Feed.waits g.F.Feed.ends feed.hands_none plan c.in-Ok.name c.args.log.now.now_ns
          (state_of g.C.Disk c.args.out) _ c.args.feeds.items _ k.history k.marks c.requires.sources (rw k.out none.unmade));
      untouched = λ asked. k.out ∙ none.untouched (ap g.C.Disk.asked (sym k.out) ∙ asked);
      recovered = rw (k.out, k.history, k.marks) (record {
        marks_recover = λ n mark within. absurd (omega (arith, within));
        start_recovers = none.recovers;
      });
    }
