use Rattle.std.proofs.Common.{◌∙◌, ap, arith, length, map, refl}
use Rattle.mdf_record.specs.Sources.{feds_of}
use Rattle.mdf_record.proofs.Fed.{script_ready, script_run}
use Rattle.mdf_record.proofs.record.record_into.Goals as goal

pub feeds_of-requires : goal.feeds_of-requires
feeds_of-requires g c =
    let plan = c.requires.script.plan in
    omega (arith, c.requires.script.lists, plan.few_sources, ap length c.into_vec.ensures, c.into_vec.result.ok.0)

pub record_feeds-recorded-requires-clause-ready : goal.record_feeds-recorded-requires-clause-ready
record_feeds-recorded-requires-clause-ready g c κs within =
    (c.args.script.plan, script_ready c.args.script _ c.in-Ok.feeds.items c.requires.script (c.in-Ok.ensures.feeds ∙ ap (map feds_of) c.into_vec.ensures) refl c.as_slice.ensures refl refl refl)

pub returns : goal.returns
returns g c =
    let script = c.args.script in
    let are = c.in-Ok.ensures.feeds ∙ ap (map feds_of) c.into_vec.ensures in
    record {
      recorded = script_run g.C.Disk script c.args.file _ _ c.in-Ok.feeds.items c.record_feeds-recorded.result.feeds.items c.record_feeds-recorded.result.all.items c.requires.script are
          (c.record_feeds-recorded.ensures.recorded script.plan
          (script_ready script _ c.in-Ok.feeds.items c.requires.script are refl c.as_slice.ensures refl refl refl));
    }
