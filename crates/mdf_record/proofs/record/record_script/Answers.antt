use Rattle.std.proofs.Common.{◌≡◌, ◌∙◌, ap, arith, inl, inr, sym, subst, Ok, Err}
use Rattle.mdf_disk.specs.Crash.{HoldsSince}
use Rattle.mdf_disk.specs.State.{state_of}
use Rattle.mdf_gate.specs.Images.{IsBegun}
use Rattle.acq_script.specs.Stage.{IsScript}
use Rattle.mdf_record.proofs.Recording.{fresh_begun, of_ok, record_comes, was_asked}
use Rattle.mdf_record.proofs.Recovering.{none_recovered, run_recovers}
use Rattle.mdf_record.proofs.record.record_script.Goals as goal

pub returns-in-Err : goal.returns-in-Err
returns-in-Err g c =
    let k = c.refused-in-Err.ensures in
    let story = g.C.Disk.story c.args.out in
    let met = g.met.C.Disk g.world.𝓛 g.world.𝓜 g.world.𝓡 ((λ s x. x), (λ x. x), (λ x. x), λ x. x) in
    record {
      comes = rw k.end (record {
        history = k.history;
        marks = k.marks;
        comes = inl (record {
          comes = c.in-Err.is;
          same = ap (state_of g.C.Disk) k.out;
          begun = λ head. subst (λ d. HoldsSince (g.C.Disk.story d) (g.C.Disk.moment c.args.out) (IsBegun head)) (sym k.out)
              (fresh_begun head story (g.C.Disk.content c.args.out) (g.C.Disk.moment c.args.out) (met.agrees c.args.out)
              (met.unattached c.args.out (met.unasked c.args.out c.requires.asked)));
        });
      });
      untouched = λ none. k.out;
      recovered = rw (k.out, k.history, k.marks) (record {
        marks_recover = λ n mark within. absurd (omega (arith, within));
        start_recovers = none_recovered story (g.C.Disk.moment c.args.out) (λ head. fresh_begun head story (g.C.Disk.content c.args.out) (g.C.Disk.moment c.args.out)
            (met.agrees c.args.out) (met.unattached c.args.out (met.unasked c.args.out c.requires.asked)));
      });
    }

pub record_into-requires-clause-created : goal.record_into-requires-clause-created
record_into-requires-clause-created g c κs within = c.in-Ok-create.ensures.created.created

pub returns-in-Ok-create : goal.returns-in-Ok-create
returns-in-Ok-create g c =
    let h = c.in-Ok-create.ensures.created in
    record {
      comes = record_comes g.C.Disk (λ said. c.args.script ≡ Ok said) (λ problem. c.args.script ≡ Err problem) _ c.args.means.now.now_ns c.args.out c.in-Ok.script c.in-Ok-create.file _ _
          c.in-Ok.is (of_ok IsScript c.args.script c.in-Ok.script c.requires.script c.in-Ok.is) h.readable h.asked h.begun h.head h.told h.start h.faults h.made c.record_into.ensures.recorded;
      untouched = λ none. absurd (was_asked _ _ (c.record_into.ensures.recorded.asked_is ∙ h.asked) none);
      recovered = run_recovers c.what_is_carried_is_recovered.ensures c.args.means.now.now_ns c.in-Ok.script (of_ok IsScript c.args.script c.in-Ok.script c.requires.script c.in-Ok.is).plan h.readable g.C.Disk c.args.out
          c.in-Ok-create.file _ _ h.begun h.head h.told h.start c.record_into.ensures.recorded;
    }

pub returns-in-Err-create : goal.returns-in-Err-create
returns-in-Err-create g c =
    let h = c.in-Err-create.ensures.refused in
    let k = c.refused.ensures in
    record {
      comes = rw k.end (record {
        history = k.history;
        marks = k.marks;
        comes = inr (record {
          script = c.in-Ok.script;
          says = c.in-Ok.is;
          begun = rw k.out h.unmade.begun;
          comes = rw k.out h.unmade.comes;
          asked_is = rw k.out h.unmade.asked_is;
        });
      });
      untouched = λ none. k.out ∙ h.untouched (ap g.C.Disk.asked (sym k.out) ∙ none);
      recovered = rw (k.out, k.history, k.marks) (record {
        marks_recover = λ n mark within. absurd (omega (arith, within));
        start_recovers = h.recovers;
      });
    }
