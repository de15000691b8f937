use Rattle.std.proofs.Common.{◌≡◌, ◌∙◌, ◌+◌, List, [], ◌∷◌, length, get_or, Option, true, sym, ap, subst, inl, inr, ⊎_elim, arith}
use Rattle.mdf_disk.specs.State.{state_of}
use Rattle.acq_run.specs.declared.work.Driven.{Driven}
use Rattle.acq_lines.specs.Handled.{Halts, Hands, Waits}
use Rattle.mdf_command.specs.declared.fault.Fault.{Fault}
use Rattle.mdf_record.specs.Record.{outcome}
use Rattle.mdf_disk.specs.Served.{handed_out, taken_back}
use Rattle.mdf_log.specs.Parts.{fits_anew}
use Rattle.mdf_log.proofs.Going.{all_few, durable_is, idle, may_record, moved}
use Rattle.mdf_log.proofs.Moving.{handed_count, moves}
use Rattle.mdf_log.proofs.parts.next_part.Goals as goal

pub log_part-recorded-requires-clause-may : goal.log_part-recorded-requires-clause-may
log_part-recorded-requires-clause-may g c κs within = may_record g.K.Sink c.args.log.now.plan.now c.args.course.feeds.items c.requires.ruled

pub add-requires-clause-sources : goal.add-requires-clause-sources
add-requires-clause-sources g c =
    let few = all_few (Hands g.K.Sink) Waits Halts _ _ _ _ _ c.args.course.feeds.items c.log_part-recorded.result.feeds.items c.log_part-recorded.result.all.items _ c.log_part-recorded.ensures.comes in
    omega (arith, few, c.requires.sources, c.requires.totals, ap length c.as_slice.ensures.value)

pub returns : goal.returns
returns g c =
    let tells = g.D.Disk.Disk in
    let recorded = c.log_part-recorded.result.recorded in
    let comes = c.log_part-recorded.ensures.comes in
    let all = c.log_part-recorded.result.all.items in
    let all_is = c.as_slice.ensures.value in
    record {
      part = record {
        script = comes.script;
        disk = state_of tells c.next-out.result;
        left = outcome tells recorded.out recorded.history.items recorded.marks.items;
        end = recorded.end;
      };
      is_part = record {
        plan_is = comes.plan_is;
        comes = comes.comes;
        untouched = λ none. ap (state_of tells) (c.log_part-recorded.ensures.untouched none);
        recovered = c.log_part-recorded.ensures.recovered;
      };
      serves = g.met.D.Disks.serves_more _ _ _ (handed_out (state_of tells c.next-out.result) ∷ []) (taken_back (state_of tells recorded.out) ∷ []) c.next-out.ensures.serves c.keep.ensures;
      gives = c.give_next-given.ensures;
      parts = c.add.ensures.parts;
      samples = omega (arith, c.add.ensures.samples, c.len-samples.ensures);
      durable_is = omega (arith, c.add.ensures.durable, c.durable_of.ensures, durable_is _ _ _ _ _ _ _ comes.comes);
      problem = c.fault_of-fault.ensures;
      live = c.live_of.ensures;
      on_is = (
        λ on. ⊎_elim
            (λ both. inl (record { full = subst (λ (f : Option Fault). fits_anew f ≡ true) c.fault_of-fault.ensures both.0; some = omega (arith, both.1, c.len-samples.ensures) }))
            (λ well. inr (sym c.fault_of-fault.ensures ∙ well.0, sym c.any_called.ensures ∙ well.1))
            (c.goes_on-on.ensures.0 on),
        λ goes. c.goes_on-on.ensures.1 (⊎_elim
            (λ full. inl (subst (λ (f : Option Fault). fits_anew f ≡ true) (sym c.fault_of-fault.ensures) full.full, omega (arith, full.some, c.len-samples.ensures)))
            (λ well. inr (c.fault_of-fault.ensures ∙ well.0, c.any_called.ensures ∙ well.1))
            goes),
      );
      count = handed_count (Hands g.K.Sink) _ _ _ comes.handed;
      counts = c.add.ensures.count;
      sources = λ source d n less. moved g.K.Sink c.args.log.now.plan.now _ source _ _ _ _ all idle
          (moves (Hands g.K.Sink) Waits Halts _ _ _ _ _ c.args.course.feeds.items c.log_part-recorded.result.feeds.items all recorded.end comes source d idle less)
          (λ within. c.add.ensures.accepted source n idle (omega (arith, within, ap length all_is)) ∙ ap (λ (l : List Driven). get_or c.args.course.tally.accepted.items source n + (get_or l source idle).accepted) all_is)
          (λ past. c.add.ensures.rest source n (omega (arith, past, ap length all_is)));
    }
