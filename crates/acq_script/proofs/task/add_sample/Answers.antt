use Rattle.std.proofs.Common.{◌∙◌, ◌<◌, Some, ap, arith, length, subst, sym}
use Rattle.std.specs.Prelude.{slice_index}
use Rattle.script_line.specs.Text.{words_left}
use Rattle.acq_script.specs.Stage.{with_task}
use Rattle.acq_script.specs.declared.script.Task.TheVariants as task
use Rattle.acq_script.proofs.Sounds.{sample_done, sample_long, sample_none, sample_there}
use Rattle.acq_script.proofs.task.add_sample.Goals as goal

pub returns-in_default : goal.returns-in_default
returns-in_default c = record {
  found = sample_none c.args.script.now c.args.group (words_left c.args.values) (sym c.in_default.is ∙ c.in_ok-sample.ensures.found);
  wanted = tt;
}

pub returns-then-encoded_size-script : goal.returns-then-encoded_size-script
returns-then-encoded_size-script c = record {
  found = sample_long c.args.script.now c.args.group (words_left c.args.values) c.in-Some.sample (sym c.in-Some.is ∙ c.in_ok-sample.ensures.found)
      (omega (arith, c.if-encoded_size-script.true, c.encoded_size.ensures));
  wanted = tt;
}

pub add_task-requires : goal.add_task-requires
add_task-requires c =
    let script = c.args.script.now in
    let sample = c.in-Some.sample in
    subst (λ owners. slice_index owners sample.group < length script.lists) (sym c.as_slice.ensures)
    (sample_there script c.args.group (words_left c.args.values) sample (sym c.in-Some.is ∙ c.in_ok-sample.ensures.found) c.requires)

pub returns : goal.returns
returns c =
    let script = c.args.script.now in
    let sample = c.in-Some.sample in
    record {
      found = sample_done script c.args.group (words_left c.args.values) sample (sym c.in-Some.is ∙ c.in_ok-sample.ensures.found)
          (omega (arith, c.if-encoded_size-script.false, c.encoded_size.ensures))
          ∙ ap (λ owners. Some (with_task script (slice_index owners sample.group) (task.Sample sample))) (sym c.as_slice.ensures)
          ∙ ap Some (sym c.in_ok-add_task.ensures);
      wanted = tt;
    }
