-- What is said of a run that has ended as the words ask for.
use Rattle.std.proofs.Common.{List, ℕ, Option}
use Rattle.mdf_disk.specs.declared.disk.Disk.{Ghosts}
use Rattle.mdf_command.specs.Words.{Request, shown, made, joined, recorded, input_of, output_of, second_of}
use Rattle.mdf_command.specs.declared.command.Aspect.TheVariants.{Opened, Verdict, Contents, Table, Attachments}
use Rattle.mdf_command.specs.declared.command.Product.TheVariants.{Finalized, Sorted, Cut}
use Rattle.mdf_command.specs.declared.command.Union.TheVariants.{Concat, Attach}
use Rattle.mdf_command.specs.declared.command.Origin.TheVariants.{Source, Generated}
use Rattle.mdf_command.specs.Asked.{IsOnlyMade, IsOnlyRead}
use Rattle.mdf_run.specs.Asked.{file_asked}
use Rattle.mdf_run.specs.Ends.{HasEnded}
use Rattle.mdf_run.specs.Run.{RunBlames, RunKeeps, RunLeaves, RunPrints, RunRecovers, RunSucceeds, TouchesInput, TouchesOutput, TouchesSecond}
use Rattle.mdf_run.specs.Told.{Told}
use Rattle.mdf_run.proofs.Recovered.{all_is_recovered}
use Rattle.mdf_run.proofs.Ended.{Says, as_input, as_output, as_second, blames, carries, completes, concats, cuts, disk_failed, does, exports, finalizes, if_recovered, lists, of_kept, only_blames, out_alone, second_alone, sink_failed, sorts, source_failed, unrecorded, usage_is, usage_printed}

module _ (said : List (List ℕ)) (asked : Option Request) (t : Told) (ended : HasEnded asked t) (says : Says said asked) where
  pub run_prints : RunPrints said t
  run_prints = record {
    usage = usage_is said asked t ended says;
    usage_printed = usage_printed said asked t ended says;
    opened = λ input asks. does said asked t ended says (shown input Opened) asks;
    check = λ input asks. does said asked t ended says (shown input Verdict) asks;
    info = λ input asks. does said asked t ended says (shown input Contents) asks;
    export = λ input group asks. (does said asked t ended says (shown input (Table group)) asks).0;
    attachments = λ input asks. does said asked t ended says (shown input Attachments) asks;
    finalize = λ input output asks. (does said asked t ended says (made input output Finalized) asks).0;
    sort = λ input output asks. (does said asked t ended says (made input output Sorted) asks).0;
    cut = λ input output from to asks. (does said asked t ended says (made input output (Cut from to)) asks).0;
    concat = λ input other output asks. (does said asked t ended says (joined input other output Concat) asks).0;
    attach = λ input other output asks. (does said asked t ended says (joined input other output Attach) asks).0;
    recording = λ name asks. (does said asked t ended says (recorded name Source) asks).ends;
    generated = λ samples name asks. (does said asked t ended says (recorded name (Generated samples)) asks).ends;
  }

  pub run_keeps : RunKeeps said t
  run_keeps = record {
    marks_hold = of_kept said asked t ended says _ (λ script keeps recovered. keeps.marks_hold);
    start_holds = of_kept said asked t ended says _ (λ script keeps recovered. keeps.start_holds);
    marks_rise = of_kept said asked t ended says _ (λ script keeps recovered. keeps.marks_rise);
    own_prefix = of_kept said asked t ended says _ (λ script keeps recovered. keeps.own_prefix);
    flush_lines = of_kept said asked t ended says _ (λ script keeps recovered. keeps.flush_lines);
    pending = of_kept said asked t ended says _ (λ script keeps recovered. keeps.pending);
    marks_have_causes = of_kept said asked t ended says _ (λ script keeps recovered. keeps.causes);
    complete = of_kept said asked t ended says _ (λ script keeps recovered. keeps.complete);
    live = of_kept said asked t ended says _ (λ script keeps recovered. keeps.reported);
    no_history = λ nothing. ended.no_history (unrecorded said asked says nothing);
    no_marks = λ nothing. ended.no_marks (unrecorded said asked says nothing);
  }

  pub run_recovers : RunRecovers said t
  run_recovers = record {
    marks_recover = if_recovered said asked t ended says _ (λ recovered durable. recovered.marks_recover);
    start_recovers = if_recovered said asked t ended says _ (λ recovered durable. recovered.start_recovers);
    all_recovered = if_recovered said asked t ended says _ (λ recovered durable ends. all_is_recovered _ _ _ _ recovered.marks_recover (durable ends));
  }

  pub run_succeeds : RunSucceeds said t
  run_succeeds = record {
    finalizes = finalizes said asked t ended says;
    completes = completes said asked t ended says;
    sorts = sorts said asked t ended says;
    cuts = cuts said asked t ended says;
    exports = exports said asked t ended says;
    lists = lists said asked t ended says;
    concats = concats said asked t ended says;
    carries = carries said asked t ended says;
  }

  pub run_leaves : RunLeaves said t
  run_leaves = record {
    finalize_leaves = λ input output asks. (does said asked t ended says (made input output Finalized) asks).1;
    sort_leaves = λ input output asks. (does said asked t ended says (made input output Sorted) asks).1;
    cut_leaves = λ input output from to asks. (does said asked t ended says (made input output (Cut from to)) asks).1;
    concat_leaves = λ input other output asks. (does said asked t ended says (joined input other output Concat) asks).1;
    attach_leaves = λ input other output asks. (does said asked t ended says (joined input other output Attach) asks).1;
  }

  pub run_blames : RunBlames said t
  run_blames = record {
    source_fault = source_failed said asked t ended says;
    device_fault = disk_failed said asked t ended says;
    sink_fault = sink_failed said asked t ended says;
    blames_joined = λ input other output asks. blames said asked t ended says (joined input other output Concat) asks;
    blames_carried = λ input other output asks. blames said asked t ended says (joined input other output Attach) asks;
    blames_one = only_blames said asked t ended says;
    blames_none = (
      λ name asks. blames said asked t ended says (recorded name Source) asks,
      λ samples name asks. blames said asked t ended says (recorded name (Generated samples)) asks,
    );
  }

-- the disks that it touches
module _ {D : Type 0} (tells : Ghosts D) (said : List (List ℕ)) (asked : Option Request) (old new : D) where
  pub touches_input : IsOnlyRead tells (file_asked input_of asked) old new → Says said asked → TouchesInput tells said old new
  touches_input only says = record {
    asked = as_input said (tells.asked new) asked says only.asked;
    content = only.content;
    untouched = only.untouched;
  }

  pub touches_second : IsOnlyRead tells (file_asked second_of asked) old new → Says said asked → TouchesSecond tells said old new
  touches_second only says = record {
    asked = as_second said (tells.asked new) asked says only.asked;
    content = only.content;
    untouched = only.untouched;
    alone = second_alone tells said asked old new only says;
  }

  pub touches_output : IsOnlyMade tells (file_asked output_of asked) old new → Says said asked → TouchesOutput tells said old new
  touches_output only says = record {
    asked = as_output said (tells.asked new) asked says only.asked;
    untouched = only.untouched;
    alone = out_alone tells said asked old new only says;
  }
