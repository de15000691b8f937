use Rattle.std.proofs.Common.{◌<◌, length, sym, ◌∙◌, subst}
use Rattle.mdf_schedule.specs.Schedules.{IsRecordingOf}
use Rattle.acq_script.specs.declared.script.Plan.{Plan}
use Rattle.mdf_schedule.proofs.Groups.{groups_are}
use Rattle.mdf_schedule.proofs.Files.{recording_of}
use Rattle.mdf_schedule.proofs.law.scripts_that_agree_give_one_sorted_file.Goals as goal

pub returns : goal.returns
returns c = λ script other start left right file second now later final last sorted resorted of_final of_last of_sorted of_resorted is is' agree read whole whole'.
    let one = recording_of script start left file is whole in
    let two = subst (λ (p : Plan). IsRecordingOf p.form start p.rows right.history second) (sym agree.plan) (recording_of other start right second is' whole') in
    c.one_sorted_file_of_each_schedule.ensures script.plan.form script.plan.form start script.plan.rows left.history right.history file second now later final last sorted resorted
    of_final of_last of_sorted of_resorted is.plan.planned read read one two
    (λ g below.
    groups_are script left is whole.complete g below ∙ agree.groups g below
    ∙ sym (groups_are other right is' whole'.complete g (subst (λ (p : Plan). g < length p.rows) agree.plan below)))
