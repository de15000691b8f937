use Rattle.mdf_schedule.proofs.Closed.{head_is_read, is_script, leaves_whole}
use Rattle.mdf_schedule.proofs.law.recordings_that_agree_give_one_sorted_file.Goals as goal

pub returns : goal.returns
returns c = λ script other start left right file second now later final last sorted resorted of_final of_last of_sorted of_resorted agree one two.
    c.scripts_that_agree_give_one_sorted_file.ensures script other start left right file second now later final last sorted resorted
    of_final of_last of_sorted of_resorted (is_script script one.closed) (is_script other two.closed) agree
    (head_is_read script one.closed) (leaves_whole script start left file one) (leaves_whole other start right second two)
