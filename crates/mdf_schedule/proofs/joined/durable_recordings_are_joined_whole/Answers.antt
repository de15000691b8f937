use Rattle.std.proofs.Common.{List, ◌++◌, subst}
use Rattle.mdf_layout.specs.declared.sample.Sample.{Sample}
use Rattle.tool_final.specs.Keeping.{HaveOwn}
use Rattle.mdf_schedule.specs.Joined.{IsFinishedSince}
use Rattle.mdf_schedule.proofs.Whole.{all_finished, are_recordable_since, finished_since, histories_of, same_history}
use Rattle.mdf_schedule.proofs.joined.durable_recordings_are_joined_whole.Goals as goal

pub returns : goal.returns
returns c = λ start rows first lefts one later whole done each are_joined.
    subst (λ (more : List Sample). HaveOwn whole.groups (first.history ++ more)) (same_history lefts)
    (c.joined_recordings_have_the_whole_history.ensures start rows first.history (histories_of start rows lefts) one later whole
    (are_recordable_since start rows first one done) (finished_since start rows first one done) (all_finished start rows (IsFinishedSince start rows) (finished_since start rows) lefts later each) are_joined)
