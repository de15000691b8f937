use Rattle.mdf_model.proofs.Sames.{head_same, channel_same, rows_same}
use Rattle.mdf_model.proofs.law.what_is_placed_anew_is_the_same.Goals as goal

pub returns-clause-head : goal.returns-clause-head
returns-clause-head c = head_same

pub returns-clause-channel : goal.returns-clause-channel
returns-clause-channel c = channel_same

pub returns-clause-rows : goal.returns-clause-rows
returns-clause-rows c = rows_same
