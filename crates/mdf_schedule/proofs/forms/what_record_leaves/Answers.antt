use Rattle.mdf_schedule.proofs.Lefts.{left_by}
use Rattle.mdf_schedule.proofs.forms.what_record_leaves.Goals as goal

pub returns : goal.returns
returns c = left_by
