use Rattle.mdf_schedule.proofs.Chunks.{content_once}
use Rattle.mdf_schedule.proofs.records.groups_have_one_content.Goals as goal

pub returns : goal.returns
returns c = content_once
