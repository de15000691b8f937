use Rattle.tool_complete.proofs.Counts.{split_is}
use Rattle.tool_complete.proofs.law.what_is_counted.Goals as goal

pub returns : goal.returns
returns c = split_is
