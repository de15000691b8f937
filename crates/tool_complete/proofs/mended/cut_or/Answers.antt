use Rattle.std.proofs.Common.{length}
use Rattle.tool_complete.proofs.mended.cut_or.Goals as goal

pub returns-in-None-clause-cut : goal.returns-in-None-clause-cut
returns-in-None-clause-cut c = λ split counted. rw c.in-None.is (c.cut_of.ensures.cut (length c.args.row.now.groups) split counted)
