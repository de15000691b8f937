use Rattle.std.proofs.Common.{arith}
use Rattle.std.proofs.lemmas.Grind.{common_steps}
use Rattle.mdf_record.proofs.sources.feeds_of.Goals as goal

-- a feed came behind the others
pub loop-tasks-preserved : goal.loop-tasks-preserved
loop-tasks-preserved g c = record { feeds = grind (arith, common_steps); count = grind (arith, common_steps) }
