use Rattle.std.proofs.Common.{arith}
use Rattle.std.proofs.lemmas.Grind.{common_steps}
use Rattle.mdf_record.proofs.sources.told_all.Goals as goal

-- another source is told of
pub loop-driven-preserved : goal.loop-driven-preserved
loop-driven-preserved c = record { counts = grind (arith, common_steps); told = grind (arith, common_steps); room = grind (arith, common_steps) }
