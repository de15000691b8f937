use Rattle.std.proofs.Common.{arith}
use Rattle.mdf_command.proofs.Numbers.{no_count}
use Rattle.mdf_command.proofs.command.samples_of.Goals as goal

pub returns-then-samples-lt1 : goal.returns-then-samples-lt1
returns-then-samples-lt1 c =
    no_count c.args.word.now c.in_ok-samples.samples c.in_ok-samples.ensures.says (λ range. absurd (omega (arith, range, c.then-samples-lt1.either)))
