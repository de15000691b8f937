use Rattle.mdf_command.proofs.Bounds.{minus_zero, not_digits, past_minus}
use Rattle.mdf_command.proofs.bound.negative_of.Goals as goal

pub returns-in_default : goal.returns-in_default
returns-in_default c = not_digits c.args.digits.now c.in_default.ensures.says

pub returns-then-number-lt1 : goal.returns-then-number-lt1
returns-then-number-lt1 c = minus_zero c.args.digits.now c.in-Some.number c.in-Some.ensures.says c.if-number-lt1.true

pub returns-then-number-gt9223372036854775808 : goal.returns-then-number-gt9223372036854775808
returns-then-number-gt9223372036854775808 c = past_minus c.args.digits.now c.in-Some.number c.in-Some.ensures.says c.if-number-gt9223372036854775808.true
