use Rattle.std.proofs.Common.{arith, ◌≡◌, ◌<◌, ◌^◌, true, get_or, length, rules}
use Rattle.std.specs.Char.{is_ascii_digit}
use Rattle.script_line.proofs.Numerals.{in_range, more_digits, one_more}
use Rattle.script_line.proofs.Fronts.{few_digits}
use Rattle.script_line.proofs.front.digits_in.Goals as goal

pub overflow_mul-value : goal.overflow_mul-value
overflow_mul-value c =
    let within : c.loop-i.i < length c.args.text.now = omega (arith, c.loop-i-test.true, c.min-most.ensures) in
    let few : c.loop-i.value < 10 ^ 18 = few_digits c.args.text.now c.loop-i.i c.loop-i.value (omega (arith, c.loop-i-test.true, c.min-most.ensures)) (omega (arith, within)) c.loop-i.invariant.digits c.loop-i.invariant.value in
    omega (arith, few)

pub overflow_add-value : goal.overflow_add-value
overflow_add-value c =
    let text = c.args.text.now in
    let i = c.loop-i.i in
    let digit : is_ascii_digit (get_or text i 0) ≡ true = search rules in
    let within : i < length text = omega (arith, c.loop-i-test.true, c.min-most.ensures) in
    let few : c.loop-i.value < 10 ^ 18 = few_digits text i c.loop-i.value (omega (arith, c.loop-i-test.true, c.min-most.ensures)) (omega (arith, within)) c.loop-i.invariant.digits c.loop-i.invariant.value in
    omega (arith, few, (in_range (get_or text i 0) digit).1)

pub loop-i-preserved : goal.loop-i-preserved
loop-i-preserved c =
    let text = c.args.text.now in
    let i = c.loop-i.i in
    let digit : is_ascii_digit (get_or text i 0) ≡ true = search rules in
    let within : i < length text = omega (arith, c.loop-i-test.true, c.min-most.ensures) in
    record {
      digits = more_digits text i c.loop-i.invariant.digits digit within;
      value = omega (arith, one_more text i digit within, (in_range (get_or text i 0) digit).0, c.loop-i.invariant.value);
    }
