use Rattle.std.proofs.Common.{arith, sym, ◌≡◌, ◌∙◌, ◌+◌, true, get_or, rules}
use Rattle.std.specs.Char.{is_ascii_digit}
use Rattle.script_line.proofs.Numerals.{in_range, more_digits, none_of, one_more}
use Rattle.script_line.proofs.number.value_of.Goals as goal

pub returns-in_err-checked_mul : goal.returns-in_err-checked_mul
returns-in_err-checked_mul c =
    let word = c.args.word.now in
    let i = c.loop-byte.byte-index in
    let digit : is_ascii_digit (get_or word i 0) ≡ true = search rules in
    c.from_residual.ensures
    ∙ sym (none_of word (i + 1) (omega (arith, one_more word i digit (omega arith), (in_range (get_or word i 0) digit).0, c.in_err-checked_mul.ensures)))

pub returns-in_err-value : goal.returns-in_err-value
returns-in_err-value c =
    let word = c.args.word.now in
    let i = c.loop-byte.byte-index in
    let digit : is_ascii_digit (get_or word i 0) ≡ true = search rules in
    c.from_residual-in_err-value.ensures
    ∙ sym (none_of word (i + 1) (omega (arith, one_more word i digit (omega arith), (in_range (get_or word i 0) digit).0, c.in_ok-checked_mul.ensures, c.in_err-value.ensures)))

pub loop-byte-preserved : goal.loop-byte-preserved
loop-byte-preserved c =
    let word = c.args.word.now in
    let i = c.loop-byte.byte-index in
    let digit : is_ascii_digit (get_or word i 0) ≡ true = search rules in
    record {
      value = omega (arith, one_more word i digit (omega arith), (in_range (get_or word i 0) digit).0, c.in_ok-checked_mul.ensures, c.in_ok-value.ensures);
      fits = omega (arith, c.in_ok-checked_mul.ensures, c.in_ok-value.ensures);
      digits = more_digits word i c.loop-byte.invariant.digits digit (omega arith);
    }
