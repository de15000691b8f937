use Rattle.std.proofs.Common.{arith, ◌∙◌, sym}
use Rattle.std.proofs.lemmas.Bool.{eq-eqb, false≢true}
use Rattle.script_line.proofs.Fronts.{whole_number, blank_number}
use Rattle.script_line.proofs.front.leading_number.Goals.{then-count-gt1, else-count-gt1}
use Rattle.script_line.proofs.front.leading_number.Goals as goal

pub returns-then-count-text : goal.returns-then-count-text
returns-then-count-text c =
    let digits = c.digits_in-value in
    whole_number c.args.text.now digits.result.count digits.result.value (omega (arith, c.if-count-eq0.false)) c.if-count-text.true digits.ensures.digits digits.ensures.value (omega arith)
    (λ zero. elim c.if-count-gt1.branch [
      | then-count-gt1 w ↦ absurd (false≢true (sym c.if-text-eq48.false ∙ w.value-is ∙ eq-eqb _ _ zero))
      | else-count-gt1 w ↦ omega (arith, w.if-count-gt1.false, c.if-count-eq0.false)
    ])

pub returns : goal.returns
returns c =
    let digits = c.digits_in-value in
    blank_number c.args.text.now digits.result.count digits.result.value (omega (arith, c.if-count-eq0.false)) (omega (arith, digits.ensures.within, c.if-count-text.false)) (omega (arith, c.if-text-count-ne32.false)) digits.ensures.digits digits.ensures.value (omega arith)
    (λ zero. elim c.if-count-gt1.branch [
      | then-count-gt1 w ↦ absurd (false≢true (sym c.if-text-eq48.false ∙ w.value-is ∙ eq-eqb _ _ zero))
      | else-count-gt1 w ↦ omega (arith, w.if-count-gt1.false, c.if-count-eq0.false)
    ])
