use Rattle.std.proofs.Common.{◌≤◌, ◌*◌, List, inl, inr, length, ap, sym, subst, arith}
use Rattle.std.proofs.lemmas.Bool.{cases_lt}
use Rattle.mdf_bits.proofs.Orders.{bit_of_past}
use Rattle.mdf_layout.specs.Written.{IsFree}
use Rattle.mdf_layout.specs.declared.field.FieldRow.{FieldRow}
use Rattle.mdf_layout.proofs.shape.Shape.clear.Goals as goal

pub returns-then-self-clause-zero : goal.returns-then-self-clause-zero
returns-then-self-clause-zero c = λ p free.
    let bytes = c.args.content.now in
    let rows_are = ap (λ l. l.rows) c.self.view_is in
    let long = ap (λ l. l.data_bytes) c.self.view_is in
    let filled = c.self.invariant.2 c.if-self.true in
    elim (cases_lt p (8 * c.self.inside.data_bytes)) [
      | inl inside ↦ absurd (filled p inside (subst (λ (rows : List FieldRow). IsFree rows p) (sym rows_are) free))
      | inr past ↦
          let beyond : 8 * length bytes ≤ p = omega (arith, past, long, c.requires.size) in
          bit_of_past bytes p beyond
    ]
