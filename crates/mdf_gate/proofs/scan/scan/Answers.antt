use Rattle.std.proofs.Common.{◌<◌, ◌∙◌, refl, sym, arith}
use Rattle.std.proofs.lemmas.Result.{err_from_is_err_and}
use Rattle.mdf_gate.specs.Units.{place_behind}
use Rattle.mdf_gate.proofs.Loops.{comes_further, comes_to_end, has_come, stuck}
use Rattle.mdf_gate.proofs.scan.scan.Goals as goal

pub loop-form-init : goal.loop-form-init
loop-form-init c = record {
  come = has_come c.args.form c.args.bytes.now c.args.first;
  from = refl;
  blocks = omega arith;
  bytes = omega arith;
}

pub returns-in_err-unit-clause-refused : goal.returns-in_err-unit-clause-refused
returns-in_err-unit-clause-refused c =
    let count = c.loop-form.count in
    let p = err_from_is_err_and c.from_residual.result c.from_residual.ensures.1 in
    rw (p.1, p.2) (
    stuck c.args.form c.args.bytes.now c.args.first count.next count.blocks count.bytes c.loop-form.invariant.come _
    (sym c.is_open.ensures.gate ∙ c.loop-form-test.true) c.in_err-unit.ensures.refused
    )

pub loop-form-preserved : goal.loop-form-preserved
loop-form-preserved c =
    let count = c.loop-form.count in
    let unit = c.in_ok-unit in
    let next = c.count_unit-count.ensures in
    let later : count.next < place_behind unit.unit = omega (arith, next.next, next.later) in record {
      come =
          rw (next.next, next.blocks, next.bytes) (
          comes_further c.args.form c.args.bytes.now c.args.first count.next count.blocks count.bytes c.loop-form.invariant.come unit.unit
          (sym c.is_open.ensures.gate ∙ c.loop-form-test.true) unit.ensures.unit later
          );
      from = next.first ∙ c.loop-form.invariant.from;
      blocks = next.still_blocks;
      bytes = next.still_bytes;
    }

pub returns-clause-counted : goal.returns-clause-counted
returns-clause-counted c =
    let count = c.loop-form.count in
    comes_to_end c.args.form c.args.bytes.now c.args.first count.next count.blocks count.bytes c.loop-form.invariant.come count c.loop-form.invariant.from refl refl refl
    (sym c.is_open.ensures.gate ∙ c.loop-form-test.false)
