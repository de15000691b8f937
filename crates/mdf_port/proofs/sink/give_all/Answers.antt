use Rattle.std.proofs.Common.{take, drop, arith, length-drop, take-append-drop, ◌∙◌}
use Rattle.std.proofs.Math.Seq.{take-add}
use Rattle.std.proofs.lemmas.List.{take_rest}
use Rattle.std.proofs.lemmas.Result.{err_from_is_err_and}
use Rattle.mdf_port.proofs.Streams.{appends_more, keeps_behind}
use Rattle.mdf_port.proofs.sink.give_all.Goals as goal

pub returns-in_err-at-clause-err : goal.returns-in_err-at-clause-err
returns-in_err-at-clause-err g c =
    let p = err_from_is_err_and c.from_residual.result c.from_residual.ensures.1 in
    let bytes = c.args.bytes.now in
    rw p.1 (
      take c.loop-at.at bytes,
      (drop c.loop-at.at bytes, take-append-drop c.loop-at.at bytes),
      keeps_behind _ _ _ _ c.loop-at.invariant.given c.in_err-at.ensures.given,
    )

pub loop-at-preserved : goal.loop-at-preserved
loop-at-preserved g c =
    let bytes = c.args.bytes.now in
    let more = rw (take_rest bytes c.loop-at.at) at c.in_ok-at.ensures.given in
    let bound = rw (take_rest bytes c.loop-at.at) at c.in_ok-at.ensures.bound in record {
      within = omega (arith, bound, length-drop c.loop-at.at bytes);
      given = rw (take-add c.loop-at.at c.in_ok-at.field-0 bytes) (appends_more _ _ _ _ _ c.loop-at.invariant.given more);
      calm = c.in_ok-at.ensures.calm ∙ c.loop-at.invariant.calm;
    }
