use Rattle.std.proofs.Common.{◌≡◌, take, ◌++◌, length, ◌∙◌, ap, arith, length-append}
use Rattle.std.proofs.lemmas.List.{length-take}
use Rattle.std.proofs.lemmas.Result.{err_from_is_err_and}
use Rattle.mdf_port.proofs.Streams.{consumes_more}
use Rattle.mdf_port.proofs.source.take_all.Goals as goal

pub returns-then-count-limit-clause-front : goal.returns-then-count-limit-clause-front
returns-then-count-limit-clause-front g c = (
  c.taking.all ++ take c.in_ok-count.count c.take.new.buf,
  consumes_more _ _ _ _ _ c.taking.invariant.taken c.in_ok-count.ensures.taken.0,
)

pub returns-in_err-push_slice-clause-front : goal.returns-in_err-push_slice-clause-front
returns-in_err-push_slice-clause-front g c =
    let p = err_from_is_err_and c.from_residual-in_err-push_slice.result c.from_residual-in_err-push_slice.ensures.1 in
    rw p.1 (
      c.taking.all ++ take c.in_ok-count.count c.take.new.buf,
      consumes_more _ _ _ _ _ c.taking.invariant.taken c.in_ok-count.ensures.taken.0,
    )

pub returns-in_err-push_slice-clause-cause : goal.returns-in_err-push_slice-clause-cause
returns-in_err-push_slice-clause-cause g c =
    let p = err_from_is_err_and c.from_residual-in_err-push_slice.result c.from_residual-in_err-push_slice.ensures.1 in
    let all = c.taking.all in
    let part = take c.in_ok-count.count c.take.new.buf in
    let so_far : c.as_slice.result.now ≡ all = c.as_slice.ensures in
    rw (p.1, p.2) (
      (
        all ++ part,
        consumes_more _ _ _ _ _ c.taking.invariant.taken c.in_ok-count.ensures.taken.0,
        omega (
          arith,
          length-append all part,
          length-take c.in_ok-count.count c.take.new.buf,
          ap length so_far,
          c.taking.invariant.short,
          c.if-count-limit.false,
        ),
      ),
      c.in_ok-count.ensures.calm ∙ c.taking.invariant.calm,
    )
