use Rattle.std.proofs.Common.{◌++◌, sym, arith}
use Rattle.std.proofs.lemmas.Result.{err_from_is_err_and}
use Rattle.std.specs.List.{flat_map}
use Rattle.mdf_command.specs.Texts.{shown}
use Rattle.mdf_command.proofs.Pieces.{gives_behind, gives_failed, gives_same, shown_around, shown_more, split_more}
use Rattle.mdf_command.proofs.report.give_shown.Goals as goal

pub returns-in_err-give_part : goal.returns-in_err-give_part
returns-in_err-give_part g c =
    let p = err_from_is_err_and c.from_residual.result c.from_residual.ensures.1 in
    let (done, split, gave) = c.loop-rest.invariant.given in
    let around = shown_around _ done _ _ _ _ split c.split_at.ensures.front c.split_at.ensures.back in
    rw (p.1) (gives_same _ _ _ _ _ (sym around) (gives_behind _ _ _ _ _ _ gave c.loop-rest.invariant.later
    (gives_failed _ (flat_map shown c.split_at.result.1.now) _ _ _ _ c.in_err-give_part.ensures)))

pub loop-rest-preserved : goal.loop-rest-preserved
loop-rest-preserved g c =
    let (done, split, gave) = c.loop-rest.invariant.given in
    record {
      given = (
        done ++ c.split_at.result.0.now,
        split_more _ done _ _ _ _ split c.split_at.ensures.front c.split_at.ensures.back,
        shown_more done c.split_at.result.0.now _ _ _ gave c.in_ok-give_part.ensures.ok,
      );
      later = omega (arith, c.loop-rest.invariant.later, c.give_part.ensures.cause.later);
    }
