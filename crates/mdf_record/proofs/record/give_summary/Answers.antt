use Rattle.std.proofs.lemmas.Result.{err_from_is_err_and}
use Rattle.mdf_command.proofs.Pieces.{gives_behind, gives_failed}
use Rattle.mdf_record.proofs.record.give_summary.Goals as goal

pub returns-in_err-give_sources : goal.returns-in_err-give_sources
returns-in_err-give_sources g c =
    let p = err_from_is_err_and c.from_residual.result c.from_residual.ensures.1 in
    rw (p.1) (gives_failed _ _ _ _ _ _ c.in_err-give_sources.ensures)

pub returns : goal.returns
returns g c = gives_behind _ _ _ _ _ _ c.in_ok-give_sources.ensures.ok c.give_sources.ensures.cause.later c.give_totals.ensures
