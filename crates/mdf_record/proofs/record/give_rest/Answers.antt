use Rattle.std.proofs.lemmas.Result.{err_from_is_err_and}
use Rattle.mdf_command.proofs.Pieces.{gives_behind, gives_failed}
use Rattle.mdf_record.proofs.record.give_rest.Goals as goal

pub returns-in_err-give_live : goal.returns-in_err-give_live
returns-in_err-give_live g c =
    let p = err_from_is_err_and c.from_residual.result c.from_residual.ensures.1 in
    rw (p.1) (gives_failed _ _ _ _ _ _ c.in_err-give_live.ensures)

pub returns : goal.returns
returns g c = gives_behind _ _ _ _ _ _ c.in_ok-give_live.ensures.ok c.give_live.ensures.cause.later c.give_fault.ensures
