use Rattle.std.proofs.Common.{◌∷◌, [], sym}
use Rattle.std.proofs.lemmas.Result.{err_from_is_err_and}
use Rattle.mdf_command.proofs.Pieces.{gives_behind, gives_failed, gives_same, line-pieces}
use Rattle.mdf_command.proofs.report.give_in_parts.Goals as goal

pub returns-in_err-give_pieces : goal.returns-in_err-give_pieces
returns-in_err-give_pieces g c =
    let p = err_from_is_err_and c.from_residual.result c.from_residual.ensures.1 in
    rw (p.1) (gives_same _ _ _ _ _ (sym (line-pieces c.args.pieces.now))
    (gives_failed _ (10 ∷ []) _ _ _ _ (c.in_err-give_pieces.ensures)))

pub returns : goal.returns
returns g c = gives_same _ _ _ _ _ (sym (line-pieces c.args.pieces.now))
    (gives_behind _ _ _ _ _ _ (c.in_ok-give_pieces.ensures.ok) c.give_pieces.ensures.cause.later
    (record { ok = c.give_all.ensures.ok; err = c.give_all.ensures.err; cause = c.give_all.ensures.cause }))
