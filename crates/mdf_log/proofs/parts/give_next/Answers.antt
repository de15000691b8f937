use Rattle.std.proofs.Common.{subst}
use Rattle.std.proofs.lemmas.Result.{err_from_is_err_and}
use Rattle.mdf_command.specs.Texts.{Gives}
use Rattle.mdf_command.proofs.Pieces.{gives_behind, gives_failed}
use Rattle.mdf_log.proofs.parts.give_next.Goals as goal

pub returns-in_err-given : goal.returns-in_err-given
returns-in_err-given g c = λ before first gives.
    let p = err_from_is_err_and c.from_residual.result c.from_residual.ensures.1 in
    rw (p.1) (gives_failed before _ first _ _ _ (subst (Gives before first _) c.in_err-given.was gives))

pub returns : goal.returns
returns g c = λ before first gives.
    let so_far = subst (Gives before first _) c.in_ok-given.was gives in
    gives_behind before _ first _ _ c.give_part.result so_far.ok so_far.cause.later c.give_part.ensures
