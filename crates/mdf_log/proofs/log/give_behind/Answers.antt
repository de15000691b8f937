use Rattle.std.proofs.Common.{subst}
use Rattle.std.proofs.lemmas.Result.{err_from_is_err_and}
use Rattle.mdf_port.specs.State.{sink_state}
use Rattle.mdf_command.specs.Texts.{Gives}
use Rattle.mdf_command.proofs.Pieces.{gives_failed}
use Rattle.mdf_log.proofs.Letting.{gives_on}
use Rattle.mdf_log.proofs.log.give_behind.Goals as goal

pub returns-in_err-given : goal.returns-in_err-given
returns-in_err-given g c = λ before first gives.
    let p = err_from_is_err_and c.from_residual.result c.from_residual.ensures.1 in
    rw (p.1) (gives_failed _ _ _ _ _ _ (subst (Gives before first (sink_state g.E.Sink c.args.sink.now)) c.in_err-given.was gives))

pub returns : goal.returns
returns g c = λ before first gives. gives_on _ _ _ _ _ _ _ _ c.in_ok-given.was gives c.give_log.ensures
