use Rattle.std.proofs.Common.{◌++◌, ap}
use Rattle.std.proofs.lemmas.Result.{err_from_is_err_and}
use Rattle.mdf_record.specs.Record.{fault_text, live_text, summary_text}
use Rattle.mdf_command.proofs.Pieces.{gives_behind, gives_failed, gives_same}
use Rattle.mdf_record.proofs.record.give_end.Goals as goal

pub returns-in_err-give_summary-in-Closed : goal.returns-in_err-give_summary-in-Closed
returns-in_err-give_summary-in-Closed g c =
    let p = err_from_is_err_and c.from_residual.result c.from_residual.ensures.1 in
    rw (c.in-Closed.is, p.1) (gives_same _ _ _ _ _ (ap (λ xs. summary_text xs c.in-Closed.samples c.in-Closed.durable ++ (live_text c.in-Closed.live ++ fault_text c.in-Closed.fault)) c.rest.ensures) (gives_failed _ _ _ _ _ _ c.in_err-give_summary-in-Closed.ensures))

pub returns-in_ok-give_summary-in-Closed : goal.returns-in_ok-give_summary-in-Closed
returns-in_ok-give_summary-in-Closed g c =
    rw (c.in-Closed.is) (gives_same _ _ _ _ _ (ap (λ xs. summary_text xs c.in-Closed.samples c.in-Closed.durable ++ (live_text c.in-Closed.live ++ fault_text c.in-Closed.fault)) c.rest.ensures) (gives_behind _ _ _ _ _ _ c.in_ok-give_summary-in-Closed.ensures.ok c.give_summary.ensures.cause.later c.give_rest.ensures))
