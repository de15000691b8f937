use Rattle.std.proofs.Common.{ap}
use Rattle.std.proofs.lemmas.Result.{err_from_is_err_and}
use Rattle.mdf_command.specs.Texts.{numbered}
use Rattle.mdf_command.proofs.Pieces.{gives_behind, gives_failed, gives_same}
use Rattle.mdf_log.specs.Report.{source_text}
use Rattle.mdf_log.proofs.text.give_log.Goals as goal

pub returns-in_err-give_sources-in-Closed : goal.returns-in_err-give_sources-in-Closed
returns-in_err-give_sources-in-Closed g c =
    let p = err_from_is_err_and c.from_residual.result c.from_residual.ensures.1 in
    rw (c.in-Closed.is, p.1)
    (gives_failed _ _ _ _ _ _ (gives_same _ _ _ _ _ (ap (numbered source_text 0) c.as_slice.ensures.value) c.in_err-give_sources-in-Closed.ensures))

pub returns-in_err-give_totals-in-Closed : goal.returns-in_err-give_totals-in-Closed
returns-in_err-give_totals-in-Closed g c =
    let p = err_from_is_err_and c.from_residual-in_err-give_totals-in-Closed.result c.from_residual-in_err-give_totals-in-Closed.ensures.1 in
    rw (c.in-Closed.is, p.1)
    (gives_behind _ _ _ _ _ _ (gives_same _ _ _ _ _ (ap (numbered source_text 0) c.as_slice.ensures.value) c.in_ok-give_sources-in-Closed.ensures).ok c.give_sources.ensures.cause.later
    (gives_failed _ _ _ _ _ _ c.in_err-give_totals-in-Closed.ensures))

pub returns-in_ok-give_totals-in-Closed : goal.returns-in_ok-give_totals-in-Closed
returns-in_ok-give_totals-in-Closed g c =
    rw (c.in-Closed.is)
    (gives_behind _ _ _ _ _ _ (gives_same _ _ _ _ _ (ap (numbered source_text 0) c.as_slice.ensures.value) c.in_ok-give_sources-in-Closed.ensures).ok c.give_sources.ensures.cause.later
    (gives_behind _ _ _ _ _ _ c.in_ok-give_totals-in-Closed.ensures.ok c.give_totals.ensures.cause.later c.give_rest.ensures))
