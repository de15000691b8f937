use Rattle.std.proofs.Common.{ap}
use Rattle.std.specs.Prelude.{codes}
use Rattle.std.proofs.lemmas.Result.{err_from_is_err_and}
use Rattle.mdf_command.proofs.Pieces.{gives_behind, gives_failed, gives_same}
use Rattle.mdf_log.specs.Report.{word_line}
use Rattle.mdf_log.proofs.text.give_source.Goals as goal

pub returns-in_err-give_accepted : goal.returns-in_err-give_accepted
returns-in_err-give_accepted g c =
    let p = err_from_is_err_and c.from_residual.result c.from_residual.ensures.1 in
    rw (p.1) (gives_failed _ _ _ _ _ _ c.in_err-give_accepted.ensures)

pub returns-in_err-give_bad : goal.returns-in_err-give_bad
returns-in_err-give_bad g c =
    let p = err_from_is_err_and c.from_residual-in_err-give_bad.result c.from_residual-in_err-give_bad.ensures.1 in
    rw (p.1) (gives_behind _ _ _ _ _ _ c.in_ok-give_accepted.ensures.ok c.give_accepted.ensures.cause.later
    (gives_failed _ _ _ _ _ _ c.in_err-give_bad.ensures))

pub returns-in_err-give_word : goal.returns-in_err-give_word
returns-in_err-give_word g c =
    let p = err_from_is_err_and c.from_residual-in_err-give_word.result c.from_residual-in_err-give_word.ensures.1 in
    rw (p.1) (gives_behind _ _ _ _ _ _ c.in_ok-give_accepted.ensures.ok c.give_accepted.ensures.cause.later
    (gives_behind _ _ _ _ _ _ c.in_ok-give_bad.ensures.ok c.give_bad.ensures.cause.later
    (gives_failed _ _ _ _ _ _ (gives_same _ _ _ _ _ (ap (word_line c.args.source (codes " failed")) c.has_failed.ensures) c.in_err-give_word.ensures))))

pub returns : goal.returns
returns g c =
    gives_behind _ _ _ _ _ _ c.in_ok-give_accepted.ensures.ok c.give_accepted.ensures.cause.later
    (gives_behind _ _ _ _ _ _ c.in_ok-give_bad.ensures.ok c.give_bad.ensures.cause.later
    (gives_behind _ _ _ _ _ _ (gives_same _ _ _ _ _ (ap (word_line c.args.source (codes " failed")) c.has_failed.ensures) c.in_ok-give_word.ensures).ok c.give_word.ensures.cause.later
    (gives_same _ _ _ _ _ (ap (word_line c.args.source (codes " cut")) c.is_cut.ensures) c.give_word-2.ensures)))
