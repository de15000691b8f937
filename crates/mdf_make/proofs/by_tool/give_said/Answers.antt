use Rattle.std.proofs.lemmas.Result.{err_from_is_err_and}
use Rattle.mdf_command.proofs.Pieces.{gives_behind, gives_failed}
use Rattle.mdf_make.specs.Making.{rest_line}
use Rattle.mdf_make.proofs.by_tool.give_said.Goals as goal

pub returns-in_err-give_report : goal.returns-in_err-give_report
returns-in_err-give_report g c =
    let p = err_from_is_err_and c.from_residual.result c.from_residual.ensures.1 in
    rw (p.1) (gives_failed _ (rest_line c.args.said.now.rest) _ _ _ _ c.in_err-give_report.ensures)

pub returns : goal.returns
returns g c = gives_behind _ _ _ _ _ _ c.in_ok-give_report.ensures.ok c.give_report.ensures.cause.later c.give_rest.ensures
