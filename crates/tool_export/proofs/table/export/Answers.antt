use Rattle.std.proofs.Common.{refl}
use Rattle.std.proofs.lemmas.Result.{err_from_is_err_and}
use Rattle.mdf_content.specs.Fault.{read_refusal}
use Rattle.tool_export.proofs.Ends.{read_ends}
use Rattle.tool_export.proofs.table.export.Goals as goal

pub returns-in_err-found-clause-ends : goal.returns-in_err-found-clause-ends
returns-in_err-found-clause-ends g c =
    let p = err_from_is_err_and c.from_residual.result c.from_residual.ensures.1 in
    let fault = c.in_err-found.field-0.0 in
    rw (p.1, p.2) (read_ends c.args.file c.args.group _ fault (read_refusal fault) refl c.in_err-found.ensures.exact c.in_err-found.ensures.first)

pub returns-clause-ends : goal.returns-clause-ends
returns-clause-ends g c = c.give_numbered.ensures.ends c.args.file c.in_ok-found.ensures.exact c.in_ok-found.ensures.measurement
