use Rattle.std.proofs.Common.{Err}
use Rattle.std.proofs.lemmas.Result.{err_from_is_err_and}
use Rattle.mdf_attach.proofs.Answering.{answer_stands, answer_few, answer_lacks}
use Rattle.mdf_attach.proofs.Reached.{all_or_memory}
use Rattle.mdf_attach.proofs.read.read_attachments.Goals as goal

pub returns-in_err-finalized_of-clause-complete : goal.returns-in_err-finalized_of-clause-complete
returns-in_err-finalized_of-clause-complete c =
    let p = err_from_is_err_and c.from_residual.result c.from_residual.ensures.1 in
    rw (p.1, p.2) (λ rows are few. all_or_memory c.args.bytes.now rows (Err c.in_err-finalized_of.field-0.0) c.in_err-finalized_of.ensures.exact are few)

pub returns-clause-found : goal.returns-clause-found
returns-clause-found c = answer_stands c.args.bytes.now c.in_ok-finalized_of.ensures.begins c.list_of.result c.list_of.ensures.exact

pub returns-clause-few : goal.returns-clause-few
returns-clause-few c = answer_few c.args.bytes.now c.in_ok-finalized_of.ensures.begins c.list_of.result c.list_of.ensures.exact

pub returns-clause-refused : goal.returns-clause-refused
returns-clause-refused c =
    answer_lacks c.args.bytes.now c.in_ok-finalized_of.ensures.begins c.list_of.result c.list_of.ensures.exact c.list_of.ensures.first

pub returns-clause-complete : goal.returns-clause-complete
returns-clause-complete c = λ rows are few.
    all_or_memory c.args.bytes.now rows c.list_of.result (rw c.in_ok-finalized_of.ensures.found c.list_of.ensures.exact) are few
