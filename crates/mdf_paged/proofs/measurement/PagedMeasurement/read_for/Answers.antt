use Rattle.std.proofs.Common.{Ok, sym, ◌∙◌, ap, rules}
use Rattle.std.proofs.lemmas.Result.{err_from_is_err_and}
use Rattle.mdf_model.specs.Kept.{wanted_for}
use Rattle.mdf_model.proofs.Kepts.{whole_by_is}
use Rattle.mdf_paged.proofs.Kepts.{kept_by_halts}
use Rattle.mdf_block.proofs.Readers.{says_of}
use Rattle.mdf_paged.proofs.measurement.PagedMeasurement.read_for.Goals as goal

pub returns-in_err-all-clause-reads : goal.returns-in_err-all-clause-reads
returns-in_err-all-clause-reads g c = says_of (search rules) (λ f told.
    let p = err_from_is_err_and c.from_residual.result c.from_residual.ensures.1 in
    rw (p.1, p.2) (kept_by_halts (wanted_for c.args.group) f _ (c.in_err-all.ensures.reads.found f told)))

pub returns-clause-reads : goal.returns-clause-reads
returns-clause-reads g c = says_of (search rules) (λ f told.
    sym (whole_by_is (wanted_for c.args.group) f) ∙ c.in_ok-all.ensures.reads.found f told ∙ ap Ok (sym c.in_ok-found.ensures))
