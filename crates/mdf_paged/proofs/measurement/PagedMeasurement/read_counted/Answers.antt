use Rattle.std.proofs.Common.{Ok, sym, ◌∙◌, ap, rules}
use Rattle.std.proofs.lemmas.Result.{err_from_is_err_and}
use Rattle.mdf_content.specs.declared.wanted.Wanted.TheVariants as wants
use Rattle.mdf_model.proofs.Kepts.{whole_kept_is}
use Rattle.mdf_paged.proofs.Kepts.{kept_halts}
use Rattle.mdf_block.proofs.Readers.{says_of}
use Rattle.mdf_paged.proofs.measurement.PagedMeasurement.read_counted.Goals as goal

pub returns-in_err-all-clause-reads : goal.returns-in_err-all-clause-reads
returns-in_err-all-clause-reads g c = says_of (search rules) (λ f told.
    let p = err_from_is_err_and c.from_residual.result c.from_residual.ensures.1 in
    rw (p.1, p.2) (kept_halts wants.Values f _ (c.in_err-all.ensures.reads.found f told)))

pub returns-clause-reads : goal.returns-clause-reads
returns-clause-reads g c = says_of (search rules) (λ f told.
    sym (whole_kept_is wants.Values f) ∙ c.in_ok-all.ensures.reads.found f told ∙ ap Ok (sym c.in_ok-found.ensures))
