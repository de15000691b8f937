use Rattle.std.proofs.Common.{Ok, sym, ◌∙◌, ap}
use Rattle.std.proofs.lemmas.Result.{err_from_is_err_and}
use Rattle.mdf_block.specs.Refusal.{Read}
use Rattle.mdf_model.specs.declared.whole.WholeFound.{WholeFound}
use Rattle.mdf_model.specs.Measurement.{measured_from, Measured}
use Rattle.mdf_paged.proofs.Measures.{seen_ok, seen_err}
use Rattle.mdf_paged.proofs.measurement.PagedMeasurement.read.Goals as goal

pub returns-in_err-all-clause-measured : goal.returns-in_err-all-clause-measured
returns-in_err-all-clause-measured g c = λ f told.
    let p = err_from_is_err_and c.from_residual.result c.from_residual.ensures.1 in
    rw (p.1, p.2) (seen_err f _ (c.in_err-all.ensures.reads.found f told))

pub returns-clause-measured : goal.returns-clause-measured
returns-clause-measured g c = λ f told.
    seen_ok f _ (c.in_ok-all.ensures.reads.found f told)
    ∙ ap {B = Read Measured} (λ (all : WholeFound). Ok (measured_from f all)) (sym c.in_ok-found.ensures)
