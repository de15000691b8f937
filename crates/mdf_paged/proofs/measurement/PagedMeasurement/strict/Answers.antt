use Rattle.std.proofs.Common.{Bool, ◌∙◌, ap}
use Rattle.std.specs.Prelude.{nat_eq, ◌&&◌}
use Rattle.mdf_content.specs.declared.found.DataFound.{DataFound}
use Rattle.mdf_model.specs.Measurement.{are_strict}
use Rattle.mdf_paged.specs.Groups.{is_strict}
use Rattle.mdf_paged.proofs.Measures.{strict_fetched}
use Rattle.mdf_paged.proofs.measurement.PagedMeasurement.strict.Goals as goal

pub returns-clause-measured : goal.returns-clause-measured
returns-clause-measured c = λ f.
    let all = c.args.self.now in
    c.are_strict.ensures
    ∙ ap (are_strict (λ (one : DataFound). one.strict) c.self.inside.all.ident) c.as_slice.ensures
    ∙ ap is_strict c.self.view_is
    ∙ ap (λ (b : Bool). nat_eq all.ident.std_flags 0 && (nat_eq all.ident.custom_flags 0 && b)) (strict_fetched f all.found)
