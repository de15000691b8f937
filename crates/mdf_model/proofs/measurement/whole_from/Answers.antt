use Rattle.std.proofs.Common.{rules, ◌≡◌, List, Ok, sym, ◌∙◌, ap, subst}
use Rattle.mdf_block.specs.Refusal.{GivesOf, Read, ◌>>=◌}
use Rattle.mdf_content.specs.declared.contents.DataContents.{DataContents}
use Rattle.mdf_content.specs.Fault.{read_refusal}
use Rattle.mdf_model.specs.declared.whole.Whole.{Whole}
use Rattle.mdf_model.specs.declared.whole.WholeFound.{WholeFound}
use Rattle.mdf_model.specs.Found.{whole_found}
use Rattle.mdf_model.proofs.Fetches.{fetched_of, whole_is}
use Rattle.mdf_model.proofs.Identified.{found_first}
use Rattle.mdf_model.proofs.Wholes.{whole_samples}
use Rattle.mdf_model.proofs.measurement.whole_from.Goals as goal

pub returns-in_err-ident-clause-exact : goal.returns-in_err-ident-clause-exact
returns-in_err-ident-clause-exact c =
    let refused : GivesOf read_refusal c.from_residual.result (whole_found c.args.file >>= fetched_of c.args.file) = search rules in
    subst (GivesOf read_refusal c.from_residual.result) (sym (whole_is c.args.file)) refused

pub returns-in-Ok-clause-exact : goal.returns-in-Ok-clause-exact
returns-in-Ok-clause-exact c =
    let all = c.in_ok-ident.field-0 in
    let made : List DataContents → Read Whole = λ contents. Ok (record { ident = all.ident; tree = all.tree; contents = contents }) in
    let found : whole_found c.args.file ≡ Ok all = search rules in
    whole_is c.args.file
    ∙ ap (λ (found : Read WholeFound). found >>= fetched_of c.args.file) found
    ∙ ap made (sym c.in-Ok.ensures)

pub returns-in-Ok-clause-samples : goal.returns-in-Ok-clause-samples
returns-in-Ok-clause-samples c = whole_samples c.args.file _ (returns-in-Ok-clause-exact c)

pub returns-in-Err-clause-first : goal.returns-in-Err-clause-first
returns-in-Err-clause-first c =
    let found : whole_found c.args.file ≡ Ok c.in_ok-ident.field-0 = search rules in
    found_first c.args.file c.in_ok-ident.field-0 found
