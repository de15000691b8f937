use Rattle.std.proofs.Common.{rules, List, Ok, sym, ◌∙◌, ap, subst}
use Rattle.mdf_block.specs.Refusal.{Gives, Read, ◌>>=◌}
use Rattle.mdf_block.proofs.Refusals.{hides_none}
use Rattle.mdf_content.specs.declared.contents.DataContents.{DataContents}
use Rattle.mdf_content.specs.Fault.{read_refusal}
use Rattle.mdf_model.specs.declared.whole.Whole.{Whole}
use Rattle.mdf_model.specs.declared.whole.WholeFound.{WholeFound}
use Rattle.mdf_model.specs.Found.{whole_found}
use Rattle.mdf_model.proofs.Fetches.{fetched_of, whole_is}
use Rattle.mdf_model.proofs.Identified.{found_first}
use Rattle.mdf_model.proofs.Wholes.{whole_samples}
use Rattle.mdf_block.proofs.Readers.{says_of}
use Rattle.mdf_model.proofs.whole.whole_in.Goals as goal

pub returns-in_err-ident-clause-reads : goal.returns-in_err-ident-clause-reads
returns-in_err-ident-clause-reads g c = says_of (search rules) (λ f told.
    let halted : Gives read_refusal c.from_residual.result (whole_found f >>= fetched_of f) = search rules in
    subst (Gives read_refusal c.from_residual.result) (sym (whole_is f)) halted)

pub returns-in_err-contents-clause-first : goal.returns-in_err-contents-clause-first
returns-in_err-contents-clause-first g c = λ f told.
    hides_none _ _ _ _ (found_first f c.in_ok-ident.field-0 (c.in_ok-ident.ensures.reads.found f told)).1

pub returns-clause-reads : goal.returns-clause-reads
returns-clause-reads g c = says_of (search rules) (λ f told.
    let all = c.in_ok-ident.field-0 in
    let made : List DataContents → Read Whole = λ contents. Ok (record { ident = all.ident; tree = all.tree; contents = contents }) in
    whole_is f
    ∙ ap (λ (found : Read WholeFound). found >>= fetched_of f) (c.in_ok-ident.ensures.reads.found f told)
    ∙ ap made (sym (c.in_ok-contents.ensures.reads.seen f (c.in_ok-ident.ensures.reads.same ∙ told))))

pub returns-clause-samples : goal.returns-clause-samples
returns-clause-samples g c = λ f told. whole_samples f _ ((returns-clause-reads g c).found f told)
