-- What is answered behind the identification says what the attachments are, or why there are none.
use Rattle.std.proofs.Common.{◌≡◌, ℕ, List, Result, Ok, Err}
use Rattle.std.specs.Prelude.{IfOk, IfErr}
use Rattle.mdf_format.specs.Block.{IsBlock}
use Rattle.mdf_format.specs.declared.kind.Kind.TheVariants.{Hd}
use Rattle.mdf_attach.specs.declared.attachment.Attachment.{Attachment}
use Rattle.mdf_attach.specs.declared.fault.AttachFault.{AttachFault}
use Rattle.mdf_attach.specs.declared.fault.AttachFault.TheVariants as faults
use Rattle.mdf_attach.specs.Listed.{header_attachments, GivesList}
use Rattle.mdf_attach.specs.Stands.{BeginsFinalized, AreAttachments, AreFew}
use Rattle.mdf_attach.specs.Lacks.{LacksAttachments}
use Rattle.mdf_attach.proofs.Found.{header_found}
use Rattle.mdf_attach.proofs.Lacking.{fault_lacks}

module _ (f : List ℕ) (begins : BeginsFinalized f) where
  pub answer_stands : (answer : Result (List Attachment) AttachFault) → GivesList answer (header_attachments f) → IfOk answer (AreAttachments f)
  answer_stands (Ok rows) exact =
      let all = header_found f rows exact in record { begins = begins; header = all.header; chain = all.chain; each = all.each }
  answer_stands (Err fault) exact = tt

  pub answer_few : (answer : Result (List Attachment) AttachFault) → GivesList answer (header_attachments f) → IfOk answer AreFew
  answer_few (Ok rows) exact = (header_found f rows exact).few
  answer_few (Err fault) exact = tt

  pub answer_lacks : (answer : Result (List Attachment) AttachFault) → GivesList answer (header_attachments f)
      → IfErr answer (λ fault. fault ≡ faults.Memory → IsBlock f 64 Hd) → IfErr answer (LacksAttachments f)
  answer_lacks (Ok rows) exact first = tt
  answer_lacks (Err fault) exact first = fault_lacks f fault begins exact first
