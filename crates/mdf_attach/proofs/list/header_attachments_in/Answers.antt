use Rattle.std.proofs.Common.{◌∙◌, subst, rules}
use Rattle.mdf_block.specs.Refusal.{Gives}
use Rattle.mdf_block.proofs.Readers.{says_of}
use Rattle.mdf_attach.specs.declared.attachment.Attachment.{Attachment}
use Rattle.mdf_attach.specs.Listed.{header_attachments, list_refusal}
use Rattle.mdf_attach.proofs.Made.{each_itself, header_made_is}
use Rattle.mdf_attach.proofs.list.header_attachments_in.Goals as goal

pub returns-clause-reads : goal.returns-clause-reads
returns-clause-reads g c = says_of (search rules) (λ f told.
    subst (Gives list_refusal c.header_made_in.result) (header_made_is (λ (row : Attachment). row) f ∙ each_itself (header_attachments f))
    (c.header_made_in.ensures.reads.found f told))
