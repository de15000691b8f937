-- What is read of a file of bytes can be written.
use Rattle.std.proofs.Common.{◌≡◌, ◌≢◌, ◌+◌, ℕ, List, [], ◌∷◌, length, Ok, Err, refl, sym, subst, arith}
use Rattle.std.specs.Prelude.{Result, IfOk}
use Rattle.std.specs.List.{AllByRecursion}
use Rattle.mdf_format.specs.Block.{links_at, header_size, body_at, body_size}
use Rattle.mdf_attach.specs.declared.attachment.Attachment.{Attachment}
use Rattle.mdf_attach.specs.declared.fault.AttachFault.{AttachFault}
use Rattle.mdf_attach.specs.declared.fault.AttachFault.TheVariants as attach
use Rattle.mdf_attach.specs.Listed.{attachments, IsFirst}
use Rattle.mdf_attach.specs.Stands.{embedded_size, IsAttachment, AreAttachments, AreFew}
use Rattle.mdf_attach.specs.Lacks.{AreRefused, LacksAttachments}
use Rattle.mdf_attach.proofs.Fronts.{length-bytes}
use Rattle.mdf_spell.specs.Standing.{AreBytes}
use Rattle.mdf_spell.proofs.Cleans.{below16, below64, body_bytes, note_clean}
use Rattle.tool_attach.specs.Attached.{IsAttachmentWritable}
use Rattle.tool_attach.specs.Making.{AreTaken}

attachment_clean : (file : List ℕ) → AreBytes file → (row : Attachment) → IsAttachment file row → IsAttachmentWritable row
attachment_clean file are row is =
    let at = row.at in
    let body = body_at file at in
    let bytes = body_bytes file at are in
    let block = is.whole.block in
    let embedded = embedded_size file at in
    let long : length body ≡ body_size file at =
    length-bytes (body_size file at) (at + header_size (links_at file at)) file (omega (arith, block.headed, block.whole)) in
    let small = below64 body 32 bytes in
    let size = length-bytes embedded 40 body (omega (arith, long, is.whole.holds)) in
    subst (λ (a : Attachment). IsAttachmentWritable a) (sym is.fields) (record {
      flags = below16 body 0 bytes;
      creator = below16 body 2 bytes;
      md5 = length-bytes 16 8 body (omega (arith, long, is.whole.holds));
      original = below64 body 24 bytes;
      size = omega (arith, size, small);
      name = note_clean file _ row.name is.name;
      mime = note_clean file _ row.mime is.mime;
      comment = note_clean file _ row.comment is.comment;
    })

attachments_clean : (file : List ℕ) → AreBytes file → (rows : List Attachment) → AllByRecursion (IsAttachment file) rows
    → AllByRecursion IsAttachmentWritable rows
attachments_clean file are [] each = tt
attachments_clean file are (row ∷ rows) each = (attachment_clean file are row each.0, attachments_clean file are rows each.1)

pub are_taken : (file : List ℕ) (result : Result (List Attachment) AttachFault) → AreBytes file → IfOk result (AreAttachments file) → IfOk result AreFew
    → IfOk result (AreTaken file)
are_taken file (Ok rows) are all few = record { attached = all; few = few; writable = attachments_clean file are rows all.each }
are_taken file (Err fault) are all few = tt

-- a fault that is not want of memory refuses them
pub refused_is : (file : List ℕ) (fault : AttachFault) → fault ≢ attach.Memory → IsFirst fault (attachments file) → LacksAttachments file fault
    → AreRefused file fault
refused_is file attach.NotMdf some first lacks = (first, lacks)
refused_is file (attach.Version ver) some first lacks = (first, lacks)
refused_is file (attach.Unfinalized std custom) some first lacks = (first, lacks)
refused_is file (attach.Bad at want) some first lacks = (first, lacks)
refused_is file (attach.TooMany at) some first lacks = (first, lacks)
refused_is file attach.Memory some first lacks = absurd (some refl)
