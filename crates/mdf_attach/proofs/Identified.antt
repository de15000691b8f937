-- The identification, and what is answered by it.
use Rattle.std.proofs.Common.{◌≡◌, ℕ, true, false, List, codes, Ok, Err, refl, ◌∙◌, ap}
use Rattle.std.proofs.lemmas.Bool.{cond-true, cond-false}
use Rattle.std.proofs.lemmas.Slice.Eq.{bytes_eq-Decides}
use Rattle.mdf_format.specs.Number.{bytes_at}
use Rattle.mdf_block.specs.Refusal.{Refusal, Unfinalized, Read, ◌>>=◌}
use Rattle.mdf_head.specs.declared.identity.Ident.{Ident}
use Rattle.mdf_head.specs.Ident.{IsIdent, the_ident, identify}
use Rattle.mdf_head.proofs.Identities.{identified}
use Rattle.mdf_attach.specs.declared.attachment.Attachment.{Attachment}
use Rattle.mdf_attach.specs.Listed.{attachments_by, header_attachments, attachments}
use Rattle.mdf_attach.specs.Stands.{BeginsFinalized}

abbrev behind : List ℕ → Read Ident → Read (List Attachment)
behind f read = read >>= attachments_by f

module _ (f : List ℕ) (id : Ident) (is : identify f ≡ Ok id) where
  pub finalized_is : id.finalized ≡ true → attachments f ≡ header_attachments f
  unfolding attachments
  finalized_is closed = ap (behind f) is ∙ cond-true id.finalized _ _ closed

  pub unfinalized_is : id.finalized ≡ false → attachments f ≡ Err (Unfinalized id.std_flags id.custom_flags)
  unfolding attachments
  unfinalized_is open_file = ap (behind f) is ∙ cond-false id.finalized _ _ open_file

pub none_is : (f : List ℕ) (refusal : Refusal) → identify f ≡ Err refusal → attachments f ≡ Err refusal
unfolding attachments
none_is f refusal is = ap (behind f) is

-- a file that begins as a finalized one
pub begins_finalized : (f : List ℕ) → BeginsFinalized f → attachments f ≡ header_attachments f
begins_finalized f is =
    let id = the_ident f in
    let marked = bytes_eq-Decides (bytes_at 8 f 0) (codes "MDF     ") in
    let is_id : IsIdent f id = record { finalized = marked; ver = refl; std_flags = refl; custom_flags = refl } in
    finalized_is f id (identified f (Ok id) (is.mdf, is.version) is_id tt) (marked.1 is.finalized)
