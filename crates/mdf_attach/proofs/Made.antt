-- What is made of each attachment along the chain is made of each of the list.
use Rattle.std.proofs.Common.{◌≡◌, ◌+◌, ◌≤◌, ℕ, zero, suc, Bool, true, false, List, [], ◌∷◌, length, map, Ok, Err, refl, sym, ◌∙◌, ap}
use Rattle.std.proofs.lemmas.List.{map-id}
use Rattle.std.specs.Prelude.{if◌then◌else◌, nat_eq}
use Rattle.mdf_format.specs.Number.{bytes_at}
use Rattle.mdf_format.specs.Block.{link_at}
use Rattle.mdf_format.specs.declared.kind.Kind.TheVariants.{Hd}
use Rattle.mdf_block.specs.declared.what.What.TheVariants as whats
use Rattle.mdf_block.specs.declared.place.BlockAt.{BlockAt}
use Rattle.mdf_block.specs.Refusal.{TooMany, Read, ◌>>=◌}
use Rattle.mdf_block.specs.Block.{block}
use Rattle.mdf_block.specs.Chain.{chain}
use Rattle.mdf_attach.specs.declared.answer.Verdict.{Verdict}
use Rattle.mdf_attach.specs.declared.attachment.Attachment.{Attachment}
use Rattle.mdf_attach.specs.declared.budget.Budget.{Budget}
use Rattle.mdf_attach.specs.declared.entry.Entry.{Entry}
use Rattle.mdf_attach.specs.declared.field.Fields.{Fields}
use Rattle.mdf_attach.specs.declared.texts.Texts.{Texts}
use Rattle.mdf_attach.specs.Says.{verdict_of}
use Rattle.mdf_attach.specs.Listed.{attachment_with, attachment, whole, past, whole_budget, attachments_from, header_attachments}
use Rattle.mdf_attach.specs.Shown.{entry_of, each_of, header_made, made_behind, made_step}
use Rattle.mdf_attach.proofs.Fronts.{length-bytes}

-- what is listed, where the embedded data lies in the file
pub entry_is : (f : List ℕ) (at : ℕ) (fields : Fields) (words : Texts) (place : ℕ) (said : Verdict) → place + fields.embedded ≤ length f
    → said ≡ verdict_of fields.flags fields.md5 (bytes_at fields.embedded f place)
    → ◌≡◌ {A = Entry} (record { name = words.name; original = fields.original; embedded = fields.embedded; verdict = said })
    (entry_of (attachment_with at fields words (bytes_at fields.embedded f place)))
entry_is f at fields words place said within is =
    let long = length-bytes fields.embedded place f within in
    ap (λ (verdict : Verdict). record { name = words.name; original = fields.original; embedded = fields.embedded; verdict = verdict }) is
    ∙ ap (λ (n : ℕ). record {
      name = words.name;
      original = fields.original;
      embedded = n;
      verdict = verdict_of fields.flags fields.md5 (bytes_at fields.embedded f place);
    }) (sym long)

-- each attachment itself
pub each_itself : (read : Read (List Attachment)) → each_of (λ (row : Attachment). row) read ≡ read
each_itself (Ok rows) = ap {B = Read (List Attachment)} Ok (map-id rows)
each_itself (Err refusal) = refl

module _ {A : Type 0} (make : Attachment → A) (f : List ℕ) where
  -- of all that a chain gives
  abbrev all_made : List Attachment × ℕ × Budget → Read (List A × ℕ × Budget)
  all_made found = Ok (map make found.0, found.1, found.2)

  abbrev too_many : (B : Type 0) → ℕ → Read (BlockAt × Fields) → Read B
  too_many B at read = read >>= λ _. Err (TooMany whats.Block at)

  past_made : (read : Read (BlockAt × Fields)) (at : ℕ)
      → too_many (List A × ℕ × Budget) at read ≡ (too_many (List Attachment × ℕ × Budget) at read >>= all_made)
  past_made (Ok found) at = refl
  past_made (Err refusal) at = refl

  cons_made : (x : Attachment) (read : Read (List Attachment × ℕ × Budget))
      → ((read >>= all_made) >>= λ rest. Ok (make x ∷ rest.0, rest.1, rest.2))
      ≡ ((read >>= λ rest. Ok (x ∷ rest.0, rest.1, rest.2)) >>= all_made)
  cons_made x (Ok rest) = refl
  cons_made x (Err refusal) = refl

  -- or the end, where the link is 0
  either_made : (ends : Bool) (room : ℕ) (left : Budget) (made : Read (List A × ℕ × Budget)) (read : Read (List Attachment × ℕ × Budget))
      → made ≡ (read >>= all_made)
      → (if ends then Ok ([], room, left) else made) ≡ ((if ends then Ok ([], room, left) else read) >>= all_made)
  either_made true room left made read is = refl
  either_made false room left made read is = is

  step_made : (read : Read (Attachment × ℕ × Budget)) (rest : ℕ → Budget → Read (List Attachment × ℕ × Budget))
      (made : ℕ → Budget → Read (List A × ℕ × Budget)) → ((at : ℕ) (left : Budget) → made at left ≡ (rest at left >>= all_made))
      → ((read >>= made_behind make) >>= λ found. made found.1 found.2 >>= λ more. Ok (found.0 ∷ more.0, more.1, more.2))
      ≡ ((read >>= λ found. rest found.1 found.2 >>= λ more. Ok (found.0 ∷ more.0, more.1, more.2)) >>= all_made)
  step_made (Ok found) rest made same =
      ap (λ (read : Read (List A × ℕ × Budget)). read >>= λ more. Ok (make found.0 ∷ more.0, more.1, more.2)) (same found.1 found.2)
      ∙ cons_made found.0 (rest found.1 found.2)
  step_made (Err refusal) rest made same = refl

  chain_made : (room at : ℕ) (left : Budget)
      → chain (made_step make f) (past f) room at left ≡ (chain (attachment f) (past f) room at left >>= all_made)
  unfolding chain made_step past
  chain_made zero at left = either_made (nat_eq at 0) 0 left _ _ (past_made (whole f at) at)
  chain_made (suc room) at left =
      either_made (nat_eq at 0) (suc room) left _ _
      (step_made (attachment f at left) (chain (attachment f) (past f) room) (chain (made_step make f) (past f) room) (chain_made room))

  firsts_made : (read : Read (List Attachment × ℕ × Budget))
      → ((read >>= all_made) >>= λ rows. Ok rows.0) ≡ each_of make (read >>= λ rows. Ok rows.0)
  firsts_made (Ok found) = refl
  firsts_made (Err refusal) = refl

  behind_made : (read : Read BlockAt) (next : BlockAt → ℕ)
      → (read >>= λ b. chain (made_step make f) (past f) 65535 (next b) whole_budget >>= λ rows. Ok rows.0)
      ≡ each_of make (read >>= λ b. attachments_from f (next b) >>= λ rows. Ok rows.0)
  behind_made (Ok b) next =
      ap (λ (read : Read (List A × ℕ × Budget)). read >>= λ rows. Ok rows.0) (chain_made 65535 (next b) whole_budget)
      ∙ firsts_made (attachments_from f (next b))
  behind_made (Err refusal) next = refl

  -- of those that the header names
  pub header_made_is : header_made make f ≡ each_of make (header_attachments f)
  unfolding header_made header_attachments
  header_made_is = behind_made (block f 64 Hd) (λ b. link_at f b.at 3)
