-- What is found along the chain stands in the file, and what may still come falls by it.
use Rattle.std.proofs.Common.{◌≡◌, ◌+◌, ◌-◌, ◌≤◌, ℕ, List, length, map, Ok, Err, refl, sym, ◌∙◌, ap, subst, inl, inr, arith}
use Rattle.std.proofs.lemmas.Bool.{leb-true}
use Rattle.std.specs.Prelude.{nat_le}
use Rattle.std.specs.List.{AllByRecursion}
use Rattle.mdf_format.specs.Number.{bytes_at}
use Rattle.mdf_format.specs.Block.{link_at, links_at, header_size, body_at, body_size, IsBlock, IsChain}
use Rattle.mdf_format.specs.declared.kind.Kind.TheVariants.{Hd, At}
use Rattle.mdf_block.specs.declared.what.What.TheVariants as whats
use Rattle.mdf_block.specs.declared.place.BlockAt.{BlockAt}
use Rattle.mdf_block.specs.Refusal.{Bad, TooMany, Read}
use Rattle.mdf_block.specs.Block.{block, body_of, the_block}
use Rattle.mdf_block.specs.Text.{note, note_size, IsNote}
use Rattle.mdf_block.proofs.Refusals.{bind_ok}
use Rattle.mdf_block.proofs.Wholes.{chosen, block_found}
use Rattle.mdf_block.proofs.Notes.{note_found}
use Rattle.mdf_block.proofs.Parts.{bytes_at-bytes_at}
use Rattle.mdf_block.proofs.Chains.{Follows, chain_found, chain_each, chain_spends}
use Rattle.mdf_head.proofs.Heads.{ok_is}
use Rattle.mdf_attach.specs.declared.attachment.Attachment.{Attachment}
use Rattle.mdf_attach.specs.declared.budget.Budget.{Budget}
use Rattle.mdf_attach.specs.declared.field.Fields.{Fields}
use Rattle.mdf_attach.specs.declared.texts.Texts.{Texts}
use Rattle.mdf_attach.specs.Listed.{fields_of, attachment_with, held, whole, texts, spent, attachment_of_block, attachment, past, whole_budget, attachments_from, header_attachments}
use Rattle.mdf_attach.specs.Stands.{embedded_size, IsWhole, IsAttachment, text_size, AreFew}
use Rattle.mdf_attach.proofs.Fronts.{body_is, length-bytes}

-- an ATBLOCK
pub whole_found : (f : List ℕ) (at : ℕ) (found : BlockAt × Fields) → whole f at ≡ Ok found
    → IsWhole f at × (found.0 ≡ the_block f at At) × (found.1 ≡ fields_of (body_at f at))
unfolding whole held
whole_found f at found is =
    let first = bind_ok (block f at At) _ found is in
    let here = block_found f at At first.0 first.1 in
    let b = first.0 in
    let fields : fields_of (body_of f b) ≡ fields_of (body_at f at) = ap fields_of (body_is f at At b here.1) in
    let size : b.body_len ≡ body_size f at = ap (λ (x : BlockAt). x.body_len) here.1 in
    let embedded : (fields_of (body_of f b)).embedded ≡ embedded_size f at = ap (λ (x : Fields). x.embedded) fields in
    elim (chosen (nat_le (fields_of (body_of f b)).embedded (b.body_len - 40)) (Ok (b, fields_of (body_of f b))) (Err (Bad at At)) (Ok found) first.2) [
      | inl holds ↦
          let same = ok_is (b, fields_of (body_of f b)) found holds.1 in
          let fits : (fields_of (body_of f b)).embedded ≤ b.body_len - 40 = leb-true _ _ holds.0 in
          let is_whole : IsWhole f at = record { block = here.0; holds = omega (arith, fits, size, embedded, here.0.filled) } in
          (is_whole, sym (ap (λ (y : BlockAt × Fields). y.0) same) ∙ here.1, sym (ap (λ (y : BlockAt × Fields). y.1) same) ∙ fields)
      | inr out ↦ let wrong : ◌≡◌ {A = Read (BlockAt × Fields)} (Err (Bad at At)) (Ok found) = out.1 in cc
    ]

-- its texts
pub record HaveTexts (f : List ℕ) (at : ℕ) (found : Texts) : Type 0 where
  pub name : IsNote f (link_at f at 1) found.name
  pub mime : IsNote f (link_at f at 2) found.mime
  pub comment : IsNote f (link_at f at 3) found.comment

abbrev pub words_size : Texts → ℕ
words_size found = note_size found.name + note_size found.mime + note_size found.comment

pub texts_found : (f : List ℕ) (at left : ℕ) (found : Texts × ℕ) → texts f at left ≡ Ok found
    → HaveTexts f at found.0 × (found.1 + words_size found.0 ≡ left)
unfolding texts
texts_found f at left found is =
    let name = bind_ok (note f (link_at f at 1) left) _ found is in
    let mime = bind_ok (note f (link_at f at 2) name.0.1) _ found name.2 in
    let comment = bind_ok (note f (link_at f at 3) mime.0.1) _ found mime.2 in
    let name_is = note_found f (link_at f at 1) left name.0.0 name.0.1 name.1 in
    let mime_is = note_found f (link_at f at 2) name.0.1 mime.0.0 mime.0.1 mime.1 in
    let comment_is = note_found f (link_at f at 3) mime.0.1 comment.0.0 comment.0.1 comment.1 in
    let all : HaveTexts f at (record { name = name.0.0; mime = mime.0.0; comment = comment.0.0 }) =
    record { name = name_is.0; mime = mime_is.0; comment = comment_is.0 } in
    subst (λ (y : Texts × ℕ). HaveTexts f at y.0 × (y.1 + words_size y.0 ≡ left)) (ok_is _ _ comment.2)
    (all, omega (arith, name_is.1, mime_is.1, comment_is.1))

-- the budget
pub spent_found : (at len : ℕ) (left rest : Budget) → spent at len left ≡ Ok rest
    → (len ≤ left.embedded) × (rest ≡ record left { embedded = left.embedded - len })
unfolding spent
spent_found at len left rest is =
    elim (chosen (nat_le len left.embedded) (Ok (record left { embedded = left.embedded - len })) (Err (TooMany whats.Block at)) (Ok rest) is) [
      | inl fits ↦ (leb-true _ _ fits.0, sym (ok_is _ _ fits.1))
      | inr out ↦ let wrong : ◌≡◌ {A = Read Budget} (Err (TooMany whats.Block at)) (Ok rest) = out.1 in cc
    ]

-- the embedded data
pub content_is : (f : List ℕ) (at : ℕ) → IsWhole f at
    → bytes_at (embedded_size f at) f (at + header_size (links_at f at) + 40) ≡ bytes_at (embedded_size f at) (body_at f at) 40
content_is f at is = sym (bytes_at-bytes_at (embedded_size f at) (body_size f at) 40 (at + header_size (links_at f at)) f is.holds)

pub content_size : (f : List ℕ) (at : ℕ) → IsWhole f at
    → length (bytes_at (embedded_size f at) f (at + header_size (links_at f at) + 40)) ≡ embedded_size f at
content_size f at is =
    length-bytes (embedded_size f at) (at + header_size (links_at f at) + 40) f (omega (arith, is.holds, is.block.whole, is.block.headed))

-- an attachment that is found at an address, with the address of the next one and what is left
pub record IsFound (f : List ℕ) (at : ℕ) (left : Budget) (found : Attachment) (next : ℕ) (rest : Budget) : Type 0 where
  pub stands : IsAttachment f found
  pub place : found.at ≡ at
  pub link : next ≡ link_at f at 0
  pub texts : rest.text + text_size found ≡ left.text
  pub contents : rest.embedded + length found.content ≡ left.embedded

made_at : (f : List ℕ) (at : ℕ) (left : Budget) (words : Texts) (text : ℕ) → IsWhole f at → HaveTexts f at words
    → text + words_size words ≡ left.text → embedded_size f at ≤ left.embedded
    → IsFound f at left
    (attachment_with at (fields_of (body_at f at)) words (bytes_at (embedded_size f at) f (at + header_size (links_at f at) + 40)))
    (link_at f at 0) (record { text = text; embedded = left.embedded - embedded_size f at })
made_at f at left words text is_whole have spends fits =
    let content = content_is f at is_whole in
    let size = content_size f at is_whole in record {
      stands = record {
        whole = is_whole;
        fields = ap (λ (bytes : List ℕ). attachment_with at (fields_of (body_at f at)) words bytes) content;
        name = have.name;
        mime = have.mime;
        comment = have.comment;
      };
      place = refl;
      link = refl;
      texts = omega (arith, spends);
      contents = omega (arith, fits, size);
    }

made : (f : List ℕ) (at : ℕ) (left : Budget) (b : BlockAt) (fields : Fields) (rest : Budget) (words : Texts) (text : ℕ) → IsWhole f at
    → b ≡ the_block f at At → fields ≡ fields_of (body_at f at) → fields.embedded ≤ left.embedded
    → rest ≡ record left { embedded = left.embedded - fields.embedded } → HaveTexts f b.at words → text + words_size words ≡ rest.text
    → IsFound f at left (attachment_with b.at fields words (bytes_at fields.embedded f (b.body_at + 40))) (link_at f b.at 0)
    (record rest { text = text })
made f at left b fields rest words text is_whole is_b is_fields fits is_rest have spends =
    let text_is : rest.text ≡ left.text = ap (λ (x : Budget). x.text) is_rest in
    let embedded : fields.embedded ≡ embedded_size f at = ap (λ (x : Fields). x.embedded) is_fields in
    rw (is_rest, is_b, is_fields)
    (made_at f at left words text is_whole (rw is_b at have) (omega (arith, spends, text_is)) (omega (arith, fits, embedded)))

pub attachment_found : (f : List ℕ) (at : ℕ) (left : Budget) (found : Attachment × ℕ × Budget) → attachment f at left ≡ Ok found
    → IsFound f at left found.0 found.1 found.2
unfolding attachment attachment_of_block
attachment_found f at left found is =
    let first = bind_ok (whole f at) _ found is in
    let here = whole_found f at first.0 first.1 in
    let second = bind_ok (spent at first.0.1.embedded left) _ found first.2 in
    let room = spent_found at first.0.1.embedded left second.0 second.1 in
    let third = bind_ok (texts f first.0.0.at second.0.text) _ found second.2 in
    let words = texts_found f first.0.0.at second.0.text third.0 third.1 in
    subst (λ (y : Attachment × ℕ × Budget). IsFound f at left y.0 y.1 y.2) (ok_is _ _ third.2)
    (made f at left first.0.0 first.0.1 second.0 third.0.0 third.0.1 here.0 here.1 here.2 room.0 room.1 words.0 words.1)

pub follows : (f : List ℕ) → Follows f At (λ (row : Attachment). row.at) (attachment f)
follows f = record {
  there = λ at left x next rest is.
      let all = attachment_found f at left (x, next, rest) is in
      (all.place, subst (λ (a : ℕ). IsBlock f a At) all.place all.stands.whole.block, all.link);
}

-- the block past the count gives nothing
pub past_none : (A : Type 0) (f : List ℕ) (at : ℕ) (x : A) → past f at ≡ Ok x → ⊥
unfolding past
past_none A f at x found =
    let parts = bind_ok (whole f at) (λ _. Err (TooMany whats.Block at)) x found in
    let wrong : ◌≡◌ {A = Read A} (Err (TooMany whats.Block at)) (Ok x) = parts.2 in cc

-- all that the header names
pub record AreListed (f : List ℕ) (rows : List Attachment) : Type 0 where
  pub header : IsBlock f 64 Hd
  pub chain : IsChain f (link_at f 64 3) At (map (λ (row : Attachment). row.at) rows)
  pub each : AllByRecursion (IsAttachment f) rows
  pub few : AreFew rows

module _ (f : List ℕ) (from : ℕ) (found : List Attachment × ℕ × Budget) (is : attachments_from f from ≡ Ok found) where
  none : (at : ℕ) (y : List Attachment × ℕ × Budget) → past f at ≡ Ok y → ⊥
  none at y = past_none (List Attachment × ℕ × Budget) f at y

  pub from_chain : IsChain f from At (map (λ (row : Attachment). row.at) found.0)
  from_chain = chain_found f At (λ (row : Attachment). row.at) (attachment f) (past f) (follows f) none 65535 from whole_budget found is

  pub from_each : AllByRecursion (IsAttachment f) found.0
  from_each =
      chain_each (attachment f) (past f) (IsAttachment f)
      (λ at left x next rest step. (attachment_found f at left (x, next, rest) step).stands) none 65535 from whole_budget found is

  pub from_few : AreFew found.0
  from_few =
      let texts = chain_spends (attachment f) (past f) (λ (row : Attachment). text_size row) (λ (left : Budget). left.text)
      (λ at left x next rest step. (attachment_found f at left (x, next, rest) step).texts) none 65535 from whole_budget found is in
      let contents = chain_spends (attachment f) (past f) (λ (row : Attachment). length row.content) (λ (left : Budget). left.embedded)
      (λ at left x next rest step. (attachment_found f at left (x, next, rest) step).contents) none 65535 from whole_budget found is in
      record { count = omega (arith, texts.0); texts = omega (arith, texts.1); contents = omega (arith, contents.1) }

pub header_found : (f : List ℕ) (rows : List Attachment) → header_attachments f ≡ Ok rows → AreListed f rows
unfolding header_attachments
header_found f rows is =
    let first = bind_ok (block f 64 Hd) _ rows is in
    let here = block_found f 64 Hd first.0 first.1 in
    let from = link_at f first.0.at 3 in
    let second = bind_ok (attachments_from f from) _ rows first.2 in
    let place : from ≡ link_at f 64 3 = ap (λ (b : BlockAt). link_at f b.at 3) here.1 in
    let chain = subst (λ (at : ℕ). IsChain f at At (map (λ (row : Attachment). row.at) second.0.0)) place (from_chain f from second.0 second.1) in
    let all : AreListed f second.0.0 = record {
      header = here.0;
      chain = chain;
      each = from_each f from second.0 second.1;
      few = from_few f from second.0 second.1;
    } in
    subst (AreListed f) (ok_is _ _ second.2) all
