-- Attachments that stand in a file are found, where they are within the limits.
use Rattle.std.proofs.Common.{◌≡◌, ◌+◌, ◌-◌, ◌≤◌, ℕ, List, ◌∷◌, get_or, length, codes, Result, Ok, Err, refl, sym, ◌∙◌, ap, arith}
use Rattle.std.proofs.lemmas.Bool.{le-leb, cond-true}
use Rattle.std.proofs.lemmas.List.Sums.{sum_by-cons}
use Rattle.std.specs.Prelude.{nat_le, MatchResult}
use Rattle.mdf_format.specs.Number.{bytes_at}
use Rattle.mdf_format.specs.Block.{name_of, link_at, links_at, header_size, body_at, body_size, IsBlock}
use Rattle.mdf_format.specs.Identification.{IsFinalized}
use Rattle.mdf_format.specs.declared.kind.Kind.TheVariants.{Hd, At}
use Rattle.mdf_block.specs.declared.place.BlockAt.{BlockAt}
use Rattle.mdf_block.specs.declared.note.Note.{Note}
use Rattle.mdf_block.specs.Refusal.{NotMdf, Version, Unfinalized, Bad, TooMany, Read, ◌>>=◌}
use Rattle.mdf_block.specs.Block.{body_of, the_block}
use Rattle.mdf_block.specs.Text.{note_size, IsNote}
use Rattle.mdf_block.proofs.Wholes.{block_some}
use Rattle.mdf_block.proofs.Parts.{bytes_at-bytes_at}
use Rattle.mdf_block.proofs.Reached.{note_reached, chain_all_reached}
use Rattle.mdf_head.proofs.Heads.{ok_is}
use Rattle.mdf_attach.specs.declared.attachment.Attachment.{Attachment}
use Rattle.mdf_attach.specs.declared.budget.Budget.{Budget}
use Rattle.mdf_attach.specs.declared.field.Fields.{Fields}
use Rattle.mdf_attach.specs.declared.texts.Texts.{Texts}
use Rattle.mdf_attach.specs.declared.fault.AttachFault.{AttachFault}
use Rattle.mdf_attach.specs.declared.fault.AttachFault.TheVariants as faults
use Rattle.mdf_attach.specs.Listed.{fields_of, attachment_with, held, whole, texts, spent, attachment_of_block, attachment, past, whole_budget, attachments_from, header_attachments, attachments, GivesList}
use Rattle.mdf_attach.specs.Stands.{embedded_size, IsWhole, IsAttachment, AreAttachments, text_size, texts_size, contents_size, AreFew}
use Rattle.mdf_attach.proofs.Found.{content_is, content_size}
use Rattle.mdf_attach.proofs.Identified.{begins_finalized}

whole_there : (f : List ℕ) (at : ℕ) → IsWhole f at → whole f at ≡ Ok (the_block f at At, fields_of (body_at f at))
unfolding whole held
whole_there f at is =
    ap (λ (read : Read BlockAt). read >>= λ b. held at b (fields_of (body_of f b))) (block_some f at At refl is.block)
    ∙ cond-true (nat_le (embedded_size f at) (body_size f at - 40)) _ _ (le-leb _ _ (omega (arith, is.holds)))

-- three texts, where so many bytes may still come
texts_there : (f : List ℕ) (at left : ℕ) (name mime comment : Note) → IsNote f (link_at f at 1) name → IsNote f (link_at f at 2) mime
    → IsNote f (link_at f at 3) comment → note_size name + note_size mime + note_size comment ≤ left
    → texts f at left
    ≡ Ok (record { name = name; mime = mime; comment = comment }, left - note_size name - note_size mime - note_size comment)
unfolding texts
texts_there f at left name mime comment is_name is_mime is_comment short =
    let first = note_reached f (link_at f at 1) left name is_name (omega (arith, short)) in
    let second = note_reached f (link_at f at 2) (left - note_size name) mime is_mime (omega (arith, short)) in
    let third = note_reached f (link_at f at 3) (left - note_size name - note_size mime) comment is_comment (omega (arith, short)) in
    rw (first, second, third) refl

spent_there : (at len : ℕ) (left : Budget) → len ≤ left.embedded → spent at len left ≡ Ok (record left { embedded = left.embedded - len })
unfolding spent
spent_there at len left fits = cond-true (nat_le len left.embedded) _ _ (le-leb _ _ fits)

abbrev IsEnough : List Attachment → Budget → Type 0
IsEnough rows left = (texts_size rows ≤ left.text) × (contents_size rows ≤ left.embedded)

-- an attachment, where enough may come for it and for those behind it
attachment_there : (f : List ℕ) (x : Attachment) (rows : List Attachment) (left : Budget) → IsBlock f x.at At → IsAttachment f x
    → IsEnough (x ∷ rows) left → (rest : Budget) × (attachment f x.at left ≡ Ok (x, link_at f x.at 0, rest)) × IsEnough rows rest
unfolding attachment attachment_of_block
attachment_there f x rows left here is enough =
    let at = x.at in
    let b = the_block f at At in
    let fields = fields_of (body_at f at) in
    let size = embedded_size f at in
    let words : Texts = record { name = x.name; mime = x.mime; comment = x.comment } in
    let content = bytes_at size f (at + header_size (links_at f at) + 40) in
    let is_content : content ≡ x.content = content_is f at is.whole ∙ sym (ap (λ (row : Attachment). row.content) is.fields) in
    let content_len : length x.content ≡ size = sym (ap length is_content) ∙ content_size f at is.whole in
    let more_texts = sum_by-cons (λ (row : Attachment). text_size row) x rows in
    let more_contents = sum_by-cons (λ (row : Attachment). length row.content) x rows in
    let fits : size ≤ left.embedded = omega (arith, enough.1, more_contents, content_len) in
    let room : Budget = record left { embedded = left.embedded - size } in
    let text = left.text - note_size x.name - note_size x.mime - note_size x.comment in
    let rest : Budget = record { text = text; embedded = left.embedded - size } in
    let first = whole_there f at is.whole in
    let second = spent_there at size left fits in
    let third = texts_there f at left.text x.name x.mime x.comment is.name is.mime is.comment (omega (arith, enough.0, more_texts)) in
    let same : attachment_with at fields words content ≡ x =
    ap (λ (bytes : List ℕ). attachment_with at fields words bytes) (content_is f at is.whole) ∙ sym is.fields in (
      rest,
      ap (λ (read : Read (BlockAt × Fields)). read >>= λ found. spent at found.1.embedded left >>= λ r. attachment_of_block f found.0 found.1 r) first
          ∙ ap (λ (read : Read Budget). read >>= λ r. attachment_of_block f b fields r) second
          ∙ ap (λ (read : Read (Texts × ℕ)). read >>= λ found. Ok (attachment_with at fields found.0 content, link_at f at 0, record room { text = found.1 })) third
          ∙ ap (λ (row : Attachment). Ok (row, link_at f at 0, rest)) same,
      (omega (arith, enough.0, more_texts), omega (arith, enough.1, more_contents, content_len)),
    )

-- no ATBLOCK stands at the beginning of a finalized file
differ : (m n : ℕ) → m ≡ 77 → n ≡ 35 → m ≡ n → ⊥
differ m n is_m is_n same = omega (arith, is_m, is_n, same)

none_first : (f : List ℕ) → IsFinalized f → IsBlock f 0 At → ⊥
none_first f is block =
    let front : bytes_at 4 (bytes_at 8 f 0) 0 ≡ bytes_at 4 f 0 = bytes_at-bytes_at 4 8 0 0 f (omega arith) in
    let four : bytes_at 4 (codes "MDF     ") 0 ≡ name_of At = ap (λ (xs : List ℕ). bytes_at 4 xs 0) (sym is) ∙ front ∙ block.named in
    differ 77 35 refl refl (ap (λ (xs : List ℕ). get_or xs 0 0) four)

header_there : (f : List ℕ) (rows : List Attachment) → AreAttachments f rows → AreFew rows → header_attachments f ≡ Ok rows
unfolding header_attachments
header_there f rows is few =
    let first = block_some f 64 Hd refl is.header in
    let all = chain_all_reached f At (λ (row : Attachment). row.at) (IsAttachment f) (attachment f) IsEnough (none_first f is.begins.finalized)
    (attachment_there f) (past f) rows 65535 (link_at f 64 3) whole_budget few.count is.chain is.each (few.texts, few.contents) in
    ap (λ (read : Read BlockAt). read >>= λ b. attachments_from f (link_at f b.at 3) >>= λ found. Ok found.0) first
    ∙ ap (λ (read : Read (List Attachment × ℕ × Budget)). read >>= λ found. Ok found.0) all.1

pub attachments_there : (f : List ℕ) (rows : List Attachment) → AreAttachments f rows → AreFew rows → attachments f ≡ Ok rows
attachments_there f rows is few = begins_finalized f is.begins ∙ header_there f rows is few

-- what is answered where these are found
is_all : (rows : List Attachment) (result : Result (List Attachment) AttachFault) (read : Read (List Attachment)) → GivesList result read
    → read ≡ Ok rows → MatchResult result (λ found. found ≡ rows) (λ fault. fault ≡ faults.Memory)
is_all rows (Ok found) read exact is = ok_is found rows (sym exact ∙ is)
is_all rows (Err faults.NotMdf) read exact is =
    let wrong : ◌≡◌ {A = Read (List Attachment)} (Err NotMdf) (Ok rows) = sym exact ∙ is in cc
is_all rows (Err (faults.Version ver)) read exact is =
    let wrong : ◌≡◌ {A = Read (List Attachment)} (Err (Version ver)) (Ok rows) = sym exact ∙ is in cc
is_all rows (Err (faults.Unfinalized std custom)) read exact is =
    let wrong : ◌≡◌ {A = Read (List Attachment)} (Err (Unfinalized std custom)) (Ok rows) = sym exact ∙ is in cc
is_all rows (Err (faults.Bad at want)) read exact is =
    let wrong : ◌≡◌ {A = Read (List Attachment)} (Err (Bad at want)) (Ok rows) = sym exact ∙ is in cc
is_all rows (Err (faults.TooMany at)) read exact is =
    let wrong : ◌≡◌ {A = Read (List Attachment)} (Err (TooMany exact.0 at)) (Ok rows) = sym exact.1 ∙ is in cc
is_all rows (Err faults.Memory) read exact is = refl

-- so an answer is these, or want of memory
pub all_or_memory : (f : List ℕ) (rows : List Attachment) (result : Result (List Attachment) AttachFault) → GivesList result (attachments f)
    → AreAttachments f rows → AreFew rows → MatchResult result (λ found. found ≡ rows) (λ fault. fault ≡ faults.Memory)
all_or_memory f rows result exact is few = is_all rows result (attachments f) exact (attachments_there f rows is few)
