-- Attachments that are written stand as they were given.
use Rattle.std.proofs.Common.{◌≡◌, ◌+◌, ℕ, List, [], ◌∷◌, ◌++◌, length, map, refl, sym, ◌∙◌, ap, subst, arith}
use Rattle.std.proofs.lemmas.List.Sums.{sum_by-cons}
use Rattle.std.specs.List.{AllByRecursion}
use Rattle.mdf_format.specs.Number.{le_number, bytes_at}
use Rattle.mdf_format.specs.Block.{IsChain}
use Rattle.mdf_format.specs.declared.kind.Kind.TheVariants.{At}
use Rattle.mdf_block.specs.declared.link.Link.{Link}
use Rattle.mdf_block.specs.Draft.{Placed, address_of, link_number, Stands, AllStand}
use Rattle.mdf_attach.specs.declared.attachment.Attachment.{Attachment}
use Rattle.mdf_attach.specs.Stands.{the_attachment, embedded_size, IsWhole, IsAttachment, text_size, texts_size, contents_size, AreFew}
use Rattle.mdf_tree.specs.Text.{note_blocks}
use Rattle.mdf_tree.specs.Group.{next_link}
use Rattle.mdf_tree.proofs.Has.{Has, has_left, has_right, has_more, here}
use Rattle.mdf_tree.proofs.Texts.{linked_note}
use Rattle.tool_attach.specs.Attached.{mime_number, comment_number, past_attachment, attachment_own, attachment_blocks, attachments_blocks, placed_attachments, IsAttachmentWritable, SameAttachments}
use Rattle.tool_attach.proofs.Placing.{attachment_long}
use Rattle.tool_attach.proofs.Bodies.{body_long, size_back, attachment_back}

-- they say the same
pub attachments_same : (blocks : List Placed) (n : ℕ) (rows : List Attachment) → SameAttachments rows (placed_attachments blocks n rows)
unfolding placed_attachments
attachments_same blocks n [] = refl
attachments_same blocks n (row ∷ rest) =
    ap (λ (more : List Attachment). record row { at = 0 } ∷ more) (attachments_same blocks (past_attachment n row) rest)

-- they are as many, with as many bytes
record AreAsMany (rows others : List Attachment) : Type 0 where
  count : length others ≡ length rows
  texts : texts_size others ≡ texts_size rows
  contents : contents_size others ≡ contents_size rows

as_many : (blocks : List Placed) (n : ℕ) (rows : List Attachment) → AreAsMany rows (placed_attachments blocks n rows)
unfolding placed_attachments
as_many blocks n [] = record { count = refl; texts = refl; contents = refl }
as_many blocks n (row ∷ rest) =
    let next = past_attachment n row in
    let one : Attachment = record row { at = address_of blocks n } in
    let others = placed_attachments blocks next rest in
    let more = as_many blocks next rest in record {
      count = omega (arith, more.count);
      texts = omega (
        arith,
        more.texts,
        sum_by-cons (λ (a : Attachment). text_size a) row rest,
        sum_by-cons (λ (a : Attachment). text_size a) one others,
      );
      contents = omega (
        arith,
        more.contents,
        sum_by-cons (λ (a : Attachment). length a.content) row rest,
        sum_by-cons (λ (a : Attachment). length a.content) one others,
      );
    }

pub few_too : (blocks : List Placed) (n : ℕ) (rows : List Attachment) → AreFew rows → AreFew (placed_attachments blocks n rows)
few_too blocks n rows few =
    let many = as_many blocks n rows in record {
      count = omega (arith, few.count, many.count);
      texts = omega (arith, few.texts, many.texts);
      contents = omega (arith, few.contents, many.contents);
    }

module _ (file : List ℕ) (blocks : List Placed) (all : AllStand file blocks) where
  -- an ATBLOCK with its embedded data
  whole_stands : (n at : ℕ) (next : Link) (row : Attachment) → IsAttachmentWritable row → Stands file blocks at (attachment_own n next row)
      → IsWhole file at
  whole_stands n at next row is s =
      let long = body_long row is in
      let size : embedded_size file at ≡ length row.content = ap (λ (body : List ℕ). le_number (bytes_at 8 body 32)) s.body ∙ size_back row is in
      record {
        block = s.whole (record { linked = omega arith; filled = omega (arith, long) });
        holds = omega (arith, size, long, s.size, s.count);
      }

  -- a chain of attachments, each as it is
  pub record StandAlong (at : ℕ) (rows : List Attachment) : Type 0 where
    pub chain : IsChain file at At (map (λ (row : Attachment). row.at) rows)
    pub each : AllByRecursion (IsAttachment file) rows

  pub attachments_stand : (n : ℕ) (rows : List Attachment) → AllByRecursion IsAttachmentWritable rows → Has blocks n (attachments_blocks n rows)
      → StandAlong (link_number blocks (next_link n rows)) (placed_attachments blocks n rows)
  unfolding attachments_blocks attachment_blocks placed_attachments IsChain
  attachments_stand n [] is has = record { chain = refl; each = tt }
  attachments_stand n (row ∷ rows) is has =
      let at = address_of blocks n in
      let next = past_attachment n row in
      let link = next_link next rows in
      let own = attachment_own n link row in
      let name = note_blocks row.name in
      let mime = note_blocks row.mime in
      let comment = note_blocks row.comment in
      let texts = name ++ (mime ++ comment) in
      let rest = attachments_blocks next rows in
      let first = has_left blocks n (own ∷ texts) rest has in
      let s = here file blocks n own texts all first in
      let whole = whole_stands n at link row is.0 s in
      let words = has_more blocks n own texts first in
      let second = has_right blocks (n + 1) name (mime ++ comment) words in
      let behind = attachments_stand next rows is.1
      (subst (λ (k : ℕ). Has blocks k rest) (attachment_long n link row) (has_right blocks n (own ∷ texts) rest has)) in record {
        chain = (
          refl,
          whole.block,
          subst (λ (place : ℕ). IsChain file place At (map (λ (a : Attachment). a.at) (placed_attachments blocks next rows)))
              (sym (s.link 0 (omega arith))) behind.chain,
        );
        each = (
          record {
            whole = whole;
            fields = sym (attachment_back row is.0 at) ∙ ap (λ (body : List ℕ). the_attachment at body row.name row.mime row.comment) (sym s.body);
            name = linked_note file blocks all (n + 1) row.name at 1 (s.link 1 (omega arith)) is.0.name
                (has_left blocks (n + 1) name (mime ++ comment) words);
            mime = linked_note file blocks all (mime_number n row) row.mime at 2 (s.link 2 (omega arith)) is.0.mime
                (has_left blocks (mime_number n row) mime comment second);
            comment = linked_note file blocks all (comment_number n row) row.comment at 3 (s.link 3 (omega arith)) is.0.comment
                (has_right blocks (mime_number n row) mime comment second);
          },
          behind.each,
        );
      }
