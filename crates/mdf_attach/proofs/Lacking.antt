-- Why the attachments are refused.
use Rattle.std.proofs.Common.{◌≡◌, ◌≢◌, ◌+◌, ◌-◌, ◌<◌, ◌≤◌, ℕ, false, List, [], ◌∷◌, get_or, length, map, Ok, Err, refl, sym, ◌∙◌, ap, subst, ◌⊎◌, inl, inr, arith}
use Rattle.std.proofs.lemmas.Bool.{leb-false, false_from_ne_true, cond-true, cond-false}
use Rattle.std.proofs.lemmas.Slice.Eq.{bytes_eq-Decides}
use Rattle.std.proofs.lemmas.List.{length-map}
use Rattle.std.proofs.lemmas.List.Sums.{sum_by-cons}
use Rattle.std.specs.Prelude.{nat_le, sum_by, if◌then◌else◌}
use Rattle.std.specs.List.{AllByRecursion}
use Rattle.mdf_format.specs.Number.{bytes_at}
use Rattle.mdf_format.specs.Block.{name_of, link_at, body_at, body_size, IsBlock}
use Rattle.mdf_format.specs.declared.kind.Kind.{Kind}
use Rattle.mdf_format.specs.declared.kind.Kind.TheVariants.{Hd, At, Tx, Md}
use Rattle.mdf_block.specs.declared.what.What.{What}
use Rattle.mdf_block.specs.declared.what.What.TheVariants as whats
use Rattle.mdf_block.specs.declared.note.Note.{Note}
use Rattle.mdf_block.specs.declared.note.Note.TheVariants as notes
use Rattle.mdf_block.specs.declared.place.BlockAt.{BlockAt}
use Rattle.mdf_block.specs.Refusal.{Refusal, NotMdf, Version, Unfinalized, Bad, TooMany, Read}
use Rattle.mdf_block.specs.Block.{block, body_of, is_named}
use Rattle.mdf_block.specs.Text.{note, note_size, IsNote, LacksNote}
use Rattle.mdf_block.specs.Chain.{AreAlong}
use Rattle.mdf_block.proofs.Refusals.{bind_err}
use Rattle.mdf_block.proofs.Wholes.{chosen, block_found, block_lacks}
use Rattle.mdf_block.proofs.Notes.{note_found, note_lacks}
use Rattle.mdf_block.proofs.Chains.{goes_along, chain_stops_behind}
use Rattle.mdf_attach.specs.declared.attachment.Attachment.{Attachment}
use Rattle.mdf_attach.specs.declared.budget.Budget.{Budget}
use Rattle.mdf_attach.specs.declared.field.Fields.{Fields}
use Rattle.mdf_attach.specs.declared.texts.Texts.{Texts}
use Rattle.mdf_attach.specs.declared.fault.AttachFault.{AttachFault}
use Rattle.mdf_attach.specs.declared.fault.AttachFault.TheVariants as faults
use Rattle.mdf_attach.specs.Listed.{fields_of, held, whole, texts, spent, attachment_of_block, attachment, past, whole_budget, attachments_from, header_attachments, IsFirst}
use Rattle.mdf_attach.specs.Stands.{BeginsFinalized, embedded_size, IsWhole, IsAttachment, text_size, texts_size, contents_size}
use Rattle.mdf_attach.specs.Lacks.{IsBehind, IsNext, AreTexts, IsTextBehind, IsMissing, IsPastMost, IsPastContents, IsPastTexts, LacksAttachments}
use Rattle.mdf_attach.proofs.Fronts.{body_is}
use Rattle.mdf_attach.proofs.Found.{whole_found, spent_found, attachment_found, follows}

-- no ATBLOCK
whole_lacks : (f : List ℕ) (at : ℕ) (refusal : Refusal) → whole f at ≡ Err refusal → (refusal ≡ Bad at At) × (IsWhole f at → ⊥)
unfolding whole held
whole_lacks f at refusal is = elim (bind_err (block f at At) _ refusal is) [
  | inl none ↦ let lacks = block_lacks f at At refusal refl none in (lacks.0, λ is_whole. lacks.1 is_whole.block)
  | inr some ↦
      let b = some.0 in
      let here = block_found f at At b some.1 in
      let fields : fields_of (body_of f b) ≡ fields_of (body_at f at) = ap fields_of (body_is f at At b here.1) in
      let size : b.body_len ≡ body_size f at = ap (λ (x : BlockAt). x.body_len) here.1 in
      let embedded : (fields_of (body_of f b)).embedded ≡ embedded_size f at = ap (λ (x : Fields). x.embedded) fields in
      elim (chosen (nat_le (fields_of (body_of f b)).embedded (b.body_len - 40)) (Ok (b, fields_of (body_of f b))) (Err (Bad at At)) (Err refusal) some.2) [
        | inl holds ↦ let wrong : ◌≡◌ {A = Read (BlockAt × Fields)} (Ok (b, fields_of (body_of f b))) (Err refusal) = holds.1 in cc
        | inr out ↦
            let same : ◌≡◌ {A = Read (BlockAt × Fields)} (Err (Bad at At)) (Err refusal) = out.1 in
            let above : b.body_len - 40 < (fields_of (body_of f b)).embedded = leb-false _ _ out.0 in
            (cc, λ is_whole. omega (arith, above, size, embedded, is_whole.holds))
      ]
]

-- too many bytes of embedded data
spent_lacks : (at len : ℕ) (left : Budget) (refusal : Refusal) → spent at len left ≡ Err refusal
    → (refusal ≡ TooMany whats.Block at) × (left.embedded < len)
unfolding spent
spent_lacks at len left refusal is =
    elim (chosen (nat_le len left.embedded) (Ok (record left { embedded = left.embedded - len })) (Err (TooMany whats.Block at)) (Err refusal) is) [
      | inl fits ↦ let wrong : ◌≡◌ {A = Read Budget} (Ok (record left { embedded = left.embedded - len })) (Err refusal) = fits.1 in cc
      | inr out ↦ let same : ◌≡◌ {A = Read Budget} (Err (TooMany whats.Block at)) (Err refusal) = out.1 in (cc, leb-false _ _ out.0)
    ]

-- a text: those before it are there
record LacksText (f : List ℕ) (at left : ℕ) (refusal : Refusal) : Type 0 where
  earlier : List Note
  rest : ℕ
  texts : AreTexts f at 1 earlier
  few : length earlier < 3
  spends : rest + sum_by note_size earlier ≡ left
  lacks : LacksNote f (link_at f at (1 + length earlier)) rest refusal

texts_lack : (f : List ℕ) (at left : ℕ) (refusal : Refusal) → texts f at left ≡ Err refusal → LacksText f at left refusal
unfolding texts
texts_lack f at left refusal is = elim (bind_err (note f (link_at f at 1) left) _ refusal is) [
  | inl none ↦ record {
    earlier = [];
    rest = left;
    texts = tt;
    few = omega arith;
    spends = omega arith;
    lacks = note_lacks f (link_at f at 1) left refusal none;
  }
  | inr name ↦
      let is_name = note_found f (link_at f at 1) left name.0.0 name.0.1 name.1 in
      elim (bind_err (note f (link_at f at 2) name.0.1) _ refusal name.2) [
        | inl none ↦ record {
          earlier = name.0.0 ∷ [];
          rest = name.0.1;
          texts = (is_name.0, tt);
          few = omega arith;
          spends = omega (arith, is_name.1, sum_by-cons note_size name.0.0 []);
          lacks = note_lacks f (link_at f at 2) name.0.1 refusal none;
        }
        | inr mime ↦
            let is_mime = note_found f (link_at f at 2) name.0.1 mime.0.0 mime.0.1 mime.1 in
            elim (bind_err (note f (link_at f at 3) mime.0.1) _ refusal mime.2) [
              | inl none ↦ record {
                earlier = name.0.0 ∷ mime.0.0 ∷ [];
                rest = mime.0.1;
                texts = (is_name.0, (is_mime.0, tt));
                few = omega arith;
                spends = omega (arith, is_name.1, is_mime.1, sum_by-cons note_size name.0.0 (mime.0.0 ∷ []), sum_by-cons note_size mime.0.0 []);
                lacks = note_lacks f (link_at f at 3) mime.0.1 refusal none;
              }
              | inr comment ↦ let wrong : ◌≡◌ {A = Read (Texts × ℕ)} (Ok _) (Err refusal) = comment.2 in cc
            ]
      ]
]

-- an attachment: no ATBLOCK, or one with too many bytes of embedded data, or a text
abbrev LacksOne : List ℕ → ℕ → Budget → Refusal → Type 0
LacksOne f at left refusal =
    ((refusal ≡ Bad at At) × (IsWhole f at → ⊥))
    ⊎ (IsWhole f at × (((refusal ≡ TooMany whats.Block at) × (left.embedded < embedded_size f at))
    ⊎ ((embedded_size f at ≤ left.embedded) × LacksText f at left.text refusal)))

attachment_lacks : (f : List ℕ) (at : ℕ) (left : Budget) (refusal : Refusal) → attachment f at left ≡ Err refusal → LacksOne f at left refusal
unfolding attachment attachment_of_block
attachment_lacks f at left refusal is = elim (bind_err (whole f at) _ refusal is) [
  | inl none ↦ inl (whole_lacks f at refusal none)
  | inr some ↦
      let here = whole_found f at some.0 some.1 in
      let embedded : some.0.1.embedded ≡ embedded_size f at = ap (λ (x : Fields). x.embedded) here.2 in
      elim (bind_err (spent at some.0.1.embedded left) _ refusal some.2) [
        | inl none ↦
            let lacks = spent_lacks at some.0.1.embedded left refusal none in
            inr (here.0, inl (lacks.0, omega (arith, lacks.1, embedded)))
        | inr room ↦
            let fits = spent_found at some.0.1.embedded left room.0 room.1 in
            elim (bind_err (texts f some.0.0.at room.0.text) _ refusal room.2) [
              | inl none ↦
                  let place : some.0.0.at ≡ at = ap (λ (b : BlockAt). b.at) here.1 in
                  let text : room.0.text ≡ left.text = ap (λ (rest : Budget). rest.text) fits.1 in
                  let refused = subst (λ (a : ℕ). texts f a left.text ≡ Err refusal) place (subst (λ (n : ℕ). texts f some.0.0.at n ≡ Err refusal) text none) in
                  inr (here.0, inr (omega (arith, fits.0, embedded), texts_lack f at left.text refusal refused))
              | inr more ↦ let wrong : ◌≡◌ {A = Read (Attachment × ℕ × Budget)} (Ok _) (Err refusal) = more.2 in cc
            ]
      ]
]

-- the attachments between two places of the chain
record AreBetween (f : List ℕ) (left : Budget) (places : List ℕ) (rest : Budget) : Type 0 where
  rows : List Attachment
  are : map (λ (row : Attachment). row.at) rows ≡ places
  each : AllByRecursion (IsAttachment f) rows
  texts : rest.text + texts_size rows ≡ left.text
  contents : rest.embedded + contents_size rows ≡ left.embedded

none_between : (f : List ℕ) (left : Budget) → AreBetween f left [] left
none_between f left = record { rows = []; are = refl; each = tt; texts = omega arith; contents = omega arith }

one_more : (f : List ℕ) (at : ℕ) (left : Budget) (x : Attachment) (next : ℕ) (rest : Budget) (places : List ℕ) (last : Budget)
    → attachment f at left ≡ Ok (x, next, rest) → AreBetween f rest places last → AreBetween f left (at ∷ places) last
one_more f at left x next rest places last found behind =
    let here = attachment_found f at left (x, next, rest) found in record {
      rows = x ∷ behind.rows;
      are = ap (λ (place : ℕ). place ∷ map (λ (row : Attachment). row.at) behind.rows) here.place ∙ ap (λ (rest_places : List ℕ). at ∷ rest_places) behind.are;
      each = (here.stands, behind.each);
      texts = omega (arith, here.texts, behind.texts, sum_by-cons (λ (row : Attachment). text_size row) x behind.rows);
      contents = omega (arith, here.contents, behind.contents, sum_by-cons (λ (row : Attachment). length row.content) x behind.rows);
    }

-- all of the list: a block or a text is not there, or a limit is passed
abbrev IsPast : List ℕ → ℕ → Type 0
IsPast f at = IsPastMost f at ⊎ (IsPastContents f at ⊎ IsPastTexts f at)

-- of what there is too many, the block at the address says
abbrev pub what_of : List ℕ → ℕ → What
what_of f at = if is_named f at At then whats.Block else whats.Text

abbrev pub LacksList : List ℕ → Refusal → Type 0
LacksList f refusal =
    ((at : ℕ) × (want : Kind) × (refusal ≡ Bad at want) × IsMissing f at want)
    ⊎ ((at : ℕ) × (what : What) × (refusal ≡ TooMany what at) × (what ≡ what_of f at) × IsPast f at)

block_is : (f : List ℕ) (at : ℕ) → IsWhole f at → whats.Block ≡ what_of f at
block_is f at is = sym (cond-true (is_named f at At) whats.Block whats.Text ((bytes_eq-Decides (bytes_at 4 f at) (name_of At)).1 is.block.named))

-- no ATBLOCK is named where another block is
not_named : (f : List ℕ) (at : ℕ) (kind : Kind) → IsBlock f at kind → name_of kind ≢ name_of At → is_named f at At ≡ false
not_named f at kind is other =
    false_from_ne_true (is_named f at At) (λ named. other (sym is.named ∙ (bytes_eq-Decides (bytes_at 4 f at) (name_of At)).0 named))

-- their names differ in the third letter
apart : (m n letter : ℕ) → m ≡ letter → n ≡ 65 → 65 < letter → m ≢ n
apart m n letter is other above same = omega (arith, is, other, above, same)

third_differs : (kind : Kind) (letter : ℕ) → get_or (name_of kind) 2 0 ≡ letter → 65 < letter → name_of kind ≢ name_of At
third_differs kind letter is above same =
    apart (get_or (name_of kind) 2 0) (get_or (name_of At) 2 0) letter is refl above (ap (λ (xs : List ℕ). get_or xs 2 0) same)

text_is : (f : List ℕ) (at : ℕ) (note : Note) (left : ℕ) → IsNote f at note → left < note_size note → whats.Text ≡ what_of f at
text_is f at notes.Nothing left is long = absurd (omega (arith, long))
text_is f at (notes.Plain bytes) left is long =
    sym (cond-false (is_named f at At) whats.Block whats.Text (not_named f at Tx is.1 (third_differs Tx 84 refl (omega arith))))
text_is f at (notes.Xml bytes) left is long =
    sym (cond-false (is_named f at At) whats.Block whats.Text (not_named f at Md is.1 (third_differs Md 77 refl (omega arith))))

module _ (f : List ℕ) (refusal : Refusal) (rows : List Attachment) (last : ℕ) (rest : Budget) (behind : IsBehind f rows last) (texts : rest.text + texts_size rows ≡ 67108864) (contents : rest.embedded + contents_size rows ≡ 536870912) where
  text_lacks : IsWhole f last → length rows < 65535 → embedded_size f last ≤ rest.embedded → LacksText f last rest.text refusal → LacksList f refusal
  text_lacks is_whole few fits text =
      let next : IsNext f rows last = record { behind = behind; whole = is_whole; few = few } in
      let at = link_at f last (1 + length text.earlier) in
      let there : IsTextBehind f rows text.earlier at =
      record { owner = last; next = next; room = omega (arith, contents, fits); texts = text.texts; few = text.few; link = refl } in
      elim text.lacks [
        | inl none ↦ inl (at, Tx, none.0, inr (inr (refl, (rows, text.earlier, there), none.1, none.2, none.3)))
        | inr long ↦ inr (
          at,
          whats.Text,
          long.0,
          text_is f at long.1.0 _ long.1.1 long.1.2,
          inr (inr (rows, text.earlier, long.1.0, there, long.1.1, omega (arith, long.1.2, texts, text.spends))),
        )
      ]

  one_lacks : length rows < 65535 → LacksOne f last rest refusal → LacksList f refusal
  one_lacks few (inl none) = inl (last, At, none.0, inr (inl (refl, (rows, behind, omega (arith, few), none.1))))
  one_lacks few (inr (is_whole, inl long)) =
      inr (last, whats.Block, long.0, block_is f last is_whole, inr (inl (rows, record { behind = behind; whole = is_whole; few = few }, omega (arith, contents, long.1))))
  one_lacks few (inr (is_whole, inr text)) = text_lacks is_whole few text.0 text.1

  past_lacks : length rows ≡ 65535 → past {A = List Attachment × ℕ × Budget} f last ≡ Err refusal → LacksList f refusal
  unfolding past
  past_lacks many is =
      let over : Read (List Attachment × ℕ × Budget) = Err (TooMany whats.Block last) in
      elim (bind_err (whole f last) (λ _. over) refusal is) [
        | inl none ↦
            let lacks = whole_lacks f last refusal none in
            inl (last, At, lacks.0, inr (inl (refl, (rows, behind, omega (arith, many), lacks.1))))
        | inr some ↦
            let same : ◌≡◌ {A = Read (List Attachment × ℕ × Budget)} (Err (TooMany whats.Block last)) (Err refusal) = some.2 in
            let is_whole = (whole_found f last some.0 some.1).0 in
            inr (last, whats.Block, cc, block_is f last is_whole, inl (rows, behind, is_whole, many))
      ]

from_lacks : (f : List ℕ) (refusal : Refusal) → IsBlock f 64 Hd → attachments_from f (link_at f 64 3) ≡ Err refusal → LacksList f refusal
from_lacks f refusal there is =
    let stops = chain_stops_behind f At (attachment f) (past f) (goes_along f At (λ (row : Attachment). row.at) (attachment f) (follows f)) (AreBetween f) (none_between f) (one_more f) refusal 65535 (link_at f 64 3) whole_budget is in
    let between = stops.between in
    let along = subst (λ (places : List ℕ). AreAlong f At (link_at f 64 3) places stops.last) (sym between.are) stops.along in
    let behind : IsBehind f between.rows stops.last = record { header = there; along = along; each = between.each; named = stops.named } in
    let count : length between.rows ≡ length stops.places = sym (length-map between.rows (λ (row : Attachment). row.at)) ∙ ap length between.are in
    elim stops.why [
      | inl steps ↦ one_lacks f refusal between.rows stops.last stops.rest behind between.texts between.contents (omega (arith, steps.0, count)) (attachment_lacks f stops.last stops.rest refusal steps.1)
      | inr over ↦ past_lacks f refusal between.rows stops.last stops.rest behind between.texts between.contents (count ∙ over.0) over.1
    ]

pub header_lacks : (f : List ℕ) (refusal : Refusal) → header_attachments f ≡ Err refusal → LacksList f refusal
unfolding header_attachments
header_lacks f refusal is = elim (bind_err (block f 64 Hd) _ refusal is) [
  | inl none ↦ let lacks = block_lacks f 64 Hd refusal refl none in inl (64, Hd, lacks.0, inl (refl, refl, lacks.1))
  | inr some ↦
      let here = block_found f 64 Hd some.0 some.1 in
      let place : link_at f some.0.at 3 ≡ link_at f 64 3 = ap (λ (b : BlockAt). link_at f b.at 3) here.1 in
      elim (bind_err (attachments_from f (link_at f some.0.at 3)) _ refusal some.2) [
        | inl lacks ↦ from_lacks f refusal here.0 (subst (λ (at : ℕ). attachments_from f at ≡ Err refusal) place lacks)
        | inr more ↦ let wrong : ◌≡◌ {A = Read (List Attachment)} (Ok _) (Err refusal) = more.2 in cc
      ]
]

-- the address and the kind that are named, or the address alone
is_missing : (f : List ℕ) (at bad : ℕ) (want kind : Kind) → at ≡ bad → want ≡ kind → IsMissing f bad kind → IsMissing f at want
is_missing f at bad want kind same_at same_want is = rw (same_at, same_want) is

-- a fault behind the identification
pub fault_lacks : (f : List ℕ) (fault : AttachFault) → BeginsFinalized f → IsFirst fault (header_attachments f)
    → (fault ≡ faults.Memory → IsBlock f 64 Hd) → LacksAttachments f fault
fault_lacks f faults.NotMdf begins first there = elim (header_lacks f NotMdf first) [
  | inl bad ↦ let wrong : NotMdf ≡ Bad bad.0 bad.1 = bad.2 in λ _. cc
  | inr many ↦ let wrong : NotMdf ≡ TooMany many.1 many.0 = many.2 in λ _. cc
]
fault_lacks f (faults.Version ver) begins first there = elim (header_lacks f (Version ver) first) [
  | inl bad ↦ let wrong : Version ver ≡ Bad bad.0 bad.1 = bad.2 in cc
  | inr many ↦ let wrong : Version ver ≡ TooMany many.1 many.0 = many.2 in cc
]
fault_lacks f (faults.Unfinalized std custom) begins first there = elim (header_lacks f (Unfinalized std custom) first) [
  | inl bad ↦ let wrong : Unfinalized std custom ≡ Bad bad.0 bad.1 = bad.2 in cc
  | inr many ↦ let wrong : Unfinalized std custom ≡ TooMany many.1 many.0 = many.2 in cc
]
fault_lacks f (faults.Bad at want) begins first there = elim (header_lacks f (Bad at want) first) [
  | inl bad ↦
      let same : Bad at want ≡ Bad bad.0 bad.1 = bad.2 in
      let place : at ≡ bad.0 = cc in
      let kind : want ≡ bad.1 = cc in
      (begins, is_missing f at bad.0 want bad.1 place kind bad.3)
  | inr many ↦ let wrong : Bad at want ≡ TooMany many.1 many.0 = many.2 in cc
]
fault_lacks f (faults.TooMany at) begins first there = elim (header_lacks f (TooMany first.0 at) first.1) [
  | inl bad ↦ let wrong : TooMany first.0 at ≡ Bad bad.0 bad.1 = bad.2 in cc
  | inr many ↦
      let same : TooMany first.0 at ≡ TooMany many.1 many.0 = many.2 in
      let place : at ≡ many.0 = cc in
      (begins, subst (IsPast f) (sym place) many.4)
]
fault_lacks f faults.Memory begins first there = (begins, there refl)
