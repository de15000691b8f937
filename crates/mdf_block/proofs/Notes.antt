-- What `text` and `note` find, and why they refuse.
use Rattle.std.proofs.Common.{◌≡◌, ◌≢◌, ◌+◌, ◌-◌, ◌<◌, ◌≤◌, ℕ, true, false, List, length, get_or, take, drop, cond, Ok, Err, refl, sym, ◌∙◌, ap, subst, ◌⊎◌, inl, inr, arith}
use Rattle.std.proofs.lemmas.Bool.{leb-true, leb-false, le-leb, lt-leb, eqb-true, eqb-false, cond-true, cond-false, true≢false}
use Rattle.std.proofs.lemmas.List.{take-take}
use Rattle.std.proofs.lemmas.Slice.Eq.{bytes_eq-Decides}
use Rattle.std.specs.Prelude.{nat_eq, nat_le}
use Rattle.std.specs.List.{position_or_len}
use Rattle.mdf_format.specs.Number.{bytes_at}
use Rattle.mdf_format.specs.Block.{name_of, body_at, IsBlock}
use Rattle.mdf_format.specs.declared.kind.Kind.{Kind}
use Rattle.mdf_format.specs.declared.kind.Kind.TheVariants as kinds
use Rattle.mdf_block.specs.declared.what.What.TheVariants as whats
use Rattle.mdf_block.specs.declared.place.BlockAt.{BlockAt}
use Rattle.mdf_block.specs.declared.note.Note.{Note}
use Rattle.mdf_block.specs.declared.note.Note.TheVariants as notes
use Rattle.mdf_block.specs.declared.fault.NoteFault.{NoteFault}
use Rattle.mdf_block.specs.declared.fault.NoteFault.TheVariants as faults
use Rattle.mdf_block.specs.Refusal.{Refusal, Bad, TooMany, Read, ◌>>=◌, Refuses}
use Rattle.mdf_block.specs.Block.{is_block, is_named, the_block}
use Rattle.mdf_block.specs.Text.{is_zero, text_of, text, note, note_refusal, note_size, IsNote, LacksNote, HasNoNote}
use Rattle.mdf_block.proofs.Refusals.{bind_ok}
use Rattle.mdf_block.proofs.Wholes.{chosen, block_is_true, is_block_true, is_block_false, not_block}
use Rattle.mdf_block.proofs.Zeros.{length-text_of}
use Rattle.mdf_block.proofs.Cases.{ok_injective}

-- no text where no block of the kind stands
pub text_none : (f : List ℕ) (at : ℕ) (kind : Kind) (left : ℕ) → (IsBlock f at kind → ⊥) → text f at kind left ≡ Err (Bad at kinds.Tx)
unfolding text
text_none f at kind left none = cond-false (is_block f at kind) _ _ (is_block_false f at kind none)

module _ (f : List ℕ) (at : ℕ) (kind : Kind) (left len : ℕ) (b : BlockAt) (is : IsBlock f at kind) (here : b ≡ the_block f at kind)
    (is_len : len ≡ position_or_len is_zero (bytes_at b.body_len f b.body_at)) where
  -- how long the text is
  same_len : length (text_of (body_at f at)) ≡ len
  same_len = length-text_of (body_at f at) ∙ sym (is_len ∙ ap (λ (block : BlockAt). position_or_len is_zero (bytes_at block.body_len f block.body_at)) here)

  -- it is longer than may come
  pub text_long : left < len → text f at kind left ≡ Err (TooMany whats.Text at)
  unfolding text
  text_long long =
      cond-true (is_block f at kind) _ _ (block_is_true f at kind is)
      ∙ cond-false _ _ _ (lt-leb (length (text_of (body_at f at))) left (omega (arith, same_len)))

  -- it is there
  pub text_there : (bytes : List ℕ) → len ≤ left → len ≤ b.body_len → bytes ≡ bytes_at len f b.body_at
      → text f at kind left ≡ Ok (bytes, left - len)
  unfolding text
  text_there bytes short within is_bytes =
      let part : text_of (body_at f at) ≡ bytes =
      ap (λ (n : ℕ). take n (body_at f at)) (sym (length-text_of (body_at f at)) ∙ same_len)
      ∙ ap (λ (block : BlockAt). take len (bytes_at block.body_len f block.body_at)) (sym here)
      ∙ take-take len b.body_len (drop b.body_at f) within
      ∙ sym is_bytes in
      cond-true (is_block f at kind) _ _ (block_is_true f at kind is)
      ∙ cond-true _ _ _ (le-leb (length (text_of (body_at f at))) left (omega (arith, same_len)))
      ∙ ap (λ (found : List ℕ). Ok (found, left - length (text_of (body_at f at)))) part
      ∙ ap (λ (n : ℕ). Ok (bytes, left - n)) same_len

-- whether a text is short enough, with what follows
abbrev within_budget : List ℕ → ℕ → ℕ → Read (List ℕ × ℕ)
within_budget found at left =
    cond (nat_le (length found) left) (Ok (found, left - length found)) (Err (TooMany whats.Text at))

within_found : (found : List ℕ) (at left : ℕ) (bytes : List ℕ) (rest : ℕ) → within_budget found at left ≡ Ok (bytes, rest)
    → (bytes ≡ found) × (rest + length bytes ≡ left)
within_found found at left bytes rest is =
    elim (chosen (nat_le (length found) left) (Ok (found, left - length found)) (Err (TooMany whats.Text at)) (Ok (bytes, rest)) is) [
      | inl short ↦
          let pair : ◌≡◌ {A = List ℕ × ℕ} (found, left - length found) (bytes, rest) = ok_injective _ _ short.1 in
          let first : found ≡ bytes = ap (λ p. p.0) pair in
          let second : left - length found ≡ rest = ap (λ p. p.1) pair in
          let fits = leb-true (length found) left short.0 in
          (sym first, omega (arith, fits, second, ap length first))
      | inr long ↦ let wrong : ◌≡◌ {A = Read (List ℕ × ℕ)} (Err (TooMany whats.Text at)) (Ok (bytes, rest)) = long.1 in cc
    ]

within_refused : (found : List ℕ) (at left : ℕ) (refusal : Refusal) → within_budget found at left ≡ Err refusal
    → (refusal ≡ TooMany whats.Text at) × (left < length found)
within_refused found at left refusal is =
    elim (chosen (nat_le (length found) left) (Ok (found, left - length found)) (Err (TooMany whats.Text at)) (Err refusal) is) [
      | inl short ↦ let wrong : ◌≡◌ {A = Read (List ℕ × ℕ)} (Ok (found, left - length found)) (Err refusal) = short.1 in cc
      | inr long ↦ let same : Err (TooMany whats.Text at) ≡ Err refusal = long.1 in (cc, leb-false (length found) left long.0)
    ]

-- a text that is found
pub text_found : (f : List ℕ) (at : ℕ) (kind : Kind) (left : ℕ) (bytes : List ℕ) (rest : ℕ) → text f at kind left ≡ Ok (bytes, rest)
    → IsBlock f at kind × (bytes ≡ text_of (body_at f at)) × (rest + length bytes ≡ left)
unfolding text
text_found f at kind left bytes rest found =
    elim (chosen (is_block f at kind) (within_budget (text_of (body_at f at)) at left) (Err (Bad at kinds.Tx)) (Ok (bytes, rest)) found) [
      | inl here ↦ let parts = within_found (text_of (body_at f at)) at left bytes rest here.1 in
          (is_block_true f at kind here.0, parts.0, parts.1)
      | inr out ↦ let wrong : ◌≡◌ {A = Read (List ℕ × ℕ)} (Err (Bad at kinds.Tx)) (Ok (bytes, rest)) = out.1 in cc
    ]

-- why there is no text of the kind
abbrev LacksText : List ℕ → ℕ → Kind → ℕ → Refusal → Type 0
LacksText f at kind left refusal =
    ((refusal ≡ Bad at kinds.Tx) × (IsBlock f at kind → ⊥))
    ⊎ ((refusal ≡ TooMany whats.Text at) × IsBlock f at kind × (left < length (text_of (body_at f at))))

text_refused : (f : List ℕ) (at : ℕ) (kind : Kind) (left : ℕ) (refusal : Refusal) → text f at kind left ≡ Err refusal
    → LacksText f at kind left refusal
unfolding text
text_refused f at kind left refusal refused =
    elim (chosen (is_block f at kind) (within_budget (text_of (body_at f at)) at left) (Err (Bad at kinds.Tx)) (Err refusal) refused) [
      | inl here ↦ let parts = within_refused (text_of (body_at f at)) at left refusal here.1 in
          inr (parts.0, is_block_true f at kind here.0, parts.1)
      | inr out ↦ let same : Err (Bad at kinds.Tx) ≡ Err refusal = out.1 in inl (cc, not_block f at kind out.0)
    ]

-- the three ways of `note`
abbrev pub in_form : (List ℕ → Note) → List ℕ × ℕ → Read (Note × ℕ)
in_form form found = Ok (form found.0, found.1)

abbrev as_xml : List ℕ × ℕ → Read (Note × ℕ)
as_xml = in_form notes.Xml

abbrev as_plain : List ℕ × ℕ → Read (Note × ℕ)
as_plain = in_form notes.Plain

abbrev looked_for : List ℕ → ℕ → ℕ → Read (Note × ℕ)
looked_for f at left = cond (is_named f at kinds.Md) (text f at kinds.Md left >>= as_xml) (text f at kinds.Tx left >>= as_plain)

NoteWays : List ℕ → ℕ → ℕ → Read (Note × ℕ) → Type 0
NoteWays f at left read =
    ((at ≡ 0) × (Ok (notes.Nothing, left) ≡ read))
    ⊎ (((at ≢ 0) × (is_named f at kinds.Md ≡ true) × ((text f at kinds.Md left >>= as_xml) ≡ read))
    ⊎ ((at ≢ 0) × (is_named f at kinds.Md ≡ false) × ((text f at kinds.Tx left >>= as_plain) ≡ read)))

note_ways : (f : List ℕ) (at left : ℕ) (read : Read (Note × ℕ)) → note f at left ≡ read → NoteWays f at left read
unfolding note NoteWays
note_ways f at left read is =
    elim (chosen (nat_eq at 0) (Ok (notes.Nothing, left)) (looked_for f at left) read is) [
      | inl none ↦ inl (eqb-true at 0 none.0, none.1)
      | inr some ↦
          elim (chosen (is_named f at kinds.Md) (text f at kinds.Md left >>= as_xml) (text f at kinds.Tx left >>= as_plain) read some.1) [
            | inl xml ↦ inr (inl (eqb-false at 0 some.0, xml.0, xml.1))
            | inr plain ↦ inr (inr (eqb-false at 0 some.0, plain.0, plain.1))
          ]
    ]

-- a note that is found
abbrev IsSpent : List ℕ → ℕ → ℕ → Note → ℕ → Type 0
IsSpent f at left found rest = IsNote f at found × (rest + note_size found ≡ left)

is_spent : (f : List ℕ) (at left : ℕ) (x y : Note × ℕ) → x ≡ y → IsSpent f at left x.0 x.1 → IsSpent f at left y.0 y.1
is_spent f at left x y same is = subst (λ (z : Note × ℕ). IsSpent f at left z.0 z.1) same is

pub note_found : (f : List ℕ) (at left : ℕ) (found : Note) (rest : ℕ) → note f at left ≡ Ok (found, rest)
    → IsNote f at found × (rest + note_size found ≡ left)
unfolding NoteWays
note_found f at left found rest is = elim (note_ways f at left (Ok (found, rest)) is) [
  | inl none ↦ is_spent f at left (notes.Nothing, left) (found, rest) (ok_injective _ _ none.1) (none.0, omega arith)
  | inr (inl xml) ↦
      let parts = bind_ok (text f at kinds.Md left) as_xml (found, rest) xml.2 in
      let body = text_found f at kinds.Md left parts.0.0 parts.0.1 parts.1 in
      is_spent f at left (notes.Xml parts.0.0, parts.0.1) (found, rest) (ok_injective _ _ parts.2) ((xml.0, body.0, body.1), body.2)
  | inr (inr plain) ↦
      let parts = bind_ok (text f at kinds.Tx left) as_plain (found, rest) plain.2 in
      let body = text_found f at kinds.Tx left parts.0.0 parts.0.1 parts.1 in
      is_spent f at left (notes.Plain parts.0.0, parts.0.1) (found, rest) (ok_injective _ _ parts.2) ((plain.0, body.0, body.1), body.2)
]

-- a block of one kind is none of another
other_kind : (f : List ℕ) (at : ℕ) (kind other : Kind) → bytes_at 4 f at ≡ name_of kind → (name_of kind ≡ name_of other → ⊥)
    → IsBlock f at other → ⊥
other_kind f at kind other named differ is = differ (sym named ∙ is.named)

letters_differ : (m t : ℕ) → m ≡ 77 → t ≡ 84 → m ≡ t → ⊥
letters_differ m t is_m is_t same = omega (arith, is_m, is_t, same)

pub md_is_not_tx : name_of kinds.Md ≡ name_of kinds.Tx → ⊥
md_is_not_tx same = letters_differ 77 84 refl refl (ap (λ (bytes : List ℕ). get_or bytes 2 0) same)

not_named : (f : List ℕ) (at : ℕ) (kind : Kind) → is_named f at kind ≡ false → IsBlock f at kind → ⊥
not_named f at kind out is = true≢false (sym ((bytes_eq-Decides (bytes_at 4 f at) (name_of kind)).1 is.named) ∙ out)

-- what a refusal of the text is for the note
lacks_note : (f : List ℕ) (at left : ℕ) (kind : Kind) (form : List ℕ → Note) → at ≢ 0
    → ((IsBlock f at kind → ⊥) → (IsBlock f at kinds.Tx → ⊥) × (IsBlock f at kinds.Md → ⊥))
    → ((bytes : List ℕ) → IsBlock f at kind → bytes ≡ text_of (body_at f at) → IsNote f at (form bytes) × (note_size (form bytes) ≡ length bytes))
    → (refusal : Refusal) → LacksText f at kind left refusal → LacksNote f at left refusal
lacks_note f at left kind form some neither note_is refusal (inl none) =
    let both = neither none.1 in inl (none.0, some, both.0, both.1)
lacks_note f at left kind form some neither note_is refusal (inr long) =
    let found = note_is (text_of (body_at f at)) long.1 refl in
    inr (long.0, (form (text_of (body_at f at)), found.0, omega (arith, found.1, long.2)))

-- the refusal of a step that ends with a note is the text's
text_refusal : (read : Read (List ℕ × ℕ)) (form : List ℕ → Note) (refusal : Refusal)
    → (read >>= in_form form) ≡ Err refusal → read ≡ Err refusal
text_refusal (Ok x) form refusal is = cc
text_refusal (Err first) form refusal is = let same : first ≡ refusal = cc in ap Err same

pub note_lacks : (f : List ℕ) (at left : ℕ) (refusal : Refusal) → note f at left ≡ Err refusal → LacksNote f at left refusal
unfolding NoteWays
note_lacks f at left refusal refused = elim (note_ways f at left (Err refusal) refused) [
  | inl none ↦ let wrong : ◌≡◌ {A = Read (Note × ℕ)} (Ok (notes.Nothing, left)) (Err refusal) = none.1 in cc
  | inr (inl xml) ↦
      let named = (bytes_eq-Decides (bytes_at 4 f at) (name_of kinds.Md)).0 xml.1 in
      lacks_note f at left kinds.Md notes.Xml xml.0
      (λ none. (other_kind f at kinds.Md kinds.Tx named md_is_not_tx, none))
      (λ bytes is_md same. ((xml.0, is_md, same), refl)) refusal
      (text_refused f at kinds.Md left refusal (text_refusal (text f at kinds.Md left) notes.Xml refusal xml.2))
  | inr (inr plain) ↦
      lacks_note f at left kinds.Tx notes.Plain plain.0
      (λ none. (none, not_named f at kinds.Md plain.1))
      (λ bytes is_tx same. ((plain.0, is_tx, same), refl)) refusal
      (text_refused f at kinds.Tx left refusal (text_refusal (text f at kinds.Tx left) notes.Plain refusal plain.2))
]

-- a fault says why there is no note
pub note_refused : (f : List ℕ) (at left : ℕ) (fault : NoteFault) → Refuses (note_refusal fault) (note f at left)
    → HasNoNote f at left fault
note_refused f at left (faults.Bad bad) refused = elim (note_lacks f at left (Bad bad kinds.Tx) refused) [
  | inl none ↦ let same : Bad bad kinds.Tx ≡ Bad at kinds.Tx = none.0 in (cc, none.1, none.2, none.3)
  | inr long ↦ let wrong : Bad bad kinds.Tx ≡ TooMany whats.Text at = long.0 in cc
]
note_refused f at left (faults.TooMany bad) refused = elim (note_lacks f at left (TooMany whats.Text bad) refused) [
  | inl none ↦ let wrong : TooMany whats.Text bad ≡ Bad at kinds.Tx = none.0 in cc
  | inr long ↦ let same : TooMany whats.Text bad ≡ TooMany whats.Text at = long.0 in (cc, long.1)
]
note_refused f at left faults.Memory refused = absurd refused

-- want of memory for a note that is found
pub note_there : (f : List ℕ) (at left : ℕ) → ((x : Note × ℕ) × (note f at left ≡ Ok x)) → HasNoNote f at left faults.Memory
note_there f at left there =
    let parts = note_found f at left there.0.0 there.0.1 there.1 in (there.0.0, parts.0, omega (arith, parts.1))
