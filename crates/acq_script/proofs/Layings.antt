-- Where the field of a new channel lies.
use Rattle.std.proofs.Common.{◌≡◌, ◌∙◌, sym, ap, subst, ℕ, ◌+◌, ◌-◌, ◌*◌, ◌/◌, ◌%◌, ◌<◌, ◌≤◌, ◌⊎◌, inl, inr, Bool, true, false, cond, Some, List, [], ◌∷◌, ◌++◌, length, get_or, refl, arith, length-append}
use Rattle.std.specs.Prelude.{nat_eq, nat_lt, unwrap_or, ◌&&◌, ◌||◌, not, All, AllPairs, slice_get}
use Rattle.std.proofs.lemmas.Bool.{eqb-true, ne_eqb, ltb-true, ltb-false, or_cases, or_from, false≢true, cases_eq, cases_lt}
use Rattle.std.proofs.lemmas.List.{get_or_append_left, get_or_default}
use Rattle.std.proofs.lemmas.Option.{slice_get_within, unwrap_or-slice_get}
use Rattle.std.proofs.Math.Seq.{get_or-append_seam}
use Rattle.std.proofs.lemmas.List.Elements.{All-append, All-weaker, All-cons, All-nil}
use Rattle.mdf_format.specs.Field.{Spot, HasBit, covered_size}
use Rattle.mdf_format.specs.Row.{RowNumbers, Form, Unsigned, Signed, Fixed, Variable, Virtual, form_of, is_big, field_bits, spot_of_row, IsNumberPlaced, AreBytesPlaced, IsPlaced, SharesBit, BreaksRowRule}
use Rattle.mdf_bits.proofs.Spots.{comes_from}
use Rattle.mdf_group.specs.Recordable.{ArePlaced}
use Rattle.script_line.specs.Kind.{IsType}
use Rattle.acq_script.specs.Draft.{whole, start_of, free_behind, channel_kind}
use Rattle.acq_script.specs.Plan.{IsBelow, LieApart, AreLaid}
use Rattle.script_line.specs.declared.kind.ValueType.{ValueType}
use Rattle.script_line.specs.declared.line.ChannelForm.{ChannelForm}

-- the form of a channel that is not virtual, by three tests
abbrev pub form_by : Bool → Bool → Bool → Form
form_by of_values signed number = cond of_values Variable (cond signed Signed (cond number Unsigned Fixed))

bits_by : (a b c : Bool) (bits : ℕ) → field_bits (form_by a b c) bits ≡ bits
bits_by true b c bits = refl
bits_by false true c bits = refl
bits_by false false true bits = refl
bits_by false false false bits = refl

placed_by : (a b c : Bool) (data_bytes : ℕ) (s : Spot) → (a ≡ true → IsNumberPlaced data_bytes s) → (b ≡ true → IsNumberPlaced data_bytes s) → (c ≡ true → IsNumberPlaced data_bytes s)
    → (a ≡ false → c ≡ false → AreBytesPlaced data_bytes s) → IsPlaced (form_by a b c) data_bytes s
placed_by true b c data_bytes s first second third last = first refl
placed_by false true c data_bytes s first second third last = second refl
placed_by false false true data_bytes s first second third last = third refl
placed_by false false false data_bytes s first second third last = last refl refl

abbrev pub test_values : RowNumbers → Bool
test_values row = nat_eq row.kind 1

abbrev pub test_signed : RowNumbers → Bool
test_signed row = nat_eq row.data_type 2 || nat_eq row.data_type 3

abbrev pub test_number : RowNumbers → Bool
test_number row = nat_lt row.data_type 6

not_virtual : (row : RowNumbers) → row.kind ≤ 2 → (nat_eq row.kind 3 || nat_eq row.kind 6) ≡ false
not_virtual row low = or_from (nat_eq row.kind 3) (nat_eq row.kind 6) (ne_eqb row.kind 3 (λ is. omega (arith, low, is))) (ne_eqb row.kind 6 (λ is. omega (arith, low, is)))

pub form_is : (row : RowNumbers) → row.kind ≤ 2 → form_of row ≡ form_by (test_values row) (test_signed row) (test_number row)
form_is row low = ap (λ b. cond b Virtual (form_by (test_values row) (test_signed row) (test_number row))) (not_virtual row low)

-- the same place with the bits that the row says
abbrev spot_with : RowNumbers → Spot
spot_with row = record { byte = row.byte; bit = row.bit; bits = row.bits; big = is_big row }

spot_is : (row : RowNumbers) → row.kind ≤ 2 → spot_of_row row ≡ spot_with row
spot_is row low = ap (λ (bits : ℕ). record { byte = row.byte; bit = row.bit; bits = bits; big = is_big row })
    (ap (λ f. field_bits f row.bits) (form_is row low) ∙ bits_by (test_values row) (test_signed row) (test_number row) row.bits)

-- the numbers of a channel of a form whose field begins at a bit
abbrev pub numbers_with : ChannelForm → ℕ → ℕ → RowNumbers
numbers_with form start position = record {
  kind = channel_kind form;
  data_type = form.kind.data_type;
  byte = start / 8;
  bit = start % 8;
  bits = form.kind.bits;
  flags = cond form.inval 2 0;
  inval = cond form.inval position 0;
}

-- the kind of a channel, by whether its values are of variable length and whether it is the master
abbrev kind_by : Bool → Bool → ℕ
kind_by v m = cond v 1 (cond m 2 0)

kind_few : (v m : Bool) → kind_by v m ≤ 2
kind_few true m = omega arith
kind_few false true = omega arith
kind_few false false = omega arith

pub kind_low : (form : ChannelForm) → channel_kind form ≤ 2
kind_low form = kind_few form.kind.variable form.master

kind_long : (v m : Bool) → kind_by v m ≡ 1 → v ≡ true
kind_long true m is = refl
kind_long false true is = absurd (omega (arith, is))
kind_long false false is = absurd (omega (arith, is))

pub kind_of_values : (form : ChannelForm) → channel_kind form ≡ 1 → form.kind.variable ≡ true
kind_of_values form is = kind_long form.kind.variable form.master is

-- where the field begins, and the next free bit behind it
start_by : (p : Bool) (free bits : ℕ) → (free ≤ cond p free (whole free)) × (cond p free (whole free) + bits ≤ cond p (free + bits) (whole (whole free + bits)))
start_by true free bits = (omega arith, omega arith)
start_by false free bits = (omega arith, omega arith)

on_byte : (p : Bool) (free : ℕ) → p ≡ false → cond p free (whole free) % 8 ≡ 0
on_byte true free is = absurd (false≢true (sym is))
on_byte false free is = omega arith

pub grows : (kind : ValueType) (free : ℕ) → IsType kind → free_behind kind free ≤ free + 2048
grows kind free is = grown kind.packed kind.bits is.few (λ p. p) where
  grown : (p : Bool) (bits : ℕ) → bits ≤ 2040 → (kind.packed ≡ true → kind.packed ≡ true) → cond p (free + bits) (whole (whole free + bits)) ≤ free + 2048
  grown true bits few same = omega (arith, few)
  grown false bits few same = omega (arith, few)

inside_by : (start bits end_ : ℕ) → start + bits ≤ end_ → start / 8 + (start % 8 + bits + 7) / 8 ≤ (end_ + 7) / 8
inside_by start bits end_ fits = omega (arith, fits)

module _ (form : ChannelForm) (free position : ℕ) (is : IsType form.kind) where
  abbrev begin : ℕ
  begin = start_of form.kind free

  abbrev next : ℕ
  next = free_behind form.kind free

  abbrev row : RowNumbers
  row = numbers_with form begin position

  number_at : form.kind.bits ≤ 64 → IsNumberPlaced ((next + 7) / 8) (spot_with row)
  number_at few = record { bit = omega arith; some = is.some; few = few; inside = inside_by begin form.kind.bits next (start_by form.kind.packed free form.kind.bits).1 }

  long_number : form.kind.variable ≡ true → form.kind.bits ≤ 64
  long_number long = omega (arith, (is.long long).0)

  bytes_at : 6 ≤ form.kind.data_type → AreBytesPlaced ((next + 7) / 8) (spot_with row)
  bytes_at high = record {
    bit = on_byte form.kind.packed free (is.whole high).1;
    whole = (is.whole high).0;
    inside = inside_by begin form.kind.bits next (start_by form.kind.packed free form.kind.bits).1;
  }

  signed_low : (test_signed row ≡ true) → form.kind.data_type ≤ 5
  signed_low test = elim (or_cases (nat_eq form.kind.data_type 2) (nat_eq form.kind.data_type 3) test) [
    | inl two ↦ omega (arith, eqb-true _ _ two)
    | inr three ↦ omega (arith, eqb-true _ _ three)
  ]

  new_placed : IsPlaced (form_of row) ((next + 7) / 8) (spot_of_row row)
  new_placed =
      let low = kind_low form in
      subst (λ f. IsPlaced f ((next + 7) / 8) (spot_of_row row)) (sym (form_is row low))
      (subst (IsPlaced (form_by (test_values row) (test_signed row) (test_number row)) ((next + 7) / 8)) (sym (spot_is row low))
      (placed_by (test_values row) (test_signed row) (test_number row) ((next + 7) / 8) (spot_with row)
      (λ of_values. number_at (long_number (kind_of_values form (eqb-true _ _ of_values))))
      (λ signed. number_at (is.number (inl (signed_low signed))))
      (λ number. number_at (is.number (inl (omega (arith, ltb-true _ _ number)))))
      (λ other high. bytes_at (ltb-false _ _ high))))

  -- its bits lie from where it begins to the next free bit
  record LiesHere (p : ℕ) : Type 0 where
    pub low : free ≤ p
    pub high : p < next

  lies_by : (b : Bool) (p : ℕ) → form.kind.packed ≡ b → HasBit (spot_with row) p → LiesHere p
  lies_by true p packed has =
      let within : has.k < 8 * covered_size (spot_with row) = omega (arith, has.high) in
      let from = comes_from (spot_with row) p has.k within has.there in
      let order : is_big row ≡ false = little (is.little packed) in
      let back : p - 8 * (begin / 8) ≡ has.k = subst (λ b. cond b (8 * (covered_size (spot_with row) - 1 - (p / 8 - begin / 8)) + p % 8) (p - 8 * (begin / 8)) ≡ has.k) order from.back in
      let at : begin ≡ free = ap (λ b. cond b free (whole free)) packed in
      let end_ : next ≡ free + form.kind.bits = ap (λ b. cond b (free + form.kind.bits) (whole (whole free + form.kind.bits))) packed in
      record { low = omega (arith, from.low, has.low, back, at); high = omega (arith, from.low, has.high, back, at, end_) }
    where
      no_order : (b : Bool) → (b && false) ≡ false
      no_order true = refl
      no_order false = refl

      little : (form.kind.data_type ≡ 0) ⊎ (form.kind.data_type ≡ 2) → is_big row ≡ false
      little (inl none) = ap (λ d. not (nat_eq (channel_kind form) 1) && (nat_eq d 1 || nat_eq d 3 || nat_eq d 5)) none ∙ no_order (not (nat_eq (channel_kind form) 1))
      little (inr two) = ap (λ d. not (nat_eq (channel_kind form) 1) && (nat_eq d 1 || nat_eq d 3 || nat_eq d 5)) two ∙ no_order (not (nat_eq (channel_kind form) 1))
  lies_by false p packed has =
      let within : has.k < 8 * covered_size (spot_with row) = omega (arith, has.high) in
      let from = comes_from (spot_with row) p has.k within has.there in
      let at : begin ≡ whole free = ap (λ b. cond b free (whole free)) packed in
      let end_ : next ≡ whole (whole free + form.kind.bits) = ap (λ b. cond b (free + form.kind.bits) (whole (whole free + form.kind.bits))) packed in
      record { low = omega (arith, from.low, at); high = omega (arith, from.high, at, end_) }

  lies : (p : ℕ) → HasBit (spot_of_row row) p → LiesHere p
  lies p has = lies_by form.kind.packed p refl (subst (λ s. HasBit s p) (spot_is row (kind_low form)) has)

  position_by : (b : Bool) → cond b 2 0 / 2 % 2 ≡ 1 → (cond b position 0 ≡ position) × (cond b position 0 < cond b (position + 1) position)
  position_by true uses = (refl, omega arith)
  position_by false uses = absurd (omega (arith, uses))

  pub new_below : IsBelow next (cond form.inval (position + 1) position) row
  new_below = record {
    placed = new_placed;
    below = λ p has. (lies p has).high;
    position = λ uses. (position_by form.inval uses).1;
  }

  pub new_apart : (old : RowNumbers) → IsBelow free position old → LieApart old row
  new_apart old below = record {
    bits = λ p first second. absurd (omega (arith, below.below p first, (lies p second).low));
    positions = λ first second same. absurd (omega (arith, below.position first, same, (position_by form.inval second).0));
  }

  more_below : (old : RowNumbers) → IsBelow free position old → IsBelow next (cond form.inval (position + 1) position) old
  more_below old below = record {
    placed = placed_more (form_of old) (spot_of_row old) below.placed;
    below = λ p has. omega (arith, below.below p has, (start_by form.kind.packed free form.kind.bits).0, (start_by form.kind.packed free form.kind.bits).1);
    position = λ uses. more_positions form.inval (below.position uses);
  } where
    wider : (free + 7) / 8 ≤ (next + 7) / 8
    wider = omega (arith, (start_by form.kind.packed free form.kind.bits).0, (start_by form.kind.packed free form.kind.bits).1)

    more_number : (s : Spot) → IsNumberPlaced ((free + 7) / 8) s → IsNumberPlaced ((next + 7) / 8) s
    more_number s at = record { bit = at.bit; some = at.some; few = at.few; inside = omega (arith, at.inside, wider) }

    placed_more : (f : Form) (s : Spot) → IsPlaced f ((free + 7) / 8) s → IsPlaced f ((next + 7) / 8) s
    placed_more Unsigned s at = more_number s at
    placed_more Signed s at = more_number s at
    placed_more Fixed s at = record { bit = at.bit; whole = at.whole; inside = omega (arith, at.inside, wider) }
    placed_more Variable s at = more_number s at
    placed_more Virtual s at = tt

    more_positions : (b : Bool) {n : ℕ} → n < position → n < cond b (position + 1) position
    more_positions true less = omega (arith, less)
    more_positions false less = less

-- pairs with one item more
pairs_at : {A : Type 0} (R : A → A → Type 0) (xs : List A) (y : A) → AllPairs R xs → All (λ x. R x y) xs → (i j : ℕ) (d : A) → i < j → (j < length xs) ⊎ (j ≡ length xs)
    → R (get_or (xs ++ y ∷ []) i d) (get_or (xs ++ y ∷ []) j d)
pairs_at R xs y pairs each i j d before (inl less) =
    let first : get_or (xs ++ y ∷ []) i d ≡ get_or xs i d = get_or_append_left xs (y ∷ []) d i (omega (arith, before, less)) in
    let second : get_or (xs ++ y ∷ []) j d ≡ get_or xs j d = get_or_append_left xs (y ∷ []) d j less in
    subst (λ x. R x (get_or (xs ++ y ∷ []) j d)) (sym first) (subst (R (get_or xs i d)) (sym second) (pairs i j d before less))
pairs_at R xs y pairs each i j d before (inr last) =
    let first : get_or (xs ++ y ∷ []) i d ≡ get_or xs i d = get_or_append_left xs (y ∷ []) d i (omega (arith, before, last)) in
    let second : get_or (xs ++ y ∷ []) j d ≡ y = ap (λ n. get_or (xs ++ y ∷ []) n d) last ∙ get_or-append_seam xs y [] d in
    subst (λ x. R x (get_or (xs ++ y ∷ []) j d)) (sym first) (subst (R (get_or xs i d)) (sym second) (each i d (omega (arith, before, last))))

pub pairs_more : {A : Type 0} (R : A → A → Type 0) (xs : List A) (y : A) → AllPairs R xs → All (λ x. R x y) xs → AllPairs R (xs ++ y ∷ [])
pairs_more R xs y pairs each i j d before within =
    let n : length (xs ++ y ∷ []) ≡ length xs + 1 = length-append xs (y ∷ []) in
    elim (cases_eq j (length xs)) [
      | inl same ↦ pairs_at R xs y pairs each i j d before (inr same)
      | inr other ↦ pairs_at R xs y pairs each i j d before (inl (omega (arith, within, n, other)))
    ]

-- what holds of the one item
pub only_one : {A : Type 0} (P : A → Type 0) (x : A) → P x → All P (x ∷ [])
only_one P x here = All-cons P x [] here (All-nil P)

-- channels that lie apart, with one more
pub laid_more : (form : ChannelForm) (free position : ℕ) (rows : List RowNumbers) → IsType form.kind → AreLaid free position rows
    → AreLaid (free_behind form.kind free) (cond form.inval (position + 1) position) (rows ++ numbers_with form (start_of form.kind free) position ∷ [])
laid_more form free position rows is laid = record {
  each = All-append (IsBelow (free_behind form.kind free) (cond form.inval (position + 1) position)) rows (numbers_with form (start_of form.kind free) position ∷ [])
      (All-weaker _ _ (more_below form free position is) rows laid.each)
      (only_one (IsBelow (free_behind form.kind free) (cond form.inval (position + 1) position)) _ (new_below form free position is));
  apart = pairs_more LieApart rows (numbers_with form (start_of form.kind free) position) laid.apart (All-weaker _ _ (new_apart form free position is) rows laid.each);
}

-- what stands at a place
pub stands : {A : Type 0} (xs : List A) (k : ℕ) (x : A) → slice_get xs k ≡ Some x → get_or xs k x ≡ x
stands xs k x is = sym (unwrap_or-slice_get xs k x) ∙ ap (λ o. unwrap_or o x) is

no_share : (rows : List RowNumbers) (i j : ℕ) (one other : RowNumbers) → AllPairs LieApart rows → slice_get rows i ≡ Some one → slice_get rows j ≡ Some other → i < j → SharesBit (spot_of_row one) (spot_of_row other) → ⊥
no_share rows i j one other apart first second before shares =
    let there = slice_get_within rows j other second in
    let pair = apart i j one before there in
    let at : get_or rows j one ≡ other = get_or_same rows j one other there ∙ stands rows j other second in
    pair.bits shares.p (subst (λ r. HasBit (spot_of_row r) shares.p) (sym (stands rows i one first)) shares.first)
    (subst (λ r. HasBit (spot_of_row r) shares.p) (sym at) shares.second)
  where
    get_or_same : (rows : List RowNumbers) (j : ℕ) (d e : RowNumbers) → j < length rows → get_or rows j d ≡ get_or rows j e
    get_or_same rows j d e below = get_or_default rows j d e below

-- channels that are laid out so keep the rules of layouts
pub laid_placed : (free positions : ℕ) (rows : List RowNumbers) → AreLaid free positions rows → ArePlaced ((free + 7) / 8) ((positions + 7) / 8) rows
laid_placed free positions rows laid = record {
  rules = λ k row there breaks. keeps k row there breaks;
  bits = λ i j d before within shares. (laid.apart i j d before within).bits shares.p shares.first shares.second;
  positions = λ i j d before within first second. (laid.apart i j d before within).positions first second;
} where
  below : (k : ℕ) (row : RowNumbers) → slice_get rows k ≡ Some row → IsBelow free positions row
  below k row there = subst (IsBelow free positions) (stands rows k row there) (laid.each k row (slice_get_within rows k row there))

  keeps : (k : ℕ) (row : RowNumbers) → slice_get rows k ≡ Some row → BreaksRowRule ((free + 7) / 8) ((positions + 7) / 8) rows k row → ⊥
  keeps k row there (inl unplaced) = unplaced (below k row there).placed
  keeps k row there (inr (inl outside)) = outside (λ uses. omega (arith, (below k row there).position uses))
  keeps k row there (inr (inr (is, (j, other, differs, at, shares)))) = elim (cases_lt j k) [
    | inl less ↦ no_share rows j k other row laid.apart at there less (record { p = shares.p; first = shares.second; second = shares.first })
    | inr more ↦ no_share rows k j row other laid.apart there at (omega (arith, more, differs)) shares
  ]
