-- A value stays where its bits stay, and more values stand after one more was written.
use Rattle.std.proofs.Common.{◌≡◌, ◌≤◌, ◌<◌, ◌+◌, ◌-◌, ◌*◌, ◌/◌, ◌%◌, ◌⊎◌, ℕ, List, length, get_or, take, drop, sym, ◌∙◌, ap, subst, arith, inl, inr, Some}
use Rattle.std.specs.Prelude.{All, slice_get}
use Rattle.std.proofs.lemmas.List.{get_or_default, get_or-take, get_or-drop, length-take, length-drop, same_lists}
use Rattle.std.proofs.lemmas.Bool.{cases_lt}
use Rattle.std.proofs.lemmas.Option.{slice_get_within, get_or_from_slice_get}
use Rattle.std.proofs.lemmas.Nat.Bits.{same_from_bits_below}
use Rattle.std.specs.Int.{bit_at}
use borrow.Author.Count.{below_more}
use Rattle.mdf_format.specs.Field.{Spot, HasBit, bit_of, covered_end, field_number, signed_number}
use Rattle.mdf_format.specs.Number.{bytes_at}
use Rattle.mdf_format.specs.Row.{AreBytesPlaced}
use Rattle.mdf_bits.specs.Field.{bit_within}
use Rattle.mdf_bits.proofs.Spots.{lies_at, same_number}
use Rattle.mdf_layout.specs.Rule.{spot_in, bits_in, IsPlacedAs}
use Rattle.mdf_layout.specs.Written.{ValueFits, HoldsValue, HoldValues, AreApart, IsFree, offset_of}
use Rattle.mdf_layout.specs.declared.field.FieldKind.{FieldKind}
use Rattle.mdf_layout.specs.declared.field.FieldKind.TheVariants.{Unsigned, Signed, Fixed, Variable, Virtual}
use Rattle.mdf_layout.specs.declared.field.FieldRow.{FieldRow}
use Rattle.mdf_layout.specs.declared.sample.Value.{Value}
use Rattle.mdf_layout.specs.declared.sample.Value.TheVariants as value
use Rattle.mdf_layout.specs.declared.sample.Entry.{Entry}

-- each bit of whole bytes is the field's
pub bytes_have : (n : ℕ) (s : Spot) (p : ℕ) → AreBytesPlaced n s → 8 * s.byte ≤ p → p < 8 * (s.byte + s.bits / 8) → HasBit s p
bytes_have n s p at low high =
    let end : p < 8 * covered_end s = omega (arith, at.bit, at.whole) in
    let lies = lies_at s p low end in
    record { k = bit_within s p; low = omega (arith, at.bit); high = omega (arith, at.bit, at.whole, lies.within); there = lies.there }

-- each number of the list is a byte
pub record AreBytes (bytes : List ℕ) : Type 0 where
  pub small : (i : ℕ) → get_or bytes i 0 < 256

-- a byte with the same bits
pub same_byte : (xs ys : List ℕ) (i : ℕ) → get_or xs i 0 < 256 → get_or ys i 0 < 256
    → ((b : ℕ) → b < 8 → bit_of xs (8 * i + b) ≡ bit_of ys (8 * i + b)) → get_or xs i 0 ≡ get_or ys i 0
same_byte xs ys i small small' same =
    same_from_bits_below 8 (get_or xs i 0) (get_or ys i 0) small small'
    (λ b below.
    let byte : (8 * i + b) / 8 ≡ i = omega arith in
    let bit : (8 * i + b) % 8 ≡ b = omega arith in
    let there : bit_at (get_or xs ((8 * i + b) / 8) 0) ((8 * i + b) % 8) ≡ bit_at (get_or ys ((8 * i + b) / 8) 0) ((8 * i + b) % 8) = same b below in
    rw (byte, bit) at there)

-- bytes stay where their bits stay
same_bytes : (old new : List ℕ) (start n : ℕ) → AreBytes old → AreBytes new → start + n ≤ length old → length new ≡ length old
    → ((p : ℕ) → 8 * start ≤ p → p < 8 * (start + n) → bit_of new p ≡ bit_of old p) → bytes_at n new start ≡ bytes_at n old start
same_bytes old new start n small small' inside long same =
    let size_new : length (bytes_at n new start) ≡ n = omega (arith, length-take n (drop start new), length-drop start new) in
    let size_old : length (bytes_at n old start) ≡ n = omega (arith, length-take n (drop start old), length-drop start old) in
    same_lists (bytes_at n new start) (bytes_at n old start) (size_new ∙ sym size_old)
    (λ k d within.
    let below : k < n = omega (arith, size_new) in
    let byte = same_byte new old (start + k) (small'.small (start + k)) (small.small (start + k)) (λ b less. same (8 * (start + k) + b) (omega arith) (omega arith)) in
    let in_new : k < length (bytes_at n new start) = within in
    let in_old : k < length (bytes_at n old start) = omega (arith, size_old) in
    get_or_default (bytes_at n new start) k d 0 in_new
    ∙ get_or-take n (drop start new) k 0 below ∙ get_or-drop start new k 0
    ∙ byte
    ∙ sym (get_or-drop start old k 0) ∙ sym (get_or-take n (drop start old) k 0 below)
    ∙ get_or_default (bytes_at n old start) k 0 d in_old)

-- a value stays where the bits of its field stay
module _ (s : Spot) (old new : List ℕ) (offset : ℕ) (small : AreBytes old) (small' : AreBytes new) (long : length new ≡ length old)
    (same : (p : ℕ) → HasBit s p → bit_of new p ≡ bit_of old p) where
  number : covered_end s ≤ length old → field_number s new ≡ field_number s old
  number inside = same_number s old new inside (omega (arith, long)) same

  bytes : AreBytesPlaced (length old) s → bytes_at (s.bits / 8) new s.byte ≡ bytes_at (s.bits / 8) old s.byte
  bytes at = same_bytes old new s.byte (s.bits / 8) small small' (omega (arith, at.inside, at.bit, at.whole)) long (λ p low high. same p (bytes_have (length old) s p at low high))

  pub value_stays : (kind : FieldKind) (v : Value) → IsPlacedAs kind (length old) s → HoldsValue kind s old offset v → HoldsValue kind s new offset v
  value_stays Unsigned v at holds = ap (λ (n : ℕ). Some (value.Unsigned n)) (number at.inside) ∙ holds
  value_stays Signed v at holds = ap (λ (n : ℕ). Some (value.Signed (signed_number s.bits n))) (number at.inside) ∙ holds
  value_stays Fixed v at holds = ap (λ (b : List ℕ). Some (value.Bytes b)) (bytes at) ∙ holds
  value_stays Variable v at holds = number at.inside ∙ holds
  value_stays Virtual v at holds = tt

-- one more value written
module _ (rows : List FieldRow) (values : List Entry) (offsets : List ℕ) (i : ℕ) (old new : List ℕ) (row : FieldRow)
    (there : slice_get rows i ≡ Some row) (apart : AreApart rows) (placed : All (λ row. IsPlacedAs row.kind (length old) (spot_in row)) rows)
    (small : AreBytes old) (small' : AreBytes new) (long : length new ≡ length old)
    (others : (p : ℕ) → ¬ HasBit (spot_in row) p → bit_of new p ≡ bit_of old p) where
  within : i < length rows
  within = slice_get_within rows i row there

  earlier : (k : ℕ) (r : FieldRow) (e : Entry) → k < i
      → HoldsValue (get_or rows k r).kind (spot_in (get_or rows k r)) old (offset_of rows offsets k) (get_or values k e).value
      → HoldsValue (get_or rows k r).kind (spot_in (get_or rows k r)) new (offset_of rows offsets k) (get_or values k e).value
  earlier k r e below holds =
      let here = get_or_from_slice_get rows i row r there in
      let lies = (apart k i r below within).fields in
      let inside : k < length rows = omega (arith, within) in
      value_stays (spot_in (get_or rows k r)) old new (offset_of rows offsets k) small small' long
      (λ p has. others p (λ has'. lies p has (subst (λ x. HasBit (spot_in x) p) (sym here) has')))
      (get_or rows k r).kind (get_or values k e).value (placed k r inside) holds

  pub values_more : (entry : Entry) → entry ≡ get_or values i entry → i < length values → HoldValues rows values offsets i old
      → HoldsValue row.kind (spot_in row) new (offset_of rows offsets i) entry.value → HoldValues rows values offsets (i + 1) new
  values_more entry is inside before here = λ k r e below.
      below_more (λ k. HoldsValue (get_or rows k r).kind (spot_in (get_or rows k r)) new (offset_of rows offsets k) (get_or values k e).value) i
      (λ k less. earlier k r e less (before k r e less))
      (subst (λ x. HoldsValue x.kind (spot_in x) new (offset_of rows offsets i) (get_or values i e).value) (sym (get_or_from_slice_get rows i row r there))
      (subst (λ x. HoldsValue row.kind (spot_in row) new (offset_of rows offsets i) x.value) (is ∙ get_or_default values i entry e inside) here)) k below

  pub others_more : (first : List ℕ) → ((p : ℕ) → IsFree rows p → bit_of old p ≡ bit_of first p) → (p : ℕ) → IsFree rows p → bit_of new p ≡ bit_of first p
  others_more first before p free =
      others p (subst (λ x. ¬ HasBit (spot_in x) p) (get_or_from_slice_get rows i row row there) (free i row within)) ∙ before p free

-- bits outside of written bytes
pub outside_bytes : (old new : List ℕ) (start n : ℕ) → take start new ≡ take start old → drop (start + n) new ≡ drop (start + n) old
    → (p : ℕ) → (p < 8 * start) ⊎ (8 * (start + n) ≤ p) → bit_of new p ≡ bit_of old p
outside_bytes old new start n before behind p (inl low) =
    let read : get_or new (p / 8) 0 ≡ get_or old (p / 8) 0 =
    sym (get_or-take start new (p / 8) 0 (omega arith)) ∙ ap (λ (bytes : List ℕ). get_or bytes (p / 8) 0) before ∙ get_or-take start old (p / 8) 0 (omega arith) in
    ap (λ (b : ℕ). bit_at b (p % 8)) read
outside_bytes old new start n before behind p (inr high) =
    let j = p / 8 - (start + n) in
    let at : start + n + j ≡ p / 8 = omega arith in
    let read : get_or new (p / 8) 0 ≡ get_or old (p / 8) 0 =
    ap (λ (i : ℕ). get_or new i 0) (sym at) ∙ sym (get_or-drop (start + n) new j 0) ∙ ap (λ (bytes : List ℕ). get_or bytes j 0) behind
    ∙ get_or-drop (start + n) old j 0 ∙ ap (λ (i : ℕ). get_or old i 0) at in
    ap (λ (b : ℕ). bit_at b (p % 8)) read

pub other_bytes : (s : Spot) (old new : List ℕ) (n : ℕ) → AreBytesPlaced (length old) s → n ≡ s.bits / 8
    → take s.byte new ≡ take s.byte old → drop (s.byte + n) new ≡ drop (s.byte + n) old
    → (p : ℕ) → ¬ HasBit s p → bit_of new p ≡ bit_of old p
other_bytes s old new n at is before behind p free = outside_bytes old new s.byte n before behind p (elim (cases_lt p (8 * s.byte)) [
  | inl low ↦ inl low
  | inr above ↦ elim (cases_lt p (8 * (s.byte + n))) [
    | inl below ↦ absurd (free (bytes_have (length old) s p at above (omega (arith, is))))
    | inr high ↦ inr high
  ]
])

-- the bytes that a channel of bytes can have
pub bytes_fit : (kind : FieldKind) (bits : ℕ) (v : Value) (b : List ℕ) → kind ≡ Fixed → v ≡ value.Bytes b → ValueFits kind bits v → length b ≡ bits_in kind bits / 8
bytes_fit kind bits v b kind_is value_is fits =
    let fixed = subst (λ k. ValueFits k bits v) kind_is fits in
    let long : length b ≡ bits / 8 = subst (ValueFits Fixed bits) value_is fixed in
    let count : bits_in kind bits ≡ bits = ap (λ k. bits_in k bits) kind_is in
    long ∙ ap (λ n. n / 8) (sym count)
