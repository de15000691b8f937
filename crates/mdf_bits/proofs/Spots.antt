-- The bits of a field, where they lie in the record, and the record after the bytes that the field touches were
-- written over.
use Rattle.std.proofs.Common.{◌≡◌, ◌≢◌, ◌<◌, ◌≤◌, ◌+◌, ◌-◌, ◌*◌, ◌/◌, ◌%◌, ◌^◌, ◌⊎◌, ℕ, Bool, true, false, List, ◌++◌, length, take, drop, get_or, if◌then◌else◌, refl, sym, ◌∙◌, ap, arith, inl, inr}
use Rattle.std.proofs.lemmas.Bool.{cases_lt}
use Rattle.std.proofs.lemmas.List.{get_or-take, get_or-drop, get_or-reverse, length-take-le, length-drop, length-append}
use Rattle.std.proofs.lemmas.Slice.{take-put_mid_below, between-put_mid, drop-put_mid}
use borrow.Rule.Slice.PartMut.{put_mid}
use Rattle.std.proofs.lemmas.Nat.Bits.{same_from_bits_below}
use Rattle.std.specs.Int.{bit_at}
use Rattle.mdf_format.specs.Field.{Spot, HasBit, bit_of, bits_of, covered_bytes, covered_end, covered_size, field_number, lowest_first, place_of}
use Rattle.mdf_bits.specs.Field.{bit_within}
use Rattle.mdf_bits.proofs.BitLists.{are_bits_of, are_bits_after, bit_at-weight_of, weight_of-lt, get_or-bits_of}

-- bit i of the number of a field is bit i of its bits in the bytes that it touches
bit_at-covered : (s : Spot) (bytes : List ℕ) (i : ℕ) → i < s.bits
    → bit_at (field_number s bytes) i ≡ bit_of (covered_bytes s bytes) (s.bit + i)
bit_at-covered s bytes i within =
    let bits = bits_of (covered_bytes s bytes) in
    bit_at-weight_of s.bits (drop s.bit bits) i (are_bits_after s.bit bits (are_bits_of (covered_bytes s bytes))) within
    ∙ get_or-drop s.bit bits i 0
    ∙ get_or-bits_of (covered_bytes s bytes) (s.bit + i)

-- the number of a field has so many bits
pub field_number-lt : (s : Spot) (bytes : List ℕ) → field_number s bytes < 2 ^ s.bits
field_number-lt s bytes =
    let bits = bits_of (covered_bytes s bytes) in
    weight_of-lt s.bits (drop s.bit bits) (are_bits_after s.bit bits (are_bits_of (covered_bytes s bytes)))

-- bit k of n bytes of either order, where it lies in the record
bit_of-part : (big : Bool) (byte n k : ℕ) (bytes : List ℕ) → byte + n ≤ length bytes → k < 8 * n
    → bit_of (lowest_first big (take n (drop byte bytes))) k
    ≡ bit_of bytes (if big then 8 * (byte + (n - 1 - k / 8)) + k % 8 else 8 * byte + k)
bit_of-part true byte n k bytes inside within =
    let part = take n (drop byte bytes) in
    let long : length part ≡ n = length-take-le n (drop byte bytes) (omega (arith, length-drop byte bytes)) in
    let j = n - 1 - k / 8 in
    let read : get_or (lowest_first true part) (k / 8) 0 ≡ get_or bytes (byte + j) 0 =
    get_or-reverse part (k / 8) 0 (omega arith)
    ∙ ap (λ (m : ℕ). get_or part (m - 1 - k / 8) 0) long
    ∙ get_or-take n (drop byte bytes) j 0 (omega arith)
    ∙ get_or-drop byte bytes j 0 in
    let place : (8 * (byte + j) + k % 8) / 8 ≡ byte + j = omega arith in
    let bit : (8 * (byte + j) + k % 8) % 8 ≡ k % 8 = omega arith in
    rw (place, bit, read) refl
bit_of-part false byte n k bytes inside within =
    let read : get_or (take n (drop byte bytes)) (k / 8) 0 ≡ get_or bytes (byte + k / 8) 0 =
    get_or-take n (drop byte bytes) (k / 8) 0 (omega arith) ∙ get_or-drop byte bytes (k / 8) 0 in
    let place : (8 * byte + k) / 8 ≡ byte + k / 8 = omega arith in
    let bit : (8 * byte + k) % 8 ≡ k % 8 = omega arith in
    rw (place, bit, read) refl

pub bit_of-covered_bytes : (s : Spot) (bytes : List ℕ) (k : ℕ) → covered_end s ≤ length bytes → k < 8 * covered_size s
    → bit_of (covered_bytes s bytes) k ≡ bit_of bytes (place_of s k)
bit_of-covered_bytes s bytes k inside within = bit_of-part s.big s.byte (covered_size s) k bytes inside within

-- bit i of the number of a field is the bit of the record where it lies
pub bit_at-field_number : (s : Spot) (bytes : List ℕ) (i : ℕ) → covered_end s ≤ length bytes → i < s.bits
    → bit_at (field_number s bytes) i ≡ bit_of bytes (place_of s (s.bit + i))
bit_at-field_number s bytes i inside within =
    bit_at-covered s bytes i within ∙ bit_of-covered_bytes s bytes (s.bit + i) inside (omega arith)

-- a number whose bits are those of the field is the field's
pub number_from_bits : (s : Spot) (bytes : List ℕ) (n : ℕ) → n < 2 ^ s.bits
    → ((i : ℕ) → i < s.bits → bit_at n i ≡ bit_of (covered_bytes s bytes) (s.bit + i)) → n ≡ field_number s bytes
number_from_bits s bytes n fits same =
    same_from_bits_below s.bits n (field_number s bytes) fits (field_number-lt s bytes) (λ i within. same i within ∙ sym (bit_at-covered s bytes i within))

-- where the bits of a field are the same, so is its number
pub same_number : (s : Spot) (old new : List ℕ) → covered_end s ≤ length old → covered_end s ≤ length new
    → ((p : ℕ) → HasBit s p → bit_of new p ≡ bit_of old p) → field_number s new ≡ field_number s old
same_number s old new inside_old inside_new same =
    same_from_bits_below s.bits (field_number s new) (field_number s old) (field_number-lt s new) (field_number-lt s old)
    (λ i within.
    let has : HasBit s (place_of s (s.bit + i)) = record { k = s.bit + i; low = omega arith; high = omega arith; there = refl } in
    bit_at-field_number s new i inside_new within ∙ same (place_of s (s.bit + i)) has ∙ sym (bit_at-field_number s old i inside_old within))

-- bit k of the bytes that the field touches is bit p of the record
pub record LiesAt (s : Spot) (p k : ℕ) : Type 0 where
  pub within : k < 8 * covered_size s
  pub there : p ≡ place_of s k

lies : (big : Bool) (byte n p : ℕ) → 8 * byte ≤ p → p < 8 * (byte + n)
    → let k = if big then 8 * (n - 1 - (p / 8 - byte)) + p % 8 else p - 8 * byte in
    (k < 8 * n) × (p ≡ (if big then 8 * (byte + (n - 1 - k / 8)) + k % 8 else 8 * byte + k))
lies true byte n p low high =
    let row : (8 * (n - 1 - (p / 8 - byte)) + p % 8) / 8 ≡ n - 1 - (p / 8 - byte) = omega arith in
    let column : (8 * (n - 1 - (p / 8 - byte)) + p % 8) % 8 ≡ p % 8 = omega arith in
    (omega arith, rw (row, column) (omega arith))
lies false byte n p low high = (omega arith, omega arith)

pub lies_at : (s : Spot) (p : ℕ) → 8 * s.byte ≤ p → p < 8 * covered_end s → LiesAt s p (bit_within s p)
lies_at s p low high =
    let both = lies s.big s.byte (covered_size s) p low high in record { within = both.0; there = both.1 }

-- and back
pub record ComesFrom (s : Spot) (p k : ℕ) : Type 0 where
  pub low : 8 * s.byte ≤ p
  pub high : p < 8 * covered_end s
  pub back : bit_within s p ≡ k

comes : (big : Bool) (byte n k p : ℕ) → k < 8 * n → p ≡ (if big then 8 * (byte + (n - 1 - k / 8)) + k % 8 else 8 * byte + k)
    → (8 * byte ≤ p) × (p < 8 * (byte + n)) × ((if big then 8 * (n - 1 - (p / 8 - byte)) + p % 8 else p - 8 * byte) ≡ k)
comes true byte n k p within there =
    let row : p / 8 ≡ byte + (n - 1 - k / 8) = omega arith in
    let column : p % 8 ≡ k % 8 = omega arith in
    (omega arith, omega arith, rw (row, column) (omega arith))
comes false byte n k p within there = (omega arith, omega arith, omega arith)

pub comes_from : (s : Spot) (p k : ℕ) → k < 8 * covered_size s → p ≡ place_of s k → ComesFrom s p k
comes_from s p k within there =
    let both = comes s.big s.byte (covered_size s) k p within there in record { low = both.0; high = both.1; back = both.2 }

apart : (big : Bool) (byte n i j : ℕ) → i < 8 * n → j < 8 * n → i ≢ j
    → (if big then 8 * (byte + (n - 1 - i / 8)) + i % 8 else 8 * byte + i) ≢ (if big then 8 * (byte + (n - 1 - j / 8)) + j % 8 else 8 * byte + j)
apart true byte n i j first second differ same =
    let column : i % 8 ≡ j % 8 = omega arith in
    let row : i / 8 ≡ j / 8 = omega arith in
    differ (omega arith)
apart false byte n i j first second differ same = differ (omega arith)

-- the record after a write to the part of it that the field touches
module _ (s : Spot) (old part : List ℕ) (size : ℕ) (inside : covered_end s ≤ length old) (is : size ≡ covered_size s)
    (long : length part ≡ length (take (s.byte + size - s.byte) (drop s.byte old))) where
  -- the part before the write, and the record after it
  abbrev was : List ℕ
  was = take (s.byte + size - s.byte) (drop s.byte old)

  abbrev new : List ℕ
  new = put_mid s.byte (s.byte + size - s.byte) old part

  count : s.byte + size - s.byte ≡ covered_size s
  count = omega arith

  was_is : was ≡ take (covered_size s) (drop s.byte old)
  was_is = ap (λ (n : ℕ). take n (drop s.byte old)) count

  part_size : length part ≡ s.byte + size - s.byte
  part_size = long ∙ length-take-le (s.byte + size - s.byte) (drop s.byte old) (omega (arith, length-drop s.byte old))

  new_size : length new ≡ length old
  new_size =
      let front = length-take-le s.byte old (omega arith) in
      let behind = length-drop (s.byte + size - s.byte) (drop s.byte old) in
      let rest = length-drop s.byte old in
      omega (arith, part_size, length-append (take s.byte old) (part ++ drop (s.byte + size - s.byte) (drop s.byte old)), length-append part (drop (s.byte + size - s.byte) (drop s.byte old)))

  before : take s.byte new ≡ take s.byte old
  before = take-put_mid_below s.byte (s.byte + size - s.byte) old part s.byte (omega arith) (omega arith)

  covered : take (covered_size s) (drop s.byte new) ≡ part
  covered =
      let end : covered_end s - s.byte ≡ covered_size s = omega arith in
      rw end at (between-put_mid s.byte (s.byte + size - s.byte) old part (covered_end s) (omega arith) (part_size ∙ omega arith))

  behind : drop (covered_end s) new ≡ drop (covered_end s) old
  behind = drop-put_mid s.byte (s.byte + size - s.byte) old part (covered_end s) (omega arith) (omega arith) part_size

  -- the number of the field, where the part has its bits
  pub number_written : (n : ℕ) → n < 2 ^ s.bits
      → ((k : ℕ) → k < s.bits → bit_of (lowest_first s.big part) (s.bit + k) ≡ bit_at n k) → field_number s new ≡ n
  number_written n fits same =
      sym (number_from_bits s new n fits
      (λ k within. sym (same k within) ∙ ap (λ (bytes : List ℕ). bit_of (lowest_first s.big bytes) (s.bit + k)) (sym covered)))

  -- a bit of the record that is not the field's, where the part keeps its other bits
  pub other_bit : ((k : ℕ) → (k < s.bit) ⊎ (s.bit + s.bits ≤ k) → bit_of (lowest_first s.big part) k ≡ bit_of (lowest_first s.big was) k)
      → (p : ℕ) → ¬ HasBit s p → bit_of new p ≡ bit_of old p
  other_bit kept p free = elim (cases_lt p (8 * s.byte)) [
    | inl low ↦
        let read : get_or new (p / 8) 0 ≡ get_or old (p / 8) 0 =
        sym (get_or-take s.byte new (p / 8) 0 (omega arith))
        ∙ ap (λ (bytes : List ℕ). get_or bytes (p / 8) 0) before
        ∙ get_or-take s.byte old (p / 8) 0 (omega arith) in
        ap (λ (b : ℕ). bit_at b (p % 8)) read
    | inr above ↦ elim (cases_lt p (8 * covered_end s)) [
      | inl below ↦
          let k = bit_within s p in
          let at = lies_at s p above below in
          let apart : (k < s.bit) ⊎ (s.bit + s.bits ≤ k) = elim (cases_lt k s.bit) [
            | inl low ↦ inl low
            | inr not_low ↦ elim (cases_lt k (s.bit + s.bits)) [
              | inl not_high ↦ absurd (free (record { k = k; low = not_low; high = not_high; there = at.there }))
              | inr high ↦ inr high
            ]
          ] in
          rw at.there (
          sym (bit_of-covered_bytes s new k (omega (arith, new_size)) at.within)
          ∙ ap (λ (bytes : List ℕ). bit_of (lowest_first s.big bytes) k) covered
          ∙ kept k apart
          ∙ ap (λ (bytes : List ℕ). bit_of (lowest_first s.big bytes) k) was_is
          ∙ bit_of-covered_bytes s old k inside at.within)
      | inr high ↦
          let j = p / 8 - covered_end s in
          let at : covered_end s + j ≡ p / 8 = omega arith in
          let read : get_or new (p / 8) 0 ≡ get_or old (p / 8) 0 =
          ap (λ (i : ℕ). get_or new i 0) (sym at)
          ∙ sym (get_or-drop (covered_end s) new j 0)
          ∙ ap (λ (bytes : List ℕ). get_or bytes j 0) behind
          ∙ get_or-drop (covered_end s) old j 0
          ∙ ap (λ (i : ℕ). get_or old i 0) at in
          ap (λ (b : ℕ). bit_at b (p % 8)) read
    ]
  ]
