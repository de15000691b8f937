-- Bytes of either order, and the bits of the number that they are.
use Rattle.std.proofs.Common.{◌≡◌, ◌≢◌, ◌<◌, ◌≤◌, ◌+◌, ◌-◌, ◌*◌, ◌/◌, ◌%◌, ◌^◌, ℕ, zero, suc, Bool, true, false, List, [], ◌∷◌, length, drop, reverse, get_or, if◌then◌else◌, bit_or, refl, sym, subst, ◌∙◌, ap, Fits, w8, arith, inl, inr, drop-cons, get_or-set_other, get_or-set_same}
use Rattle.std.proofs.Math.Facts.{Fits-lt-pow}
use Rattle.std.proofs.Math.ListN.{set}
use Rattle.std.proofs.lemmas.Bool.{cases_eq, cases_lt}
use Rattle.std.proofs.lemmas.List.{get_or-drop, get_or_past, get_or-reverse, length-drop, length-reverse, length-set}
use Rattle.std.proofs.lemmas.Nat.{and_mask, or_shifted, pow-add, shl_whole, shr-shr}
use Rattle.std.proofs.lemmas.Nat.Bits.{bit_at-lt, bit_at-zero, bit_at_above, bit_at_and, bit_at_cat_low, bit_at_cat_high, bit_at_ones}
use Rattle.std.specs.Int.{bit_at, byte_at, bytes_low_first}
use Rattle.mdf_format.specs.Field.{bit_of, lowest_first}
use Rattle.mdf_format.specs.Number.{le_number}

-- each number of the list is a byte
pub record AreBytes (bytes : List ℕ) : Type 0 where
  pub small : (i : ℕ) → get_or bytes i 0 < 256

pub are_bytes : (bytes : List ℕ) → ((i : ℕ) → Fits w8 (get_or bytes i 0)) → AreBytes bytes
are_bytes bytes fits = record { small = λ i. Fits-lt-pow (fits i) }

-- where byte i of so many bytes stands, counted from the lowest one
abbrev pub byte_place : Bool → ℕ → ℕ → ℕ
byte_place big len i = if big then len - 1 - i else i

pub length-lowest_first : (big : Bool) (bytes : List ℕ) → length (lowest_first big bytes) ≡ length bytes
length-lowest_first true bytes = length-reverse bytes
length-lowest_first false bytes = refl

pub get_or-lowest_first : (big : Bool) (bytes : List ℕ) (i : ℕ) → i < length bytes
    → get_or (lowest_first big bytes) i 0 ≡ get_or bytes (byte_place big (length bytes) i) 0
get_or-lowest_first true bytes i within = get_or-reverse bytes i 0 within
get_or-lowest_first false bytes i within = refl

byte_place-apart : (big : Bool) (len i j : ℕ) → i < len → j < len → i ≢ j → byte_place big len i ≢ byte_place big len j
byte_place-apart true len i j first second differ same = differ (omega arith)
byte_place-apart false len i j first second differ same = differ same

byte_place-lt : (big : Bool) (len i : ℕ) → i < len → byte_place big len i < len
byte_place-lt true len i within = omega arith
byte_place-lt false len i within = within

pub lowest_first_bytes : (big : Bool) (bytes : List ℕ) → AreBytes bytes → AreBytes (lowest_first big bytes)
lowest_first_bytes true bytes all = record {
  small = λ i. elim (cases_lt i (length bytes)) [
    | inl within ↦ rw (get_or-reverse bytes i 0 within) (all.small (length bytes - 1 - i))
    | inr past ↦ rw (get_or_past (reverse bytes) i 0 (omega (arith, length-reverse bytes))) (omega arith)
  ];
}
lowest_first_bytes false bytes all = all

-- the number of bytes, bit by bit
pub bit_at-le_number : (bytes : List ℕ) (k : ℕ) → AreBytes bytes → bit_at (le_number bytes) k ≡ bit_of bytes k
bit_at-le_number [] k all = bit_at-zero k ∙ sym (bit_at-zero (k % 8))
bit_at-le_number (b ∷ bytes) k all =
    let small = all.small 0 in
    let behind : AreBytes bytes = record { small = λ i. all.small (suc i) } in
    let cat : b + 256 * le_number bytes ≡ le_number bytes * 2 ^ 8 + b = omega arith in
    rw cat (elim (cases_lt k 8) [
      | inl low ↦
          let place : k / 8 ≡ 0 = omega arith in
          let bit : k % 8 ≡ k = omega arith in
          rw (place, bit) (bit_at_cat_low (le_number bytes) 8 b k low)
      | inr high ↦
          let place : k / 8 ≡ suc ((k - 8) / 8) = omega arith in
          let bit : k % 8 ≡ (k - 8) % 8 = omega arith in
          rw (place, bit) (bit_at_cat_high (le_number bytes) 8 b k small high ∙ bit_at-le_number bytes (k - 8) behind)
    ])

pub le_number-lt : (bytes : List ℕ) → AreBytes bytes → le_number bytes < 2 ^ (8 * length bytes)
le_number-lt [] all = omega arith
le_number-lt (b ∷ bytes) all =
    let small = all.small 0 in
    let behind : AreBytes bytes = record { small = λ i. all.small (suc i) } in
    let rest = le_number-lt bytes behind in
    let size : 8 * suc (length bytes) ≡ 8 * length bytes + 8 = omega arith in
    rw (size, pow-add 2 (8 * length bytes) 8) (omega arith)

-- the number of the bytes from one place lower on
pub le_number-lower : (big : Bool) (bytes : List ℕ) (j word : ℕ) → AreBytes bytes → length bytes ≤ 16 → j < length bytes
    → word ≡ le_number (drop (suc j) (lowest_first big bytes))
    → bit_or (word * 2 ^ 8 % 2 ^ 128) (get_or bytes (byte_place big (length bytes) j) 0) ≡ le_number (drop j (lowest_first big bytes))
le_number-lower big bytes j word all few within is =
    let ordered = lowest_first big bytes in
    let long = length-lowest_first big bytes in
    let byte = get_or ordered j 0 in
    let rest = drop (suc j) ordered in
    let placed : byte ≡ get_or bytes (byte_place big (length bytes) j) 0 = get_or-lowest_first big bytes j within in
    let ordered_bytes = lowest_first_bytes big bytes all in
    let small = ordered_bytes.small j in
    let rest_bytes : AreBytes rest = record { small = λ i. rw (get_or-drop (suc j) ordered i 0) (ordered_bytes.small (suc j + i)) } in
    let bound = le_number-lt rest rest_bytes in
    let room : 8 * length rest + 8 ≤ 128 = omega (arith, length-drop (suc j) ordered) in
    let here : j < length ordered = omega arith in
    let cut : drop j ordered ≡ byte ∷ rest = drop-cons ordered j 0 here in
    rw (cut, is, sym placed, shl_whole (le_number rest) (8 * length rest) 8 128 bound room, or_shifted (le_number rest) 8 byte small) (omega arith)

-- a byte of a number
abbrev pub byte_of : ℕ → ℕ → ℕ
byte_of word j = word / 2 ^ (8 * j) % 256

-- one byte more of a number, written to its place
pub bytes_more : (big : Bool) (bytes : List ℕ) (word i byte : ℕ) → i < length bytes
    → ((j : ℕ) → j < i → get_or (lowest_first big bytes) j 0 ≡ byte_of word j) → byte ≡ byte_of word i
    → (j : ℕ) → j < i + 1 → get_or (lowest_first big (set bytes (byte_place big (length bytes) i) byte)) j 0 ≡ byte_of word j
bytes_more big bytes word i byte within so_far is j before =
    let place = byte_place big (length bytes) i in
    let new = set bytes place byte in
    let long = length-set bytes place byte in
    let inside : j < length new = omega arith in
    let placed : get_or (lowest_first big new) j 0 ≡ get_or new (byte_place big (length bytes) j) 0 =
    get_or-lowest_first big new j inside ∙ ap (λ (n : ℕ). get_or new (byte_place big n j) 0) long in
    elim (cases_eq j i) [
      | inl same ↦
          let there : place < length bytes = byte_place-lt big (length bytes) i within in
          placed ∙ rw same (get_or-set_same bytes place byte 0 there ∙ is)
      | inr earlier ↦
          let apart = byte_place-apart big (length bytes) j i (omega arith) within earlier in
          placed ∙ get_or-set_other bytes place (byte_place big (length bytes) j) byte 0 apart
          ∙ sym (get_or-lowest_first big bytes j (omega arith)) ∙ so_far j (omega arith)
    ]

-- past the bytes there is no bit
pub bit_of_past : (bytes : List ℕ) (k : ℕ) → 8 * length bytes ≤ k → bit_of bytes k ≡ 0
bit_of_past bytes k past = ap (λ (b : ℕ). bit_at b (k % 8)) (get_or_past bytes (k / 8) 0 (omega arith)) ∙ bit_at-zero (k % 8)

-- bytes that are those of a number have its bits
pub bit_of-bytes : (bytes : List ℕ) (word : ℕ) → word < 2 ^ (8 * length bytes)
    → ((j : ℕ) → j < length bytes → get_or bytes j 0 ≡ byte_of word j) → (k : ℕ) → bit_of bytes k ≡ bit_at word k
bit_of-bytes bytes word fits same k = elim (cases_lt k (8 * length bytes)) [
  | inl within ↦
      let j = k / 8 in
      let i = k % 8 in
      let place : 8 * j + i ≡ k = omega arith in
      let low : i < 8 = omega arith in
      let one = bit_at_ones 8 i low in
      let bound = bit_at-lt (word / 2 ^ (8 * j)) i in
      let masked : bit_at (byte_of word j) i ≡ bit_at (word / 2 ^ (8 * j)) i =
      ap (λ (n : ℕ). bit_at n i) (sym (and_mask (word / 2 ^ (8 * j)) 8)) ∙ bit_at_and (word / 2 ^ (8 * j)) (2 ^ 8 - 1) i ∙ omega arith in
      ap (λ (b : ℕ). bit_at b i) (same j (omega arith)) ∙ masked ∙ ap (λ (n : ℕ). n % 2) (shr-shr word (8 * j) i) ∙ ap (bit_at word) place
  | inr past ↦ bit_of_past bytes k past ∙ sym (bit_at_above word (8 * length bytes) k fits past)
]

byte_small : (i n : ℕ) → byte_at i n < 256
byte_small zero n = omega arith
byte_small (suc i) n = omega arith

low_bytes_small : (first count n i : ℕ) → get_or (bytes_low_first first count n) i 0 < 256
low_bytes_small first zero n i = subst (λ (b : ℕ). b < 256) (sym (get_or_past {X = ℕ} [] i 0 (omega arith))) (omega arith)
low_bytes_small first (suc count) n zero = byte_small first n
low_bytes_small first (suc count) n (suc i) = low_bytes_small (suc first) count n i

-- bytes that are the lowest of a number which has no more have its bits
pub bit_of-low : (big : Bool) (bytes : List ℕ) (count word k : ℕ) → big ≡ false → bytes ≡ bytes_low_first 0 count word
    → le_number (bytes_low_first 0 count word) ≡ word → bit_of (lowest_first big bytes) k ≡ bit_at word k
bit_of-low big bytes count word k little are whole =
    let low = bytes_low_first 0 count word in
    ap (λ (order : Bool). bit_of (lowest_first order bytes) k) little ∙ ap (λ (xs : List ℕ). bit_of xs k) are
    ∙ sym (bit_at-le_number low k (record { small = low_bytes_small 0 count word })) ∙ ap (λ (n : ℕ). bit_at n k) whole
