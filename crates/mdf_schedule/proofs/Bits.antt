-- Bytes follow from their bits, and the bits of a field from its value.
use Rattle.std.proofs.Common.{◌≡◌, ◌+◌, ◌-◌, ◌*◌, ◌/◌, ◌%◌, ◌^◌, ◌<◌, ◌≤◌, ◌⊎◌, ℕ, zero, suc, Bool, true, false, List, [], ◌∷◌, ◌++◌, length, get_or, drop, refl, sym, ◌∙◌, ap, inl, inr, arith, if◌then◌else◌}
use Rattle.std.proofs.lemmas.List.{get_or_default, get_or-take, get_or-drop, same_lists}
use Rattle.std.proofs.lemmas.Nat.Bits.{bit_at-lt}
use Rattle.std.specs.Prelude.{not, nat_eq, nat_lt, pos, neg_ℤ, Some}
use Rattle.std.specs.Int.{bit_at}
use Rattle.mdf_format.specs.Field.{Spot, HasBit, bit_of, covered_end, covered_size, field_number, signed_number, place_of}
use Rattle.mdf_format.specs.Number.{bytes_at}
use Rattle.mdf_format.specs.Row.{AreBytesPlaced}
use Rattle.mdf_bits.proofs.Spots.{bit_at-field_number, field_number-lt, comes_from}
use Rattle.mdf_layout.specs.Rule.{IsPlacedAs, is_variable_kind}
use Rattle.mdf_layout.specs.Values.{Finder, value_in}
use Rattle.mdf_layout.specs.declared.field.FieldKind.{FieldKind}
use Rattle.mdf_layout.specs.declared.field.FieldKind.TheVariants.{Unsigned, Signed, Fixed, Variable, Virtual}
use Rattle.mdf_layout.specs.declared.sample.Value.{Value}
use Rattle.mdf_layout.specs.declared.sample.Value.TheVariants as value
use Rattle.mdf_layout.proofs.Stays.{same_byte}
use Rattle.mdf_schedule.specs.Records.{AreBytes}

pub two_ways : (b : Bool) → (b ≡ true) ⊎ (b ≡ false)
two_ways true = inl refl
two_ways false = inr refl

-- bytes of two lists
pub bytes_first : (xs ys : List ℕ) → AreBytes (xs ++ ys) → AreBytes xs
bytes_first [] ys small = tt
bytes_first (x ∷ xs) ys small = (small.0, bytes_first xs ys small.1)

pub bytes_behind : (xs ys : List ℕ) → AreBytes (xs ++ ys) → AreBytes ys
bytes_behind [] ys small = small
bytes_behind (x ∷ xs) ys small = bytes_behind xs ys small.1

byte_below : (bytes : List ℕ) (i : ℕ) → AreBytes bytes → get_or bytes i 0 < 256
byte_below [] i small = omega arith
byte_below (b ∷ bytes) zero small = small.0
byte_below (b ∷ bytes) (suc i) small = byte_below bytes i small.1

pub same_bytes : (xs ys : List ℕ) → length xs ≡ length ys → AreBytes xs → AreBytes ys
    → ((p : ℕ) → p < 8 * length xs → bit_of xs p ≡ bit_of ys p) → xs ≡ ys
same_bytes xs ys long small small' same =
    same_lists xs ys long (λ k d within.
    get_or_default xs k d 0 within
    ∙ same_byte xs ys k (byte_below xs k small) (byte_below ys k small') (λ b below. same (8 * k + b) (omega (arith, below, within)))
    ∙ get_or_default ys k 0 d (omega (arith, within, long)))

-- a number says the bits of its field
number_bits : (s : Spot) (xs ys : List ℕ) → covered_end s ≤ length xs → covered_end s ≤ length ys → field_number s xs ≡ field_number s ys
    → (p : ℕ) → HasBit s p → bit_of xs p ≡ bit_of ys p
number_bits s xs ys in_xs in_ys same p has =
    let i = has.k - s.bit in
    let within : i < s.bits = omega (arith, has.low, has.high) in
    let back : s.bit + i ≡ has.k = omega (arith, has.low) in
    let there : place_of s (s.bit + i) ≡ p = ap (place_of s) back ∙ sym has.there in
    ap (bit_of xs) (sym there)
    ∙ sym (bit_at-field_number s xs i in_xs within)
    ∙ ap (λ (n : ℕ). bit_at n i) same
    ∙ bit_at-field_number s ys i in_ys within
    ∙ ap (bit_of ys) there

-- two's complement is of one number
signed_parts : (a b : Bool) (top n m : ℕ) → n < top → m < top
    → (if a then pos n else neg_ℤ (pos (top - n))) ≡ (if b then pos m else neg_ℤ (pos (top - m))) → n ≡ m
signed_parts true true top n m in_n in_m same = let is : pos n ≡ pos m = same in cc
signed_parts true false top n m in_n in_m same =
    let some : top - m ≡ suc (top - m - 1) = omega (arith, in_m) in
    let wrong : pos n ≡ neg_ℤ (pos (suc (top - m - 1))) = same ∙ ap (λ (k : ℕ). neg_ℤ (pos k)) some in cc
signed_parts false true top n m in_n in_m same =
    let some : top - n ≡ suc (top - n - 1) = omega (arith, in_n) in
    let wrong : neg_ℤ (pos (suc (top - n - 1))) ≡ pos m = ap (λ (k : ℕ). neg_ℤ (pos k)) (sym some) ∙ same in cc
signed_parts false false top n m in_n in_m same =
    let one : top - n ≡ suc (top - n - 1) = omega (arith, in_n) in
    let two : top - m ≡ suc (top - m - 1) = omega (arith, in_m) in
    let both : neg_ℤ (pos (suc (top - n - 1))) ≡ neg_ℤ (pos (suc (top - m - 1))) =
    ap (λ (k : ℕ). neg_ℤ (pos k)) (sym one) ∙ same ∙ ap (λ (k : ℕ). neg_ℤ (pos k)) two in
    let less : top - n - 1 ≡ top - m - 1 = cc in
    omega (arith, less, in_n, in_m)

signed_once : (bits n m : ℕ) → n < 2 ^ bits → m < 2 ^ bits → signed_number bits n ≡ signed_number bits m → n ≡ m
signed_once bits n m in_n in_m same = signed_parts (nat_lt n (2 ^ (bits - 1))) (nat_lt m (2 ^ (bits - 1))) (2 ^ bits) n m in_n in_m same

-- whole bytes say the bits of their field
fixed_bits : (n : ℕ) (s : Spot) (xs ys : List ℕ) → AreBytesPlaced n s → bytes_at (s.bits / 8) xs s.byte ≡ bytes_at (s.bits / 8) ys s.byte
    → (p : ℕ) → HasBit s p → bit_of xs p ≡ bit_of ys p
fixed_bits n s xs ys at same p has =
    let within : has.k < 8 * covered_size s = omega (arith, has.high) in
    let from = comes_from s p has.k within has.there in
    let j = p / 8 - s.byte in
    let below : j < s.bits / 8 = omega (arith, from.low, from.high, at.bit, at.whole) in
    let here : s.byte + j ≡ p / 8 = omega (arith, from.low) in
    let read : (bytes : List ℕ) → get_or (bytes_at (s.bits / 8) bytes s.byte) j 0 ≡ get_or bytes (p / 8) 0 =
    λ bytes. get_or-take (s.bits / 8) (drop s.byte bytes) j 0 below ∙ get_or-drop s.byte bytes j 0 ∙ ap (λ (i : ℕ). get_or bytes i 0) here in
    ap (λ (b : ℕ). bit_at b (p % 8)) (sym (read xs) ∙ ap (λ (bytes : List ℕ). get_or bytes j 0) same ∙ read ys)

-- a value says the bits of its field
pub kind_bits : (kind : FieldKind) (s : Spot) (n : ℕ) (xs ys : List ℕ) (find find' : Finder) (i j : ℕ) (v : Value) → length xs ≡ n → length ys ≡ n
    → IsPlacedAs kind n s → (is_variable_kind kind ≡ true → field_number s xs ≡ field_number s ys) → (kind ≡ Virtual → s.bits ≡ 0)
    → value_in kind s xs find i ≡ Some v → value_in kind s ys find' j ≡ Some v → (p : ℕ) → HasBit s p → bit_of xs p ≡ bit_of ys p
kind_bits Unsigned s n xs ys find find' i j v long long' at offset none one two =
    let both : Some (value.Unsigned (field_number s xs)) ≡ Some (value.Unsigned (field_number s ys)) = one ∙ sym two in
    let same : field_number s xs ≡ field_number s ys = cc in
    number_bits s xs ys (omega (arith, at.inside, long)) (omega (arith, at.inside, long')) same
kind_bits Signed s n xs ys find find' i j v long long' at offset none one two =
    let both : Some (value.Signed (signed_number s.bits (field_number s xs))) ≡ Some (value.Signed (signed_number s.bits (field_number s ys))) = one ∙ sym two in
    let same : signed_number s.bits (field_number s xs) ≡ signed_number s.bits (field_number s ys) = cc in
    number_bits s xs ys (omega (arith, at.inside, long)) (omega (arith, at.inside, long'))
    (signed_once s.bits (field_number s xs) (field_number s ys) (field_number-lt s xs) (field_number-lt s ys) same)
kind_bits Fixed s n xs ys find find' i j v long long' at offset none one two =
    let both : Some (value.Bytes (bytes_at (s.bits / 8) xs s.byte)) ≡ Some (value.Bytes (bytes_at (s.bits / 8) ys s.byte)) = one ∙ sym two in
    let same : bytes_at (s.bits / 8) xs s.byte ≡ bytes_at (s.bits / 8) ys s.byte = cc in
    fixed_bits n s xs ys at same
kind_bits Variable s n xs ys find find' i j v long long' at offset none one two =
    number_bits s xs ys (omega (arith, at.inside, long)) (omega (arith, at.inside, long')) (offset refl)
kind_bits Virtual s n xs ys find find' i j v long long' at offset none one two = λ p has.
    absurd (omega (arith, has.low, has.high, none refl))

-- a mark says its bit
one_bit : (a b : ℕ) → a < 2 → b < 2 → not (nat_eq a 1) ≡ not (nat_eq b 1) → a ≡ b
one_bit zero zero in_a in_b same = refl
one_bit zero (suc zero) in_a in_b same = let wrong : true ≡ false = same in cc
one_bit (suc zero) zero in_a in_b same = let wrong : false ≡ true = same in cc
one_bit (suc zero) (suc zero) in_a in_b same = refl
one_bit zero (suc (suc b)) in_a in_b same = absurd (omega (arith, in_b))
one_bit (suc zero) (suc (suc b)) in_a in_b same = absurd (omega (arith, in_b))
one_bit (suc (suc a)) b in_a in_b same = absurd (omega (arith, in_a))

pub mark_bits : (inval inval' : List ℕ) (p : ℕ) → not (nat_eq (bit_of inval p) 1) ≡ not (nat_eq (bit_of inval' p) 1) → bit_of inval p ≡ bit_of inval' p
mark_bits inval inval' p same =
    one_bit (bit_of inval p) (bit_of inval' p) (bit_at-lt (get_or inval (p / 8) 0) (p % 8)) (bit_at-lt (get_or inval' (p / 8) 0) (p % 8)) same
