-- Bits of the number that a list of bits is, and bits of the list of bits that bytes have.
use Rattle.std.proofs.Common.{◌≡◌, ◌<◌, ◌+◌, ◌*◌, ◌/◌, ◌%◌, ◌^◌, ℕ, zero, suc, List, [], ◌∷◌, take, drop, get_or, refl, sym, ◌∙◌, ap, arith}
use Rattle.std.proofs.Math.Nat.{pow-suc}
use Rattle.std.proofs.lemmas.List.{get_or-drop}
use Rattle.std.proofs.lemmas.Nat.Bits.{bit_at_lowest, bit_at-suc, bit_at-zero, bit_at-lt}
use Rattle.std.specs.Int.{bit_at}
use Rattle.mdf_format.specs.Field.{bits_of, weight_of, bit_of}

-- each number of the list is a bit
pub record AreBits (bits : List ℕ) : Type 0 where
  pub small : (i : ℕ) → get_or bits i 0 < 2

are_bits_behind : (b : ℕ) (bits : List ℕ) → AreBits (b ∷ bits) → AreBits bits
are_bits_behind b bits all = record { small = λ i. all.small (suc i) }

pub are_bits_after : (n : ℕ) (bits : List ℕ) → AreBits bits → AreBits (drop n bits)
are_bits_after n bits all = record { small = λ i. rw get_or-drop (all.small (n + i)) }

-- bit i of the number that the first n bits are is the bit at i
pub bit_at-weight_of : (n : ℕ) (bits : List ℕ) (i : ℕ) → AreBits bits → i < n → bit_at (weight_of (take n bits)) i ≡ get_or bits i 0
bit_at-weight_of zero bits i all within = absurd (omega arith)
bit_at-weight_of (suc n) [] i all within = bit_at-zero i
bit_at-weight_of (suc n) (b ∷ bits) zero all within =
    let low = all.small 0 in
    bit_at_lowest (b + 2 * weight_of (take n bits)) ∙ omega arith
bit_at-weight_of (suc n) (b ∷ bits) (suc i) all within =
    let low = all.small 0 in
    let half : (b + 2 * weight_of (take n bits)) / 2 ≡ weight_of (take n bits) = omega arith in
    bit_at-suc (b + 2 * weight_of (take n bits)) i
    ∙ ap (λ (m : ℕ). bit_at m i) half
    ∙ bit_at-weight_of n bits i (are_bits_behind b bits all) (omega arith)

-- so many bits are a number below the power
pub weight_of-lt : (n : ℕ) (bits : List ℕ) → AreBits bits → weight_of (take n bits) < 2 ^ n
weight_of-lt zero bits all = omega arith
weight_of-lt (suc n) [] all = let rest = weight_of-lt n [] all in rw (pow-suc 2 n) (omega arith)
weight_of-lt (suc n) (b ∷ bits) all =
    let low = all.small 0 in
    let rest = weight_of-lt n bits (are_bits_behind b bits all) in
    rw (pow-suc 2 n) (omega arith)

-- the bit at k of the bits of bytes is bit k of the bytes
pub get_or-bits_of : (bytes : List ℕ) (k : ℕ) → get_or (bits_of bytes) k 0 ≡ bit_of bytes k
get_or-bits_of [] k = sym (bit_at-zero (k % 8))
get_or-bits_of (b ∷ bytes) zero = refl
get_or-bits_of (b ∷ bytes) (suc zero) = refl
get_or-bits_of (b ∷ bytes) (suc (suc zero)) = refl
get_or-bits_of (b ∷ bytes) (suc (suc (suc zero))) = refl
get_or-bits_of (b ∷ bytes) (suc (suc (suc (suc zero)))) = refl
get_or-bits_of (b ∷ bytes) (suc (suc (suc (suc (suc zero))))) = refl
get_or-bits_of (b ∷ bytes) (suc (suc (suc (suc (suc (suc zero)))))) = refl
get_or-bits_of (b ∷ bytes) (suc (suc (suc (suc (suc (suc (suc zero))))))) = refl
get_or-bits_of (b ∷ bytes) (suc (suc (suc (suc (suc (suc (suc (suc k)))))))) =
    let place : suc (suc (suc (suc (suc (suc (suc (suc k))))))) / 8 ≡ suc (k / 8) = omega arith in
    let within : suc (suc (suc (suc (suc (suc (suc (suc k))))))) % 8 ≡ k % 8 = omega arith in
    get_or-bits_of bytes k ∙ sym (rw (place, within) refl)

pub are_bits_of : (bytes : List ℕ) → AreBits (bits_of bytes)
are_bits_of bytes = record { small = λ i. rw get_or-bits_of (bit_at-lt (get_or bytes (i / 8) 0) (i % 8)) }
