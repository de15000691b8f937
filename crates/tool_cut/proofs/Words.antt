-- The number of a field of eight whole bytes with the lowest first.
use Rattle.std.proofs.Common.{◌≡◌, ◌+◌, ◌*◌, ◌≤◌, ◌<◌, ℕ, suc, false, List, [], ◌∷◌, length, take, drop, get_or, refl, ◌∙◌, ap, Fits, w8, arith}
use Rattle.std.proofs.Math.Facts.{Fits-lt-pow}
use Rattle.std.proofs.lemmas.List.{get_or-drop, get_or-take, take_all, length-take}
use Rattle.std.specs.Int.{bit_at}
use Rattle.mdf_format.specs.Field.{Spot, bits_of, field_number, weight_of}
use Rattle.mdf_format.specs.Number.{bytes_at, le_number}

-- the eight bits of a byte, before others
weight-byte : (b rest : ℕ) → b < 256
    → bit_at b 0 + 2 * (bit_at b 1 + 2 * (bit_at b 2 + 2 * (bit_at b 3 + 2 * (bit_at b 4 + 2 * (bit_at b 5 + 2 * (bit_at b 6 + 2 * (bit_at b 7 + 2 * rest)))))))
    ≡ b + 256 * rest
weight-byte b rest small = omega (arith, small)

weight-bytes : (bytes : List ℕ) → ((i : ℕ) → i < length bytes → get_or bytes i 0 < 256) → weight_of (bits_of bytes) ≡ le_number bytes
weight-bytes [] small = refl
weight-bytes (b ∷ bytes) small =
    weight-byte b (weight_of (bits_of bytes)) (small 0 (omega arith))
    ∙ ap (λ (n : ℕ). b + 256 * n) (weight-bytes bytes (λ i within. small (suc i) (omega (arith, within))))

length-bits_of : (bytes : List ℕ) → length (bits_of bytes) ≡ 8 * length bytes
length-bits_of [] = refl
length-bits_of (b ∷ bytes) = omega (arith, length-bits_of bytes)

pub word_number : (spot : Spot) (bytes : List ℕ) → spot.bit ≡ 0 → spot.bits ≡ 64 → spot.big ≡ false → ((i : ℕ) → Fits w8 (get_or bytes i 0))
    → field_number spot bytes ≡ le_number (bytes_at 8 bytes spot.byte)
word_number spot bytes bit bits big fits = rw (bit, bits, big) (ap weight_of whole ∙ weight-bytes part small)
  where
    part : List ℕ
    part = bytes_at 8 bytes spot.byte

    few : length part ≤ 8
    few = omega (arith, length-take 8 (drop spot.byte bytes))

    whole : take 64 (bits_of part) ≡ bits_of part
    whole = take_all 64 (bits_of part) (omega (arith, few, length-bits_of part))

    small : (i : ℕ) → i < length part → get_or part i 0 < 256
    small i within =
        let read : get_or part i 0 ≡ get_or bytes (spot.byte + i) 0 =
        get_or-take 8 (drop spot.byte bytes) i 0 (omega (arith, within, few)) ∙ get_or-drop spot.byte bytes i 0 in
        rw read (Fits-lt-pow (fits (spot.byte + i)))
