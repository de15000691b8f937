-- Numbers and ranges in a list of bytes. Each number of MDF is little-endian.
use Rattle.std.specs.Prelude.{ℕ, ◌+◌, ◌*◌, ◌/◌, List, [], ◌∷◌, ◌++◌, length, take, drop, nat_le, Option, Some, None, if◌then◌else◌}

-- the number that these bytes are, the lowest first
abbrev pub le_number : List ℕ → ℕ
le_number [] = 0
le_number (byte ∷ bytes) = byte + 256 * le_number bytes

-- the `count` bytes from a place on, or those of them that are there
abbrev pub bytes_at : ℕ → List ℕ → ℕ → List ℕ
bytes_at count bytes at = take count (drop at bytes)

-- the number in the `count` bytes from a place on, where all of them are there
abbrev pub number_at : ℕ → List ℕ → ℕ → Option ℕ
number_at count bytes at =
    if nat_le (at + count) (length bytes) then Some (le_number (bytes_at count bytes at)) else None

-- the bytes with these in the place of those from `at` on; they may reach past the end
abbrev pub patched : ℕ → List ℕ → List ℕ → List ℕ
patched at part bytes = take at bytes ++ part ++ drop (at + length part) bytes

-- the least multiple of 8 that is not below n
abbrev pub aligned : ℕ → ℕ
aligned n = (n + 7) / 8 * 8
