-- The types of channels.
use Rattle.std.specs.Prelude.{ℕ, ◌≡◌, ◌≤◌, ◌*◌, ◌%◌, ◌⊎◌, Bool, true, false, ◌&&◌, not, nat_le, nat_lt, if◌then◌else◌, List, length, take, drop, codes, Option, Some, None}
use Rattle.std.specs.Option.{option_map, option_and_then}
use Rattle.std.specs.Str.{bytes_eq}
use Rattle.script_line.specs.Number.{number_of}
use Rattle.script_line.specs.declared.kind.ValueType.{ValueType}

-- a little-endian number, which begins at the next free bit, and a value that begins at the next whole byte
abbrev pub packed : ℕ → ℕ → ValueType
packed data_type bits = record { data_type = data_type; bits = bits; packed = true; variable = false }

abbrev pub at_byte : ℕ → ℕ → ValueType
at_byte data_type bits = record { data_type = data_type; bits = bits; packed = false; variable = false }

-- the offset of a value of variable length
abbrev pub long : ℕ → ValueType
long data_type = record { data_type = data_type; bits = 64; packed = false; variable = true }

-- what stands behind these letters, if the word begins with them
abbrev pub behind : List ℕ → List ℕ → Option (List ℕ)
behind letters word =
    if nat_le (length letters) (length word) && bytes_eq (take (length letters) word) letters
    then Some (drop (length letters) word) else None

-- the number behind these letters, which is 1 to so much
abbrev pub up_to : ℕ → ℕ → Option ℕ
up_to most n = if nat_le 1 n && nat_le n most then Some n else None

unfoldable pub count_behind : List ℕ → ℕ → List ℕ → Option ℕ
count_behind letters most word = option_and_then (up_to most) (option_and_then number_of (behind letters word))

-- the first type, or else the second
abbrev pub or_else : Option ValueType → Option ValueType → Option ValueType
or_else (Some kind) other = Some kind
or_else None other = other

-- `uN`, `sN`, `ubN` and `sbN`, N from 1 to 64: numbers of N bits, signed or not; `b` is for big-endian
unfoldable pub number_type : List ℕ → Option ValueType
number_type word =
    or_else (option_map (packed 0) (count_behind (codes "u") 64 word))
    (or_else (option_map (packed 2) (count_behind (codes "s") 64 word))
    (or_else (option_map (at_byte 1) (count_behind (codes "ub") 64 word))
    (option_map (at_byte 3) (count_behind (codes "sb") 64 word))))

-- `f32` and `f64`: floats; `var` and `vartext`: values of variable length; `bytesN` and `textN`, N from 1 to 255: N bytes
unfoldable pub named_type : List ℕ → Option ValueType
named_type word =
    if bytes_eq word (codes "f32") then Some (at_byte 4 32)
    else (if bytes_eq word (codes "f64") then Some (at_byte 4 64)
    else (if bytes_eq word (codes "var") then Some (long 10)
    else (if bytes_eq word (codes "vartext") then Some (long 7)
    else or_else (option_map (λ n. at_byte 10 (8 * n)) (count_behind (codes "bytes") 255 word))
    (option_map (λ n. at_byte 7 (8 * n)) (count_behind (codes "text") 255 word)))))

unfoldable pub type_of : List ℕ → Option ValueType
type_of word = or_else (number_type word) (named_type word)

-- its values are numbers
abbrev pub is_number : ValueType → Bool
is_number kind = nat_lt kind.data_type 6 && not kind.variable

-- a type of 1 to 64 bits for a number or an offset, or of whole bytes; what begins at the next free bit is a
-- little-endian number
pub record IsType (kind : ValueType) : Type 0 where
  pub some : 1 ≤ kind.bits
  pub few : kind.bits ≤ 2040
  pub data_type : kind.data_type ≤ 10
  pub number : (kind.data_type ≤ 5) ⊎ (kind.variable ≡ true) → kind.bits ≤ 64
  pub whole : 6 ≤ kind.data_type → (kind.bits % 8 ≡ 0) × (kind.packed ≡ false)
  pub long : kind.variable ≡ true → (kind.bits ≡ 64) × (kind.packed ≡ false)
  pub little : kind.packed ≡ true → (kind.data_type ≡ 0) ⊎ (kind.data_type ≡ 2)
