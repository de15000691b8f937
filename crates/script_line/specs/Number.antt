-- Numbers in decimal.
use Rattle.std.specs.Prelude.{ℕ, ◌≡◌, ◌<◌, ◌^◌, Bool, ◌&&◌, ◌||◌, not, nat_lt, ◌==◌, if◌then◌else◌, List, length, slice_index, Option, Some, None}
use Rattle.std.specs.List.{list_all}
use Rattle.std.specs.Char.{is_ascii_digit}
use Rattle.std.specs.Str.Parse.{digits_value}
use Rattle.std.specs.Fmt.{decimal}

-- one or more decimal digits; a zero stands in front of no other digit
abbrev pub is_numeral : List ℕ → Bool
is_numeral word = not (length word == 0 || (nat_lt 1 (length word) && slice_index word 0 == 48)) && list_all is_ascii_digit word

-- the number that digits are, if it is below 2 ^ 64
abbrev pub value_of : List ℕ → Option ℕ
value_of digits = if nat_lt (digits_value 10 digits) (2 ^ 64) then Some (digits_value 10 digits) else None

-- the number that a word is, if it is one below 2 ^ 64
unfoldable pub number_of : List ℕ → Option ℕ
number_of word = if is_numeral word then value_of word else None

-- a word is this number, below 2 ^ 64, in decimal without a sign and without leading zeros; and it is none
abbrev pub IsNumber : List ℕ → ℕ → Type 0
IsNumber word number = (word ≡ decimal number) × (number < 2 ^ 64)

abbrev pub IsNoNumber : List ℕ → Type 0
IsNoNumber word = (number : ℕ) → ¬ IsNumber word number
