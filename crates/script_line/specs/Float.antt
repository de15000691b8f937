-- The floats that words write.
use Rattle.std.specs.Prelude.{ℕ, List, drop, Option, Some, None, to_bits, if◌then◌else◌}
use Rattle.std.specs.List.{list_any}
use Rattle.std.specs.Char.{is_ascii_uppercase}
use Rattle.std.specs.Option.{option_and_then, option_map}
use Rattle.std.specs.Result.{result_ok}
use Rattle.std.specs.Float.{Float, Format, binary32, binary64, float_is_finite}
use Rattle.fast_float.specs.Parse.{parse_float}
use Rattle.hex.specs.Hex.{decode_sized}
use Rattle.mdf_format.specs.Number.{le_number}
use Rattle.script_line.specs.Text.{begins_with}
use Rattle.script_line.specs.declared.float.Width.{Width}
use Rattle.script_line.specs.declared.float.Width.TheVariants.{Single, Double}

abbrev pub format_of : Width → Format
format_of Single = binary32
format_of Double = binary64

-- how many bytes it has
abbrev pub size_of : Width → ℕ
size_of Single = 4
size_of Double = 8

-- the bits of a finite float
abbrev pub finite_bits : Format → Float → Option ℕ
finite_bits format number = if float_is_finite number then Some (to_bits format number) else None

-- those of the float nearest to the number that a word writes in decimal, where it writes one
abbrev pub bits_in : Format → List ℕ → Option ℕ
bits_in format word = option_and_then (finite_bits format) (parse_float format word)

abbrev pub decimal_bits : Width → List ℕ → Option ℕ
decimal_bits width word = bits_in (format_of width) word

-- the number that so many bytes are, the lowest first, which stand as pairs of hexadecimal digits whose letters are small
abbrev pub paired : ℕ → List ℕ → Option ℕ
paired size digits = if list_any is_ascii_uppercase digits then None else option_map le_number (result_ok (decode_sized digits size))

-- The bits of the float that a word says: behind an `x` they are its bytes, the lowest first; any other word is a number in
-- decimal, and they are those of the float that is nearest to it.
abbrev pub float_bits : Width → List ℕ → Option ℕ
float_bits width word = if begins_with 120 word then paired (size_of width) (drop 1 word) else decimal_bits width word
