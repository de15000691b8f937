-- The number that bytes are, in byteorder's words and in the format's.
use Rattle.std.proofs.Common.{◌≡◌, ◌+◌, ◌*◌, ℕ, List, [], ◌∷◌, length, refl, ◌∙◌, ap}
use Rattle.byteorder.specs.Endian.{little_number}
use Rattle.byteorder.specs.Numbers.{little_from-cons}
use Rattle.mdf_format.specs.Number.{le_number}

pub little_number-whole : (xs : List ℕ) → little_number (length xs) xs ≡ le_number xs
little_number-whole [] = refl
little_number-whole (x ∷ xs) =
    ap (λ (rest : ℕ). x + 256 * rest) (little_from-cons 0 (length xs) x xs ∙ little_number-whole xs)
