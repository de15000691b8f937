-- Numbers that are written read back.
use Rattle.std.proofs.Common.{◌≡◌, ◌+◌, ◌*◌, ◌^◌, ◌<◌, ℕ, zero, suc, List, [], ◌∷◌, ◌++◌, length, refl, sym, ◌∙◌, ap, arith, length-append, append_assoc}
use Rattle.std.specs.List.{AllByRecursion}
use Rattle.std.specs.Int.{to_le_bytes, w16, w32, w64}
use Rattle.mdf_format.specs.Number.{le_number, bytes_at}
use Rattle.mdf_block.proofs.Laying.{le_number-to_le_bytes, bytes_at-part}
use Rattle.mdf_conv.specs.Conv.{numbers_at}
use Rattle.mdf_tree.specs.Conv.{words_of}

pub back16 : (n : ℕ) → n < 2 ^ 16 → le_number (to_le_bytes w16 n) ≡ n
back16 n small = omega (arith, small)

pub back32 : (n : ℕ) → n < 2 ^ 32 → le_number (to_le_bytes w32 n) ≡ n
back32 n small = omega (arith, small)

pub back64 : (n : ℕ) → n < 2 ^ 64 → le_number (to_le_bytes w64 n) ≡ n
back64 n small = le_number-to_le_bytes n small

pub length-words : (numbers : List ℕ) → length (words_of numbers) ≡ 8 * length numbers
length-words [] = refl
length-words (n ∷ numbers) = omega (arith, length-append (to_le_bytes w64 n) (words_of numbers), length-words numbers)

-- numbers of 8 bytes at the end of a body
pub last_back : (pre numbers : List ℕ) (at count : ℕ) → length pre ≡ at → length numbers ≡ count → AllByRecursion (λ n. n < 2 ^ 64) numbers
    → numbers_at (pre ++ words_of numbers) at count ≡ numbers
last_back pre [] at zero is_at is_count small = refl
last_back pre [] at (suc count) is_at is_count small = absurd (omega (arith, is_count))
last_back pre (n ∷ numbers) at zero is_at is_count small = absurd (omega (arith, is_count))
last_back pre (n ∷ numbers) at (suc count) is_at is_count small =
    let body = pre ++ (to_le_bytes w64 n ++ words_of numbers) in
    let first : le_number (bytes_at 8 body at) ≡ n =
    ap le_number (bytes_at-part pre (to_le_bytes w64 n) (words_of numbers) at 8 is_at refl) ∙ back64 n small.0 in
    let regrouped : body ≡ (pre ++ to_le_bytes w64 n) ++ words_of numbers = sym (append_assoc pre (to_le_bytes w64 n) (words_of numbers)) in
    let rest = last_back (pre ++ to_le_bytes w64 n) numbers (at + 8) count
    (omega (arith, is_at, length-append pre (to_le_bytes w64 n))) (omega (arith, is_count)) small.1 in
    ap (λ (x : ℕ). x ∷ numbers_at body (at + 8) count) first
    ∙ ap (λ (xs : List ℕ). n ∷ xs) (ap (λ (bytes : List ℕ). numbers_at bytes (at + 8) count) regrouped ∙ rest)
