-- No two logs have one number.
use Rattle.std.proofs.Common.{◌≡◌, ℕ, suc, ◌+◌, ◌*◌, ◌<◌, ◌≤◌, ap, ⊎_elim, arith}
use Rattle.std.proofs.lemmas.Bool.{cases_lt}
use Rattle.std.proofs.Math.Nat.{mul-le-mul_left, mul-le-mul_right, suc-mul, mul-suc}
use Rattle.logbook.specs.Pages.{Book}
use Rattle.book_view.specs.Names.{paired, code_of}

-- squares grow
square_less : (x y : ℕ) → x < y → x * x + x < y * y
square_less x y less =
    let up : suc x ≤ y = omega (arith, less) in
    let one : suc x * suc x ≤ y * suc x = mul-le-mul_right (suc x) up in
    let two : y * suc x ≤ y * y = mul-le-mul_left y up in
    omega (arith, one, two, suc-mul x (suc x), mul-suc x x)

same_sum : (x y a c : ℕ) → a ≤ x → c ≤ y → x * x + a ≡ y * y + c → x ≡ y
same_sum x y a c few less same =
    ⊎_elim
    (λ (h : x < y). absurd (omega (arith, square_less x y h, few, same)))
    (λ (le : y ≤ x). ⊎_elim (λ (h : y < x). absurd (omega (arith, square_less y x h, less, same))) (λ (ge : x ≤ y). omega (arith, le, ge)) (cases_lt y x))
    (cases_lt x y)

same_pair : (a b c d : ℕ) → paired a b ≡ paired c d → (a ≡ c) × (b ≡ d)
same_pair a b c d same =
    let sums : a + b ≡ c + d = same_sum (a + b) (c + d) a c (omega arith) (omega arith) same in
    let squares : (a + b) * (a + b) ≡ (c + d) * (c + d) = ap (λ n. n * n) sums in
    let first : a ≡ c = omega (arith, squares, same) in
    (first, omega (arith, sums, first))

-- the number tells which log it is
pub same_code : (one two : Book) → code_of one ≡ code_of two → one ≡ two
same_code one two same =
    let whole = same_pair one.number (paired one.log_name one.cells_name) two.number (paired two.log_name two.cells_name) same in
    let rest = same_pair one.log_name one.cells_name two.log_name two.cells_name whole.1 in
    λ i. record { number = whole.0 i; log_name = rest.0 i; cells_name = rest.1 i }
