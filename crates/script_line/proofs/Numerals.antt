-- Numbers of a script.
use Rattle.std.proofs.Common.{◌≡◌, ◌∙◌, sym, ap, ℕ, zero, suc, ◌+◌, ◌*◌, ◌^◌, ◌<◌, ◌≤◌, Bool, true, false, cond, Option, Some, None, List, length, get_or, take, refl, arith, tests, rules}
use Rattle.std.specs.Prelude.{◌==◌, nat_lt, not, ◌&&◌, ◌||◌, MatchOption, codes}
use Rattle.std.specs.List.{list_all}
use Rattle.std.specs.Char.{is_ascii_digit}
use Rattle.std.specs.Str.Parse.{digits_value}
use Rattle.std.proofs.lemmas.Bool.{le-ltb, lt-ltb, ltb-true, eqb-false, ne_eqb, false≢true}
use Rattle.std.proofs.lemmas.Option.{cond_some}
use Rattle.std.proofs.lemmas.List.Folds.{list_all_at, list_all_more}
use Rattle.std.proofs.lemmas.Str.{digit_value_digit}
use Rattle.std.proofs.lemmas.Str.Parse.{digits_value-take-le, IsNumeralModel, numerals_by_value}
use Rattle.std.specs.Fmt.{decimal}
use Rattle.std.proofs.lemmas.Fmt.{decimal-digits_value, digits_decimal, digits_value-decimal, decimal_nonempty, decimal_digit, first_decimal}
use Rattle.std.proofs.lemmas.Int.Digits.{digits_value_more}
use Rattle.script_line.specs.Number.{IsNoNumber, IsNumber, value_of, is_numeral, number_of}

none_if : (b : Bool) (n : ℕ) → b ≡ false → cond b (Some n) None ≡ None
none_if b n e = rw e

some_when : (b : Bool) (n : ℕ) → b ≡ true → cond b (Some n) None ≡ Some n
some_when b n e = rw e

nested : (b c : Bool) (m n : ℕ) → cond b (cond c (Some m) None) None ≡ Some n → (c ≡ true) × (m ≡ n)
nested true c m n e = cond_some c m n e
nested false c m n e = absurd (cc)

tested : (b : Bool) → (b ≡ false → ⊥) → b ≡ true
tested true h = refl
tested false h = absurd (h refl)

pub in_range : (c : ℕ) → is_ascii_digit c ≡ true → (48 ≤ c) × (c ≤ 57)
in_range c h = search (rules, tests)

-- where the digits in front are too much, all of them are
pub too_large : (digits : List ℕ) (i : ℕ) → 2 ^ 64 ≤ digits_value 10 (take i digits) → value_of digits ≡ None
too_large digits i h = none_if _ _ (le-ltb _ _ (omega (arith, digits_value-take-le 10 digits i (omega arith))))

pub small_enough : (digits : List ℕ) (n : ℕ) → n ≡ digits_value 10 digits → n < 2 ^ 64 → value_of digits ≡ Some n
small_enough digits n e h = some_when _ _ (lt-ltb _ _ (omega arith)) ∙ ap Some (sym e)

-- where all are digits, one of them is
pub digit_at : (digits : List ℕ) (i : ℕ) → list_all is_ascii_digit digits ≡ true → i < length digits → (48 ≤ get_or digits i 0) × (get_or digits i 0 ≤ 57)
digit_at digits i h below =
    in_range _ (tested _ (λ other. false≢true (sym (list_all_at is_ascii_digit digits i 0 below other) ∙ h)))

-- what one more digit makes
pub one_more : (digits : List ℕ) (i : ℕ) → is_ascii_digit (get_or digits i 0) ≡ true → i < length digits → digits_value 10 (take (i + 1) digits) + 48 ≡ digits_value 10 (take i digits) * 10 + get_or digits i 0
one_more digits i h below =
    let more : digits_value 10 (take (i + 1) digits) ≡ _ = digits_value_more 10 digits i below in
    let digit : _ = digit_value_digit (get_or digits i 0) (in_range _ h) in
    omega (arith, more, digit)

hold : (a b : Bool) → a ≡ true → b ≡ true → (a && b) ≡ true
hold true b first second = second
hold false b first second = absurd (false≢true first)

pub more_digits : (word : List ℕ) (i : ℕ) → list_all is_ascii_digit (take i word) ≡ true → is_ascii_digit (get_or word i 0) ≡ true → i < length word → list_all is_ascii_digit (take (i + 1) word) ≡ true
more_digits word i so_far digit below = list_all_more is_ascii_digit word i 0 below ∙ hold _ _ so_far digit

otherwise : (b : Bool) (o : Option ℕ) → o ≡ None → cond b o None ≡ None
otherwise true o none = none
otherwise false o none = refl

-- where the digits in front are too much, the word is no number
pub none_of : (word : List ℕ) (i : ℕ) → 2 ^ 64 ≤ digits_value 10 (take i word) → cond (list_all is_ascii_digit word) (value_of word) None ≡ None
none_of word i h = otherwise (list_all is_ascii_digit word) (value_of word) (too_large word i h)

pub number_below : (word : List ℕ) (n : ℕ) → number_of word ≡ Some n → n < 2 ^ 64
unfolding number_of
number_below word n e =
    let both : _ × (digits_value 10 word ≡ n) = nested (is_numeral word) _ (digits_value 10 word) n e in
    omega (arith, ltb-true _ _ both.0, both.1)

pub digits_model : IsNumeralModel (λ ds. list_all is_ascii_digit ds ≡ true) (digits_value 10)
digits_model = numerals_by_value _ (search rules)

both_true : (b c : Bool) (m n : ℕ) → cond b (cond c (Some m) None) None ≡ Some n → b ≡ true
both_true true c m n e = refl
both_true false c m n e = absurd (cc)

-- a test that fails where the first holds, or the second and the third, or not the last
split : (a b c d : Bool) → (not (a || (b && c)) && d) ≡ true → (a ≡ false) × (b ≡ true → c ≡ false) × (d ≡ true)
split true b c d h = absurd (false≢true h)
split false true true d h = absurd (false≢true h)
split false true false d h = (refl, λ _. refl, h)
split false false c d h = (refl, λ e. absurd (false≢true e), h)

joined : (a b c d : Bool) → a ≡ false → (b ≡ true → c ≡ false) → d ≡ true → (not (a || (b && c)) && d) ≡ true
joined true b c d none front all = absurd (false≢true (sym none))
joined false true true d none front all = absurd (false≢true (sym (front refl)))
joined false true false d none front all = all
joined false false c d none front all = all

pub record IsDigits (word : List ℕ) : Type 0 where
  pub some : 0 < length word
  pub front : get_or word 0 0 ≡ 48 → length word ≡ 1
  pub all : list_all is_ascii_digit word ≡ true

digits_of : (word : List ℕ) → is_numeral word ≡ true → IsDigits word
digits_of word h =
    let parts : ((length word == 0) ≡ false) × (nat_lt 1 (length word) ≡ true → (get_or word 0 0 == 48) ≡ false) × (list_all is_ascii_digit word ≡ true) = split (length word == 0) (nat_lt 1 (length word)) (get_or word 0 0 == 48) _ h in
    let some : 0 < length word = above_zero (length word) (eqb-false _ _ parts.0) in
    record { some = some; front = λ is. at_most (length word) some (λ more. eqb-false _ _ (parts.1 (lt-ltb _ _ more)) is); all = parts.2 }
  where
    above_zero : (n : ℕ) → (n ≡ 0 → ⊥) → 0 < n
    above_zero zero h = absurd (h refl)
    above_zero (suc n) h = omega arith

    at_most : (n : ℕ) → 0 < n → (1 < n → ⊥) → n ≡ 1
    at_most zero some h = absurd (omega arith)
    at_most (suc zero) some h = refl
    at_most (suc (suc n)) some h = absurd (h (omega arith))

pub numeral_of : (word : List ℕ) → IsDigits word → is_numeral word ≡ true
numeral_of word digits =
    joined (length word == 0) (nat_lt 1 (length word)) (get_or word 0 0 == 48) _
    (ne_eqb _ _ (λ none. absurd (omega (arith, none, digits.some))))
    (λ more. ne_eqb _ _ (λ is. absurd (omega (arith, digits.front is, ltb-true _ _ more)))) digits.all

-- what a number is written as is such digits
written : (n : ℕ) → n < 2 ^ 64 → IsDigits (decimal n)
written n small = record { some = decimal_nonempty n small; front = alone n small; all = digits_decimal digits_model n small }
  where
    alone : (n : ℕ) → n < 2 ^ 64 → get_or (decimal n) 0 0 ≡ 48 → length (decimal n) ≡ 1
    alone zero small is = ap length (decimal_digit 0 (omega arith))
    alone (suc n) small is = absurd (omega (arith, is, first_decimal (suc n) (omega arith) small))

pub no_number : (word : List ℕ) → is_numeral word ≡ false → number_of word ≡ None
unfolding number_of
no_number word h = rw h

pub its_value : (word : List ℕ) → is_numeral word ≡ true → number_of word ≡ value_of word
unfolding number_of
its_value word h = rw h

-- a number is the one text that it is written as
pub is_decimal : (word : List ℕ) (n : ℕ) → number_of word ≡ Some n → word ≡ decimal n
unfolding number_of
is_decimal word n e =
    let value : _ × (digits_value 10 word ≡ n) = nested (is_numeral word) _ (digits_value 10 word) n e in
    let digits : IsDigits word = digits_of word (both_true (is_numeral word) _ (digits_value 10 word) n e) in
    let small : digits_value 10 word < 2 ^ 64 = ltb-true _ _ value.0 in
    sym (decimal-digits_value digits_model word digits.all digits.some digits.front small) ∙ ap decimal value.1

pub digits_of_number : (word : List ℕ) (n : ℕ) → number_of word ≡ Some n → IsDigits word
unfolding number_of
digits_of_number word n e = digits_of word (both_true (is_numeral word) _ (digits_value 10 word) n e)

-- and each number below 2 ^ 64 has one
pub of_decimal : (word : List ℕ) (n : ℕ) → n < 2 ^ 64 → word ≡ decimal n → number_of word ≡ Some n
of_decimal word n small e =
    let digits : IsDigits (decimal n) = written n small in
    ap number_of e ∙ its_value (decimal n) (numeral_of (decimal n) digits)
    ∙ small_enough (decimal n) n (sym (digits_value-decimal digits_model n small)) small

-- so a word says the number that it is, or none
pub says_number : (word : List ℕ) (o : Option ℕ) → o ≡ number_of word → MatchOption o (IsNoNumber word) (IsNumber word)
says_number word None e = λ number is. let found : None ≡ Some number = e ∙ of_decimal word number is.1 is.0 in absurd (cc)
says_number word (Some n) e = (is_decimal word n (sym e), number_below word n (sym e))

pub decimal_digits : (n : ℕ) → n < 2 ^ 64 → list_all is_ascii_digit (decimal n) ≡ true
decimal_digits n small = digits_decimal digits_model n small

pub number_zero : number_of (codes "0") ≡ Some 0
number_zero = of_decimal (codes "0") 0 (omega arith) (sym (decimal_digit 0 (omega arith)))
