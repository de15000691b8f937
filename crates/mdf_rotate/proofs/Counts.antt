-- How many parts were begun, and how many samples they have.
use Rattle.std.proofs.Common.{◌≡◌, ◌+◌, ◌<◌, ◌≤◌, ◌∙◌, ℕ, suc, List, [], ◌∷◌, ◌++◌, length, take, get_or, refl, sym, ap, arith, add-one}
use Rattle.std.proofs.Math.Seq.{take-suc}
use Rattle.std.proofs.lemmas.List.{map-append}
use Rattle.book_owned.specs.declared.mark.Mark.{Mark}
use Rattle.mdf_rotate.specs.Text.{Recording, begun_count, by_marks, record_of, records_of, sample_count}
use Rattle.mdf_rotate.specs.declared.part.Part.{Part}

-- one, if the part was begun
abbrev pub one_of : List Mark → ℕ
one_of marks = by_marks marks 1 0

-- and so many more
one_more : (marks : List Mark) (n m : ℕ) → by_marks marks (suc (n + m)) (n + m) ≡ by_marks marks (suc n) n + m
one_more [] n m = refl
one_more (mark ∷ marks) n m = omega arith

first_one : (marks : List Mark) → by_marks marks (suc 0) 0 ≡ 0 + one_of marks
first_one [] = omega arith
first_one (mark ∷ marks) = omega arith

begun_behind : (lefts : List Recording) (left : Recording) → begun_count (lefts ++ left ∷ []) ≡ begun_count lefts + one_of left.marks
begun_behind [] left = first_one left.marks
begun_behind (l ∷ lefts) left =
    ap (λ n. by_marks l.marks (suc n) n) (begun_behind lefts left) ∙ one_more l.marks (begun_count lefts) (one_of left.marks)

samples_behind : (lefts : List Recording) (left : Recording) → sample_count (lefts ++ left ∷ []) ≡ sample_count lefts + length left.history
samples_behind [] left = omega arith
samples_behind (l ∷ lefts) left = omega (arith, samples_behind lefts left)

module _ {C : Type 0} (parts : List (Part C)) (i : ℕ) (part : Part C) (within : i < length parts) (is : part ≡ get_or parts i part) where
  records_more : records_of (take (i + 1) parts) ≡ records_of (take i parts) ++ record_of part ∷ []
  records_more =
      ap records_of (ap (λ n. take n parts) (add-one i) ∙ take-suc parts i part within ∙ ap (λ p. take i parts ++ p ∷ []) (sym is))
      ∙ map-append record_of (take i parts) (part ∷ [])

  pub begun_more : begun_count (records_of (take (i + 1) parts)) ≡ begun_count (records_of (take i parts)) + one_of part.marks.items
  begun_more = ap begun_count records_more ∙ begun_behind (records_of (take i parts)) (record_of part)

  pub samples_more : sample_count (records_of (take (i + 1) parts)) ≡ sample_count (records_of (take i parts)) + length part.history.items
  samples_more = ap sample_count records_more ∙ samples_behind (records_of (take i parts)) (record_of part)

-- so by whether it has marks
pub one_begun : (marks : List Mark) → 0 < length marks → one_of marks ≡ 1
one_begun [] some = absurd (omega (arith, some))
one_begun (mark ∷ marks) some = refl

pub none_begun : (marks : List Mark) → length marks ≡ 0 → one_of marks ≡ 0
none_begun [] none = refl
none_begun (mark ∷ marks) none = absurd (omega (arith, none))

pub at_most_one : (marks : List Mark) → one_of marks ≤ 1
at_most_one [] = omega arith
at_most_one (mark ∷ marks) = omega arith
