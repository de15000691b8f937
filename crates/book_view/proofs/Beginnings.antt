-- Beginnings of one list.
use Rattle.std.proofs.Common.{◌≡◌, ℕ, Bool, true, false, ◌+◌, ◌-◌, ◌<◌, ◌≤◌, List, [], ◌∷◌, ◌++◌, length, take, drop, get_or, refl, ap, sym, ◌∙◌, arith, append_assoc, length-append, take-append-drop}
use Rattle.std.proofs.lemmas.List.{append_cancel_left, take_more}
use Rattle.std.proofs.Math.Seq.{drop-append_seam}
use Rattle.std.proofs.lemmas.Bool.Decides.{nat_tests}
use Rattle.std.specs.Prelude.{nat_le, MatchBool}
use mathlib.Core.List.{IsPrefix}

-- of two beginnings of one list the shorter begins the longer
pub prefix_shorter : {A : Type 0} (xs ys zs : List A) → IsPrefix xs zs → IsPrefix ys zs → length xs ≤ length ys → IsPrefix xs ys
prefix_shorter [] ys zs p q le = (ys, refl)
prefix_shorter (x ∷ xs) [] zs p q le = absurd (omega arith)
prefix_shorter (x ∷ xs) (y ∷ ys) [] p q le = absurd (cc (p.1))
prefix_shorter (x ∷ xs) (y ∷ ys) (z ∷ zs) p q le =
    let heads : x ≡ y = cc (p.1, q.1) in
    let rest = prefix_shorter xs ys zs (p.0, cc (p.1)) (q.0, cc (q.1)) (omega arith) in
    (rest.0, cc (heads, rest.1))

-- a beginning as long as the whole is the whole
pub prefix_whole : {A : Type 0} (xs ys : List A) → IsPrefix xs ys → length ys ≤ length xs → xs ≡ ys
prefix_whole [] [] p le = refl
prefix_whole [] (y ∷ ys) p le = absurd (omega arith)
prefix_whole (x ∷ xs) [] p le = absurd (cc (p.1))
prefix_whole (x ∷ xs) (y ∷ ys) p le =
    let rest = prefix_whole xs ys (p.0, cc (p.1)) (omega arith) in cc (p.1, rest)

-- of two beginnings, of these lengths
module _ {A : Type 0} (one other both : List A) (first : IsPrefix one both) (second : IsPrefix other both) (n m : ℕ) (counted : n ≡ length one) (others : m ≡ length other) where
  decides : (b : Bool) → nat_le m n ≡ b → MatchBool b (IsPrefix other one) (IsPrefix one other)
  decides true is = prefix_shorter other one both second first (grind (arith, nat_tests))
  decides false is = prefix_shorter one other both first second (grind (arith, nat_tests))

  pub shorter_begins : MatchBool (nat_le m n) (IsPrefix other one) (IsPrefix one other)
  shorter_begins = decides (nat_le m n) refl

module _ {A : Type 0} (before samples : List A) where
  -- one more of the samples behind the first so many
  pub one_more : (log : List A) (i : ℕ) (sample : A) → i < length samples → sample ≡ get_or samples i sample → log ≡ before ++ take i samples
      → log ++ sample ∷ [] ≡ before ++ take (i + 1) samples
  one_more log i sample less is whole =
      ap (λ xs. xs ++ sample ∷ []) whole ∙ append_assoc before (take i samples) (sample ∷ [])
      ∙ ap (λ x. before ++ (take i samples ++ x ∷ [])) is ∙ ap (λ xs. before ++ xs) (sym (take_more samples i sample less))

  pub part_begins : (n : ℕ) → IsPrefix (before ++ take n samples) (before ++ samples)
  part_begins n = (drop n samples, append_assoc before (take n samples) (drop n samples) ∙ ap (λ xs. before ++ xs) (take-append-drop n samples))

  -- a log that begins with the one and begins both
  module _ (log : List A) (begins : IsPrefix before log) (begun : IsPrefix log (before ++ samples)) (n m : ℕ) (n_is : n ≡ length log) (m_is : m ≡ length before) where
    log_length : length log ≡ length before + length begins.0
    log_length = sym (ap length begins.1) ∙ length-append before begins.0

    samples_are : begins.0 ++ begun.0 ≡ samples
    samples_are = append_cancel_left before (begins.0 ++ begun.0) samples
        (sym (append_assoc before begins.0 begun.0) ∙ ap (λ xs. xs ++ begun.0) begins.1 ∙ begun.1)

    -- has so many of the samples
    pub done_fit : n - m ≤ length samples
    done_fit = omega (arith, n_is, m_is, log_length, ap length samples_are, length-append begins.0 begun.0)

    -- and with the others it has all
    pub done_whole : (rest : List A) → rest ≡ drop (n - m) samples → log ++ rest ≡ before ++ samples
    done_whole rest rest_is =
        let many : n - m ≡ length begins.0 = omega (arith, n_is, m_is, log_length) in
        let behind : rest ≡ begun.0 =
        rest_is ∙ ap (λ k. drop k samples) many ∙ ap (drop (length begins.0)) (sym samples_are) ∙ drop-append_seam begins.0 begun.0 in
        ap (λ xs. log ++ xs) behind ∙ begun.1
