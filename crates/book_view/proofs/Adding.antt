-- The exchange that adds a sample keeps the rule of the log.
use Rattle.std.proofs.Common.{◌≡◌, ℕ, ◌+◌, ◌<◌, ◌==◌, Bool, true, false, List, [], ◌∷◌, ◌++◌, length, refl, ap, sym, subst, arith, inl, length-append, None}
use Rattle.std.proofs.lemmas.List.{append-nil}
use Rattle.std.proofs.lemmas.Bool.Decides.{nat_tests}
use mathlib.Core.List.{IsPrefix}
use prog.Atomic.{either}
use Rattle.logbook.specs.Pages.{Cell, cell, keeps, no_nib, step, Moves, Goes}
use Rattle.mdf_layout.specs.declared.sample.Sample.{Sample}
use Rattle.book_view.specs.Log.{IsKept, Adds}
use Rattle.book_view.proofs.Beginnings.{prefix_whole}

-- who adds shows nothing and moves nothing else
abbrev pub shown : List Sample → List Sample
shown log = []

abbrev pub moved : List Sample → List Sample → ℕ → Type 0
moved before after answer = Unit {0}

module _ (seen : List Sample) (sample : Sample) (count : ℕ) (counted : length seen ≡ count) where
  goes : (log : List Sample) → IsPrefix seen log → (b : Bool) → (length log == count) ≡ b
      → Goes IsKept shown moved 0 (seen, (no_nib, None)) (λ n. either (n == count) (count + 1) n) (Adds (step 0 count (count + 1) sample) (seen, (no_nib, None))) ((length log, true) ∷ (0, true) ∷ []) log
  goes log begins true is =
      let here : length log ≡ count = grind (arith, nat_tests) in
      let same : seen ≡ log = prefix_whole seen log begins (omega (arith, here, counted)) in
      let n : either (length log == count) (count + 1) (length log) ≡ length (log ++ sample ∷ []) = rw is (omega (arith, here, length-append log (sample ∷ []))) in (
        keeps,
        sample ∷ [],
        None,
        tt,
        ap (λ (k : ℕ). (k, true) ∷ (0, true) ∷ []) n,
        inl (refl, refl),
        rw is (ap (λ xs. xs ++ sample ∷ []) (sym same)),
      )
  goes log begins false is =
      let all : log ++ [] ≡ log = append-nil log in
      let n : either (length log == count) (count + 1) (length log) ≡ length (log ++ []) = rw is (ap length (sym all)) in (
        keeps,
        [],
        None,
        tt,
        ap (λ (k : ℕ). (k, true) ∷ (0, true) ∷ []) n,
        inl (refl, refl),
        rw is (ap length all),
      )

  -- whatever the log is, the exchange adds the sample to all that was seen, or finds that the log is longer
  pub adds : Moves IsKept shown moved 0 (seen, (no_nib, None)) (λ n. either (n == count) (count + 1) n) (Adds (step 0 count (count + 1) sample) (seen, (no_nib, None)))
  adds cells log kept begins away =
      let P : List Cell → Type 0 = λ cells. (0 < length cells) × ((cell cells 0).1 ≡ true) × Goes IsKept shown moved 0 (seen, (no_nib, None)) (λ n. either (n == count) (count + 1) n) (Adds (step 0 count (count + 1) sample) (seen, (no_nib, None))) cells log in
      subst P (sym kept) (omega arith, refl, goes log begins (length log == count) refl)
