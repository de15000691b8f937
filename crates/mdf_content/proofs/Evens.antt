-- Records that stand one behind the other from the begin of a stream on.
use Rattle.std.proofs.Common.{◌≡◌, ◌+◌, ◌*◌, ◌≤◌, ℕ, zero, suc, List, ◌∷◌, ◌++◌, length, take, refl, sym, ◌∙◌, ap, subst, arith}
use Rattle.std.specs.List.{AllByRecursion}
use Rattle.mdf_format.specs.Number.{bytes_at}
use Rattle.mdf_stream.proofs.Joins.{bytes_at-add}
use Rattle.mdf_data.specs.Places.{steps}
use Rattle.mdf_data.proofs.Steps.{step_more}
use Rattle.mdf_content.specs.Contents.{content_of}

-- the first of so many steps are steps
pub take-steps : (count n step from : ℕ) → count ≤ n → take count (steps n step from) ≡ steps count step from
take-steps zero n step from few = refl
take-steps (suc count) zero step from few = absurd (omega (arith, few))
take-steps (suc count) (suc n) step from few = ap (λ (rest : List ℕ). from ∷ rest) (take-steps count n step (from + step) (omega (arith, few)))

no_steps : (step : ℕ) → 0 ≡ 0 * step
no_steps step = omega arith

next_steps : (count step : ℕ) → step + count * step ≡ suc count * step
next_steps count step = grind arith

-- their records are one range of the stream
pub content-steps : (stream : List ℕ) (count step from : ℕ) → content_of stream step (steps count step from) ≡ bytes_at (count * step) stream from
content-steps stream zero step from = ap (λ (n : ℕ). bytes_at n stream from) (no_steps step)
content-steps stream (suc count) step from =
    ap (λ (rest : List ℕ). bytes_at step stream from ++ rest) (content-steps stream count step (from + step))
    ∙ sym (bytes_at-add step (count * step) stream from)
    ∙ ap (λ (n : ℕ). bytes_at n stream from) (next_steps count step)

-- which lies inside where each of them does
steps_fit : (count n step from total : ℕ) → count ≤ n → from ≤ total → AllByRecursion (λ place. place + step ≤ total) (steps n step from)
    → from + count * step ≤ total
steps_fit zero n step from total few begins all = omega (arith, begins)
steps_fit (suc count) zero step from total few begins all = absurd (omega (arith, few))
steps_fit (suc count) (suc n) step from total few begins all =
    subst (λ (end : ℕ). end ≤ total) (step_more from step count)
    (steps_fit count n step (from + step) total (omega (arith, few)) all.0 all.1)

module _ (places : List ℕ) (size count : ℕ) (even : places ≡ steps (length places) size 0) (few : count ≤ length places) where
  pub evens_fit : (total : ℕ) → AllByRecursion (λ place. place + size ≤ total) places → count * size ≤ total
  evens_fit total all =
      let fit : 0 + count * size ≤ total =
      steps_fit count (length places) size 0 total few (omega arith) (subst (AllByRecursion (λ place. place + size ≤ total)) even all) in
      omega (arith, fit)

  pub content_is : (stream : List ℕ) → bytes_at (count * size) stream 0 ≡ content_of stream size (take count places)
  content_is stream =
      sym (content-steps stream count size 0)
      ∙ ap (content_of stream size) (sym (take-steps count (length places) size 0 few) ∙ ap (take count) (sym even))
