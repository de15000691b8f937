-- Places at equal steps.
use Rattle.std.proofs.Common.{◌≡◌, ◌+◌, ◌-◌, ◌*◌, ◌<◌, ◌≤◌, ℕ, zero, suc, List, ◌++◌, [], ◌∷◌, length, Some, refl, sym, ◌∙◌, ap, arith, append-nil}
use Rattle.std.specs.List.{slice_get}
use Rattle.mdf_data.specs.Places.{steps}

pub length-steps : (count step from : ℕ) → length (steps count step from) ≡ count
length-steps zero step from = refl
length-steps (suc count) step from = ap suc (length-steps count step (from + step))

pub step_more : (from step i : ℕ) → from + step + i * step ≡ from + suc i * step
step_more from step i = grind arith

pub steps_at : (count step from i : ℕ) (rest : List ℕ) → i < count → slice_get (steps count step from ++ rest) i ≡ Some (from + i * step)
steps_at zero step from i rest below = absurd (omega (arith, below))
steps_at (suc count) step from zero rest below = let same : from ≡ from + 0 * step = omega arith in ap Some same
steps_at (suc count) step from (suc i) rest below =
    steps_at count step (from + step) i rest (omega (arith, below)) ∙ ap Some (step_more from step i)

pub steps_past : (count step from i : ℕ) (rest : List ℕ) → count ≤ i → slice_get (steps count step from ++ rest) i ≡ slice_get rest (i - count)
steps_past zero step from i rest past = let same : i ≡ i - 0 = omega arith in ap (slice_get rest) same
steps_past (suc count) step from zero rest past = absurd (omega (arith, past))
steps_past (suc count) step from (suc i) rest past =
    steps_past count step (from + step) i rest (omega (arith, past)) ∙ (let same : i - count ≡ suc i - suc count = omega arith in ap (slice_get rest) same)

-- places of which none is listed are all at equal steps
pub steps_alone : (even step : ℕ) (listed now : List ℕ) → steps even step 0 ++ listed ≡ now → length listed ≡ 0 → now ≡ steps (length now) step 0
steps_alone even step [] now is none =
    let same : now ≡ steps even step 0 = sym is ∙ append-nil (steps even step 0) in
    same ∙ ap (λ (n : ℕ). steps n step 0) (sym (ap length same ∙ length-steps even step 0))
steps_alone even step (x ∷ xs) now is none = absurd (omega (arith, none))
