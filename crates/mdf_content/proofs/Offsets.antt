-- The offsets of a channel, row after row.
use Rattle.std.proofs.Common.{◌≡◌, ◌+◌, ◌-◌, ◌<◌, ◌≤◌, ℕ, suc, Bool, Option, Ok, sym, ◌∙◌, ap, subst, arith}
use Rattle.mdf_num.specs.declared.halt.Halt.{Halt}
use Rattle.mdf_block.specs.Refusal.{Refusal, Read, ◌>>=◌, Halts}
use Rattle.mdf_block.proofs.Refusals.{halts_then}
use Rattle.mdf_content.specs.Values.{offset_met, offsets_met}

one_less : (row end : ℕ) → row < end → end - row ≡ suc (end - (row + 1))
one_less row end below = omega arith

module _ (meets : ℕ → Bool) (offset : ℕ → ℕ) (channel : ℕ) where
  -- the loop begins
  pub begins : (count : ℕ) → offsets_met meets offset channel 0 (count - 0) ≡ offsets_met meets offset channel 0 count
  begins count = let same : count - 0 ≡ count = omega arith in ap (offsets_met meets offset channel 0) same

  -- one more meets a value
  pub goes_on : (row count : ℕ) → row < count → offset_met meets offset channel row ≡ Ok tt
      → offsets_met meets offset channel row (count - row) ≡ offsets_met meets offset channel (row + 1) (count - (row + 1))
  unfolding offsets_met
  goes_on row count below met =
      ap (offsets_met meets offset channel row) (one_less row count below)
      ∙ ap (λ (read : Read (Unit {0})). read >>= λ _. offsets_met meets offset channel (row + 1) (count - (row + 1))) met

  -- all do
  pub is_done : (row count : ℕ) → count ≤ row → offsets_met meets offset channel row (count - row) ≡ Ok tt
  unfolding offsets_met
  is_done row count past =
      let none : count - row ≡ 0 = omega arith in ap (offsets_met meets offset channel row) none

  -- one does not
  pub ends : {E : Type 0} (refusal : E → Option Refusal) (halt : Halt E) (row count : ℕ) → row < count
      → Halts refusal halt (offset_met meets offset channel row) → (whole : Read (Unit {0}))
      → offsets_met meets offset channel row (count - row) ≡ whole → Halts refusal halt whole
  unfolding offsets_met
  ends refusal halt row count below halted whole same =
      let first : Halts refusal halt (offsets_met meets offset channel row (suc (count - (row + 1)))) =
      halts_then refusal halt (offset_met meets offset channel row)
      (λ _. offsets_met meets offset channel (row + 1) (count - (row + 1))) halted in
      subst (Halts refusal halt) same
      (subst (λ (n : ℕ). Halts refusal halt (offsets_met meets offset channel row n)) (sym (one_less row count below)) first)
