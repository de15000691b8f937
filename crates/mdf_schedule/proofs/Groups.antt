-- The samples of each group of a whole recording are the script's.
use Rattle.std.proofs.Common.{◌≡◌, ◌<◌, ℕ, true, false, List, [], ◌∷◌, length, get_or, refl, sym, ◌∙◌, ap, arith, inl, inr}
use Rattle.std.proofs.lemmas.Bool.{cases_eq, eq-eqb, ne_eqb, cond-true, cond-false}
use Rattle.std.proofs.lemmas.Option.{slice_get-get_or}
use Rattle.std.specs.Prelude.{◌==◌, slice_index}
use Rattle.mdf_layout.specs.History.{group_samples, source_samples}
use Rattle.mdf_layout.specs.declared.sample.Sample.{Sample}
use Rattle.acq_script.specs.Stage.{IsScript}
use Rattle.acq_script.specs.declared.script.Script.{Script}
use Rattle.mdf_record.specs.Record.{IsComplete, Outcome}
use Rattle.mdf_schedule.specs.Outcomes.{script_samples}

-- a group's samples are among those of its source
own_samples : (owners : List ℕ) (samples : List Sample) (g : ℕ)
    → group_samples (source_samples owners samples (slice_index owners g)) g ≡ group_samples samples g
own_samples owners [] g = refl
own_samples owners (sample ∷ samples) g =
    let source = slice_index owners g in
    let rest = own_samples owners samples g in
    let own = source_samples owners samples source in
    elim (cases_eq sample.group g) [
      | inl same ↦
          let passes : (slice_index owners sample.group == source) ≡ true = eq-eqb (slice_index owners sample.group) source (ap (slice_index owners) same) in
          let here : (sample.group == g) ≡ true = eq-eqb sample.group g same in
          ap (λ (xs : List Sample). group_samples xs g) (cond-true (slice_index owners sample.group == source) (sample ∷ own) own passes)
          ∙ cond-true (sample.group == g) (sample ∷ group_samples own g) (group_samples own g) here
          ∙ ap (λ (xs : List Sample). sample ∷ xs) rest
          ∙ sym (cond-true (sample.group == g) (sample ∷ group_samples samples g) (group_samples samples g) here)
      | inr other ↦
          let none : (sample.group == g) ≡ false = ne_eqb sample.group g other in
          let drops : group_samples (sample ∷ own) g ≡ group_samples own g =
          cond-false (sample.group == g) (sample ∷ group_samples own g) (group_samples own g) none in
          elim (cases_eq (slice_index owners sample.group) source) [
            | inl owned ↦
                ap (λ (xs : List Sample). group_samples xs g)
                (cond-true (slice_index owners sample.group == source) (sample ∷ own) own (eq-eqb (slice_index owners sample.group) source owned))
                ∙ drops ∙ rest
                ∙ sym (cond-false (sample.group == g) (sample ∷ group_samples samples g) (group_samples samples g) none)
            | inr foreign ↦
                ap (λ (xs : List Sample). group_samples xs g)
                (cond-false (slice_index owners sample.group == source) (sample ∷ own) own (ne_eqb (slice_index owners sample.group) source foreign))
                ∙ rest
                ∙ sym (cond-false (sample.group == g) (sample ∷ group_samples samples g) (group_samples samples g) none)
          ]
    ]

pub groups_are : (script : Script) (left : Outcome) → IsScript script → IsComplete script left → (g : ℕ) → g < length script.plan.rows
    → group_samples left.history g ≡ script_samples script g
groups_are script left is complete g below =
    let source = slice_index script.plan.owners g in
    let there : source < length script.lists = omega (arith, is.plan.owned g 0 (omega (arith, below, is.plan.owners)), is.lists) in
    let tasks = get_or script.lists source [] in
    let whole = complete.whole source tasks (slice_get-get_or script.lists source [] there) in
    sym (own_samples script.plan.owners left.history g) ∙ ap (λ (xs : List Sample). group_samples xs g) whole.history_is
