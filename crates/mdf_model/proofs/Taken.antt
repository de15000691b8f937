-- A group whose records were taken out of it.
use Rattle.std.proofs.Common.{◌≡◌, ◌<◌, ℕ, List, [], length, get_or, set, ◌∙◌, ap, get_or-set_same, length-set, set-set}
use Rattle.mdf_model.specs.declared.part.Measure.{Measure}
use Rattle.mdf_model.specs.Measurement.{Measured, with_content, with_records}

-- the group without records
abbrev pub emptied : Measure → Measure
emptied m = with_content m 0 [] m.part.streams

module _ (all now : Measured) (group : ℕ) (there : group < length all.groups)
    (taken : (d : Measure) → now ≡ with_records all group 0 [] (get_or all.groups group d).part.streams d) (d : Measure) where
  pub taken_at : get_or now.groups group d ≡ emptied (get_or all.groups group d)
  taken_at = ap (λ (m : Measured). get_or m.groups group d) (taken d)
      ∙ get_or-set_same all.groups group (emptied (get_or all.groups group d)) d there

  pub taken_length : length now.groups ≡ length all.groups
  taken_length = ap (λ (m : Measured). length m.groups) (taken d) ∙ length-set all.groups group (emptied (get_or all.groups group d))

  -- and others are put in: all is as if they had been put in place of its own
  pub then_put : (count : ℕ) (content : List ℕ) (streams : List (List ℕ))
      → with_records now group count content streams d ≡ with_records all group count content streams d
  then_put count content streams =
      let one = get_or all.groups group d in
      ap (λ (m : Measured). record m { groups = set m.groups group (with_content (get_or now.groups group d) count content streams) }) (taken d)
      ∙ ap (λ (m : Measure). record all { groups = set (set all.groups group (emptied one)) group (with_content m count content streams) }) taken_at
      ∙ ap (λ (groups : List Measure). record all { groups = groups }) (set-set all.groups group (emptied one) (with_content one count content streams))
