-- The samples that are read out of a span are those of the measurement.
use Rattle.std.proofs.Common.{◌≡◌, ◌<◌, ℕ, List, length, map, Option, Some, None, Ok, refl, sym, ◌∙◌, ap, subst}
use Rattle.std.specs.Prelude.{slice_get, slice_index_or}
use Rattle.std.specs.Option.{option_and_then, option_map, option_map_or}
use Rattle.std.proofs.lemmas.Option.{slice_get-map, slice_get-get_or}
use Rattle.mdf_block.specs.Refusal.{Read}
use Rattle.mdf_layout.specs.declared.sample.Entry.{Entry}
use Rattle.mdf_model.specs.declared.part.Measure.{Measure}
use Rattle.mdf_model.specs.declared.whole.WholeFound.{WholeFound}
use Rattle.mdf_model.specs.Kept.{found_for}
use Rattle.mdf_model.specs.Measurement.{Measured, measurement, sample_of}
use Rattle.mdf_block.proofs.Items.{item_of}
use Rattle.mdf_paged.specs.Groups.{Located, groups_of}
use Rattle.mdf_paged.proofs.Asked.{asked_counts, asked_many}
use Rattle.tool_export.specs.Table.{count_at, count_in, sample_read}

-- the number at a place of a list
number_of : {A : Type 0} (count : A → ℕ) (one : Option A) → option_map_or count one 0 ≡ option_map_or (λ (n : ℕ). n) (option_map count one) 0
number_of count None = refl
number_of count (Some x) = refl

number_at : {A : Type 0} (count : A → ℕ) (xs : List A) (k : ℕ)
    → option_map_or count (slice_get xs k) 0 ≡ option_map_or (λ (n : ℕ). n) (slice_get (map count xs) k) 0
number_at count xs k =
    number_of count (slice_get xs k) ∙ ap (λ (one : Option ℕ). option_map_or (λ (n : ℕ). n) one 0) (sym (slice_get-map count xs k))

pub count_there : (all : WholeFound) (group : ℕ) (d : Located) → group < length (groups_of all)
    → count_at all group ≡ (slice_index_or (groups_of all) group d).group.count
count_there all group d below =
    ap (λ (one : Option Located). option_map_or (λ (place : Located). place.group.count) one 0) (slice_get-get_or (groups_of all) group d below)

module _ (f : List ℕ) (group : ℕ) (now : WholeFound) (m : Measured) (read : found_for group f ≡ Ok now) (measured : measurement f ≡ Ok m) where
  pub count_is : count_at now group ≡ count_in m group
  count_is =
      number_at (λ (place : Located). place.group.count) (groups_of now) group
      ∙ ap (λ (counts : List ℕ). option_map_or (λ (n : ℕ). n) (slice_get counts group) 0) (asked_counts f group now m read measured)
      ∙ sym (number_at (λ (one : Measure). one.count) m.groups group)

  pub group_below : group < length (groups_of now) → group < length m.groups
  group_below below = subst (λ (n : ℕ). group < n) (asked_many f group now m read measured) below

  pub count_given : (rows : ℕ) (d : Measure) → group < length (groups_of now)
      → ((e : Located) → rows ≡ (slice_index_or (groups_of now) group e).group.count) → rows ≡ (slice_index_or m.groups group d).count
  count_given rows d below given =
      let e = item_of (groups_of now) group below in
      given e ∙ sym (count_there now group e below) ∙ count_is
      ∙ ap (λ (one : Option Measure). option_map_or (λ (m : Measure). m.count) one 0) (slice_get-get_or m.groups group d (group_below below))

  pub sample_there : (index : ℕ) (entries : List Entry) → group < length m.groups → (d : Measure)
      → sample_of (slice_index_or m.groups group d) index ≡ Some entries → sample_read (measurement f) group index ≡ Some entries
  sample_there index entries below d is =
      ap (λ (found : Read Measured). sample_read found group index) measured
      ∙ ap (option_and_then (λ (one : Measure). sample_of one index)) (slice_get-get_or m.groups group d below) ∙ is
