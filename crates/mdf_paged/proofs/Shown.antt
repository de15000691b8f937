-- The groups as they are shown, which are those of the measurement.
use Rattle.std.proofs.Common.{◌≡◌, ◌<◌, ◌≤◌, ℕ, arith, List, [], ◌∷◌, length, map, Some, Ok, refl, sym, ◌∙◌, ap}
use Rattle.std.specs.Prelude.{slice_get, slice_index_or}
use Rattle.std.specs.List.{zip}
use Rattle.std.proofs.lemmas.List.{length-map}
use Rattle.std.proofs.lemmas.Option.{slice_get-map, slice_get-get_or}
use Rattle.std.proofs.lemmas.Simd.{map-map}
use Rattle.std.proofs.lemmas.Slice.Zip.{length-zip}
use Rattle.std.specs.Option.{option_map}
use Rattle.mdf_group.specs.declared.row.GroupRow.{GroupRow}
use Rattle.mdf_content.specs.declared.contents.Contents.{Contents}
use Rattle.mdf_model.specs.declared.part.Measure.{Measure}
use Rattle.mdf_model.specs.declared.whole.WholeFound.{WholeFound}
use Rattle.mdf_model.specs.Found.{whole_found}
use Rattle.mdf_model.specs.Measurement.{measured_from, contents_of}
use Rattle.mdf_paged.specs.Groups.{Located, group_rows, groups_of, held_at, shown_groups}
use Rattle.mdf_paged.proofs.Measures.{groups_are, rows_are}
use Rattle.mdf_paged.proofs.Numbers.{zip_there}

zip_maps : {A B C : Type 0} (f : A → B) (g : A → C) (xs : List A) → zip (map f xs) (map g xs) ≡ map (λ x. (f x, g x)) xs
zip_maps f g [] = refl
zip_maps {A} {B} {C} f g (x ∷ xs) = ap (λ (rest : List (B × C)). (f x, g x) ∷ rest) (zip_maps f g xs)

pub counts_are : (file : List ℕ) (all : WholeFound) → whole_found file ≡ Ok all
    → map (λ (place : Located). place.group.count) (groups_of all) ≡ map (λ (m : Measure). m.count) (measured_from file all).groups
counts_are file all read =
    let groups = (measured_from file all).groups in
    let count = λ (held : Contents). held.count in
    sym (map-map count (held_at file) (groups_of all)) ∙ ap (map count) (sym (groups_are file all read)) ∙ map-map count contents_of groups

pub shown_are : (file : List ℕ) (all : WholeFound) → whole_found file ≡ Ok all
    → shown_groups all ≡ map (λ (m : Measure). (m.part.row, m.count)) (measured_from file all).groups
shown_are file all read =
    let groups = (measured_from file all).groups in
    let counts = map (λ (place : Located). place.group.count) (groups_of all) in
    ap (λ (rows : List GroupRow). zip rows counts) (sym (rows_are file all read))
    ∙ ap (zip (map (λ (m : Measure). m.part.row) groups)) (counts_are file all read)
    ∙ zip_maps (λ (m : Measure). m.part.row) (λ (m : Measure). m.count) groups

module _ (all : WholeFound) where
  pub shown_at : (k : ℕ) (row : GroupRow) (d : Located) → slice_get (group_rows all) k ≡ Some row → k < length (groups_of all)
      → slice_get (shown_groups all) k ≡ Some (row, (slice_index_or (groups_of all) k d).group.count)
  shown_at k row d there below =
      let count = λ (place : Located). place.group.count in
      let counted : slice_get (map count (groups_of all)) k ≡ Some (slice_index_or (groups_of all) k d).group.count =
      slice_get-map count (groups_of all) k ∙ ap (option_map count) (slice_get-get_or (groups_of all) k d below) in
      zip_there (group_rows all) (map count (groups_of all)) k row (slice_index_or (groups_of all) k d).group.count there counted

  pub shown_few : length (shown_groups all) ≤ length (groups_of all)
  shown_few =
      let count = λ (place : Located). place.group.count in
      omega (arith, length-zip (group_rows all) (map count (groups_of all)), length-map (groups_of all) count)
