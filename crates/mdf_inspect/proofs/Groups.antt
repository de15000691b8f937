-- The groups that are shown are those that were found, each as it was read.
use Rattle.std.proofs.Common.{◌≡◌, ◌<◌, ℕ, suc, List, [], ◌∷◌, length, map, get_or, arith, Some, refl, sym, ◌∙◌, ap}
use Rattle.std.specs.Prelude.{slice_get}
use Rattle.std.specs.List.{zip}
use Rattle.std.proofs.lemmas.List.{length-map}
use Rattle.std.proofs.lemmas.Option.{slice_get-get_or, get_or_from_slice_get}
use Rattle.mdf_group.specs.declared.row.GroupRow.{GroupRow}
use Rattle.mdf_model.specs.declared.whole.WholeFound.{WholeFound}
use Rattle.mdf_command.proofs.Pieces.{first_of}
use Rattle.mdf_paged.specs.Groups.{Located, group_rows, groups_of, shown_groups}
use Rattle.mdf_paged.proofs.Shown.{shown_at}

zipped : {A B : Type 0} (xs : List A) (ys : List B) → length xs ≡ length ys → length (zip xs ys) ≡ length ys
zipped [] [] same = refl
zipped [] (y ∷ ys) same = absurd (omega (arith, same))
zipped (x ∷ xs) [] same = absurd (omega (arith, same))
zipped (x ∷ xs) (y ∷ ys) same = ap suc (zipped xs ys (omega (arith, same)))

module _ (all : WholeFound) where
  -- one whose row is known
  pub group_shown_at : (k : ℕ) (row : GroupRow) (d : GroupRow × ℕ) (e : Located) → slice_get (group_rows all) k ≡ Some row → k < length (groups_of all)
      → get_or (shown_groups all) k d ≡ (row, (get_or (groups_of all) k e).group.count)
  group_shown_at k row d e there below = get_or_from_slice_get (shown_groups all) k (row, (get_or (groups_of all) k e).group.count) d (shown_at all k row e there below)

  module _ (many : length (group_rows all) ≡ length (groups_of all)) where
    pub shown_many : length (shown_groups all) ≡ length (groups_of all)
    shown_many =
        let counts = map (λ (place : Located). place.group.count) (groups_of all) in
        let same : length counts ≡ length (groups_of all) = length-map (groups_of all) (λ (place : Located). place.group.count) in
        zipped (group_rows all) counts (many ∙ sym same) ∙ same

    pub samples_at : (k : ℕ) (d : GroupRow × ℕ) (e : Located) → k < length (groups_of all) → (get_or (shown_groups all) k d).1 ≡ (get_or (groups_of all) k e).group.count
    samples_at k d e below =
        let within : k < length (group_rows all) = omega (arith, below, many) in
        let row = get_or (group_rows all) k (first_of (group_rows all) k within) in
        ap (λ (one : GroupRow × ℕ). one.1) (group_shown_at k row d e (slice_get-get_or (group_rows all) k (first_of (group_rows all) k within) within) below)
