-- The samples of groups, counted one group after another.
use Rattle.std.proofs.Common.{◌≡◌, ◌<◌, ◌+◌, ℕ, List, length, take, sym}
use Rattle.std.specs.Prelude.{slice_index_or}
use Rattle.std.proofs.lemmas.List.Sums.{sum_by_more}
use Rattle.mdf_group.specs.declared.row.GroupRow.{GroupRow}
use Rattle.mdf_inspect.specs.Info.{total}

pub total_more : (xs : List (GroupRow × ℕ)) (i : ℕ) (d : GroupRow × ℕ) (so_far more : ℕ) → i < length xs
    → so_far ≡ total (take i xs) → more ≡ (slice_index_or xs i d).1 → so_far + more ≡ total (take (i + 1) xs)
total_more xs i d so_far more within counted same =
    let step : total (take (i + 1) xs) ≡ total (take i xs) + (slice_index_or xs i d).1 = sum_by_more (λ (group : GroupRow × ℕ). group.1) xs i d within in
    rw (counted, same) (sym step)
