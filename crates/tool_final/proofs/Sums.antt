-- Loops that sum over groups.
use Rattle.std.proofs.Common.{◌≡◌, ◌+◌, ◌<◌, ◌≤◌, ℕ, List, [], ◌∷◌, ◌++◌, length, get_or, take, drop, refl, sym, ◌∙◌, ap, arith}
use Rattle.std.specs.Prelude.{sum_by}
use Rattle.std.proofs.lemmas.List.{length_push, take_more}
use Rattle.std.proofs.lemmas.List.Sums.{sum_by-cons, sum_by_push, sum_by-take-le}
use Rattle.mdf_block.proofs.Rests.{rest_is}
use Rattle.mdf_group.specs.declared.row.GroupRow.{GroupRow}
use Rattle.tool_final.specs.Finalized.{counted, group_count}

-- where the groups so far and one more pass a number, all of them do
pub groups_past : (groups : List GroupRow) (so_far k most : ℕ) (group : GroupRow) → k < length groups → group ≡ get_or groups k group
    → most ≤ so_far + counted group 1 → so_far + group_count (drop k groups) ≡ group_count groups → most ≤ group_count groups
groups_past groups so_far k most group below is past before =
    let split : group_count (drop k groups) ≡ counted group 1 + group_count (drop (k + 1) groups) =
    ap group_count (rest_is groups k group below is) ∙ sum_by-cons (λ (one : GroupRow). counted one 1) group (drop (k + 1) groups) in
    omega (arith, split, past, before)

module _ {X Y : Type 0} (f : X → ℕ) (all : List X) (yielded : List Y) (y : Y) (x : X) (so_far : ℕ) where
  -- one more is counted
  pub one_more : (sum : ℕ) → (length yielded < length all) × (x ≡ get_or all (length yielded) x) → so_far ≡ sum_by f (take (length yielded) all)
      → sum ≡ so_far + f x → sum ≡ sum_by f (take (length (yielded ++ y ∷ [])) all)
  one_more sum next before added =
      let step : sum_by f (take (length yielded + 1) all) ≡ sum_by f (take (length yielded) all) + f (get_or all (length yielded) x) =
      ap (sum_by f) (take_more all (length yielded) x next.0) ∙ sum_by_push f (take (length yielded) all) (get_or all (length yielded) x) in
      omega (arith, step, before, added, ap f next.1) ∙ ap (λ (n : ℕ). sum_by f (take n all)) (sym (length_push yielded y))

  -- where those so far and one more pass a number, all of them do
  pub all_past : (most : ℕ) → (length yielded < length all) × (x ≡ get_or all (length yielded) x) → so_far ≡ sum_by f (take (length yielded) all)
      → most ≤ so_far + f x → most ≤ sum_by f all
  all_past most next before past =
      let more = one_more (so_far + f x) next before refl in
      omega (arith, past, more, sum_by-take-le f all (length (yielded ++ y ∷ [])))
