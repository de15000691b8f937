-- Loops that count the records and the values of groups.
use Rattle.std.proofs.Common.{◌≡◌, ◌+◌, ◌<◌, ◌≤◌, ℕ, zero, suc, List, [], ◌∷◌, ◌++◌, length, get_or, drop, map, refl, sym, ◌∙◌, ap, subst, arith, append_assoc, append-nil, add-one}
use Rattle.std.proofs.lemmas.Grind.{common_steps}
use Rattle.std.proofs.lemmas.List.{drop_all}
use Rattle.std.specs.Prelude.{slice_index_or}
use Rattle.std.specs.List.{AllByRecursion}
use Rattle.mdf_format.specs.Number.{le_number, bytes_at}
use Rattle.mdf_block.proofs.Rests.{rest_is}
use Rattle.mdf_data.specs.Record.{least_size}
use Rattle.mdf_data.specs.Places.{HaveRoom}
use Rattle.mdf_group.specs.declared.row.GroupRow.{GroupRow}
use Rattle.mdf_content.specs.Records.{known_of, size_of}
use Rattle.mdf_content.proofs.Rooms.{rooms}
use Rattle.mdf_session.specs.Counted.{counts_from, total_of, totals_from, values_total}

-- a place below the end has an item
some_rest : {A : Type 0} (xs : List A) (k : ℕ) → k < length xs → (x : A) × (drop k xs ≡ x ∷ drop (suc k) xs)
some_rest [] k below = absurd (omega (arith, below))
some_rest (x ∷ xs) zero below = (x, refl)
some_rest (x ∷ xs) (suc k) below = some_rest xs k (omega (arith, below))

next_rest : {A : Type 0} (xs : List A) (k : ℕ) → k < length xs → (x : A) × (drop k xs ≡ x ∷ drop (k + 1) xs)
next_rest xs k below = rw add-one (some_rest xs k below)

module _ (stream places : List ℕ) where
  -- one more value is summed
  pub values_more : (row total len sum : ℕ) → row < length places → len ≡ le_number (bytes_at 4 stream (get_or places row 0)) → sum ≡ total + len
      → total + values_total stream (drop row places) ≡ values_total stream places
      → sum + values_total stream (drop (row + 1) places) ≡ values_total stream places
  values_more row total len sum below is summed so_far = grind (arith, common_steps)

  -- all are summed
  pub values_done : (row total : ℕ) → length places ≤ row → total + values_total stream (drop row places) ≡ values_total stream places
      → total ≡ values_total stream places
  values_done row total past so_far = grind (arith, common_steps)

module _ (lists : List (List ℕ)) (groups : List GroupRow) where
  -- one more group is counted
  pub counts_more : (counts : List ℕ) (k n : ℕ) → k < length groups → n ≡ length (slice_index_or lists k [])
      → counts ++ counts_from lists k (drop k groups) ≡ counts_from lists 0 groups
      → (counts ++ n ∷ []) ++ counts_from lists (k + 1) (drop (k + 1) groups) ≡ counts_from lists 0 groups
  unfolding counts_from
  counts_more counts k n below is so_far =
      let rest = next_rest groups k below in
      append_assoc counts (n ∷ []) (counts_from lists (k + 1) (drop (k + 1) groups))
      ∙ ap (λ (m : ℕ). counts ++ m ∷ counts_from lists (k + 1) (drop (k + 1) groups)) is
      ∙ ap (λ (more : List GroupRow). counts ++ counts_from lists k more) (sym rest.1)
      ∙ so_far

  -- all are counted
  pub counts_done : (counts : List ℕ) (k : ℕ) → length groups ≤ k → counts ++ counts_from lists k (drop k groups) ≡ counts_from lists 0 groups
      → counts ≡ counts_from lists 0 groups
  unfolding counts_from
  counts_done counts k past so_far =
      sym (append-nil counts) ∙ ap (λ (more : List GroupRow). counts ++ counts_from lists k more) (sym (drop_all k groups past)) ∙ so_far

  -- the values of one more group are summed
  pub totals_more : (stream totals next : List ℕ) (k : ℕ) (group : GroupRow) (places : List ℕ) → k < length groups → group ≡ get_or groups k group
      → places ≡ slice_index_or lists k [] → next ≡ totals ++ total_of stream group places ∷ []
      → totals ++ totals_from stream lists k (drop k groups) ≡ totals_from stream lists 0 groups
      → next ++ totals_from stream lists (k + 1) (drop (k + 1) groups) ≡ totals_from stream lists 0 groups
  unfolding totals_from
  totals_more stream totals next k group places below is placed added so_far =
      let rest = totals_from stream lists (k + 1) (drop (k + 1) groups) in
      ap (λ (all : List ℕ). all ++ rest) added
      ∙ append_assoc totals (total_of stream group places ∷ []) rest
      ∙ ap (λ (all : List ℕ). totals ++ total_of stream group all ∷ rest) placed
      ∙ ap (λ (more : List GroupRow). totals ++ totals_from stream lists k more) (sym (rest_is groups k group below is))
      ∙ so_far

  pub totals_done : (stream totals : List ℕ) (k : ℕ) → length groups ≤ k
      → totals ++ totals_from stream lists k (drop k groups) ≡ totals_from stream lists 0 groups → totals ≡ totals_from stream lists 0 groups
  unfolding totals_from
  totals_done stream totals k past so_far =
      sym (append-nil totals) ∙ ap (λ (more : List GroupRow). totals ++ totals_from stream lists k more) (sym (drop_all k groups past)) ∙ so_far

  -- the places of a group leave room for the least bodies of its records
  pub room_for : (total k : ℕ) (group : GroupRow) (places : List ℕ) → HaveRoom total (map known_of groups) lists → k < length groups
      → group ≡ get_or groups k group → places ≡ slice_index_or lists k []
      → AllByRecursion (λ place. place + least_size (size_of group) ≤ total) places
  room_for total k group places room below is placed =
      subst (λ (all : List ℕ). AllByRecursion (λ place. place + least_size (size_of group) ≤ total) all) (sym placed)
      (subst (λ (one : GroupRow). AllByRecursion (λ place. place + least_size (size_of one) ≤ total) (slice_index_or lists k [])) (sym is)
      (rooms total groups lists room k group below))
