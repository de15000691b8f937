-- The steps of the readers and of the writer keep the rule of the copies.
use Rattle.std.proofs.Common.{◌≡◌, ℕ, ◌≢◌, ◌⊎◌, List, [], ◌∷◌, ◌++◌, set, refl, subst, sym, inl, inr, ⊎_elim}
use mathlib.Core.Option.{some}
use lib.ListN.{get_elem?}
use Rattle.crossbeam_utils.specs.Register.{Admits, Turns, TurnsAt, Forks, Merges}
use Rattle.atomic_table.proofs.Lists.{at_set, at_snoc}
use Rattle.book_view.specs.Copies.{AllOf, Holds, IsWhole, Opened, Tells, log_of}
use Rattle.book_view.specs.declared.store.Store.{Store}

module _ (name : List ℕ) (views : List (List ℕ)) (all : AllOf name views) (view : List ℕ) (here : (view ≡ []) ⊎ (view ≡ name)) where
  all_set : (seat : ℕ) → AllOf name (set views seat view)
  all_set seat other found at =
      ⊎_elim
      (λ (t : (other ≡ seat) × (view ≡ found)). subst (λ v. (v ≡ []) ⊎ (v ≡ name)) t.1 here)
      (λ (t : (other ≢ seat) × (get_elem? views other ≡ some found)). all other found t.1)
      (at_set views seat other view found at)

  all_more : AllOf name (views ++ view ∷ [])
  all_more seat found at =
      ⊎_elim (all seat found) (λ (same : view ≡ found). subst (λ v. (v ≡ []) ⊎ (v ≡ name)) same here) (at_snoc views view found seat at)

-- a new reader knows nothing
pub admits : Admits Holds []
admits store views holds = (holds.0, all_more (log_of store) views holds.1 [] (inl refl))

-- a copy of the same log takes the place of the one that readers enter
pub publishes : (seat : ℕ) (view : List ℕ) (before now : Store) → IsWhole now → log_of now ≡ log_of before → TurnsAt Holds seat view before now Tells
publishes seat view before now whole same views holds at =
    let all : AllOf (log_of now) views = subst (λ name. AllOf name views) (sym same) holds.1 in
    let here = all seat view at in
    (view, (whole, all_set (log_of now) views all view here seat), (refl, whole, here))

-- a reader enters
pub enters : (seat : ℕ) (view : List ℕ) → Turns Holds seat view (λ store. store) Tells
enters seat view store views holds at = publishes seat view store store holds.0 refl views holds at

-- the first copy is shown, and the writer knows its log from then on
pub opens : (seat : ℕ) (view : List ℕ) (before now : Store) → IsWhole now → log_of now ≡ log_of before → TurnsAt Holds seat view before now Opened
opens seat view before now whole same views holds at =
    let all : AllOf (log_of now) views = subst (λ name. AllOf name views) (sym same) holds.1 in
    (log_of now, (whole, all_set (log_of now) views all (log_of now) (inr refl) seat), refl)

-- the writer tells which log it is
pub forks : (seat : ℕ) (view : List ℕ) → Forks Holds seat view view view
forks seat view store views holds at =
    let here = holds.1 seat view at in
    (holds.0, all_more (log_of store) (set views seat view) (all_set (log_of store) views holds.1 view here seat) view here)

-- a reader learns it
pub merges : (seat : ℕ) (view : List ℕ) (other : ℕ) (told : List ℕ) → Merges Holds seat view other told told []
merges seat view other told store views holds at apart there =
    let here : (told ≡ []) ⊎ (told ≡ log_of store) =
    ⊎_elim (λ (t : (other ≡ seat) × (told ≡ told)). absurd (apart t.0)) (λ (t : (other ≢ seat) × (get_elem? views other ≡ some told)). holds.1 other told t.1)
    (at_set views seat other told told there) in
    (holds.0, all_set (log_of store) (set views seat told) (all_set (log_of store) views holds.1 told here seat) [] (inl refl) other)
