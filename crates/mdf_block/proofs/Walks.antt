-- Refusals of what is read for the items of a list.
use Rattle.std.proofs.Common.{◌≡◌, ◌+◌, ℕ, List, [], ◌∷◌, ◌++◌, Ok}
use Rattle.std.specs.Prelude.{Option}
use Rattle.std.specs.Option.{option_to_list}
use Rattle.mdf_block.specs.Refusal.{Refusal, Read, ◌>>=◌}
use Rattle.mdf_block.proofs.Truths.{Refusing, refusing_none, refusing_then}
use Rattle.mdf_block.specs.Every.{every}
use Rattle.mdf_block.proofs.Picks.{AreNumbered}

-- what is carried from item to item keeps what holds of it, and each item then refuses with the property
pub refusing_every : {A B S : Type 0} (P : Refusal → Type 0) (item : ℕ → A → S → Read (Option B × S)) (Known : ℕ → A → Type 0) (Holds : ℕ → S → Type 0)
    → ((k : ℕ) (x : A) (left : S) → Known k x → Holds k left → Refusing P (item k x left))
    → ((k : ℕ) (x : A) (left : S) (found : Option B × S) → Known k x → Holds k left → item k x left ≡ Ok found → Holds (k + 1) found.1)
    → (k : ℕ) (xs : List A) (left : S) → AreNumbered Known k xs → Holds k left → Refusing P (every item k xs left)
unfolding every
refusing_every P item Known Holds one next k [] left known holds = refusing_none P ([], left)
refusing_every {A} {B} {S} P item Known Holds one next k (x ∷ xs) left known holds =
    refusing_then P (item k x left)
    (λ found. every item (k + 1) xs found.1 >>= λ rest. Ok (option_to_list found.0 ++ rest.0, rest.1))
    (one k x left known.0 holds)
    (λ found is. refusing_then P (every item (k + 1) xs found.1) (λ rest. Ok (option_to_list found.0 ++ rest.0, rest.1))
    (refusing_every P item Known Holds one next (k + 1) xs found.1 known.1 (next k x left found known.0 holds is))
    (λ rest _. refusing_none P (option_to_list found.0 ++ rest.0, rest.1)))
