-- What is read for the items of a list, one after another.
use Rattle.std.specs.Prelude.{ℕ, ◌+◌, ◌<◌, List, [], ◌∷◌, ◌++◌, length, slice_index_or, Option, Ok}
use Rattle.std.specs.Option.{option_to_list}
use Rattle.mdf_block.specs.Refusal.{Read, ◌>>=◌}

-- in order what is read for each item, where something is, and what is carried on behind the last; the items are counted
-- from a number on
unfoldable pub every : {A B S : Type 0} → (ℕ → A → S → Read (Option B × S)) → ℕ → List A → S → Read (List B × S)
every item k [] left = Ok ([], left)
every item k (x ∷ xs) left =
    item k x left >>= λ found. every item (k + 1) xs found.1 >>= λ rest. Ok (option_to_list found.0 ++ rest.0, rest.1)

-- each item, with its number, has the property
abbrev pub AllByNumber : {A : Type 0} → (ℕ → A → Type 0) → List A → Type 0
AllByNumber {A} P xs = (k : ℕ) (d : A) → k < length xs → P k (slice_index_or xs k d)
