-- Items read by their numbers.
use Rattle.std.specs.Prelude.{ℕ, zero, suc, ◌+◌, List, [], ◌∷◌, Ok}
use Rattle.mdf_block.specs.Refusal.{Read, ◌>>=◌}

-- items k, k + 1 and so on, so many of them, and what is left
unfoldable pub each : {A S : Type 0} → (ℕ → S → Read (A × S)) → ℕ → ℕ → S → Read (List A × S)
each item k zero left = Ok ([], left)
each item k (suc count) left =
    item k left >>= λ found. each item (k + 1) count found.1 >>= λ rest. Ok (found.0 ∷ rest.0, rest.1)
