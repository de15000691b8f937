-- The records of a channel group without their ids.
use Rattle.std.specs.Prelude.{ℕ, Bool, nat_eq, List, drop, map, filter}
use Rattle.std.specs.List.{flat_map}
use Rattle.mdf_data.specs.Split.{Record}

-- the record is one of group k
abbrev pub is_of : ℕ → Record → Bool
is_of k r = nat_eq r.which k

-- the records of group k in order, each without its id
abbrev pub bodies : ℕ → List Record → ℕ → List (List ℕ)
bodies id_size records k = map (λ (r : Record). drop id_size r.bytes) (filter (is_of k) records)

-- one behind the other
abbrev pub joined : List (List ℕ) → List ℕ
joined lists = flat_map (λ (bytes : List ℕ). bytes) lists
