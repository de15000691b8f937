-- The places of records where those of some groups are counted alone.
use Rattle.std.specs.Prelude.{ℕ, ◌+◌, Bool, if◌then◌else◌, List, [], ◌∷◌, length, slice_set, slice_index_or, Ok}
use Rattle.mdf_block.specs.Refusal.{Read, ◌>>=◌}
use Rattle.mdf_data.specs.declared.known.Known.{Known}
use Rattle.mdf_data.specs.Places.{places, steps, with_place}

-- so many places of which none is kept: each is told as 0
abbrev pub untold : ℕ → List ℕ
untold count = steps count 0 0

-- the places of a group, or as many that are not kept
abbrev pub told_or_not : Bool → List ℕ → List ℕ
told_or_not counted list = if counted then untold (length list) else list

-- the places group by group, where these groups are counted alone; of the groups behind the last of these all are kept
abbrev pub kept : List (List ℕ) → List Bool → List (List ℕ)
kept [] counted = []
kept (list ∷ lists) [] = list ∷ lists
kept (list ∷ lists) (one ∷ counted) = told_or_not one list ∷ kept lists counted

-- the places of all records of a stream with ids so
unfoldable pub kept_places : List ℕ → ℕ → ℕ → List Known → List Bool → Read (List (List ℕ))
kept_places stream total id_size known counted = places stream total id_size known >>= λ lists. Ok (kept lists counted)

-- the places with one more of a group, which is counted alone or not
abbrev pub with_kept : Bool → List (List ℕ) → ℕ → ℕ → List (List ℕ)
with_kept counted groups which place =
    if counted then slice_set groups which (untold (length (slice_index_or groups which []) + 1)) else with_place groups which place
