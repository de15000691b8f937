-- Where the groups of two measurements first differ.
use Rattle.std.specs.Prelude.{ℕ, ◌≡◌, ◌≢◌, ◌<◌, ◌⊎◌, min, List, length, slice_index_or}
use Rattle.mdf_model.specs.declared.part.Measure.{Measure}
use Rattle.tool_concat.specs.Same.{SameGroup}

-- group k of both is the same
abbrev pub SameAt : List Measure → List Measure → ℕ → Type 0
SameAt groups others k = (d : Measure) → SameGroup (slice_index_or groups k d).part.row (slice_index_or others k d).part.row

-- as many groups, and each the same
pub record AreAlike (groups others : List Measure) : Type 0 where
  pub count : length groups ≡ length others
  pub each : (k : ℕ) → k < length groups → SameAt groups others k

-- both have this group and it is not the same, or it is the smaller number of groups where the numbers differ
abbrev pub DiffersAt : List Measure → List Measure → ℕ → Type 0
DiffersAt groups others k = ((k < length groups) × (k < length others) × (¬ SameAt groups others k))
    ⊎ ((length groups ≢ length others) × (k ≡ min (length groups) (length others)))

-- the first one that differs: each before it is the same
pub record IsFirstDifference (groups others : List Measure) (group : ℕ) : Type 0 where
  pub differs : DiffersAt groups others group
  pub earlier : (k : ℕ) → k < group → SameAt groups others k
