-- The bits of the fields of a record as runs of neighbouring bits.
use Rattle.std.specs.Prelude.{ℕ, ◌≡◌, ◌≢◌, ◌≤◌, ◌<◌, true, false, nat_lt, if◌then◌else◌, List, [], ◌∷◌, ◌++◌, length, slice_get, Some}
use Rattle.std.specs.List.{Contains}
use Rattle.mdf_format.specs.Field.{HasBit}
use Rattle.mdf_layout.specs.Rule.{spot_in, is_variable, any_below, meets_at}
use Rattle.mdf_layout.specs.declared.field.FieldRow.{FieldRow}
use Rattle.mdf_layout.specs.declared.runs.Run.{Run}

-- the run behind others, unless it has no bit
abbrev pub with_run : List Run → Run → List Run
with_run runs run = if nat_lt run.start run.end then runs ++ run ∷ [] else runs

-- one of these runs is channel k's, and bit p is in it
pub record IsInRun (runs : List Run) (k : ℕ) (row : FieldRow) (p : ℕ) : Type 0 where
  pub run : Run
  pub there : Contains runs run
  pub channel : run.channel ≡ k
  pub variable : run.variable ≡ is_variable row
  pub low : run.start ≤ p
  pub high : p < run.end

-- each bit of the field of channel k is in one of these runs, as are those of the first n channels
abbrev pub HaveBits : List Run → ℕ → FieldRow → Type 0
HaveBits runs k row = (p : ℕ) → HasBit (spot_in row) p → IsInRun runs k row p

abbrev pub AreRuns : List Run → List FieldRow → ℕ → Type 0
AreRuns runs rows n = (k : ℕ) (row : FieldRow) → k < n → slice_get rows k ≡ Some row → HaveBits runs k row

-- these have what those have
abbrev pub KeepRuns : List Run → List Run → Type 0
KeepRuns old new = (run : Run) → Contains old run → Contains new run

-- a run of a channel of variable length, and one of another channel, have a bit in common
pub record Overlap (run other : Run) : Type 0 where
  pub variable : run.variable ≡ true
  pub differ : other.channel ≢ run.channel
  pub before : other.start < run.end
  pub behind : run.start < other.end

-- no channel of variable length before this one shares a bit with another channel
abbrev pub MeetNone : List FieldRow → ℕ → Type 0
MeetNone rows n = (k : ℕ) (row : FieldRow) → k < n → slice_get rows k ≡ Some row → is_variable row ≡ true
    → any_below (length rows) (meets_at rows k row) ≡ false
