-- The joined measurement: that of the first file, where each group has its records and behind them those of the second file's
-- group, moved, and where the streams of both stand one behind the other.
use Rattle.std.specs.Prelude.{ℕ, ◌≡◌, ◌+◌, ◌<◌, List, ◌++◌, length, map, zip, slice_index_or}
use Rattle.mdf_model.specs.declared.part.Measure.{Measure}
use Rattle.mdf_model.specs.Measurement.{Measured, with_content}
use Rattle.tool_concat.specs.Moved.{AreMoved}

-- a stream and the other behind it
abbrev pub both_streams : List ℕ × List ℕ → List ℕ
both_streams pair = pair.0 ++ pair.1

abbrev pub joined_streams : List (List ℕ) → List (List ℕ) → List (List ℕ)
joined_streams streams others = map both_streams (zip streams others)

-- a group with the records of another behind its own
pub record IsJoinedGroup (first second joined : Measure) : Type 0 where
  pub moved : List ℕ
  pub are_moved : AreMoved second.shape first.part.streams second.part.content second.count moved
  pub is : joined ≡ with_content first (first.count + second.count) (first.part.content ++ moved) (joined_streams first.part.streams second.part.streams)

-- the groups one by one
pub record AreJoined (groups others joined : List Measure) : Type 0 where
  pub count : length joined ≡ length groups
  pub each : (k : ℕ) (d : Measure) → k < length groups
      → IsJoinedGroup (slice_index_or groups k d) (slice_index_or others k d) (slice_index_or joined k d)

-- all else is as in the first
pub record IsJoined (first second joined : Measured) : Type 0 where
  pub groups : AreJoined first.groups second.groups joined.groups
  pub rest : joined ≡ record first { groups = joined.groups }
