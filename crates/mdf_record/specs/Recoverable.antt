-- The recordings that `finalize` makes whole, in the standard's words.
use Rattle.std.specs.Prelude.{ℕ, ◌≤◌, List, length}
use Rattle.mdf_carried.specs.Recovered.{Recovery, IsRecovery}
use Rattle.mdf_carried.specs.Limits.{IsWithinRecording}
use Rattle.mdf_command.specs.Faults.{INPUT_LIMIT}

-- the file holds a recording, which is within the limits of the reader, and is no longer than an input may be
pub record IsRecoverable (file : List ℕ) : Type 0 where
  pub found : Recovery
  pub recovery : IsRecovery file found
  pub within : IsWithinRecording file found
  pub short : length file ≤ INPUT_LIMIT
