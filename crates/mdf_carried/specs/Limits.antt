-- How much of a recording is read: the limits of the reader.
use Rattle.std.specs.Prelude.{ℕ, List}
use Rattle.std.specs.List.{AllByRecursion}
use Rattle.mdf_model.specs.Limits.{HasFewValues, IsWithinTree}
use Rattle.mdf_carried.specs.Recovered.{Recovery}

-- The header, the history and the data groups are within the limits of a tree, and each channel of variable length of the first
-- data group has few blocks of values. Of the opened blocks and of the records there may be any number.
pub record IsWithinRecording (file : List ℕ) (found : Recovery) : Type 0 where
  pub tree : IsWithinTree file found.head found.history found.rows
  pub values : AllByRecursion (HasFewValues file) found.row.groups
