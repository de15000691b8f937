-- Measurements that say the same.
use Rattle.std.specs.Prelude.{◌≡◌, false, List}
use Rattle.std.specs.List.{AllByRecursion, AllZip}
use Rattle.mdf_group.specs.Group.{is_variable}
use Rattle.mdf_model.specs.declared.part.Measure.{Measure}
use Rattle.mdf_model.specs.Measurement.{Measured}
use Rattle.mdf_model.specs.Same.{SameHead, SameRows}
use Rattle.tool_sort.specs.Kept.{SameHistory, SameRecords, rows_of}

-- the records of each group are samples, and no values of a channel of variable length
abbrev pub AreOfSamples : List Measure → Type 0
AreOfSamples groups = AllByRecursion (λ (m : Measure). is_variable m.part.row ≡ false) groups

-- The header, the history, the channel groups and the records of each say the same, wherever their blocks stand, and whatever
-- record ids they have.
pub record SameMeasured (m other : Measured) : Type 0 where
  pub head : SameHead m.head other.head
  pub history : SameHistory m.history other.history
  pub samples : AreOfSamples m.groups
  pub rows : SameRows (rows_of m.groups) (rows_of other.groups)
  pub records : AllZip SameRecords m.groups other.groups
