-- The measurement of a finalized file, and what makes the file valid, in the standard's words: no limits, and no order of
-- reading.
use Rattle.std.specs.Prelude.{ℕ, ◌≡◌, List, [], length, map, filter, zip}
use Rattle.std.specs.List.{flat_map, AllByRecursion, AllZip, enumerate_from}
use Rattle.mdf_format.specs.Identification.{IsMdf, IsFinalized, HasReadVersion, standard_flags, custom_flags}
use Rattle.mdf_data.specs.Split.{Record}
use Rattle.mdf_head.specs.declared.entry.Head.{Head}
use Rattle.mdf_head.specs.declared.entry.History.{History}
use Rattle.mdf_head.specs.Head.{IsHead}
use Rattle.mdf_group.specs.declared.row.GroupRow.{GroupRow}
use Rattle.mdf_group.specs.declared.row.DataRow.{DataRow}
use Rattle.mdf_group.specs.Standing.{AreDistinct, StandDataGroups}
use Rattle.mdf_content.specs.declared.contents.Contents.{Contents}
use Rattle.mdf_model.specs.declared.part.Measure.{Measure}
use Rattle.mdf_model.specs.Measurement.{holds_samples, paired}
use Rattle.mdf_data.specs.Bodies.{bodies}
use Rattle.mdf_model.specs.Contents.{IsDataSplit, IsDataContents}

-- the file begins as a finalized file of a version that is read
pub record IsFinalizedMdf (file : List ℕ) : Type 0 where
  pub mdf : IsMdf file
  pub version : HasReadVersion file
  pub finalized : IsFinalized file

-- the groups of a data group whose records are samples, each with what it holds
abbrev pub row_measures : DataRow × List Contents → List Measure
row_measures pair = paired pair.0.comment (filter holds_samples pair.0.groups) pair.1

-- These are the header, the history and the groups of the file. The header, the history and the data groups stand along
-- their links, and each data group holds what is said of its groups.
pub record IsMeasurement (file : List ℕ) (head : Head) (history : List History) (groups : List Measure) : Type 0 where
  pub ident : IsFinalizedMdf file
  pub stands : IsHead file head history
  pub rows : List DataRow
  pub tree : StandDataGroups file head.first_dg rows
  pub contents : List (List Contents)
  pub hold : AllZip (IsDataContents file) rows contents
  pub groups_are : groups ≡ flat_map row_measures (zip rows contents)

-- a data group with nothing behind its records, whose groups say how many records they have, each with an id of its own
pub record IsValidData (file : List ℕ) (row : DataRow) : Type 0 where
  pub records : List Record
  pub split : IsDataSplit file row records []
  pub said : AllByRecursion
      (λ (group : ℕ × GroupRow). group.1.cycles ≡ length (bodies row.id_size records group.0)) (enumerate_from 0 row.groups)
  pub ids : AreDistinct (map (λ (group : GroupRow). group.id) row.groups)

-- a file that has a measurement, no flag of an unfinalized file, and such data groups alone
pub record IsValidFile (file : List ℕ) : Type 0 where
  pub standard : standard_flags file ≡ 0
  pub custom : custom_flags file ≡ 0
  pub head : Head
  pub history : List History
  pub groups : List Measure
  pub measurement : IsMeasurement file head history groups
  pub each : AllByRecursion (IsValidData file) measurement.rows
