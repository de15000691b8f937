-- What a recording holds, in the standard's words: no limits, and no order of reading.
use Rattle.std.specs.Prelude.{ℕ, ◌≡◌, ◌≢◌, ◌-◌, if◌then◌else◌, List, [], length, map, sum_by, slice_get, Some}
use Rattle.std.specs.List.{concat, flat_map, AllZip, enumerate_from}
use Rattle.mdf_data.specs.Split.{Record, IsRecordSplit}
use Rattle.mdf_head.specs.declared.entry.Head.{Head}
use Rattle.mdf_head.specs.declared.entry.History.{History}
use Rattle.mdf_head.specs.Head.{IsHead}
use Rattle.mdf_group.specs.declared.row.GroupRow.{GroupRow}
use Rattle.mdf_group.specs.declared.row.DataRow.{DataRow}
use Rattle.mdf_group.specs.Group.{is_variable}
use Rattle.mdf_group.specs.Standing.{AreDistinct, StandDataGroups}
use Rattle.mdf_content.specs.declared.contents.Contents.{Contents}
use Rattle.mdf_content.specs.Records.{known_of}
use Rattle.mdf_data.specs.Bodies.{bodies}
use Rattle.mdf_model.specs.Contents.{HasIdSize, IsContents, sample_groups}
use Rattle.mdf_session.specs.declared.session.Kept.{Kept}
use Rattle.mdf_session.specs.Session.{SessionParts}
use Rattle.mdf_gate.specs.Recording.{IsOpened}

-- The data of the opened blocks of the recording, one behind the other, are these records of the data group and a rest. Behind
-- records with ids nothing is left, and of records without bytes there is none.
pub record AreRecords (file : List ℕ) (row : DataRow) (records : List Record) : Type 0 where
  pub id_size : HasIdSize row
  pub blocks : List (List ℕ)
  pub opened : IsOpened file blocks
  pub rest : List ℕ
  pub split : IsRecordSplit (concat blocks) row.id_size (map known_of row.groups) 0 records rest
  pub whole : row.id_size ≢ 0 → rest ≡ []

-- a group that says how many records it has; in a recording none does
abbrev pub told : DataRow → List Record → ℕ × GroupRow → GroupRow
told row records group = record group.1 { cycles = length (bodies row.id_size records group.0) }

-- what a group holds whose records are samples: its layout, all of its records, the streams of its channels of variable length,
-- and a sample for each record
abbrev pub IsGroupContents : List ℕ → DataRow → List Record → ℕ × GroupRow → Contents → Type 0
IsGroupContents file row records group found = IsContents file row records group.0 (told row records group) found

-- what a recording holds: its header, its history and its data groups, and of the first of these the records, and what each
-- of its groups holds whose records are samples
pub record Recovery : Type 0 where
  pub head : Head
  pub history : List History
  pub rows : List DataRow
  pub row : DataRow
  pub records : List Record
  pub groups : List Contents

-- That is what the file holds, as a recording: the header, the history and the data groups stand along their links, and the
-- opened blocks hold the records.
pub record IsRecovery (file : List ℕ) (found : Recovery) : Type 0 where
  pub stands : IsHead file found.head found.history
  pub tree : StandDataGroups file found.head.first_dg found.rows
  pub first : slice_get found.rows 0 ≡ Some found.row
  pub records : AreRecords file found.row found.records
  pub groups : AllZip (IsGroupContents file found.row found.records) (sample_groups found.row) found.groups

-- no record id stands twice
abbrev pub AreIdsApart : Recovery → Type 0
AreIdsApart found = AreDistinct (map (λ (group : GroupRow). group.id) found.row.groups)

-- how many records a group has, and how many bytes the values of a group of values have, each behind its length in 4 bytes
abbrev pub record_count : Recovery → ℕ × GroupRow → ℕ
record_count found group = length (bodies found.row.id_size found.records group.0)

abbrev pub value_bytes : List (List ℕ) → ℕ
value_bytes values = sum_by (λ (value : List ℕ). length value - 4) values

abbrev pub values_size : Recovery → ℕ × GroupRow → ℕ
values_size found group = if is_variable group.1 then value_bytes (bodies found.row.id_size found.records group.0) else 0

-- what a session keeps of it: the records one behind the other, these numbers of each group, and the streams of all groups
pub record IsKeptOf (found : Recovery) (kept : Kept) : Type 0 where
  pub content : kept.content ≡ flat_map (λ (r : Record). r.bytes) found.records
  pub counts : kept.counts ≡ map (record_count found) (enumerate_from 0 found.row.groups)
  pub totals : kept.totals ≡ map (values_size found) (enumerate_from 0 found.row.groups)
  pub streams : kept.streams ≡ flat_map (λ (contents : Contents). contents.streams) found.groups

pub record IsSessionOf (found : Recovery) (session : SessionParts) : Type 0 where
  pub head : session.tree.head ≡ found.head
  pub history : session.tree.history ≡ found.history
  pub rows : session.tree.rows ≡ found.rows
  pub kept : IsKeptOf found session.kept
