-- The samples that are recovered of a recording.
use Rattle.std.specs.Prelude.{ℕ, ◌≡◌, Bool, false, List, length, take, drop, filter, slice_get, Option, Some, None}
use Rattle.std.specs.List.{AllZip, enumerate_from}
use Rattle.mdf_data.specs.Split.{Record}
use Rattle.mdf_group.specs.declared.row.GroupRow.{GroupRow}
use Rattle.mdf_group.specs.declared.row.DataRow.{DataRow}
use Rattle.mdf_layout.specs.History.{group_samples}
use Rattle.mdf_layout.specs.Values.{sample_of}
use Rattle.mdf_layout.specs.declared.sample.Sample.{Sample}
use Rattle.mdf_content.specs.declared.contents.Contents.{Contents}
use Rattle.mdf_content.specs.Samples.{sample_at}
use Rattle.mdf_model.specs.Measurement.{holds_samples}
use Rattle.mdf_data.specs.Bodies.{is_of}
use Rattle.mdf_carried.specs.Recovered.{Recovery, IsRecovery}

-- the group of a record is one whose records are samples
abbrev pub is_sample_in : Option GroupRow → Bool
is_sample_in None = false
is_sample_in (Some group) = holds_samples group

abbrev pub is_sample : DataRow → ℕ × Record → Bool
is_sample row r = is_sample_in (slice_get row.groups r.1.which)

-- the number of group k among the groups whose records are samples
abbrev pub sample_number : DataRow → ℕ → ℕ
sample_number row k = length (filter holds_samples (take k row.groups))

-- how many records of its group stand before record n
abbrev pub index_of : List Record → ℕ × Record → ℕ
index_of records r = length (filter (is_of r.1.which) (take r.0 records))

-- the data bytes and the invalidation bytes of a record
abbrev pub body_of : DataRow → ℕ × Record → List ℕ
body_of row r = drop row.id_size r.1.bytes

-- this is the sample of record n: of its group, by the layout of the group and the streams of its channels
pub record IsSampleOf (found : Recovery) (r : ℕ × Record) (sample : Sample) : Type 0 where
  pub contents : Contents
  pub holds : slice_get found.groups (sample_number found.row r.1.which) ≡ Some contents
  pub group : sample.group ≡ sample_number found.row r.1.which
  pub values : sample_of contents.shape.rows (take contents.shape.data_bytes (body_of found.row r))
      (drop contents.shape.data_bytes (body_of found.row r)) contents.streams (index_of found.records r)
      ≡ Some sample.values

-- these are the samples of the records of a group, in order
pub record AreSamplesOf (contents : Contents) (samples : List Sample) : Type 0 where
  pub count : length samples ≡ contents.count
  pub each : (i : ℕ) (sample : Sample) → slice_get samples i ≡ Some sample
      → sample_at contents.shape contents.content contents.streams i ≡ Some sample.values

-- the records that are samples, with their numbers
abbrev pub sample_records : Recovery → List (ℕ × Record)
sample_records found = filter (is_sample found.row) (enumerate_from 0 found.records)

-- each group has its own of these samples
abbrev pub HaveSamples : Recovery → List Sample → Type 0
HaveSamples found samples =
    (g : ℕ) (contents : Contents) → slice_get found.groups g ≡ Some contents → AreSamplesOf contents (group_samples samples g)

-- The samples that are recovered of a file: one for each record that is a sample, in the order of the records.
pub record IsRecovered (file : List ℕ) (samples : List Sample) : Type 0 where
  pub found : Recovery
  pub recovery : IsRecovery file found
  pub each : AllZip (IsSampleOf found) (sample_records found) samples
