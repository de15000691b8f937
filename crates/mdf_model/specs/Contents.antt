-- What a data group holds, in the standard's words: no limits, and no order of reading.
use Rattle.std.specs.Prelude.{ℕ, ◌≡◌, ◌≢◌, ◌≤◌, ◌⊎◌, Bool, not, List, [], ◌∷◌, length, take, map, filter, Option, Some, None}
use Rattle.std.specs.List.{AllByRecursion, AllZip, enumerate_from}
use Rattle.mdf_format.specs.Field.{field_number}
use Rattle.mdf_format.specs.Value.{IsValueAt}
use Rattle.mdf_format.specs.declared.kind.Kind.TheVariants.{Dt, Sd}
use Rattle.mdf_stream.specs.Stream.{IsStream}
use Rattle.mdf_data.specs.Record.{IsIdSize}
use Rattle.mdf_data.specs.Split.{Record, IsRecordSplit}
use Rattle.mdf_group.specs.declared.row.ChannelRow.{ChannelRow}
use Rattle.mdf_group.specs.declared.row.GroupRow.{GroupRow}
use Rattle.mdf_group.specs.declared.row.DataRow.{DataRow}
use Rattle.mdf_group.specs.Group.{is_variable}
use Rattle.mdf_group.specs.Recordable.{is_of_values}
use Rattle.mdf_layout.specs.Layout.{Layout}
use Rattle.mdf_layout.specs.Rule.{spot_in, BreaksRule}
use Rattle.mdf_layout.specs.declared.field.FieldRow.{FieldRow}
use Rattle.mdf_content.specs.declared.contents.Contents.{Contents}
use Rattle.mdf_content.specs.Layouts.{field_of, layout_of}
use Rattle.mdf_content.specs.Records.{known_of, empties_of}
use Rattle.mdf_content.specs.Samples.{AreSamples}
use Rattle.mdf_content.specs.Values.{values_group}
use Rattle.mdf_data.specs.Bodies.{bodies, joined}

-- record ids of 1, 2, 4 or 8 bytes, or none and at most one group
abbrev pub HasIdSize : DataRow → Type 0
HasIdSize row = IsIdSize row.id_size ⊎ ((row.id_size ≡ 0) × (length row.groups ≤ 1))

-- how many records without bytes a stream without ids has: as many as its one group says
abbrev pub empties_in : List GroupRow → ℕ
empties_in [] = 0
empties_in (group ∷ groups) = empties_of group.cycles group

-- the data stream of a data group is whole records and a rest
pub record IsDataSplit (file : List ℕ) (row : DataRow) (records : List Record) (rest : List ℕ) : Type 0 where
  pub stream : List ℕ
  pub is_stream : IsStream file row.content Dt stream
  pub split : IsRecordSplit stream row.id_size (map known_of row.groups) (empties_in row.groups) records rest

-- no channel breaks a rule of the layout
abbrev pub KeepsRules : Layout → Type 0
KeepsRules layout = AllByRecursion
    (λ (channel : ℕ × FieldRow). ¬ BreaksRule layout.data_bytes layout.inval_bytes layout.rows channel.0 channel.1)
    (enumerate_from 0 layout.rows)

-- the values of a channel of variable length: the records of the group of values that its link names, or the stream that
-- the link leads to
abbrev pub IsValuesOf : List ℕ → DataRow → List Record → ℕ → Option ℕ → List ℕ → Type 0
IsValuesOf file row records link (Some k) stream = stream ≡ joined (bodies row.id_size records k)
IsValuesOf file row records link None stream = IsStream file link Sd stream

-- the offset of the channel in a record meets a value
abbrev pub MeetsValue : List ℕ → ℕ → ChannelRow → List ℕ → Type 0
MeetsValue stream data_bytes channel body =
    (value : List ℕ) × IsValueAt stream (field_number (spot_in (field_of channel)) (take data_bytes body)) value

-- the stream of a channel of variable length of a group with these records
pub record IsChannelStream (file : List ℕ) (row : DataRow) (records : List Record) (data_bytes : ℕ) (own : List (List ℕ)) (channel : ChannelRow) (stream : List ℕ) : Type 0 where
  pub values : IsValuesOf file row records channel.values (values_group row.groups channel.values 0) stream
  pub met : AllByRecursion (MeetsValue stream data_bytes channel) own

-- the records of a group that are samples: as many as it says
abbrev pub own_records : DataRow → List Record → ℕ → GroupRow → List (List ℕ)
own_records row records k group = take group.cycles (bodies row.id_size records k)

-- What group k holds, where its records are samples: its layout, as many records as it says, the streams of its channels of
-- variable length, and a sample for each record.
pub record IsContents (file : List ℕ) (row : DataRow) (records : List Record) (k : ℕ) (group : GroupRow) (found : Contents) : Type 0 where
  pub ruled : KeepsRules (layout_of group)
  pub shape : found.shape ≡ layout_of group
  pub enough : group.cycles ≤ length (bodies row.id_size records k)
  pub count : found.count ≡ group.cycles
  pub content : found.content ≡ joined (own_records row records k group)
  pub streams : AllZip
      (IsChannelStream file row records group.data_bytes (own_records row records k group)) (filter is_of_values group.channels) found.streams
  pub samples : AreSamples found.shape found.count found.content found.streams

-- the groups with their numbers, without those that hold values of variable length
abbrev pub is_of_samples : ℕ × GroupRow → Bool
is_of_samples numbered = not (is_variable numbered.1)

abbrev pub sample_groups : DataRow → List (ℕ × GroupRow)
sample_groups row = filter is_of_samples (enumerate_from 0 row.groups)

-- what a data group holds: for each of its groups whose records are samples what it holds
pub record IsDataContents (file : List ℕ) (row : DataRow) (found : List Contents) : Type 0 where
  pub id_size : HasIdSize row
  pub records : List Record
  pub rest : List ℕ
  pub split : IsDataSplit file row records rest
  pub whole : row.id_size ≢ 0 → rest ≡ []
  pub groups : AllZip
      (λ (group : ℕ × GroupRow) (contents : Contents). IsContents file row records group.0 group.1 contents) (sample_groups row) found
