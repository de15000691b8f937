-- What a refusal says of a data group: of its layouts, its records, its counts and its values; and what one says of a file.
use Rattle.std.specs.Prelude.{ℕ, ◌≡◌, ◌≢◌, ◌+◌, ◌≤◌, ◌<◌, ◌⊎◌, true, false, List, length, take, drop, map, filter, sum_by, slice_get, Some}
use Rattle.std.specs.List.{AllByRecursion}
use Rattle.mdf_format.specs.Number.{le_number, bytes_at}
use Rattle.mdf_format.specs.Field.{field_number}
use Rattle.mdf_format.specs.Value.{IsValueAt}
use Rattle.mdf_format.specs.declared.kind.Kind.TheVariants.{Dt}
use Rattle.mdf_block.specs.declared.what.What.TheVariants as whats
use Rattle.mdf_block.specs.Refusal.{Refusal, TooMany, Layout, UnknownId, Cut, Cycles, Offset}
use Rattle.mdf_block.specs.Truth.{IsTrueOf}
use Rattle.mdf_stream.specs.Stream.{IsStream}
use Rattle.mdf_data.specs.Split.{Record, IsRecordSplit}
use Rattle.mdf_head.specs.declared.entry.Head.{Head}
use Rattle.mdf_head.specs.declared.entry.History.{History}
use Rattle.mdf_head.specs.Head.{IsHead}
use Rattle.mdf_group.specs.declared.row.ChannelRow.{ChannelRow}
use Rattle.mdf_group.specs.declared.row.GroupRow.{GroupRow}
use Rattle.mdf_group.specs.declared.row.DataRow.{DataRow}
use Rattle.mdf_group.specs.Group.{is_variable}
use Rattle.mdf_group.specs.Recordable.{is_of_values}
use Rattle.mdf_group.specs.Standing.{AreDataGroups}
use Rattle.mdf_layout.specs.Rule.{spot_in, BreaksRule}
use Rattle.mdf_content.specs.Layouts.{field_of, layout_of}
use Rattle.mdf_content.specs.Records.{known_of, has_empty_records}
use Rattle.mdf_content.specs.Values.{values_group}
use Rattle.mdf_model.specs.Measurement.{holds_samples}
use Rattle.mdf_data.specs.Bodies.{bodies}
use Rattle.mdf_model.specs.Contents.{HasIdSize, empties_in, IsDataSplit, IsValuesOf, own_records}

-- group k of a data group is this one, and its records are samples
pub record IsSampleGroup (row : DataRow) (k : ℕ) (group : GroupRow) : Type 0 where
  pub there : slice_get row.groups k ≡ Some group
  pub samples : is_variable group ≡ false

-- the channel at the address breaks a rule of the layout of its group
pub record BreaksLayout (row : DataRow) (at : ℕ) : Type 0 where
  pub k : ℕ
  pub group : GroupRow
  pub is_group : IsSampleGroup row k group
  pub c : ℕ
  pub channel : ChannelRow
  pub is_channel : slice_get group.channels c ≡ Some channel
  pub named : at ≡ channel.at
  pub breaks : BreaksRule group.data_bytes group.inval_bytes (layout_of group).rows c (field_of channel)

-- a record id of another size, or a channel that breaks a rule
abbrev pub LacksLayout : DataRow → ℕ → Type 0
LacksLayout row at = ((at ≡ row.at) × (¬ HasIdSize row)) ⊎ BreaksLayout row at

-- records have ids; the data stream of the data group is whole records up to the place, and no whole record begins there,
-- where something is left
pub record IsRestAt (file : List ℕ) (row : DataRow) (place : ℕ) : Type 0 where
  pub ids : row.id_size ≢ 0
  pub stream : List ℕ
  pub is_stream : IsStream file row.content Dt stream
  pub some : place < length stream
  pub records : List Record
  pub split : IsRecordSplit stream row.id_size (map known_of row.groups) (empties_in row.groups) records (drop place stream)

-- a whole id stands there, and no group has it
pub record IsUnknownAt (file : List ℕ) (row : DataRow) (id place : ℕ) : Type 0 where
  pub rest : IsRestAt file row place
  pub whole : place + row.id_size ≤ length rest.stream
  pub is_id : id ≡ le_number (bytes_at row.id_size rest.stream place)
  pub unknown : AllByRecursion (λ (group : GroupRow). group.id ≢ id) row.groups

-- fewer records than a group says; the groups whose records are samples are counted over the file
pub record SaysMore (file : List ℕ) (row : DataRow) (before number said found : ℕ) : Type 0 where
  pub records : List Record
  pub rest : List ℕ
  pub split : IsDataSplit file row records rest
  pub k : ℕ
  pub group : GroupRow
  pub is_group : IsSampleGroup row k group
  pub is_number : number ≡ before + length (filter holds_samples (take k row.groups))
  pub is_said : said ≡ group.cycles
  pub is_found : found ≡ length (bodies row.id_size records k)
  pub more : found < said

-- the offset of a channel in record i of its group, which meets no value in the stream of the channel
pub record MissesValue (file : List ℕ) (row : DataRow) (c i offset : ℕ) : Type 0 where
  pub records : List Record
  pub rest : List ℕ
  pub split : IsDataSplit file row records rest
  pub k : ℕ
  pub group : GroupRow
  pub is_group : IsSampleGroup row k group
  pub channel : ChannelRow
  pub is_channel : slice_get group.channels c ≡ Some channel
  pub kind : is_of_values channel ≡ true
  pub stream : List ℕ
  pub values : IsValuesOf file row records channel.values (values_group row.groups channel.values 0) stream
  pub body : List ℕ
  pub is_body : slice_get (own_records row records k group) i ≡ Some body
  pub is_offset : offset ≡ field_number (spot_in (field_of channel)) (take group.data_bytes body)
  pub none : (value : List ℕ) → ¬ IsValueAt stream offset value

-- the first group says more than 268,435,456 records without bytes, in a stream without ids
pub record HasManyEmpties (row : DataRow) (at : ℕ) : Type 0 where
  pub group : GroupRow
  pub there : slice_get row.groups 0 ≡ Some group
  pub named : at ≡ group.at
  pub no_ids : row.id_size ≡ 0
  pub empty : has_empty_records group ≡ true
  pub many : 268435456 < group.cycles

-- the refusal is true of the data group, before which the file has so many groups whose records are samples
abbrev pub IsTrueOfData : List ℕ → DataRow → ℕ → Refusal → Type 0
IsTrueOfData file row before (Layout at) = LacksLayout row at
IsTrueOfData file row before (UnknownId id at) = IsUnknownAt file row id at
IsTrueOfData file row before (Cut at) = IsRestAt file row at
IsTrueOfData file row before (Cycles number said found) = SaysMore file row before number said found
IsTrueOfData file row before (Offset c i offset) = MissesValue file row c i offset
IsTrueOfData file row before (TooMany whats.Sample at) = HasManyEmpties row at
IsTrueOfData file row before refusal = IsTrueOf file refusal

-- how many groups of these data groups have samples
abbrev pub sample_count : List DataRow → ℕ
sample_count rows = sum_by (λ (row : DataRow). length (filter holds_samples row.groups)) rows

-- the refusal is true of one of the data groups that stand in the file
pub record IsTrueOfOne (file : List ℕ) (refusal : Refusal) : Type 0 where
  pub head : Head
  pub history : List History
  pub stands : IsHead file head history
  pub rows : List DataRow
  pub tree : AreDataGroups file head.first_dg rows
  pub n : ℕ
  pub row : DataRow
  pub there : slice_get rows n ≡ Some row
  pub holds : IsTrueOfData file row (sample_count (take n rows)) refusal

-- the refusal is true of the file: of its identification, of a block at the address, or of a data group
abbrev pub IsTrueOfFile : List ℕ → Refusal → Type 0
IsTrueOfFile file refusal = IsTrueOf file refusal ⊎ IsTrueOfOne file refusal

-- the refusal is one of layouts, records, counts or values
abbrev pub IsAboutData : Refusal → Type 0
IsAboutData (Layout at) = Unit {0}
IsAboutData (UnknownId id at) = Unit {0}
IsAboutData (Cut at) = Unit {0}
IsAboutData (Cycles number said found) = Unit {0}
IsAboutData (Offset c i offset) = Unit {0}
IsAboutData _ = ⊥
