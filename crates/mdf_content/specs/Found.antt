-- Where what is read of a channel group and of a data group stands in the file, and that with the bytes there.
use Rattle.std.specs.Prelude.{ℕ, ◌+◌, ◌≤◌, true, nat_eq, if◌then◌else◌, List, [], length, map, take, slice_index_or, Option, Some, None, Ok}
use Rattle.std.specs.List.{AllByRecursion}
use Rattle.mdf_format.specs.declared.kind.Kind.TheVariants.{Dt}
use Rattle.mdf_block.specs.Every.{every}
use Rattle.mdf_block.specs.Refusal.{Read, ◌>>=◌}
use Rattle.mdf_stream.specs.declared.part.Part.{Part}
use Rattle.mdf_stream.specs.Link.{data_parts}
use Rattle.mdf_stream.specs.Parts.{ArePartsInside, stream_of, stream_size}
use Rattle.mdf_group.specs.declared.row.ChannelRow.{ChannelRow}
use Rattle.mdf_group.specs.declared.row.DataRow.{DataRow}
use Rattle.mdf_group.specs.declared.row.GroupRow.{GroupRow}
use Rattle.mdf_group.specs.Group.{is_variable}
use Rattle.mdf_layout.specs.Layout.{record_size}
use Rattle.mdf_content.specs.declared.contents.Contents.{Contents}
use Rattle.mdf_content.specs.declared.contents.DataContents.{DataContents}
use Rattle.mdf_content.specs.declared.found.Found.{Found}
use Rattle.mdf_content.specs.declared.found.DataFound.{DataFound}
use Rattle.mdf_content.specs.Contents.{content_of, count_of, is_strict, records_at}
use Rattle.mdf_content.specs.Layouts.{layout, layouts}
use Rattle.mdf_content.specs.Records.{counted, places_of}
use Rattle.mdf_content.specs.Values.{DataStream, GroupRecords, channel_values, has_value, offset_in, offsets_met}

-- the values of a channel: their parts, where each offset meets a value in the stream of them
unfoldable pub channel_found : List ℕ → DataStream → GroupRecords → ChannelRow → ℕ → Read (List Part)
channel_found file held records channel c = do
  parts ← channel_values file held channel.values
  _ ← offsets_met (has_value (stream_of file parts)) (offset_in (stream_of file held.parts) records channel) c 0 records.count
  Ok parts

-- the channels of a group one after another: the values of those of variable length
unfoldable pub channel_place : List ℕ → DataStream → GroupRecords → ℕ → ChannelRow → Unit {0} → Read (Option (List Part) × Unit {0})
channel_place file held records c channel left =
    if nat_eq channel.kind 1 then (channel_found file held records channel c >>= λ parts. Ok (Some parts, left))
    else Ok (None, left)

unfoldable pub values_found : List ℕ → DataStream → GroupRecords → List ChannelRow → Read (List (List Part))
values_found file held records channels = every (channel_place file held records) 0 channels tt >>= λ found. Ok found.0

-- a group that holds no values, with its number: its layout, and then the values of its channels of variable length
unfoldable pub group_found : List ℕ → DataStream → ℕ → GroupRow → List ℕ → Read Found
group_found file held k group places = do
  shape ← layout group
  values ← values_found file held (records_at true group places) group.channels
  Ok (record { shape = shape; which = k; count = count_of true group places; values = values })

-- the groups of a data group one after another; those of values are passed over
unfoldable pub group_place : List ℕ → DataStream → ℕ → GroupRow → Unit {0} → Read (Option Found × Unit {0})
group_place file held k group left =
    if is_variable group then Ok (None, left)
    else (group_found file held k group (slice_index_or held.lists k []) >>= λ found. Ok (Some found, left))

unfoldable pub groups_found : List ℕ → DataStream → Read (List Found)
groups_found file held = every (group_place file held) 0 held.groups tt >>= λ found. Ok found.0

-- a data group whose records are found
unfoldable pub data_at : List ℕ → List Part → DataRow → List (List ℕ) → Read DataFound
data_at file parts row lists = do
  groups ← groups_found file (record { parts = parts; groups = row.groups; lists = lists })
  Ok (record { view = parts; lists = lists; groups = groups; strict = is_strict row (stream_size parts) lists })

-- a data group, where so many groups of the file were counted before, and how many then
unfoldable pub data_found : List ℕ → DataRow → ℕ → Read (DataFound × ℕ)
data_found file row number = do
  _ ← layouts row
  parts ← data_parts file Dt row.content
  lists ← places_of (stream_of file parts) (stream_size parts) true row
  next ← counted lists row.groups number
  found ← data_at file parts row lists
  Ok (found, next)

-- what is found of a group with the bytes of its records and of its values
abbrev pub fetched : List ℕ → List Part → List (List ℕ) → Found → Contents
fetched file parts lists found = record {
  shape = found.shape;
  count = found.count;
  content = content_of (stream_of file parts) (record_size found.shape) (take found.count (slice_index_or lists found.which []));
  streams = map (stream_of file) found.values;
}

-- what is found of a data group so
abbrev pub data_fetched : List ℕ → DataFound → DataContents
data_fetched file found = record { groups = map (fetched file found.view found.lists) found.groups; strict = found.strict }

-- what is found of a group lies in a file of so many bytes: its records in the stream, and the parts of its values
pub record IsGroupInside (size : ℕ) (parts : List Part) (lists : List (List ℕ)) (found : Found) : Type 0 where
  pub few : found.count ≤ length (slice_index_or lists found.which [])
  pub room : AllByRecursion (λ place. place + record_size found.shape ≤ stream_size parts) (slice_index_or lists found.which [])
  pub values : AllByRecursion (ArePartsInside size) found.values

-- what is found of a data group so
pub record IsFoundInside (size : ℕ) (found : DataFound) : Type 0 where
  pub view : ArePartsInside size found.view
  pub groups : AllByRecursion (IsGroupInside size found.view found.lists) found.groups
