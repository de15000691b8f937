-- The values of channels of variable length.
use Rattle.std.specs.Prelude.{ℕ, ◌≡◌, ◌-◌, zero, suc, ◌+◌, Bool, ◌&&◌, nat_eq, nat_le, ◌<◌, ◌≤◌, if◌then◌else◌, List, [], ◌∷◌, length, map, slice_index_or, min, Option, Some, None, Ok, Err}
use Rattle.std.specs.List.{flat_map}
use Rattle.mdf_format.specs.Number.{le_number, bytes_at}
use Rattle.mdf_format.specs.Field.{field_number}
use Rattle.mdf_format.specs.declared.kind.Kind.TheVariants.{Sd}
use Rattle.mdf_block.specs.Refusal.{Offset, Read, ◌>>=◌}
use Rattle.mdf_stream.specs.declared.part.Part.{Part}
use Rattle.mdf_stream.specs.Parts.{stream_of, stream_size, ArePartsInside}
use Rattle.mdf_data.specs.Places.{HaveRoom}
use Rattle.mdf_stream.specs.Link.{data_parts}
use Rattle.mdf_stream.specs.Range.{parts_between}
use Rattle.mdf_group.specs.declared.row.ChannelRow.{ChannelRow}
use Rattle.mdf_group.specs.declared.row.GroupRow.{GroupRow}
use Rattle.mdf_group.specs.Group.{is_variable}
use Rattle.mdf_vlsd.specs.Value.{size_there}
use Rattle.mdf_layout.specs.Rule.{spot_in}
use Rattle.mdf_layout.specs.declared.field.FieldRow.{FieldRow}
use Rattle.mdf_content.specs.Layouts.{field_of}
use Rattle.mdf_content.specs.Records.{known_of}
use Rattle.mdf_block.specs.Every.{every}
use Rattle.mdf_content.specs.declared.values.Held.{Held}
use Rattle.mdf_content.specs.declared.values.Records.{Records}
use Rattle.std.specs.BTreeMap.{get}
use Rattle.std.specs.Ordering.{nat_cmp}

-- whether a whole value, its length in 4 bytes and so many bytes, stands at the offset of a stream
abbrev pub has_value : List ℕ → ℕ → Bool
has_value stream offset =
    nat_le (offset + 4) (length stream) && nat_le (offset + 4 + size_there stream offset) (length stream)

-- the offset in the record at a place of the stream, which has so many data bytes
abbrev pub offset_at : List ℕ → FieldRow → ℕ → ℕ → ℕ
offset_at stream field data_bytes place = field_number (spot_in field) (bytes_at data_bytes stream place)

-- the offset in a row meets a value
abbrev pub offset_met : (ℕ → Bool) → (ℕ → ℕ) → ℕ → ℕ → Read (Unit {0})
offset_met meets offset channel row = if meets (offset row) then Ok tt else Err (Offset channel row (offset row))

-- the offsets in so many rows from one on meet values
unfoldable pub offsets_met : (ℕ → Bool) → (ℕ → ℕ) → ℕ → ℕ → ℕ → Read (Unit {0})
offsets_met meets offset channel row zero = Ok tt
offsets_met meets offset channel row (suc left) =
    offset_met meets offset channel row >>= λ _. offsets_met meets offset channel (row + 1) left

-- the stream of a data group: its parts, the channel groups, and the places of their records
pub record DataStream : Type 0 where
  pub parts : List Part
  pub groups : List GroupRow
  pub lists : List (List ℕ)

abbrev pub held_of : Held → DataStream
held_of held = record { parts = held.view.now; groups = held.groups.now; lists = held.lists.now }

-- the number of the first group of values that stands at the address; the groups are counted from a number on
unfoldable pub values_group : List GroupRow → ℕ → ℕ → Option ℕ
values_group [] at k = None
values_group (group ∷ groups) at k =
    if is_variable group && nat_eq group.at at then Some k else values_group groups at (k + 1)

-- what finds it
abbrev pub IsValuesTable : List GroupRow → (ℕ → Option ℕ) → Type 0
IsValuesTable groups find = (at : ℕ) → find at ≡ values_group groups at 0

-- what is held of a file of so many bytes lies in it: each part of the stream, and each record with the least of its
-- group in the stream; and the table finds the groups of values
pub record IsHeld (size : ℕ) (held : Held) : Type 0 where
  pub inside : ArePartsInside size held.view.now
  pub room : HaveRoom (stream_size held.view.now) (map known_of held.groups.now) held.lists.now
  pub table : IsValuesTable held.groups.now (get nat_cmp held.table.now)

-- how long the value in the record at a place is, with its length in 4 bytes; the stream ends after so many bytes
abbrev pub value_size : List ℕ → ℕ → ℕ → ℕ
value_size stream total place = min (4 + le_number (bytes_at 4 stream place)) (total - place)

-- the value in the record at a place, with its length
abbrev pub value_there : List ℕ → List Part → ℕ → List ℕ
value_there file parts place = bytes_at (value_size (stream_of file parts) (stream_size parts) place) (stream_of file parts) place

-- the values in the records at these places, each with its length
abbrev pub values_at : List ℕ → List Part → List ℕ → List Part
values_at file parts places = flat_map
    (λ (place : ℕ). parts_between parts place (value_size (stream_of file parts) (stream_size parts) place)) places

-- where a channel's values are: in the records of this group, or where a link to data leads
abbrev pub values_in : List ℕ → DataStream → ℕ → Option ℕ → Read (List Part)
values_in file held at (Some k) = Ok (values_at file held.parts (slice_index_or held.lists k []))
values_in file held at None = data_parts file Sd at

unfoldable pub channel_values : List ℕ → DataStream → ℕ → Read (List Part)
channel_values file held at = values_in file held at (values_group held.groups at 0)

-- the bytes of the parts that are found
abbrev pub bytes_of : List ℕ → Read (List Part) → Read (List ℕ)
bytes_of file found = found >>= λ parts. Ok (stream_of file parts)

-- the records of a group that are looked at: how many data bytes they have, their places, and how many they are
pub record GroupRecords : Type 0 where
  pub data_bytes : ℕ
  pub places : List ℕ
  pub count : ℕ

abbrev pub records_of : Records → GroupRecords
records_of records = record { data_bytes = records.data_bytes; places = records.places.now; count = records.count }

-- they lie inside a stream of so many bytes
abbrev pub AreWithin : ℕ → GroupRecords → Type 0
AreWithin total records = (row : ℕ) → row < records.count → slice_index_or records.places row 0 + records.data_bytes ≤ total

-- the offset of a channel in a row
abbrev pub offset_in : List ℕ → GroupRecords → ChannelRow → ℕ → ℕ
offset_in stream records channel row = offset_at stream (field_of channel) records.data_bytes (slice_index_or records.places row 0)

-- the stream of a channel: its parts are found, and then each offset meets a value in it
unfoldable pub channel_stream : List ℕ → DataStream → GroupRecords → ChannelRow → ℕ → Read (List ℕ)
channel_stream file held records channel c = do
  parts ← channel_values file held channel.values
  _ ← offsets_met (has_value (stream_of file parts)) (offset_in (stream_of file held.parts) records channel) c 0 records.count
  Ok (stream_of file parts)

-- the channels of a group one after another: the streams of those of variable length
unfoldable pub channel_item : List ℕ → DataStream → GroupRecords → ℕ → ChannelRow → Unit {0} → Read (Option (List ℕ) × Unit {0})
channel_item file held records c channel left =
    if nat_eq channel.kind 1 then (channel_stream file held records channel c >>= λ stream. Ok (Some stream, left))
    else Ok (None, left)

-- the streams of all channels of variable length of a group
unfoldable pub streams : List ℕ → DataStream → GroupRecords → List ChannelRow → Read (List (List ℕ))
streams file held records channels = every (channel_item file held records) 0 channels tt >>= λ found. Ok found.0
