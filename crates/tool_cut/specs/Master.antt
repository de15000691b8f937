-- The master of a channel group, and the records in which its raw number lies in a range.
use Rattle.std.specs.Prelude.{ℕ, Bool, true, ◌&&◌, nat_eq, nat_lt, int_le, int_lt, ℤ, pos, List, slice_get, Option, Some, None}
use Rattle.std.specs.Option.{option_and_then, option_map_or}
use Rattle.std.specs.List.{position}
use Rattle.mdf_group.specs.declared.row.ChannelRow.{ChannelRow}
use Rattle.mdf_layout.specs.Rule.{spot_in}
use Rattle.mdf_layout.specs.Values.{value_in}
use Rattle.mdf_layout.specs.declared.field.FieldRow.{FieldRow}
use Rattle.mdf_layout.specs.declared.sample.Value.{Value}
use Rattle.mdf_layout.specs.declared.sample.Value.TheVariants as value
use Rattle.mdf_model.specs.declared.part.Measure.{Measure}

-- a master channel (kind 2) whose values are integers or floats (data types 0 to 5)
abbrev pub is_master : ChannelRow → Bool
is_master channel = nat_eq channel.kind 2 && nat_lt channel.data_type 6

-- the field of the first one in the records of a group
abbrev pub master_field : Measure → Option FieldRow
master_field m = option_and_then (slice_get m.shape.rows) (position is_master m.part.row.channels)

-- the number that a value is; a float is the number that its bits are
abbrev pub number_of : Value → Option ℤ
number_of (value.Unsigned n) = Some (pos n)
number_of (value.Signed z) = Some z
number_of (value.Bytes bytes) = None
number_of (value.Index n) = None

-- the raw number of a channel in the data bytes of a record, whether it is valid or not
abbrev pub raw_number : FieldRow → List ℕ → Option ℤ
raw_number row bytes = option_and_then number_of (value_in row.kind (spot_in row) bytes (λ offset. None) 0)

-- a range of numbers, without its end
abbrev pub is_between : ℤ → ℤ → ℤ → Bool
is_between from to number = int_le from number && int_lt number to

-- whether the number in the data bytes of a record lies in it
abbrev pub lies_between : ℤ → ℤ → FieldRow → List ℕ → Bool
lies_between from to row bytes = option_map_or (is_between from to) (raw_number row bytes) true
