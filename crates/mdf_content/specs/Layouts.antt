-- The layouts of the records of a data group, and the first reason why there are none.
use Rattle.std.specs.Prelude.{ℕ, ◌≡◌, ◌+◌, Bool, ◌||◌, ◌&&◌, nat_eq, nat_le, if◌then◌else◌, List, [], ◌∷◌, length, map, Option, Some, None, Ok, Err}
use Rattle.mdf_block.specs.Refusal as refusals
use Rattle.mdf_block.specs.Refusal.{Read, ◌>>=◌}
use Rattle.mdf_group.specs.declared.row.ChannelRow.{ChannelRow}
use Rattle.mdf_group.specs.declared.row.GroupRow.{GroupRow}
use Rattle.mdf_group.specs.declared.row.DataRow.{DataRow}
use Rattle.mdf_group.specs.Group.{is_variable}
use Rattle.mdf_group.specs.Recordable.{numbers_of}
use Rattle.mdf_layout.specs.Layout.{Layout}
use Rattle.mdf_layout.specs.Row.{field_row}
use Rattle.mdf_format.specs.Row.{IsNumberPlaced}
use Rattle.mdf_layout.specs.Rule.{spot_in, breaks_row_rule}
use Rattle.mdf_layout.specs.declared.field.FieldRow.{FieldRow}
use Rattle.mdf_block.specs.Every.{every}

-- the field of a channel
abbrev pub field_of : ChannelRow → FieldRow
field_of channel = field_row (numbers_of channel)

-- the channels that have fields in the records of a group; the channels of a group of values are passed over
abbrev pub placed_channels : GroupRow → List ChannelRow
placed_channels group = if is_variable group then [] else group.channels

-- the layout of the records of a group
abbrev pub layout_of : GroupRow → Layout
layout_of group = record {
  rows = map field_of (placed_channels group);
  data_bytes = group.data_bytes;
  inval_bytes = group.inval_bytes;
}

-- the first of these channels, counted from a number on, that breaks a rule of the layout
unfoldable pub first_unplaced : Layout → ℕ → List ChannelRow → Option ChannelRow
first_unplaced layout k [] = None
first_unplaced layout k (channel ∷ channels) =
    if breaks_row_rule layout.data_bytes layout.inval_bytes layout.rows k (field_of channel) then Some channel
    else first_unplaced layout (k + 1) channels

-- the layout of a group, or a refusal of this channel
abbrev pub layout_unless : GroupRow → Option ChannelRow → Read Layout
layout_unless group None = Ok (layout_of group)
layout_unless group (Some channel) = Err (refusals.Layout channel.at)

-- the layout of a group, where no channel breaks a rule
unfoldable pub layout : GroupRow → Read Layout
layout group = layout_unless group (first_unplaced (layout_of group) 0 (placed_channels group))

-- the layouts of groups are looked at one after another
abbrev pub laid_group : ℕ → GroupRow → Unit {0} → Read (Option (Unit {0}) × Unit {0})
laid_group k group left = layout group >>= λ _. Ok (None, left)

-- an id of 1, 2, 4 or 8 bytes, or no id and at most one group
abbrev pub has_id_size : DataRow → Bool
has_id_size row =
    (nat_eq row.id_size 0 && nat_le (length row.groups) 1)
    || (nat_eq row.id_size 1 || (nat_eq row.id_size 2 || (nat_eq row.id_size 4 || nat_eq row.id_size 8)))

-- the id size of a data group, and then the layouts of its groups
unfoldable pub layouts : DataRow → Read (Unit {0})
layouts row =
    if has_id_size row then (every laid_group 0 row.groups tt >>= λ _. Ok tt) else Err (refusals.Layout row.at)

-- a channel of variable length has its offset in so many data bytes
abbrev pub HasOffset : ℕ → ChannelRow → Type 0
HasOffset data_bytes channel = channel.kind ≡ 1 → IsNumberPlaced data_bytes (spot_in (field_of channel))
