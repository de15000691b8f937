-- Where the parts of a channel and of a channel group stand, as the code counts them before they are placed.
use Rattle.std.specs.Prelude.{ℕ, ◌≡◌}
use Rattle.mdf_group.specs.declared.row.ChannelRow.{ChannelRow}
use Rattle.mdf_group.specs.declared.row.GroupRow.{GroupRow}
use Rattle.mdf_tree.specs.declared.places.ChannelPlaces.{ChannelPlaces}
use Rattle.mdf_tree.specs.declared.places.GroupPlaces.{GroupPlaces}
use Rattle.mdf_tree.specs.declared.places.Counted.{Counted}
use Rattle.mdf_tree.specs.Group.{channel_source, channel_conv, channel_unit, channel_comment, past_channel, group_source, group_comment, group_channels, past_group}

pub record AreChannelPlaces (n : ℕ) (row : ChannelRow) (places : ChannelPlaces) : Type 0 where
  pub source : places.source ≡ channel_source n row
  pub conv : places.conv ≡ channel_conv n row
  pub unit : places.unit ≡ channel_unit n row
  pub comment : places.comment ≡ channel_comment n row
  pub past : places.past ≡ past_channel n row

pub record AreGroupPlaces (n : ℕ) (row : GroupRow) (places : GroupPlaces) : Type 0 where
  pub source : places.source ≡ group_source n row
  pub comment : places.comment ≡ group_comment n row
  pub channels : places.channels ≡ group_channels n row
  pub past : places.past ≡ past_group n row

-- the group with the numbers that its file gives it
abbrev pub counted_row : Counted → GroupRow → GroupRow
counted_row counted row = record row {
  id = counted.id;
  cycles = counted.cycles;
  data_bytes = counted.data_bytes;
  inval_bytes = counted.inval_bytes;
}
