-- Headers and channel groups that say the same, wherever their blocks stand and however many records they count.
use Rattle.std.specs.Prelude.{ℕ, ◌≡◌, ◌%◌, ◌^◌, nat_eq, if◌then◌else◌, List, map}
use Rattle.mdf_head.specs.declared.entry.Head.{Head}
use Rattle.mdf_group.specs.declared.row.ChannelRow.{ChannelRow}
use Rattle.mdf_group.specs.declared.row.GroupRow.{GroupRow}
use Rattle.mdf_group.specs.Group.{is_variable}

-- a header without the address of its first data group
abbrev pub plain_head : Head → Head
plain_head head = record head { first_dg = 0 }

-- where links after the eighth name something, bits 12 to 31 of the flags speak of these
abbrev pub plain_flags : ChannelRow → ℕ
plain_flags row = if nat_eq row.extra 0 then row.flags else row.flags % 2 ^ 12

-- a channel without addresses and links to blocks
abbrev pub plain_channel : ChannelRow → ChannelRow
plain_channel row = record row { at = 0; values = 0; extra = 0; flags = plain_flags row }

-- a number that a group of values uses for the sum of their lengths
abbrev pub plain_size : GroupRow → ℕ → ℕ
plain_size row size = if is_variable row then 0 else size

-- a channel group without its address, its record id and its counts
abbrev pub plain_group : GroupRow → GroupRow
plain_group row = record row {
  at = 0;
  id = 0;
  cycles = 0;
  data_bytes = plain_size row row.data_bytes;
  inval_bytes = plain_size row row.inval_bytes;
  channels = map plain_channel row.channels;
}

abbrev pub SameHead : Head → Head → Type 0
SameHead one other = plain_head one ≡ plain_head other

abbrev pub SameRows : List GroupRow → List GroupRow → Type 0
SameRows rows others = map plain_group rows ≡ map plain_group others
