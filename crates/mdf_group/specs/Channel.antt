-- The channels of a group.
use Rattle.std.specs.Prelude.{ℕ, ◌+◌, ◌-◌, Bool, ◌||◌, nat_eq, nat_lt, if◌then◌else◌, List, slice_index, Ok, Err}
use Rattle.mdf_format.specs.Number.{le_number, bytes_at}
use Rattle.mdf_format.specs.Block.{link_at}
use Rattle.mdf_format.specs.declared.kind.Kind.TheVariants.{Cn}
use Rattle.mdf_block.specs.declared.what.What.TheVariants as whats
use Rattle.mdf_block.specs.declared.place.BlockAt.{BlockAt}
use Rattle.mdf_block.specs.Refusal.{ChannelKind, ChannelType, Read, ◌>>=◌}
use Rattle.mdf_block.specs.Block.{block, body_of}
use Rattle.mdf_block.specs.Chain.{Step, chain, full}
use Rattle.mdf_conv.specs.declared.limits.Budget.{Budget}
use Rattle.mdf_conv.specs.Left.{with_dropped, link_count}
use Rattle.mdf_conv.specs.Conv.{numbers_at}
use Rattle.mdf_group.specs.declared.room.ChannelFront.{ChannelFront}
use Rattle.mdf_group.specs.declared.room.ChannelLinks.{ChannelLinks}
use Rattle.mdf_group.specs.declared.room.Passed.{Passed}
use Rattle.mdf_group.specs.declared.row.ChannelRow.{ChannelRow}
use Rattle.mdf_group.specs.Link.{channel_links, links_named}

-- the kinds that are not read: synchronization, maximum length, and those that the standard has not
abbrev pub is_refused_kind : ℕ → Bool
is_refused_kind kind = nat_eq kind 4 || nat_eq kind 5 || nat_lt 6 kind

-- a channel whose kind is read, and then whose data type is
unfoldable pub accepted : ℕ → ℕ → ℕ → Read (Unit {0})
accepted at kind data_type =
    if is_refused_kind kind then Err (ChannelKind at kind)
    else (if nat_lt 14 data_type then Err (ChannelType at data_type) else Ok tt)

-- the numbers in the body of a channel
abbrev pub channel_front : List ℕ → ChannelFront
channel_front body = record {
  kind = slice_index body 0;
  sync = slice_index body 1;
  data_type = slice_index body 2;
  bit = slice_index body 3;
  byte = le_number (bytes_at 4 body 4);
  bits = le_number (bytes_at 4 body 8);
  flags = le_number (bytes_at 4 body 12);
  inval = le_number (bytes_at 4 body 16);
  precision = slice_index body 20;
  ranges = numbers_at body 24 6;
}

-- a channel, from the numbers in its body
abbrev pub channel_row : ℕ → ChannelFront → ChannelLinks → ℕ → ℕ → ChannelRow
channel_row at front links values extra = record {
  at = at;
  kind = front.kind;
  sync = front.sync;
  data_type = front.data_type;
  bit = front.bit;
  byte = front.byte;
  bits = front.bits;
  flags = front.flags;
  inval = front.inval;
  precision = front.precision;
  ranges = front.ranges;
  name = links.name;
  source = links.source;
  conv = links.conv;
  unit = links.unit;
  comment = links.comment;
  values = values;
  extra = extra;
}

-- a channel, from its body
abbrev pub the_channel : ℕ → List ℕ → ChannelLinks → ℕ → ℕ → ChannelRow
the_channel at body links values extra = channel_row at (channel_front body) links values extra

-- the links of a channel that are not followed inside it: the next channel, the address of its values, and how many
-- name something and are passed over, a composition and those after the eighth
abbrev pub passed_of : List ℕ → BlockAt → Passed
passed_of file b = record {
  next = link_at file b.at 0;
  values = link_at file b.at 5;
  composed = link_count (link_at file b.at 1);
  extra = links_named file b.at 8 (b.links - 8);
}

-- the channel of a block: what its links lead to; the link to its composition and those after the eighth are passed over
unfoldable pub channel_of_block : List ℕ → BlockAt → Budget → Read (ChannelRow × ℕ × Budget)
channel_of_block file b left = do
  links ← channel_links file b.at left
  Ok (
    the_channel b.at (body_of file b) links.0 (passed_of file b).values (passed_of file b).extra,
    (passed_of file b).next,
    with_dropped ((passed_of file b).composed + (passed_of file b).extra) links.1,
  )

-- a channel at an address: its block, its kind and its data type, and then what it holds
unfoldable pub channel : List ℕ → Step ChannelRow Budget
channel file at left = do
  b ← block file at Cn
  _ ← accepted b.at (slice_index (body_of file b) 0) (slice_index (body_of file b) 2)
  channel_of_block file b left

-- the channels from an address on: at most so many
abbrev pub channels_from : List ℕ → ℕ → ℕ → Budget → Read (List ChannelRow × ℕ × Budget)
channels_from file most at left = chain (channel file) (full whats.Cn Cn file) most at left
