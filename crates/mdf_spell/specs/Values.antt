-- The links of the channels of variable length to their values in a finalized file: each names the group of values that it
-- named in the recording, where this stands now, or else a block of values (SD) of its own.
use Rattle.std.specs.Prelude.{ℕ, ◌+◌, ◌&&◌, nat_eq, if◌then◌else◌, List, [], ◌∷◌, ◌++◌, map, filter}
use Rattle.std.specs.List.{flat_map}
use Rattle.mdf_block.specs.declared.link.Link.{Link}
use Rattle.mdf_block.specs.declared.link.Link.TheVariants as links
use Rattle.mdf_group.specs.declared.row.ChannelRow.{ChannelRow}
use Rattle.mdf_group.specs.declared.row.GroupRow.{GroupRow}
use Rattle.mdf_group.specs.Group.{is_variable}
use Rattle.mdf_group.specs.Recordable.{is_of_values}
use Rattle.mdf_tree.specs.Group.{past_group}

-- the numbers of the blocks of channel groups, the first of which is block n
unfoldable pub group_numbers : ℕ → List GroupRow → List ℕ
group_numbers n [] = []
group_numbers n (row ∷ rows) = n ∷ group_numbers (past_group n row) rows

-- the link to the group of values at an address, where the groups have these blocks; nothing where no such group is there
unfoldable pub values_group : List GroupRow → List ℕ → ℕ → Link
values_group [] numbers at = links.Nothing
values_group (row ∷ rows) [] at = links.Nothing
values_group (row ∷ rows) (n ∷ numbers) at = if is_variable row && nat_eq row.at at then links.Block n else values_group rows numbers at

-- the channels of variable length of a group; a group of values has none
abbrev pub own_channels : GroupRow → List ChannelRow
own_channels row = if is_variable row then [] else filter is_of_values row.channels

-- for each channel of variable length in order the link to its group of values, or nothing
abbrev pub named_groups : List GroupRow → List ℕ → List Link
named_groups rows numbers = map (λ channel. values_group rows numbers channel.values) (flat_map own_channels rows)

-- the link of a channel, where the next block of values is block n: to its group of values, or to that block; and the next
-- block of values behind it
abbrev pub stream_link : ℕ → Link → Link
stream_link n links.Nothing = links.Block n
stream_link n (links.Block m) = links.Block m
stream_link n links.End = links.End

abbrev pub stream_behind : ℕ → Link → ℕ
stream_behind n links.Nothing = n + 1
stream_behind n (links.Block m) = n
stream_behind n links.End = n

-- those that name no group of values name blocks of values, one behind the other from block n on
unfoldable pub with_streams : ℕ → List Link → List Link
with_streams n [] = []
with_streams n (name ∷ names) = stream_link n name ∷ with_streams (stream_behind n name) names

-- the stream of a channel, if it names no group of values
abbrev pub own_stream : Link → List ℕ → List (List ℕ)
own_stream links.Nothing stream = stream ∷ []
own_stream (links.Block n) stream = []
own_stream links.End stream = []

-- the streams of those channels, out of the streams of all channels of variable length
unfoldable pub own_streams : List Link → List (List ℕ) → List (List ℕ)
own_streams [] streams = []
own_streams (name ∷ names) [] = []
own_streams (name ∷ names) (stream ∷ streams) = own_stream name stream ++ own_streams names streams
