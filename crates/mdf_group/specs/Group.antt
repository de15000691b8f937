-- The channel groups of a data group, and the data groups of a file.
use Rattle.std.specs.Prelude.{ℕ, ◌%◌, Bool, ◌&&◌, not, nat_eq, List, filter, length, slice_index, Ok}
use Rattle.std.specs.List.{list_any}
use Rattle.mdf_format.specs.Number.{le_number, bytes_at}
use Rattle.mdf_format.specs.Block.{link_at}
use Rattle.mdf_format.specs.declared.kind.Kind.TheVariants.{Dg, Cg}
use Rattle.mdf_block.specs.declared.note.Note.{Note}
use Rattle.mdf_block.specs.declared.place.BlockAt.{BlockAt}
use Rattle.mdf_block.specs.declared.what.What.TheVariants as whats
use Rattle.mdf_block.specs.Refusal.{Read, ◌>>=◌}
use Rattle.mdf_block.specs.Block.{block, body_of}
use Rattle.mdf_block.specs.Chain.{Step, chain, full}
use Rattle.mdf_conv.specs.declared.limits.Budget.{Budget}
use Rattle.mdf_conv.specs.Left.{with_dropped, link_count}
use Rattle.mdf_conv.specs.Conv.{words}
use Rattle.mdf_group.specs.declared.room.Room.{Room}
use Rattle.mdf_group.specs.declared.room.DataRoom.{DataRoom}
use Rattle.mdf_group.specs.declared.room.GroupFront.{GroupFront}
use Rattle.mdf_group.specs.declared.room.GroupNumbers.{GroupNumbers}
use Rattle.mdf_group.specs.declared.room.DataNumbers.{DataNumbers}
use Rattle.mdf_group.specs.declared.room.GroupLinks.{GroupLinks}
use Rattle.mdf_group.specs.declared.room.GroupContents.{GroupContents}
use Rattle.mdf_group.specs.declared.room.DataContents.{DataContents}
use Rattle.mdf_group.specs.declared.row.ChannelRow.{ChannelRow}
use Rattle.mdf_group.specs.declared.row.GroupRow.{GroupRow}
use Rattle.mdf_group.specs.declared.row.DataRow.{DataRow}
use Rattle.mdf_group.specs.Link.{group_links}
use Rattle.mdf_group.specs.Channel.{channels_from}

-- the numbers in the body of a channel group
abbrev pub group_front : List ℕ → GroupFront
group_front body = record {
  id = le_number (bytes_at 8 body 0);
  cycles = le_number (bytes_at 8 body 8);
  flags = le_number (bytes_at 2 body 16);
  separator = le_number (bytes_at 2 body 18);
  data_bytes = le_number (bytes_at 4 body 24);
  inval_bytes = le_number (bytes_at 4 body 28);
}

-- the numbers of the channel group of a block, in its links and in its body; the link to its first sample reduction is
-- passed over
abbrev pub group_numbers : List ℕ → BlockAt → GroupNumbers
group_numbers file b = record {
  next = link_at file b.at 0;
  reduced = link_count (link_at file b.at 4);
  front = group_front (body_of file b);
}

-- a channel group, from the numbers in its body
abbrev pub group_row : ℕ → GroupFront → GroupLinks → List ChannelRow → GroupRow
group_row at front links channels = record {
  at = at;
  id = front.id;
  cycles = front.cycles;
  flags = front.flags;
  separator = front.separator;
  data_bytes = front.data_bytes;
  inval_bytes = front.inval_bytes;
  name = links.name;
  source = links.source;
  comment = links.comment;
  channels = channels;
}

-- a channel group, from its body
abbrev pub the_group : ℕ → List ℕ → GroupLinks → List ChannelRow → GroupRow
the_group at body links channels = group_row at (group_front body) links channels

-- what the channel group of a block holds: what its links lead to, and then its channels
unfoldable pub group_contents : List ℕ → BlockAt → Room → Read (GroupContents × Room)
group_contents file b left = do
  links ← group_links file b.at left.budget
  channels ← channels_from file left.channels (link_at file b.at 1) links.1
  Ok (record { links = links.0; rows = channels.0 }, record { channels = channels.1; budget = channels.2 })

-- the channel group at an address with these numbers and contents; the link to its first sample reduction is passed over
abbrev pub group_with : ℕ → GroupNumbers → GroupContents → Room → GroupRow × ℕ × Room
group_with at numbers contents left = (
  group_row at numbers.front contents.links contents.rows,
  numbers.next,
  record { channels = left.channels; budget = with_dropped numbers.reduced left.budget },
)

-- the channel group of a block with these contents
abbrev pub finished_group : List ℕ → BlockAt → GroupContents → Room → GroupRow × ℕ × Room
finished_group file b contents left = group_with b.at (group_numbers file b) contents left

-- a channel group at an address: its block, and then what it holds
unfoldable pub group : List ℕ → Step GroupRow Room
group file at left = do
  b ← block file at Cg
  contents ← group_contents file b left
  Ok (finished_group file b contents.0 contents.1)

-- the channel groups from an address on: at most so many
abbrev pub groups_from : List ℕ → ℕ → ℕ → Room → Read (List GroupRow × ℕ × Room)
groups_from file most at left = chain (group file) (full whats.Cg Cg file) most at left

-- the records of the group hold the values of a channel of variable length
abbrev pub is_variable : GroupRow → Bool
is_variable row = nat_eq (row.flags % 2) 1

-- the channel is one of variable length, and its values are at this address
abbrev pub has_values_at : ℕ → ChannelRow → Bool
has_values_at at row = nat_eq row.kind 1 && nat_eq row.values at

-- a channel of one of these groups has its values at this address; groups of values have no such channels
abbrev pub names_values : ℕ → GroupRow → Bool
names_values at row = not (is_variable row) && list_any (has_values_at at) row.channels

-- the groups of values that no channel of these groups names
abbrev pub is_unnamed : List GroupRow → GroupRow → Bool
is_unnamed rows row = is_variable row && not (list_any (names_values row.at) rows)

abbrev pub unnamed_count : List GroupRow → ℕ
unnamed_count rows = length (filter (is_unnamed rows) rows)

-- the numbers of the data group of a block, in its links and in its body
abbrev pub data_numbers : List ℕ → BlockAt → DataNumbers
data_numbers file b = record {
  next = link_at file b.at 0;
  content = link_at file b.at 2;
  id_size = slice_index (body_of file b) 0;
}

-- a data group, from its body
abbrev pub the_data_group : ℕ → List ℕ → Note → ℕ → List GroupRow → DataRow
the_data_group at body comment content groups = record {
  at = at;
  id_size = slice_index body 0;
  comment = comment;
  content = content;
  groups = groups;
}

-- what the data group of a block holds: its comment, and then its channel groups
unfoldable pub data_contents : List ℕ → BlockAt → DataRoom → Read (DataContents × DataRoom)
data_contents file b left = do
  comment ← words file (link_at file b.at 3) left.room.budget
  groups ← groups_from file left.groups (link_at file b.at 1) (record left.room { budget = comment.1 })
  Ok (record { comment = comment.0; rows = groups.0 }, record { groups = groups.1; room = groups.2 })

-- the data group of a block with these contents; a group of values that no channel names counts as a link that was
-- passed over
abbrev pub finished_data_group : List ℕ → BlockAt → DataContents → DataRoom → DataRow × ℕ × DataRoom
finished_data_group file b contents left = (
  the_data_group b.at (body_of file b) contents.comment (link_at file b.at 2) contents.rows,
  link_at file b.at 0,
  record {
    groups = left.groups;
    room = record { channels = left.room.channels; budget = with_dropped (unnamed_count contents.rows) left.room.budget };
  },
)

-- a data group at an address: its block, and then what it holds
unfoldable pub data_group : List ℕ → Step DataRow DataRoom
data_group file at left = do
  b ← block file at Dg
  contents ← data_contents file b left
  Ok (finished_data_group file b contents.0 contents.1)

-- the data groups from an address on: at most 65,535 of them, with at most 65,535 channel groups and 1,048,576 channels
-- in all
abbrev pub data_groups_from : List ℕ → ℕ → Budget → Read (List DataRow × ℕ × DataRoom)
data_groups_from file at left =
    chain (data_group file) (full whats.Dg Dg file) 65535 at
    (record { groups = 65535; room = record { channels = 1048576; budget = left } })

-- the data groups, and what is left
unfoldable pub groups : List ℕ → ℕ → Budget → Read (List DataRow × Budget)
groups file first left = do
  rows ← data_groups_from file first left
  Ok (rows.0, rows.2.room.budget)
