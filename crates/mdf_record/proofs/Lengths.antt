-- How long the head of a recording is at most.
use Rattle.std.proofs.Common.{◌≡◌, ◌+◌, ◌*◌, ◌-◌, ◌≤◌, ℕ, zero, suc, List, [], ◌∷◌, ◌++◌, length, replicate, Option, None, refl, ap, subst, arith, length-append, append-nil}
use Rattle.std.proofs.lemmas.List.{length-replicate}
use Rattle.std.proofs.lemmas.List.Sums.{sum_by-cons, sum_by-append}
use Rattle.std.specs.Prelude.{sum_by, codes}
use Rattle.std.specs.List.{AllByRecursion}
use Rattle.mdf_format.specs.Number.{aligned}
use Rattle.mdf_format.specs.declared.form.Form.{Form}
use Rattle.mdf_format.specs.declared.kind.Kind.TheVariants.{Dg}
use Rattle.mdf_block.specs.declared.link.Link.{Link}
use Rattle.mdf_block.specs.declared.link.Link.TheVariants as links
use Rattle.mdf_block.specs.declared.note.Note.{Note}
use Rattle.mdf_block.specs.declared.note.Note.TheVariants as notes
use Rattle.mdf_block.specs.Draft.{Placed, room_of}
use Rattle.mdf_block.proofs.Laying.{length-written}
use Rattle.mdf_conv.specs.declared.row.SourceInfo.{SourceInfo}
use Rattle.mdf_conv.specs.declared.row.Conversion.{Conversion}
use Rattle.mdf_group.specs.declared.row.ChannelRow.{ChannelRow}
use Rattle.mdf_group.specs.declared.row.GroupRow.{GroupRow}
use Rattle.mdf_group.specs.declared.row.DataRow.{DataRow}
use Rattle.mdf_group.specs.Standing.{IsChannel, IsGroup}
use Rattle.mdf_group.specs.Recordable.{AreRecordable, IsName, IsRecordableChannel, IsRecordableGroup, IsUnitName}
use Rattle.mdf_tree.specs.Text.{note_blocks, note_link}
use Rattle.mdf_tree.specs.Group.{channel_blocks, channel_conv, channel_own, channel_parts, channel_source, channels_blocks, conv_part, data_group_blocks, data_groups, group_blocks, group_channels, group_own, group_source, group_values, group_values_behind, groups_blocks, next_link, past_channel, past_group, placed_channels, placed_groups, source_part, value_link, values_behind}
use Rattle.mdf_tree.specs.Head.{head_blocks, history_blocks, new_entry}
use Rattle.mdf_tree.proofs.Numbers.{length-words}
use Rattle.mdf_spell.specs.Recording.{head_file, numbered, recording_blocks, recording_groups, recording_ident, recording_row, start_head, value_links, values_row, values_rows, variable_count, IsRecordingTree}
use Rattle.mdf_carried.specs.Recovers.{IsReadHead}

-- how much room blocks take
abbrev room : List Placed → ℕ
room blocks = sum_by room_of blocks

room-append : (front rest : List Placed) → room (front ++ rest) ≡ room front + room rest
room-append front rest = sum_by-append room_of front rest

-- a text of at most 64 bytes, and none
plain_room : (bytes : List ℕ) → length bytes ≤ 64 → room (note_blocks (notes.Plain bytes)) ≤ 96
unfolding note_blocks
plain_room bytes few =
    let fill = aligned (length bytes + 1) - length bytes in
    omega (arith, few, length-append bytes (replicate fill 0), length-replicate {A = ℕ} fill 0)

name_room : (note : Note) → IsName note → room (note_blocks note) ≤ 96
name_room notes.Nothing is = absurd is
name_room (notes.Plain bytes) is = plain_room bytes is.few
name_room (notes.Xml bytes) is = absurd is

unit_room : (note : Note) → IsUnitName note → room (note_blocks note) ≤ 96
unfolding note_blocks
unit_room notes.Nothing is = omega arith
unit_room (notes.Plain bytes) is = plain_room bytes is.few
unit_room (notes.Xml bytes) is = absurd is

no_note : (note : Note) → note ≡ notes.Nothing → room (note_blocks note) ≡ 0
unfolding note_blocks
no_note note is = ap (λ (n : Note). room (note_blocks n)) is

no_source : (n : ℕ) (source : Option SourceInfo) → source ≡ None → room (source_part n source) ≡ 0
unfolding source_part
no_source n source is = ap (λ (s : Option SourceInfo). room (source_part n s)) is

no_conv : (n : ℕ) (conv : Option Conversion) → conv ≡ None → room (conv_part n conv) ≡ 0
unfolding conv_part
no_conv n conv is = ap (λ (c : Option Conversion). room (conv_part n c)) is

-- a channel, whose ranges are six numbers
abbrev HasSix : ChannelRow → Type 0
HasSix row = length row.ranges ≡ 6

channel_room : (n : ℕ) (next values : Link) (row : ChannelRow) → IsRecordableChannel row → HasSix row → room (channel_blocks n next values row) ≤ 352
unfolding channel_blocks channel_parts
channel_room n next values row is six =
    let source = source_part (channel_source n row) row.source in
    let conv = conv_part (channel_conv n row) row.conv in
    let unit = note_blocks row.unit in
    let comment = note_blocks row.comment in
    let own : room_of (channel_own n next values row) ≡ 160 = omega (arith, length-words row.ranges, six) in
    omega (
      arith,
      own,
      sum_by-cons room_of (channel_own n next values row) (channel_parts n row),
      room-append (note_blocks row.name) (source ++ (conv ++ (unit ++ comment))),
      room-append source (conv ++ (unit ++ comment)),
      room-append conv (unit ++ comment),
      room-append unit comment,
      name_room row.name is.name,
      no_source (channel_source n row) row.source is.source,
      no_conv (channel_conv n row) row.conv is.conv,
      unit_room row.unit is.unit,
      no_note row.comment is.comment,
    )

channels_room : (n : ℕ) (values : List Link) (rows : List ChannelRow) → AllByRecursion IsRecordableChannel rows → AllByRecursion HasSix rows
    → room (channels_blocks n values rows) ≤ 352 * length rows
unfolding channels_blocks
channels_room n values [] are six = omega arith
channels_room n values (row ∷ rows) are six =
    let first = channel_blocks n (next_link (past_channel n row) rows) (value_link values row) row in
    let rest = channels_blocks (past_channel n row) (values_behind values row) rows in
    omega (
      arith,
      room-append first rest,
      channel_room n (next_link (past_channel n row) rows) (value_link values row) row are.0 six.0,
      channels_room (past_channel n row) (values_behind values row) rows are.1 six.1,
    )

-- a channel group without source and comment
group_room : (n : ℕ) (next : Link) (values : List Link) (row : GroupRow) → row.source ≡ None → row.comment ≡ notes.Nothing
    → room (group_blocks n next values row)
    ≡ 104 + room (note_blocks row.name) + room (channels_blocks (group_channels n row) (group_values values row) row.channels)
unfolding group_blocks
group_room n next values row source_is comment_is =
    let source = source_part (group_source n row) row.source in
    let comment = note_blocks row.comment in
    let channels = channels_blocks (group_channels n row) (group_values values row) row.channels in
    omega (
      arith,
      sum_by-cons room_of (group_own n next row) (note_blocks row.name ++ (source ++ (comment ++ channels))),
      room-append (note_blocks row.name) (source ++ (comment ++ channels)),
      room-append source (comment ++ channels),
      room-append comment channels,
      no_source (group_source n row) row.source source_is,
      no_note row.comment comment_is,
    )

-- the groups of values
values_room : (n : ℕ) (values : List Link) (id count : ℕ) → room (groups_blocks n values (values_rows id count)) ≤ 104 * count
unfolding groups_blocks values_rows channels_blocks
values_room n values id zero = omega arith
values_room n values id (suc count) =
    let row = values_row id in
    let rows = values_rows (id + 1) count in
    omega (
      arith,
      room-append (group_blocks n (next_link (past_group n row) rows) values row) (groups_blocks (past_group n row) (group_values_behind values row) rows),
      group_room n (next_link (past_group n row) rows) values row refl refl,
      no_note row.name refl,
      no_channels (group_channels n row) (group_values values row),
      values_room (past_group n row) (group_values_behind values row) (id + 1) count,
    )
  where
    no_channels : (m : ℕ) (left : List Link) → room (channels_blocks m left []) ≡ 0
    no_channels m left = refl

-- the ranges of all channels of the groups are six numbers
abbrev HaveSix : List GroupRow → Type 0
HaveSix rows = AllByRecursion (λ row. AllByRecursion HasSix row.channels) rows

-- the groups to be recorded, and so many groups of values behind them
groups_room : (n : ℕ) (values : List Link) (id first count : ℕ) (rows : List GroupRow) → AllByRecursion IsRecordableGroup rows → HaveSix rows
    → room (groups_blocks n values (numbered id rows ++ values_rows first count))
    ≤ 200 * length rows + 352 * sum_by (λ row. length row.channels) rows + 104 * count
unfolding groups_blocks numbered
groups_room n values id first count [] are six = omega (arith, values_room n values first count)
groups_room n values id first count (row ∷ rows) are six =
    let here : GroupRow = record row { id = id; cycles = 0 } in
    let rest = numbered (id + 1) rows ++ values_rows first count in
    let next = next_link (past_group n here) rest in
    omega (
      arith,
      room-append (group_blocks n next values here) (groups_blocks (past_group n here) (group_values_behind values here) rest),
      group_room n next values here are.0.source are.0.comment,
      name_room row.name are.0.name,
      channels_room (group_channels n here) (group_values values here) row.channels are.0.each six.0,
      groups_room (past_group n here) (group_values_behind values here) (id + 1) first count rows are.1 six.1,
      sum_by-cons (λ (r : GroupRow). length r.channels) row rows,
    )

-- a data group without comment
data_room : (n : ℕ) (content : Link) (values : List Link) (row : DataRow) → row.comment ≡ notes.Nothing
    → room (data_group_blocks n links.Nothing content values row) ≡ 64 + room (groups_blocks (data_groups n row) values row.groups)
unfolding data_group_blocks
data_room n content values row comment_is =
    let own : Placed = record {
      kind = Dg;
      links = links.Nothing ∷ next_link (data_groups n row) row.groups ∷ content ∷ note_link (n + 1) row.comment ∷ [];
      body = row.id_size ∷ replicate 7 0;
    } in
    let groups = groups_blocks (data_groups n row) values row.groups in
    omega (
      arith,
      sum_by-cons room_of own (note_blocks row.comment ++ groups),
      room-append (note_blocks row.comment) groups,
      no_note row.comment comment_is,
    )

-- the header, one entry of the history and its comment
front_room : (start : ℕ) → room (head_blocks (start_head start) (new_entry (codes "record") start ∷ []) (links.Block 3)) ≤ 1024
unfolding head_blocks history_blocks note_blocks
front_room start = omega arith

-- what stands in a file has six numbers as its ranges
channels_six : (file : List ℕ) (blocks : List Placed) (n : ℕ) (values : List Link) (rows : List ChannelRow)
    → AllByRecursion (IsChannel file) (placed_channels blocks n values rows) → AllByRecursion HasSix rows
unfolding placed_channels
channels_six file blocks n values [] stand = tt
channels_six file blocks n values (row ∷ rows) stand = (
  ap (λ (r : ChannelRow). length r.ranges) stand.0.fields,
  channels_six file blocks (past_channel n row) (values_behind values row) rows stand.1,
)

groups_six : (file : List ℕ) (blocks : List Placed) (n : ℕ) (values : List Link) (id : ℕ) (rows more : List GroupRow)
    → AllByRecursion (IsGroup file) (placed_groups blocks n values (numbered id rows ++ more)) → HaveSix rows
unfolding placed_groups numbered
groups_six file blocks n values id [] more stand = tt
groups_six file blocks n values id (row ∷ rows) more stand =
    let here : GroupRow = record row { id = id; cycles = 0 } in (
      channels_six file blocks (group_channels n here) (group_values values here) row.channels stand.0.channels.each,
      groups_six file blocks (past_group n here) (group_values_behind values here) (id + 1) rows more stand.1,
    )

-- the head of a recording has at most half a million bytes
pub head_short : (form : Form) (start : ℕ) (rows : List GroupRow) → AreRecordable rows → IsReadHead form start rows
    → length (head_file form start rows) ≤ 524288
unfolding recording_blocks note_blocks
head_short form start rows are read =
    let tree : IsRecordingTree (head_file form start rows) start rows = subst (λ (file : List ℕ). IsRecordingTree file start rows) (append-nil (head_file form start rows)) (read.tree []) in
    let blocks = recording_blocks start rows in
    let six = groups_six (head_file form start rows) blocks 4 (value_links rows) 1 rows (values_rows (length rows + 1) (variable_count rows)) tree.groups.each.0.groups.each in
    let front = head_blocks (start_head start) (new_entry (codes "record") start ∷ []) (links.Block 3) in
    let groups = groups_blocks 4 (value_links rows) (recording_groups rows) in
    omega (
      arith,
      length-written (recording_ident form) blocks refl,
      room-append front (data_group_blocks 3 links.Nothing links.End (value_links rows) (recording_row rows)),
      front_room start,
      data_room 3 links.End (value_links rows) (recording_row rows) refl,
      groups_room 4 (value_links rows) 1 (length rows + 1) (variable_count rows) rows are.each six,
      are.few,
      are.channels,
      are.variable,
    )
