-- Data groups, channel groups and channels as they are written: each block, and then what it names, in preorder. The
-- links of the channels of variable length to their values are handed in as a list, since they tell one file from another.
use Rattle.std.specs.Prelude.{ℕ, ◌≡◌, ◌+◌, ◌%◌, ◌^◌, ◌<◌, ◌≤◌, Bool, false, nat_eq, if◌then◌else◌, List, [], ◌∷◌, ◌++◌, length, replicate, Option, Some, None}
use Rattle.std.specs.List.{AllByRecursion}
use Rattle.std.specs.Int.{to_le_bytes, w16, w32, w64}
use Rattle.mdf_format.specs.declared.kind.Kind.TheVariants.{Dg, Cg, Cn}
use Rattle.mdf_block.specs.declared.link.Link.{Link}
use Rattle.mdf_block.specs.declared.link.Link.TheVariants as links
use Rattle.mdf_block.specs.Draft.{Placed, address_of, link_number}
use Rattle.mdf_conv.specs.declared.row.SourceInfo.{SourceInfo}
use Rattle.mdf_conv.specs.declared.row.Conversion.{Conversion}
use Rattle.mdf_group.specs.declared.row.ChannelRow.{ChannelRow}
use Rattle.mdf_group.specs.declared.row.GroupRow.{GroupRow}
use Rattle.mdf_group.specs.declared.row.DataRow.{DataRow}
use Rattle.mdf_group.specs.Channel.{is_refused_kind}
use Rattle.mdf_group.specs.Group.{is_variable}
use Rattle.mdf_group.specs.Recordable.{is_of_values}
use Rattle.mdf_tree.specs.Text.{note_blocks, note_link, IsWritable}
use Rattle.mdf_tree.specs.Conv.{words_of, source_blocks, conv_blocks, IsSourceWritable, IsConvWritable}

-- a source or a conversion, if there is one, from block n on, and the link to it
unfoldable pub source_part : ℕ → Option SourceInfo → List Placed
source_part n None = []
source_part n (Some source) = source_blocks n source

unfoldable pub source_link : ℕ → Option SourceInfo → Link
source_link n None = links.Nothing
source_link n (Some source) = links.Block n

unfoldable pub conv_part : ℕ → Option Conversion → List Placed
conv_part n None = []
conv_part n (Some conv) = conv_blocks 4 n conv

unfoldable pub conv_link : ℕ → Option Conversion → Link
conv_link n None = links.Nothing
conv_link n (Some conv) = links.Block n

-- the link to the next one of a chain, whose block is block n where there is one
abbrev pub next_link : {A : Type 0} → ℕ → List A → Link
next_link n [] = links.Nothing
next_link n (row ∷ rows) = links.Block n

-- the same where it is told whether there is one
abbrev pub next_if : Bool → ℕ → Link
next_if more n = if more then links.Block n else links.Nothing

-- where what the channel at block n names stands
abbrev pub channel_source : ℕ → ChannelRow → ℕ
channel_source n row = n + 1 + length (note_blocks row.name)

abbrev pub channel_conv : ℕ → ChannelRow → ℕ
channel_conv n row = channel_source n row + length (source_part (channel_source n row) row.source)

abbrev pub channel_unit : ℕ → ChannelRow → ℕ
channel_unit n row = channel_conv n row + length (conv_part (channel_conv n row) row.conv)

abbrev pub channel_comment : ℕ → ChannelRow → ℕ
channel_comment n row = channel_unit n row + length (note_blocks row.unit)

abbrev pub past_channel : ℕ → ChannelRow → ℕ
past_channel n row = channel_comment n row + length (note_blocks row.comment)

-- flags of links that are passed over go with them
abbrev pub written_flags : ChannelRow → ℕ
written_flags row = if nat_eq row.extra 0 then row.flags else row.flags % 2 ^ 12

-- the body of a channel; it has no attachments
abbrev pub channel_body : ChannelRow → List ℕ
channel_body row =
    row.kind ∷ row.sync ∷ row.data_type ∷ row.bit
    ∷ (to_le_bytes w32 row.byte
    ++ (to_le_bytes w32 row.bits
    ++ (to_le_bytes w32 (written_flags row)
    ++ (to_le_bytes w32 row.inval ++ (row.precision ∷ 0 ∷ 0 ∷ 0 ∷ words_of row.ranges)))))

-- its links: the next channel, no composition, name, source, conversion, values, unit and comment
abbrev pub channel_links : ℕ → Link → Link → ChannelRow → List Link
channel_links n next values row =
    next ∷ links.Nothing ∷ note_link (n + 1) row.name ∷ source_link (channel_source n row) row.source
    ∷ conv_link (channel_conv n row) row.conv ∷ values ∷ note_link (channel_unit n row) row.unit
    ∷ note_link (channel_comment n row) row.comment ∷ []

-- the channel at block n: CN, and then its name, source, conversion, unit and comment
abbrev pub channel_own : ℕ → Link → Link → ChannelRow → Placed
channel_own n next values row = record { kind = Cn; links = channel_links n next values row; body = channel_body row }

unfoldable pub channel_parts : ℕ → ChannelRow → List Placed
channel_parts n row =
    note_blocks row.name
    ++ (source_part (channel_source n row) row.source
    ++ (conv_part (channel_conv n row) row.conv ++ (note_blocks row.unit ++ note_blocks row.comment)))

unfoldable pub channel_blocks : ℕ → Link → Link → ChannelRow → List Placed
channel_blocks n next values row = channel_own n next values row ∷ channel_parts n row

-- a channel of variable length takes the first of the links to values; every other channel names none
abbrev pub first_or_none : List Link → Link
first_or_none [] = links.Nothing
first_or_none (first ∷ rest) = first

abbrev pub behind_first : List Link → List Link
behind_first [] = []
behind_first (first ∷ rest) = rest

abbrev pub value_link : List Link → ChannelRow → Link
value_link values row = if is_of_values row then first_or_none values else links.Nothing

abbrev pub values_behind : List Link → ChannelRow → List Link
values_behind values row = if is_of_values row then behind_first values else values

-- the links that are left behind channels
unfoldable pub values_past : List Link → List ChannelRow → List Link
values_past values [] = values
values_past values (row ∷ rows) = values_past (values_behind values row) rows

-- the block behind the channels from block n on
unfoldable pub past_channels : ℕ → List ChannelRow → ℕ
past_channels n [] = n
past_channels n (row ∷ rows) = past_channels (past_channel n row) rows

-- the channels from block n on, each linked to the next one
unfoldable pub channels_blocks : ℕ → List Link → List ChannelRow → List Placed
channels_blocks n values [] = []
channels_blocks n values (row ∷ rows) =
    channel_blocks n (next_link (past_channel n row) rows) (value_link values row) row
    ++ channels_blocks (past_channel n row) (values_behind values row) rows

-- the channel as it stands then: at its address, with the number in its link to values
abbrev pub placed_channel : List Placed → ℕ → Link → ChannelRow → ChannelRow
placed_channel blocks n values row =
    record row { at = address_of blocks n; flags = written_flags row; values = link_number blocks values; extra = 0 }

unfoldable pub placed_channels : List Placed → ℕ → List Link → List ChannelRow → List ChannelRow
placed_channels blocks n values [] = []
placed_channels blocks n values (row ∷ rows) =
    placed_channel blocks n (value_link values row) row
    ∷ placed_channels blocks (past_channel n row) (values_behind values row) rows

-- where what the channel group at block n names stands
abbrev pub group_source : ℕ → GroupRow → ℕ
group_source n row = n + 1 + length (note_blocks row.name)

abbrev pub group_comment : ℕ → GroupRow → ℕ
group_comment n row = group_source n row + length (source_part (group_source n row) row.source)

abbrev pub group_channels : ℕ → GroupRow → ℕ
group_channels n row = group_comment n row + length (note_blocks row.comment)

abbrev pub past_group : ℕ → GroupRow → ℕ
past_group n row = past_channels (group_channels n row) row.channels

-- the body of a channel group
abbrev pub group_body : GroupRow → List ℕ
group_body row =
    to_le_bytes w64 row.id
    ++ (to_le_bytes w64 row.cycles
    ++ (to_le_bytes w16 row.flags
    ++ (to_le_bytes w16 row.separator
    ++ (replicate 4 0 ++ (to_le_bytes w32 row.data_bytes ++ to_le_bytes w32 row.inval_bytes)))))

-- the channels of a group of values name no values of their own
abbrev pub group_values : List Link → GroupRow → List Link
group_values values row = if is_variable row then [] else values

abbrev pub group_values_behind : List Link → GroupRow → List Link
group_values_behind values row = if is_variable row then values else values_past values row.channels

-- the channel group at block n: CG, its name, source and comment, and then its channels; no sample reduction is named
abbrev pub group_own : ℕ → Link → GroupRow → Placed
group_own n next row = record {
  kind = Cg;
  links = next ∷ next_link (group_channels n row) row.channels ∷ note_link (n + 1) row.name
      ∷ source_link (group_source n row) row.source ∷ links.Nothing ∷ note_link (group_comment n row) row.comment ∷ [];
  body = group_body row;
}

unfoldable pub group_blocks : ℕ → Link → List Link → GroupRow → List Placed
group_blocks n next values row =
    group_own n next row
    ∷ (note_blocks row.name
    ++ (source_part (group_source n row) row.source
    ++ (note_blocks row.comment ++ channels_blocks (group_channels n row) (group_values values row) row.channels)))

-- the block behind the channel groups from block n on
unfoldable pub past_groups : ℕ → List GroupRow → ℕ
past_groups n [] = n
past_groups n (row ∷ rows) = past_groups (past_group n row) rows

-- the channel groups from block n on, each linked to the next one
unfoldable pub groups_blocks : ℕ → List Link → List GroupRow → List Placed
groups_blocks n values [] = []
groups_blocks n values (row ∷ rows) =
    group_blocks n (next_link (past_group n row) rows) values row
    ++ groups_blocks (past_group n row) (group_values_behind values row) rows

-- the channel group as it stands then
abbrev pub placed_group : List Placed → ℕ → List Link → GroupRow → GroupRow
placed_group blocks n values row = record row {
  at = address_of blocks n;
  channels = placed_channels blocks (group_channels n row) (group_values values row) row.channels;
}

unfoldable pub placed_groups : List Placed → ℕ → List Link → List GroupRow → List GroupRow
placed_groups blocks n values [] = []
placed_groups blocks n values (row ∷ rows) =
    placed_group blocks n values row ∷ placed_groups blocks (past_group n row) (group_values_behind values row) rows

-- where the first channel group of the data group at block n stands
abbrev pub data_groups : ℕ → DataRow → ℕ
data_groups n row = n + 1 + length (note_blocks row.comment)

abbrev pub past_data_group : ℕ → DataRow → ℕ
past_data_group n row = past_groups (data_groups n row) row.groups

-- the data group at block n, with a link to its data: DG, its comment, and then its channel groups
unfoldable pub data_group_blocks : ℕ → Link → Link → List Link → DataRow → List Placed
data_group_blocks n next content values row =
    record {
      kind = Dg;
      links = next ∷ next_link (data_groups n row) row.groups ∷ content ∷ note_link (n + 1) row.comment ∷ [];
      body = row.id_size ∷ replicate 7 0;
    }
    ∷ (note_blocks row.comment ++ groups_blocks (data_groups n row) values row.groups)

-- the data group as it stands then
abbrev pub placed_data_group : List Placed → ℕ → Link → List Link → DataRow → DataRow
placed_data_group blocks n content values row = record row {
  at = address_of blocks n;
  content = link_number blocks content;
  groups = placed_groups blocks (data_groups n row) values row.groups;
}

-- what is read back as it was written: texts without zero bytes, numbers that fit their fields, kinds that are read
abbrev pub IsSourcePart : Option SourceInfo → Type 0
IsSourcePart None = Unit {0}
IsSourcePart (Some source) = IsSourceWritable source

abbrev pub IsConvPart : Option Conversion → Type 0
IsConvPart None = Unit {0}
IsConvPart (Some conv) = IsConvWritable 4 conv

-- the numbers of a channel fit their fields
pub record IsChannelSized (row : ChannelRow) : Type 0 where
  pub byte : row.byte < 2 ^ 32
  pub bits : row.bits < 2 ^ 32
  pub flags : row.flags < 2 ^ 32
  pub inval : row.inval < 2 ^ 32
  pub six : length row.ranges ≡ 6
  pub ranges : AllByRecursion (λ n. n < 2 ^ 64) row.ranges

pub record IsChannelWritable (row : ChannelRow) : Type 0 where
  pub sized : IsChannelSized row
  pub kind : is_refused_kind row.kind ≡ false
  pub data_type : row.data_type ≤ 14
  pub name : IsWritable row.name
  pub source : IsSourcePart row.source
  pub conv : IsConvPart row.conv
  pub unit : IsWritable row.unit
  pub comment : IsWritable row.comment

-- the numbers of a channel group fit their fields
pub record IsGroupSized (row : GroupRow) : Type 0 where
  pub id : row.id < 2 ^ 64
  pub cycles : row.cycles < 2 ^ 64
  pub flags : row.flags < 2 ^ 16
  pub separator : row.separator < 2 ^ 16
  pub data_bytes : row.data_bytes < 2 ^ 32
  pub inval_bytes : row.inval_bytes < 2 ^ 32

pub record IsGroupWritable (row : GroupRow) : Type 0 where
  pub sized : IsGroupSized row
  pub name : IsWritable row.name
  pub source : IsSourcePart row.source
  pub comment : IsWritable row.comment
  pub channels : AllByRecursion IsChannelWritable row.channels

pub record IsDataGroupWritable (row : DataRow) : Type 0 where
  pub comment : IsWritable row.comment
  pub groups : AllByRecursion IsGroupWritable row.groups
