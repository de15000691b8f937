-- What the rows take of what may still come of a file, and how many rows there are at most.
use Rattle.std.specs.Prelude.{ℕ, ◌+◌, ◌≤◌, nat_eq, if◌then◌else◌, List, [], ◌∷◌, length, map, sum_by, Option, Some, None}
use Rattle.mdf_format.specs.Block.{link_at}
use Rattle.mdf_conv.specs.declared.row.SourceInfo.{SourceInfo}
use Rattle.mdf_conv.specs.Left.{link_count}
use Rattle.mdf_conv.specs.Cost.{Cost, nothing, total, dropped_links, note_cost, source_cost, conv_cost}
use Rattle.mdf_group.specs.declared.row.ChannelRow.{ChannelRow}
use Rattle.mdf_group.specs.declared.row.GroupRow.{GroupRow}
use Rattle.mdf_group.specs.declared.row.DataRow.{DataRow}
use Rattle.mdf_group.specs.Group.{unnamed_count}

abbrev pub source_link_cost : Option SourceInfo → Cost
source_link_cost None = nothing
source_link_cost (Some source) = source_cost source

-- the conversion that a link names, if it names one
unfoldable pub conv_link_cost : List ℕ → ℕ → Cost
conv_link_cost file at = if nat_eq at 0 then nothing else conv_cost 4 file at

-- a channel: its texts, its source and its conversion; its composition and its links after the eighth are passed over
abbrev pub channel_cost : List ℕ → ChannelRow → Cost
channel_cost file row =
    total
    (note_cost row.name ∷ source_link_cost row.source ∷ conv_link_cost file (link_at file row.at 4) ∷ note_cost row.unit
    ∷ note_cost row.comment ∷ dropped_links (link_count (link_at file row.at 1) + row.extra) ∷ [])

-- a channel group: its texts, its source and its channels; its first sample reduction is passed over
abbrev pub group_cost : List ℕ → GroupRow → Cost
group_cost file row =
    total
    (note_cost row.name ∷ source_link_cost row.source ∷ note_cost row.comment ∷ total (map (channel_cost file) row.channels)
    ∷ dropped_links (link_count (link_at file row.at 4)) ∷ [])

-- a data group: its comment and its channel groups; groups of values that no channel names are passed over
abbrev pub data_cost : List ℕ → DataRow → Cost
data_cost file row =
    total (note_cost row.comment ∷ total (map (group_cost file) row.groups) ∷ dropped_links (unnamed_count row.groups) ∷ [])

abbrev pub rows_cost : List ℕ → List DataRow → Cost
rows_cost file rows = total (map (data_cost file) rows)

abbrev pub channels_of : DataRow → ℕ
channels_of row = sum_by (λ group. length group.channels) row.groups

-- as many rows as a file may have
pub record AreFew (rows : List DataRow) : Type 0 where
  pub data_groups : length rows ≤ 65535
  pub groups : sum_by (λ row. length row.groups) rows ≤ 65535
  pub channels : sum_by channels_of rows ≤ 1048576
