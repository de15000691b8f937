-- How much of a file is read: the limits of the reader.
use Rattle.std.specs.Prelude.{ℕ, ◌+◌, ◌≤◌, List, length, filter}
use Rattle.std.specs.List.{AllByRecursion}
use Rattle.mdf_stream.specs.Stream.{LeadsToFew}
use Rattle.mdf_head.specs.declared.entry.Head.{Head}
use Rattle.mdf_head.specs.declared.entry.History.{History}
use Rattle.mdf_head.specs.Head.{text_size}
use Rattle.mdf_group.specs.declared.row.ChannelRow.{ChannelRow}
use Rattle.mdf_group.specs.declared.row.GroupRow.{GroupRow}
use Rattle.mdf_group.specs.declared.row.DataRow.{DataRow}
use Rattle.mdf_group.specs.Recordable.{is_of_values}
use Rattle.mdf_group.specs.Cost.{rows_cost, AreFew}
use Rattle.mdf_group.specs.Standing.{AreDataGroups}
use Rattle.mdf_model.specs.Truth.{HasManyEmpties}

-- a group each of whose channels of variable length has few blocks of values
abbrev pub HasFewValues : List ℕ → GroupRow → Type 0
HasFewValues file group = AllByRecursion (λ (channel : ChannelRow). LeadsToFew file channel.values) (filter is_of_values group.channels)

-- a data group with few blocks of records and of values, and with at most 268,435,456 records without bytes
pub record IsWithinData (file : List ℕ) (row : DataRow) : Type 0 where
  pub records : LeadsToFew file row.content
  pub values : AllByRecursion (HasFewValues file) row.groups
  pub empties : (at : ℕ) → ¬ HasManyEmpties row at

-- At most 65,535 entries of the history, as many data groups and channel groups, 1,048,576 channels, as many conversions,
-- each once for each link that leads to it, and 67,108,864 bytes of texts; and no conversion is the fifth that is open at once.
pub record IsWithinTree (file : List ℕ) (head : Head) (history : List History) (rows : List DataRow) : Type 0 where
  pub entries : length history ≤ 65535
  pub few : AreFew rows
  pub shallow : AreDataGroups file head.first_dg rows
  pub text : text_size head history + (rows_cost file rows).text ≤ 67108864
  pub conversions : (rows_cost file rows).conversions ≤ 1048576

-- and each data group is within its own limits
pub record IsWithinLimits (file : List ℕ) (head : Head) (history : List History) (rows : List DataRow) : Type 0 where
  pub tree : IsWithinTree file head history rows
  pub each : AllByRecursion (IsWithinData file) rows
