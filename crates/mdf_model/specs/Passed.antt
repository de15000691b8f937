-- The links of a file that name something and are passed over.
use Rattle.std.specs.Prelude.{ℕ, ◌+◌, ◌-◌, ◌^◌, min, List}
use Rattle.mdf_group.specs.declared.row.DataRow.{DataRow}
use Rattle.mdf_group.specs.Cost.{rows_cost}
use Rattle.mdf_model.specs.Tree.{passed_over}

-- How many they are in a file with these data groups: the header's links to its first hierarchy, attachment and event, and
-- of the data groups the links to first sample reductions, to compositions and to inverse conversions, those of a channel
-- after its eighth, and the groups of values that no channel names. The count stays at the last u64.
abbrev pub links_passed_over : List ℕ → List DataRow → ℕ
links_passed_over file rows = min (passed_over file 64 + (rows_cost file rows).dropped) (2 ^ 64 - 1)
