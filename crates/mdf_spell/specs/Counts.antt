-- What is counted of the records of channel groups, as a finalized file says it.
use Rattle.std.specs.Prelude.{ℕ, ◌≡◌, ◌/◌, ◌%◌, ◌^◌, if◌then◌else◌, List, [], ◌∷◌, length}
use Rattle.mdf_group.specs.declared.row.GroupRow.{GroupRow}
use Rattle.mdf_group.specs.declared.row.DataRow.{DataRow}
use Rattle.mdf_group.specs.Group.{is_variable}
use Rattle.mdf_spell.specs.declared.recovered.Recovered.{Recovered}

-- a channel group with so many records; of a group of values, whose values have so many bytes in all, the low and the high 32
-- bits of that number stand where other groups have the sizes of a record
abbrev pub counted_group : ℕ → ℕ → GroupRow → GroupRow
counted_group count total row = record row {
  cycles = count;
  data_bytes = if is_variable row then total % 2 ^ 32 else row.data_bytes;
  inval_bytes = if is_variable row then total / 2 ^ 32 % 2 ^ 32 else row.inval_bytes;
}

-- each group with its numbers
unfoldable pub counted_groups : List ℕ → List ℕ → List GroupRow → List GroupRow
counted_groups counts totals [] = []
counted_groups [] totals (row ∷ rows) = []
counted_groups (count ∷ counts) [] (row ∷ rows) = []
counted_groups (count ∷ counts) (total ∷ totals) (row ∷ rows) = counted_group count total row ∷ counted_groups counts totals rows

-- the data group with these groups
abbrev pub counted_data : List ℕ → List ℕ → DataRow → DataRow
counted_data counts totals row = record row { groups = counted_groups counts totals row.groups }

-- there is a number of records and a number of bytes for each channel group
pub record IsCounted (recovered : Recovered) : Type 0 where
  pub counts : length recovered.counts.now ≡ length recovered.row.now.groups
  pub totals : length recovered.totals.now ≡ length recovered.row.now.groups
