-- Where all that is read of a finalized file stands, where the places of all records are not wanted.
use Rattle.std.specs.Prelude.{ℕ, List, [], ◌∷◌, filter, slice_get, Option, Some, None, Ok}
use Rattle.std.specs.List.{flat_map}
use Rattle.std.specs.Option.{option_map}
use Rattle.mdf_block.specs.Every.{every}
use Rattle.mdf_block.specs.Refusal.{Read, ◌>>=◌}
use Rattle.mdf_group.specs.declared.row.DataRow.{DataRow}
use Rattle.mdf_group.specs.declared.row.GroupRow.{GroupRow}
use Rattle.mdf_content.specs.declared.found.DataFound.{DataFound}
use Rattle.mdf_content.specs.declared.wanted.Wanted.{Wanted}
use Rattle.mdf_content.specs.declared.wanted.Wanted.TheVariants as wants
use Rattle.mdf_content.specs.Kept.{data_kept, kept_found}
use Rattle.mdf_model.specs.declared.whole.WholeFound.{WholeFound}
use Rattle.mdf_model.specs.Found.{whole_found}
use Rattle.mdf_model.specs.Measurement.{holds_samples}
use Rattle.mdf_model.specs.Tree.{finalized, tree}

-- a data group, where so many groups of the file were counted before, and how many then
abbrev pub kept_place : Wanted → List ℕ → ℕ → DataRow → ℕ → Read (Option DataFound × ℕ)
kept_place wanted file k row number = data_kept wanted file row number >>= λ found. Ok (Some found.0, found.1)

-- the data groups, one after another
unfoldable pub all_kept : Wanted → List ℕ → List DataRow → Read (List DataFound)
all_kept wanted file rows = every (kept_place wanted file) 0 rows 0 >>= λ found. Ok found.0

-- the identification, the tree, and then the data groups, with the places that are wanted where these were read
unfoldable pub whole_by : (List DataRow → Wanted) → List ℕ → Read WholeFound
whole_by wanted file = do
  ident ← finalized file
  tree ← tree file
  found ← all_kept (wanted tree.rows) file tree.rows
  Ok (record { ident = ident; tree = tree; found = found })

abbrev pub whole_kept : Wanted → List ℕ → Read WholeFound
whole_kept wanted file = whole_by (λ _. wanted) file

-- what is found of data groups, with the places that are wanted in place of all
abbrev pub kept_all : Wanted → List DataRow → List DataFound → List DataFound
kept_all wanted [] found = found
kept_all wanted (row ∷ rows) [] = []
kept_all wanted (row ∷ rows) (one ∷ found) = kept_found wanted row one ∷ kept_all wanted rows found

-- and of a file
abbrev pub kept_whole : Wanted → WholeFound → WholeFound
kept_whole wanted all = record all { found = kept_all wanted all.tree.rows all.found }

abbrev pub found_by : (List DataRow → Wanted) → List ℕ → Read WholeFound
found_by wanted file = whole_found file >>= λ all. Ok (kept_whole (wanted all.tree.rows) all)

abbrev pub found_kept : Wanted → List ℕ → Read WholeFound
found_kept wanted file = found_by (λ _. wanted) file

-- the groups of a file whose records are samples, in order, and where one of them stands
abbrev pub sample_rows : List DataRow → List GroupRow
sample_rows rows = flat_map (λ (row : DataRow). filter holds_samples row.groups) rows

abbrev pub stands_at : Option GroupRow → Option ℕ
stands_at group = option_map (λ (row : GroupRow). row.at) group

-- where the samples of one group are wanted, its places are wanted too; if there is none, those alone that lead to values
abbrev pub wanted_at : Option ℕ → Wanted
wanted_at (Some at) = wants.Group at
wanted_at None = wants.Values

abbrev pub wanted_for : ℕ → List DataRow → Wanted
wanted_for number rows = wanted_at (stands_at (slice_get (sample_rows rows) number))

abbrev pub whole_for : ℕ → List ℕ → Read WholeFound
whole_for number file = whole_by (wanted_for number) file

abbrev pub found_for : ℕ → List ℕ → Read WholeFound
found_for number file = found_by (wanted_for number) file
