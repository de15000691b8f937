-- Where all that is read of a finalized file stands, or the first reason to refuse it; and that with the bytes there.
use Rattle.std.specs.Prelude.{ℕ, List, map, Option, Some, Ok}
use Rattle.mdf_block.specs.Every.{every}
use Rattle.mdf_block.specs.Refusal.{Read, ◌>>=◌}
use Rattle.mdf_group.specs.declared.row.DataRow.{DataRow}
use Rattle.mdf_content.specs.declared.found.DataFound.{DataFound}
use Rattle.mdf_content.specs.Found.{data_fetched, data_found}
use Rattle.mdf_model.specs.declared.whole.Whole.{Whole}
use Rattle.mdf_model.specs.declared.whole.WholeFound.{WholeFound}
use Rattle.mdf_model.specs.Tree.{finalized, tree}

-- a data group, where so many groups of the file were counted before, and how many then
abbrev pub data_place : List ℕ → ℕ → DataRow → ℕ → Read (Option DataFound × ℕ)
data_place file k row number = data_found file row number >>= λ found. Ok (Some found.0, found.1)

-- the data groups, one after another
unfoldable pub all_found : List ℕ → List DataRow → Read (List DataFound)
all_found file rows = every (data_place file) 0 rows 0 >>= λ found. Ok found.0

-- the identification, the tree, and then the data groups
unfoldable pub whole_found : List ℕ → Read WholeFound
whole_found file = do
  ident ← finalized file
  tree ← tree file
  found ← all_found file tree.rows
  Ok (record { ident = ident; tree = tree; found = found })

-- what is found with the bytes there
abbrev pub whole_fetched : List ℕ → WholeFound → Whole
whole_fetched file all = record { ident = all.ident; tree = all.tree; contents = map (data_fetched file) all.found }

-- all that is read of a finalized file, or the first reason to refuse it
unfoldable pub whole : List ℕ → Read Whole
whole file = whole_found file >>= λ all. Ok (whole_fetched file all)
