-- What is found of a file where not all places are wanted is what is found, with the places that are wanted in place of all.
use Rattle.std.proofs.Common.{◌≡◌, ◌+◌, ℕ, List, [], ◌∷◌, Option, Some, Ok, Err, refl, ◌∙◌, ap}
use Rattle.mdf_block.specs.Every.{every}
use Rattle.mdf_block.specs.Refusal.{Read, ◌>>=◌}
use Rattle.mdf_group.specs.declared.row.DataRow.{DataRow}
use Rattle.mdf_head.specs.declared.identity.Ident.{Ident}
use Rattle.mdf_content.specs.declared.found.DataFound.{DataFound}
use Rattle.mdf_content.specs.declared.wanted.Wanted.{Wanted}
use Rattle.mdf_content.specs.declared.wanted.Wanted.TheVariants as wants
use Rattle.mdf_content.specs.Found.{data_found}
use Rattle.mdf_content.specs.Kept.{kept_found}
use Rattle.mdf_content.proofs.Founds.{firsts, then_turned}
use Rattle.mdf_content.proofs.Kepts.{data_kept_is, every_found, joins, keeps_found, then_every}
use Rattle.mdf_model.specs.declared.tree.Tree.{Tree}
use Rattle.mdf_model.specs.declared.whole.WholeFound.{WholeFound}
use Rattle.mdf_model.specs.Found.{all_found, data_place, whole_found}
use Rattle.mdf_model.specs.Kept.{all_kept, found_by, found_kept, kept_all, kept_place, kept_whole, whole_by, whole_kept}
use Rattle.mdf_model.specs.Tree.{finalized, tree}

module _ (wanted : Wanted) (file : List ℕ) where
  abbrev keeps : List DataRow → List DataFound × ℕ → Read (List DataFound × ℕ)
  keeps rows found = Ok (kept_all wanted rows found.0, found.1)

  abbrev some_found : DataFound × ℕ → Read (Option DataFound × ℕ)
  some_found found = Ok (Some found.0, found.1)

  -- a data group, and those behind it
  rest_so : (row : DataRow) (rows : List DataRow) (one : DataFound) (rest : Read (List DataFound × ℕ))
      → ((rest >>= keeps rows) >>= joins (Some (kept_found wanted row one))) ≡ ((rest >>= joins (Some one)) >>= keeps (row ∷ rows))
  rest_so row rows one (Ok rest) = refl
  rest_so row rows one (Err refusal) = refl

  first_so : (k : ℕ) (row : DataRow) (rows : List DataRow)
      → ((number : ℕ) → every (kept_place wanted file) k rows number ≡ (every (data_place file) k rows number >>= keeps rows))
      → (found : Read (DataFound × ℕ))
      → (((found >>= keeps_found wanted row) >>= some_found) >>= then_every (kept_place wanted file) k rows)
      ≡ (((found >>= some_found) >>= then_every (data_place file) k rows) >>= keeps (row ∷ rows))
  first_so k row rows same (Ok found) =
      ap (λ (rest : Read (List DataFound × ℕ)). rest >>= joins (Some (kept_found wanted row found.0))) (same found.1)
      ∙ rest_so row rows found.0 (every (data_place file) k rows found.1)
  first_so k row rows same (Err refusal) = refl

  every_kept : (k : ℕ) (rows : List DataRow) (number : ℕ)
      → every (kept_place wanted file) k rows number ≡ (every (data_place file) k rows number >>= keeps rows)
  unfolding every
  every_kept k [] number = refl
  every_kept k (row ∷ rows) number =
      ap (λ (found : Read (DataFound × ℕ)). (found >>= some_found) >>= then_every (kept_place wanted file) (k + 1) rows) (data_kept_is wanted file row number)
      ∙ first_so (k + 1) row rows (every_kept (k + 1) rows) (data_found file row number)

  abbrev lists_kept : List DataRow → List DataFound → Read (List DataFound)
  lists_kept rows found = Ok (kept_all wanted rows found)

  list_so : (rows : List DataRow) (found : Read (List DataFound × ℕ))
      → ((found >>= keeps rows) >>= firsts) ≡ ((found >>= firsts) >>= lists_kept rows)
  list_so rows (Ok found) = refl
  list_so rows (Err refusal) = refl

  all_kept_is : (rows : List DataRow) → all_kept wanted file rows ≡ (all_found file rows >>= lists_kept rows)
  unfolding all_kept all_found
  all_kept_is rows =
      ap (λ (found : Read (List DataFound × ℕ)). found >>= firsts) (every_kept 0 rows 0) ∙ list_so rows (every (data_place file) 0 rows 0)

module _ (wanted : List DataRow → Wanted) (file : List ℕ) where
  abbrev keeps_whole : WholeFound → Read WholeFound
  keeps_whole all = Ok (kept_whole (wanted all.tree.rows) all)

  abbrev made : Ident → Tree → List DataFound → Read WholeFound
  made ident tree found = Ok (record { ident = ident; tree = tree; found = found })

  made_so : (ident : Ident) (tree : Tree) (found : Read (List DataFound))
      → ((found >>= lists_kept (wanted tree.rows) file tree.rows) >>= made ident tree) ≡ ((found >>= made ident tree) >>= keeps_whole)
  made_so ident tree (Ok found) = refl
  made_so ident tree (Err refusal) = refl

  pub whole_by_is : whole_by wanted file ≡ found_by wanted file
  unfolding whole_by whole_found
  whole_by_is =
      let finds = λ (ident : Ident) (tree : Tree). all_found file tree.rows >>= made ident tree in
      let finds_kept = λ (ident : Ident) (tree : Tree). all_kept (wanted tree.rows) file tree.rows >>= made ident tree in
      then_turned keeps_whole (finalized file) (λ ident. tree file >>= finds ident) (λ ident. tree file >>= finds_kept ident)
      (λ ident. then_turned keeps_whole (tree file) (finds ident) (finds_kept ident)
      (λ tree. ap (λ (all : Read (List DataFound)). all >>= made ident tree) (all_kept_is (wanted tree.rows) file tree.rows)
      ∙ made_so ident tree (all_found file tree.rows)))

pub whole_kept_is : (wanted : Wanted) (file : List ℕ) → whole_kept wanted file ≡ found_kept wanted file
whole_kept_is wanted file = whole_by_is (λ _. wanted) file

-- where every group is wanted, all is kept
every_all : (rows : List DataRow) (found : List DataFound) → kept_all wants.Every rows found ≡ found
every_all [] found = refl
every_all (row ∷ rows) [] = refl
every_all (row ∷ rows) (one ∷ found) =
    ap (λ (first : DataFound). first ∷ kept_all wants.Every rows found) (every_found row one)
    ∙ ap (λ (rest : List DataFound). one ∷ rest) (every_all rows found)

every_read : (read : Read WholeFound) → (read >>= λ all. Ok (kept_whole wants.Every all)) ≡ read
every_read (Ok all) = ap {B = Read WholeFound} (λ (found : List DataFound). Ok (record all { found = found })) (every_all all.tree.rows all.found)
every_read (Err refusal) = refl

pub every_whole : (file : List ℕ) → whole_kept wants.Every file ≡ whole_found file
every_whole file = whole_kept_is wants.Every file ∙ every_read (whole_found file)
