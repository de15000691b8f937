-- What is read of a file is its measurement.
use Rattle.std.proofs.Common.{◌≡◌, ◌+◌, ◌-◌, ◌^◌, ℕ, List, [], ◌∷◌, ◌++◌, map, Ok, refl, sym, ◌∙◌, ap, subst, arith}
use Rattle.std.specs.Prelude.{true, min, filter, zip, codes, Option, Some}
use Rattle.std.specs.List.{flat_map, AllByRecursion, AllZip}
use Rattle.std.proofs.lemmas.Slice.Eq.{bytes_eq-Decides}
use Rattle.mdf_format.specs.Number.{bytes_at}
use Rattle.mdf_format.specs.Identification.{IsMdf, HasReadVersion}
use Rattle.mdf_format.specs.declared.kind.Kind.TheVariants.{Hd}
use Rattle.mdf_block.specs.Refusal.{Unfinalized}
use Rattle.mdf_block.specs.Block.{block}
use Rattle.mdf_block.specs.declared.place.BlockAt.{BlockAt}
use Rattle.mdf_block.proofs.Refusals.{bind_ok}
use Rattle.mdf_block.proofs.Wholes.{block_found}
use Rattle.mdf_conv.specs.declared.limits.Budget.{Budget}
use Rattle.mdf_head.specs.declared.identity.Ident.{Ident}
use Rattle.mdf_head.specs.declared.entry.Head.{Head}
use Rattle.mdf_head.specs.declared.entry.History.{History}
use Rattle.mdf_head.specs.Ident.{is_mdf, has_read_version, the_ident, identify}
use Rattle.mdf_head.specs.Head.{head, IsHead}
use Rattle.mdf_head.proofs.Heads.{head_found}
use Rattle.mdf_head.proofs.Identities.{is_mdf_true, read_version_true}
use Rattle.mdf_group.specs.declared.row.DataRow.{DataRow}
use Rattle.mdf_group.specs.declared.row.GroupRow.{GroupRow}
use Rattle.mdf_group.specs.Cost.{rows_cost}
use Rattle.mdf_group.specs.Group.{data_groups_from, groups}
use Rattle.mdf_group.specs.Standing.{AreDataGroups}
use Rattle.mdf_group.proofs.Costs.{rows_take}
use Rattle.mdf_group.proofs.Stands.{all_found}
use Rattle.mdf_group.proofs.Nested.{without_limit}
use Rattle.mdf_content.specs.declared.contents.Contents.{Contents}
use Rattle.mdf_content.specs.declared.found.DataFound.{DataFound}
use Rattle.mdf_block.specs.Every.{every}
use Rattle.mdf_content.specs.Contents.{AllHaveSamples, HaveSamples}
use Rattle.mdf_content.specs.Found.{data_fetched, data_found}
use Rattle.mdf_model.specs.declared.part.Measure.{Measure}
use Rattle.mdf_model.specs.declared.tree.Tree.{Tree}
use Rattle.mdf_model.specs.declared.whole.Whole.{Whole}
use Rattle.mdf_model.specs.declared.whole.WholeFound.{WholeFound}
use Rattle.mdf_model.specs.Tree.{finalized_by, finalized, whole_budget, header_of, passed_over, tree}
use Rattle.mdf_model.specs.Found as founds
use Rattle.mdf_model.specs.Found.{data_place, whole, whole_found}
use Rattle.mdf_model.specs.Measurement.{measures, Measured, measured_from, measurement}
use Rattle.mdf_model.specs.Contents.{IsContents, IsDataContents, sample_groups}
use Rattle.mdf_model.specs.InWords.{IsFinalizedMdf, row_measures, IsMeasurement}
use Rattle.mdf_model.specs.Passed.{links_passed_over}
use Rattle.mdf_block.proofs.Picks.{IsPicked, all_read, picked, keyed_own}
use Rattle.mdf_model.proofs.Fetches.{measurement_is}
use Rattle.mdf_model.proofs.Founds.{IsDataFound, all_of_data, contents_are}
use Rattle.mdf_model.proofs.Onces.{rows_unique}
use Rattle.mdf_block.proofs.Cases.{if_ok, ok_injective}
use Rattle.mdf_block.proofs.Items.{all_pass, zipped}

-- the identification
pub record IsIdentified (f : List ℕ) (id : Ident) : Type 0 where
  pub mdf : IsMdf f
  pub version : HasReadVersion f
  pub says : the_ident f ≡ id

pub identified : (f : List ℕ) (id : Ident) → identify f ≡ Ok id → IsIdentified f id
unfolding identify
identified f id is =
    let mdf = if_ok (is_mdf f) _ _ id is in
    let version = if_ok (has_read_version f) _ _ id mdf.1 in record {
      mdf = is_mdf_true f mdf.0;
      version = read_version_true f version.0;
      says = ok_injective (the_ident f) id version.1;
    }

ident_found : (f : List ℕ) (id : Ident) → finalized f ≡ Ok id → IsFinalizedMdf f × (the_ident f ≡ id)
unfolding finalized
ident_found f id is =
    let first = bind_ok (identify f) finalized_by id is in
    let known = identified f first.0 first.1 in
    let closed = if_ok first.0.finalized (Ok first.0) (Unfinalized first.0.std_flags first.0.custom_flags) id first.2 in (
      record {
        mdf = known.mdf;
        version = known.version;
        finalized = (bytes_eq-Decides (bytes_at 8 f 0) (codes "MDF     ")).0 (ap (λ (i : Ident). i.finalized) known.says ∙ closed.0);
      },
      known.says ∙ ok_injective first.0 id closed.1,
    )

-- what the rows add to the count of links that were passed over
rows_drop : (f : List ℕ) (at : ℕ) (left : Budget) (found : List DataRow × Budget) → groups f at left ≡ Ok found → left.dropped ≡ 0
    → found.1.dropped ≡ min (rows_cost f found.0).dropped (2 ^ 64 - 1)
unfolding groups
rows_drop f at left found is none =
    let one = bind_ok (data_groups_from f at left) _ found is in
    let taken = (rows_take f at left one.0 one.1).0 in
    subst (λ (y : List DataRow × Budget). y.1.dropped ≡ min (rows_cost f y.0).dropped (2 ^ 64 - 1)) (ok_injective _ found one.2)
    (omega (arith, taken.dropped (omega (arith, none)), none))

joined_counts : (a b c m : ℕ) → a ≡ min b m → min (a + c) m ≡ min (c + b) m
joined_counts a b c m is = omega (arith, is)

-- the header, the history and the data groups
pub record IsTree (f : List ℕ) (found : Tree) : Type 0 where
  pub head : IsHead f found.head found.history
  pub rows : AreDataGroups f found.head.first_dg found.rows
  pub dropped : found.dropped ≡ links_passed_over f found.rows

pub tree_found : (f : List ℕ) (found : Tree) → tree f ≡ Ok found → IsTree f found
unfolding tree
tree_found f found is =
    let one = bind_ok (block f 64 Hd) _ found is in
    let two = bind_ok (header_of f whole_budget) _ found one.2 in
    let three = bind_ok (groups f two.0.0.first_dg two.0.2) _ found two.2 in
    let header = bind_ok (head f 67108864) (λ first. Ok (first.0.0, first.0.1, record whole_budget { text = first.1 })) two.0 two.1 in
    let same_header : (header.0.0.0, header.0.0.1, record whole_budget { text = header.0.1 }) ≡ two.0 = ok_injective _ two.0 header.2 in
    let none : two.0.2.dropped ≡ 0 = subst (λ (y : Head × List History × Budget). y.2.dropped ≡ 0) same_header refl in
    let rows = rows_drop f two.0.0.first_dg two.0.2 three.0 three.1 none in
    subst (IsTree f) (ok_injective _ found three.2) (record {
      head = subst (λ (y : Head × List History × Budget). IsHead f y.0 y.1) same_header (head_found f 67108864 header.0 header.1);
      rows = all_found f two.0.0.first_dg two.0.2 three.0 three.1;
      dropped =
          ap (λ (b : BlockAt). min (three.0.1.dropped + passed_over f b.at) (2 ^ 64 - 1)) (block_found f 64 Hd one.0 one.1).1
          ∙ joined_counts three.0.1.dropped (rows_cost f three.0.0).dropped (passed_over f 64) (2 ^ 64 - 1) rows;
    })

abbrev IsItem : List ℕ → ℕ → DataRow → Option DataFound → Type 0
IsItem f k row found = IsPicked (λ r. true) (IsDataFound f) row found

item_found : (f : List ℕ) (k : ℕ) (row : DataRow) (number : ℕ) (found : Option DataFound × ℕ) → data_place f k row number ≡ Ok found
    → IsItem f k row found.0
item_found f k row number found is =
    let first = bind_ok (data_found f row number) (λ y. Ok (Some y.0, y.1)) found is in
    subst (λ (y : Option DataFound × ℕ). IsItem f k row y.0) (ok_injective (Some first.0.0, first.0.1) found first.2)
    (refl, (all_of_data f row number first.0 first.1).0)

data_all_found : (f : List ℕ) (rows : List DataRow) (found : List DataFound) → founds.all_found f rows ≡ Ok found → AllZip (IsDataFound f) rows found
unfolding founds.all_found
data_all_found f rows found is =
    let first = bind_ok (every (data_place f) 0 rows 0) (λ y. Ok y.0) found is in
    let read = all_read (data_place f) (IsItem f) (λ k row left y. item_found f k row left y) 0 rows 0 first.0 first.1 in
    subst (AllZip (IsDataFound f) rows) (ok_injective first.0.0 found first.2)
    (subst (λ (xs : List DataRow). AllZip (IsDataFound f) xs first.0.0) (all_pass rows)
    (subst (λ (xs : List DataRow). AllZip (IsDataFound f) (filter (λ r. true) xs) first.0.0) (keyed_own 0 rows)
    (picked (λ k row. row) (λ r. true) (IsDataFound f) 0 rows first.0.0 read)))

-- what each holds
abbrev groups_of : List ℕ → DataFound → List Contents
groups_of f found = (data_fetched f found).groups

pub all_contents : (f : List ℕ) (rows : List DataRow) (found : List DataFound) → AllZip (IsDataFound f) rows found
    → AllZip (IsDataContents f) rows (map (groups_of f) found)
all_contents f [] [] all = tt
all_contents f [] (y ∷ found) all = absurd all
all_contents f (row ∷ rows) [] all = absurd all
all_contents f (row ∷ rows) (y ∷ found) all = (contents_are f row y all.0, all_contents f rows found all.1)

pub same_measures : (f : List ℕ) (rows : List DataRow) (found : List DataFound)
    → measures rows (map (data_fetched f) found) ≡ flat_map row_measures (zip rows (map (groups_of f) found))
same_measures f [] found = refl
same_measures f (row ∷ rows) [] = refl
same_measures f (row ∷ rows) (y ∷ found) = ap (λ (ms : List Measure). row_measures (row, groups_of f y) ++ ms) (same_measures f rows found)

-- all of a file
pub record IsWhole (f : List ℕ) (all : WholeFound) : Type 0 where
  pub ident : IsFinalizedMdf f
  pub says : the_ident f ≡ all.ident
  pub tree : IsTree f all.tree
  pub held : AllZip (IsDataFound f) all.tree.rows all.found

all_of_file : (f : List ℕ) (all : WholeFound) → whole_found f ≡ Ok all → IsWhole f all
unfolding whole_found
all_of_file f all is =
    let one = bind_ok (finalized f) _ all is in
    let two = bind_ok (tree f) _ all one.2 in
    let three = bind_ok (founds.all_found f two.0.rows) _ all two.2 in
    let ident = ident_found f one.0 one.1 in
    subst (IsWhole f) (ok_injective _ all three.2) (record {
      ident = ident.0;
      says = ident.1;
      tree = tree_found f two.0 two.1;
      held = data_all_found f two.0.rows three.0 three.1;
    })

data_samples : (f : List ℕ) (row : DataRow) (found : DataFound) → IsDataFound f row found → AllHaveSamples (data_fetched f found)
data_samples f row found is =
    let holds = contents_are f row found is in
    zipped (λ (group : ℕ × GroupRow) (contents : Contents). IsContents f row holds.records group.0 group.1 contents) HaveSamples
    (λ group contents held. held.samples) (sample_groups row) (groups_of f found) holds.groups

all_samples : (f : List ℕ) (rows : List DataRow) (found : List DataFound) → AllZip (IsDataFound f) rows found
    → AllByRecursion AllHaveSamples (map (data_fetched f) found)
all_samples f [] [] all = tt
all_samples f [] (y ∷ found) all = absurd all
all_samples f (row ∷ rows) [] all = absurd all
all_samples f (row ∷ rows) (y ∷ found) all = (data_samples f row y all.0, all_samples f rows found all.1)

pub whole_samples : (f : List ℕ) (all : Whole) → whole f ≡ Ok all → AllByRecursion AllHaveSamples all.contents
unfolding whole
whole_samples f all is =
    let found = bind_ok (whole_found f) _ all is in
    subst (λ (y : Whole). AllByRecursion AllHaveSamples y.contents) (ok_injective _ all found.2)
    (all_samples f found.0.tree.rows found.0.found (all_of_file f found.0 found.1).held)

abbrev pub measurement_of : (f : List ℕ) (all : WholeFound) → IsWhole f all
    → IsMeasurement f all.tree.head all.tree.history (measures all.tree.rows (map (data_fetched f) all.found))
measurement_of f all is = record {
  ident = is.ident;
  stands = is.tree.head;
  rows = all.tree.rows;
  tree = without_limit f all.tree.head.first_dg all.tree.rows is.tree.rows;
  contents = map (groups_of f) all.found;
  hold = all_contents f all.tree.rows all.found is.held;
  groups_are = same_measures f all.tree.rows all.found;
}

pub all_of : (f : List ℕ) (m : Measured) → measurement f ≡ Ok m → (all : WholeFound) × IsWhole f all × (measured_from f all ≡ m)
all_of f m is =
    let first = bind_ok (whole_found f) (λ all. Ok (measured_from f all)) m (sym (measurement_is f) ∙ is) in
    (first.0, all_of_file f first.0 first.1, ok_injective _ m first.2)

-- none of its conversions lies too deep
pub measurement_read : (f : List ℕ) (m : Measured) → measurement f ≡ Ok m
    → (is : IsMeasurement f m.head m.history m.groups) × AreDataGroups f m.head.first_dg is.rows
measurement_read f m is =
    let all = all_of f m is in
    subst (λ (y : Measured). (of : IsMeasurement f y.head y.history y.groups) × AreDataGroups f y.head.first_dg of.rows) all.2
    (measurement_of f all.0 all.1, all.1.tree.rows)

pub measurement_found : (f : List ℕ) (m : Measured) → measurement f ≡ Ok m → IsMeasurement f m.head m.history m.groups
measurement_found f m is = (measurement_read f m is).0

-- the links that were passed over
pub tree_passes : (f : List ℕ) (t : Tree) → tree f ≡ Ok t → t.dropped ≡ links_passed_over f t.rows
tree_passes f t is = (tree_found f t is).dropped

pub measurement_passes : (f : List ℕ) (m : Measured) (is : IsMeasurement f m.head m.history m.groups) → measurement f ≡ Ok m
    → m.dropped ≡ links_passed_over f is.rows
measurement_passes f m is found =
    let all = all_of f m found in
    let rows : all.0.tree.rows ≡ is.rows = rows_unique f all.0.tree.head m.head all.0.tree.history m.history
    (measures all.0.tree.rows (map (data_fetched f) all.0.found)) m.groups (measurement_of f all.0 all.1) is in
    ap (λ (y : Measured). y.dropped) (sym all.2) ∙ all.1.tree.dropped ∙ ap (links_passed_over f) rows
