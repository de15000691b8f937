-- A group whose places were wanted is that of the measurement.
use Rattle.std.proofs.Common.{◌≡◌, ◌++◌, ℕ, zero, suc, false, List, [], ◌∷◌, length, take, map, Option, Some, None, Ok, refl, sym, ◌∙◌, ap}
use Rattle.std.specs.Prelude.{filter, slice_get, slice_index_or}
use Rattle.std.specs.List.{AllZip, flat_map}
use Rattle.std.proofs.lemmas.List.{length-map}
use Rattle.std.proofs.lemmas.Option.{same_Some}
use Rattle.mdf_block.specs.Refusal.{Read}
use Rattle.mdf_stream.specs.Parts.{stream_of}
use Rattle.mdf_group.specs.declared.row.DataRow.{DataRow}
use Rattle.mdf_group.specs.declared.row.GroupRow.{GroupRow}
use Rattle.mdf_layout.specs.Layout.{record_size}
use Rattle.mdf_content.specs.declared.contents.Contents.{Contents}
use Rattle.mdf_content.specs.declared.found.DataFound.{DataFound}
use Rattle.mdf_content.specs.declared.found.Found.{Found}
use Rattle.mdf_content.specs.declared.wanted.Wanted.{Wanted}
use Rattle.mdf_content.specs.declared.wanted.Wanted.TheVariants as wants
use Rattle.mdf_content.specs.Contents.{content_of}
use Rattle.mdf_content.specs.Kept.{is_counted, kept_found}
use Rattle.mdf_content.specs.Samples.{sample_at}
use Rattle.mdf_content.proofs.Kepts.{named_wanted, wanted_list}
use Rattle.mdf_model.specs.declared.part.Measure.{Measure}
use Rattle.mdf_model.specs.declared.whole.WholeFound.{WholeFound}
use Rattle.mdf_model.specs.Found.{whole_found}
use Rattle.mdf_model.specs.Measurement.{measured_from, Measured, contents_of, holds_samples, measurement, sample_of}
use Rattle.mdf_model.specs.Kept.{found_for, kept_all, kept_whole, sample_rows, stands_at, wanted_at, wanted_for}
use Rattle.mdf_paged.specs.Groups.{Located, group_rows, groups_in, groups_of, held_at, located, sample_in}
use Rattle.mdf_paged.proofs.Kepts.{counts_kept, kept_by_from, rows_kept}
use Rattle.mdf_paged.proofs.Measures.{AreDataRows, first_is, group_is, rest_is, row_in, row_is, seen_ok, whole_rows}
use Rattle.mdf_paged.proofs.Shown.{counts_are}

-- the group of this number is there with all places too, and holds the same where its places were wanted
abbrev IsThere : List ℕ → Wanted → List GroupRow → List Located → ℕ → Located → Type 0
IsThere file wanted rows whole k place =
    (all : Located) × (slice_get whole k ≡ Some all) × (row : GroupRow) × (slice_get rows k ≡ Some row)
    × (is_counted wanted row ≡ false → held_at file place ≡ held_at file all)

module _ (file : List ℕ) (wanted : Wanted) where
  held_same : (row : DataRow) (one : DataFound) (group : Found) (read : GroupRow) → slice_get row.groups group.which ≡ Some read
      → is_counted wanted read ≡ false → held_at file (located (kept_found wanted row one) group) ≡ held_at file (located one group)
  held_same row one group read there denied =
      let make : List ℕ → Contents = λ places.
      record {
        shape = group.shape;
        count = group.count;
        content = content_of (stream_of file one.view) (record_size group.shape) (take group.count places);
        streams = map (stream_of file) group.values;
      } in
      ap make (wanted_list wanted row one.lists group.which read there denied)

  module _ (row : DataRow) (one : DataFound) (rest_rows : List GroupRow) (rest_kept rest : List Located)
      (behind : (k : ℕ) (place : Located) → slice_get rest_kept k ≡ Some place → IsThere file wanted rest_rows rest k place) where
    there_in : (groups : List Found) (rows : List GroupRow) (k : ℕ) (place : Located) → map (row_in row.groups) groups ≡ map Some rows
        → slice_get (map (located (kept_found wanted row one)) groups ++ rest_kept) k ≡ Some place
        → IsThere file wanted (rows ++ rest_rows) (map (located one) groups ++ rest) k place
    there_in [] [] k place are there = behind k place there
    there_in [] (first ∷ rows) k place are there =
        let wrong : ◌≡◌ {A = List (Option GroupRow)} [] (Some first ∷ map Some rows) = are in cc
    there_in (group ∷ groups) [] k place are there =
        let wrong : ◌≡◌ {A = List (Option GroupRow)} (row_in row.groups group ∷ map (row_in row.groups) groups) [] = are in cc
    there_in (group ∷ groups) (first ∷ rows) zero place are there =
        let is = same_Some (located (kept_found wanted row one) group) place there in
        let read = first_is (row_in row.groups group) (Some first) (map (row_in row.groups) groups) (map Some rows) are in
        (located one group, refl, first, refl, λ denied. ap (held_at file) (sym is) ∙ held_same row one group first read denied)
    there_in (group ∷ groups) (first ∷ rows) (suc k) place are there =
        there_in groups rows k place (rest_is (row_in row.groups group) (Some first) (map (row_in row.groups) groups) (map Some rows) are) there

  kept_there : (rows : List DataRow) (found : List DataFound) (k : ℕ) (place : Located) → AllZip AreDataRows rows found
      → slice_get (flat_map groups_in (kept_all wanted rows found)) k ≡ Some place
      → IsThere file wanted (sample_rows rows) (flat_map groups_in found) k place
  kept_there [] [] k place are there = let wrong : ◌≡◌ {A = Option Located} None (Some place) = there in cc
  kept_there [] (one ∷ found) k place are there = absurd are
  kept_there (row ∷ rows) [] k place are there = absurd are
  kept_there (row ∷ rows) (one ∷ found) k place are there =
      there_in row one (sample_rows rows) (flat_map groups_in (kept_all wanted rows found)) (flat_map groups_in found)
      (λ j other behind. kept_there rows found j other are.1 behind)
      one.groups (filter holds_samples row.groups) k place are.0 there

ok_is : {A : Type 0} (x y : A) → ◌≡◌ {A = Read A} (Ok x) (Ok y) → x ≡ y
ok_is x y same = cc

-- a file that is found so has a measurement
pub asked_measured : (file : List ℕ) (number : ℕ) (now : WholeFound) → found_for number file ≡ Ok now → (m : Measured) × (measurement file ≡ Ok m)
asked_measured file number now read =
    let found = kept_by_from (wanted_for number) file now read in (measured_from file found.0, seen_ok file found.0 found.1)

-- what was found for a group
module _ (file : List ℕ) (number : ℕ) (now : WholeFound) (m : Measured) (read : found_for number file ≡ Ok now) (measured : measurement file ≡ Ok m) where
  record IsAsked : Type 0 where
    all : WholeFound
    all_read : whole_found file ≡ Ok all
    kept : kept_whole (wanted_for number all.tree.rows) all ≡ now
    seen : measured_from file all ≡ m

  asked : IsAsked
  asked =
      let found = kept_by_from (wanted_for number) file now read in
      record { all = found.0; all_read = found.1; kept = found.2; seen = ok_is _ _ (sym (seen_ok file found.0 found.1) ∙ measured) }

  pub asked_is : (d : Measure) (place : Located) → slice_get (groups_of now) number ≡ Some place
      → contents_of (slice_index_or m.groups number d) ≡ held_at file place
  asked_is d place there =
      let all = asked.all in
      let wanted = wanted_for number all.tree.rows in
      let kept_place : slice_get (groups_of (kept_whole wanted all)) number ≡ Some place =
      ap (λ (one : WholeFound). slice_get (groups_of one) number) asked.kept ∙ there in
      let found = kept_there file wanted all.tree.rows all.found number place (whole_rows file all asked.all_read) kept_place in
      let named : wanted ≡ wants.Group found.2.at = ap (λ (row : Option GroupRow). wanted_at (stands_at row)) found.3 in
      let denied : is_counted wanted found.2 ≡ false = ap (λ (one : Wanted). is_counted one found.2) named ∙ named_wanted found.2 in
      ap (λ (one : Measured). contents_of (slice_index_or one.groups number d)) (sym asked.seen)
      ∙ group_is file all number d found.0 asked.all_read found.1 ∙ sym (found.4 denied)

  pub asked_sample : (d : Measure) (place : Located) (i : ℕ) → slice_get (groups_of now) number ≡ Some place
      → sample_of (slice_index_or m.groups number d) i ≡ sample_in file place i
  asked_sample d place i there = ap (λ (c : Contents). sample_at c.shape c.content c.streams i) (asked_is d place there)

  pub asked_counts : map (λ (place : Located). place.group.count) (groups_of now) ≡ map (λ (one : Measure). one.count) m.groups
  asked_counts =
      let all = asked.all in
      let count = λ (place : Located). place.group.count in
      ap (λ (one : WholeFound). map count (groups_of one)) (sym asked.kept) ∙ counts_kept (wanted_for number all.tree.rows) all
      ∙ counts_are file all asked.all_read ∙ ap (λ (one : Measured). map (λ (group : Measure). group.count) one.groups) asked.seen

  pub asked_many : length (groups_of now) ≡ length m.groups
  asked_many =
      sym (length-map (groups_of now) (λ place. place.group.count)) ∙ ap length asked_counts ∙ length-map m.groups (λ one. one.count)

  pub asked_row : (group : ℕ) (d : Measure) (row : GroupRow) → slice_get (group_rows now) group ≡ Some row
      → row ≡ (slice_index_or m.groups group d).part.row
  asked_row group d row there =
      let all = asked.all in
      let rows : group_rows all ≡ group_rows now =
      sym (rows_kept (wanted_for number all.tree.rows) all) ∙ ap group_rows asked.kept in
      row_is file all group d row asked.all_read (ap (λ (list : List GroupRow). slice_get list group) rows ∙ there)
      ∙ ap (λ (one : Measured). (slice_index_or one.groups group d).part.row) asked.seen
