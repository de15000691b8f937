-- The groups of the measurement are those that are found, with the bytes there.
use Rattle.std.proofs.Common.{◌≡◌, ◌+◌, ℕ, suc, Bool, true, false, List, [], ◌∷◌, ◌++◌, length, map, Option, Some, None, Ok, Err, refl, sym, ◌∙◌, ap, subst, inl, inr, arith}
use Rattle.std.specs.Prelude.{◌&&◌, filter, not, if◌then◌else◌, slice_get, slice_index_or}
use Rattle.std.specs.List.{AllZip, flat_map, list_all, zip}
use Rattle.std.specs.Option.{option_map, option_to_list}
use Rattle.std.proofs.lemmas.List.{length-map, map-append}
use Rattle.std.proofs.lemmas.List.Concat.{flat_map_single}
use Rattle.std.proofs.lemmas.Simd.{map-map}
use Rattle.std.proofs.lemmas.Option.{slice_get-map, get_or_from_slice_get}
use Rattle.mdf_format.specs.declared.kind.Kind.TheVariants.{Dt}
use Rattle.mdf_block.specs.declared.note.Note.{Note}
use Rattle.mdf_block.specs.Every.{every}
use Rattle.mdf_num.specs.declared.halt.Halt.{Halt}
use Rattle.mdf_block.specs.Refusal.{Halts, Read, ◌>>=◌}
use Rattle.mdf_block.proofs.Refusals.{bind_ok}
use Rattle.mdf_block.proofs.Wholes.{chosen}
use Rattle.mdf_stream.specs.Link.{data_parts}
use Rattle.mdf_stream.specs.Parts.{stream_of, stream_size}
use Rattle.mdf_group.specs.declared.row.DataRow.{DataRow}
use Rattle.mdf_group.specs.declared.row.GroupRow.{GroupRow}
use Rattle.mdf_group.specs.Group.{is_variable}
use Rattle.mdf_content.specs.declared.contents.Contents.{Contents}
use Rattle.mdf_content.specs.declared.contents.DataContents.{DataContents}
use Rattle.mdf_content.specs.declared.fault.ReadFault.{ReadFault}
use Rattle.mdf_content.specs.declared.found.DataFound.{DataFound}
use Rattle.mdf_content.specs.declared.found.Found.{Found}
use Rattle.mdf_content.specs.Contents.{is_strict, records_at}
use Rattle.mdf_content.specs.Fault.{read_refusal}
use Rattle.mdf_content.specs.Found.{data_at, data_fetched, data_found, fetched, group_found, group_place, groups_found, values_found}
use Rattle.mdf_content.specs.Layouts.{layout, layouts}
use Rattle.mdf_content.specs.Records.{counted, places_of}
use Rattle.mdf_content.specs.Samples.{sample_at}
use Rattle.mdf_content.specs.Values.{DataStream}
use Rattle.mdf_model.specs.declared.part.Measure.{Measure}
use Rattle.mdf_model.specs.declared.whole.WholeFound.{WholeFound}
use Rattle.mdf_model.specs.Found.{all_found, data_place, whole_found}
use Rattle.mdf_model.specs.Measurement.{measured_from, contents_of, data_measures, holds_samples, measure_of, measurement, measures, paired, sample_of}
use Rattle.mdf_model.specs.Tree.{finalized, tree}
use Rattle.mdf_model.proofs.Fetches.{measurement_seen}
use Rattle.mdf_paged.specs.Groups.{Located, group_rows, groups_in, groups_of, held_at, located, rows_in, sample_in}

ok_is : {A : Type 0} (x y : A) → ◌≡◌ {A = Read A} (Ok x) (Ok y) → x ≡ y
ok_is x y same = cc

-- each group that holds samples is found, with its number, and no other
abbrev IsPlaceOf : ℕ → Bool → Option Found → Type 0
IsPlaceOf k variable None = variable ≡ true
IsPlaceOf k variable (Some found) = (variable ≡ false) × (found.which ≡ k)

-- the groups that are found are those that hold samples
abbrev pub row_in : List GroupRow → Found → Option GroupRow
row_in all one = slice_get all one.which

abbrev pub AreRows : List GroupRow → List GroupRow → List Found → Type 0
AreRows all groups found = map (row_in all) found ≡ map Some (filter holds_samples groups)

module _ (file : List ℕ) (held : DataStream) where
  which_is : (k : ℕ) (group : GroupRow) (places : List ℕ) (found : Found) → group_found file held k group places ≡ Ok found → found.which ≡ k
  unfolding group_found
  which_is k group places found is =
      let shape = bind_ok (layout group) _ found is in
      let values = bind_ok (values_found file held (records_at true group places) group.channels) _ found shape.2 in
      ap (λ (one : Found). one.which) (sym (ok_is _ _ values.2))

  place_found : (k : ℕ) (group : GroupRow) (left : Unit {0}) (one : Option Found × Unit {0}) → group_place file held k group left ≡ Ok one
      → IsPlaceOf k (is_variable group) one.0
  unfolding group_place
  place_found k group left one is =
      let places = slice_index_or held.lists k [] in
      elim (chosen (is_variable group) (Ok (None, left)) (group_found file held k group places >>= λ found. Ok (Some found, left)) (Ok one) is) [
        | inl variable ↦
            let same : (None, left) ≡ one = ok_is _ _ variable.1 in
            subst (λ (y : Option Found × Unit {0}). IsPlaceOf k (is_variable group) y.0) same variable.0
        | inr other ↦
            let found = bind_ok (group_found file held k group places) (λ found. Ok (Some found, left)) one other.1 in
            let same : (Some found.0, left) ≡ one = ok_is _ _ found.2 in
            subst (λ (y : Option Found × Unit {0}). IsPlaceOf k (is_variable group) y.0) same (other.0, which_is k group places found.0 found.1)
      ]

  -- so each group that holds samples is found as it was read
  one_row : (all : List GroupRow) (k : ℕ) (group : GroupRow) (groups : List GroupRow) (one : Option Found) (rest : List Found)
      → IsPlaceOf k (is_variable group) one → slice_get all k ≡ Some group → AreRows all groups rest → AreRows all (group ∷ groups) (option_to_list one ++ rest)
  one_row all k group groups None rest is there same =
      same ∙ sym (ap (λ (b : Bool). map Some (if not b then group ∷ filter holds_samples groups else filter holds_samples groups)) is)
  one_row all k group groups (Some found) rest is there same =
      ap (λ (row : Option GroupRow). row ∷ map (row_in all) rest) (ap (slice_get all) is.1 ∙ there)
      ∙ ap (λ (rows : List (Option GroupRow)). Some group ∷ rows) same
      ∙ sym (ap (λ (b : Bool). map Some (if not b then group ∷ filter holds_samples groups else filter holds_samples groups)) is.0)

  all_rows : (all : List GroupRow) (k : ℕ) (groups : List GroupRow) (left : Unit {0}) (found : List Found × Unit {0})
      → ((i : ℕ) → slice_get groups i ≡ slice_get all (k + i)) → every (group_place file held) k groups left ≡ Ok found → AreRows all groups found.0
  unfolding every
  all_rows all k [] left found behind is =
      let same : ([], left) ≡ found = ok_is _ _ is in
      subst (λ (y : List Found × Unit {0}). AreRows all [] y.0) same refl
  all_rows all k (group ∷ groups) left found behind is =
      let first = bind_ok (group_place file held k group left)
      (λ one. every (group_place file held) (k + 1) groups one.1 >>= λ rest. Ok (option_to_list one.0 ++ rest.0, rest.1)) found is in
      let second = bind_ok (every (group_place file held) (k + 1) groups first.0.1)
      (λ rest. Ok (option_to_list first.0.0 ++ rest.0, rest.1)) found first.2 in
      let same : (option_to_list first.0.0 ++ second.0.0, second.0.1) ≡ found = ok_is _ _ second.2 in
      let here : k ≡ k + 0 = omega arith in
      let there : slice_get all k ≡ Some group = ap (slice_get all) here ∙ sym (behind 0) in
      let rest_behind : (i : ℕ) → slice_get groups i ≡ slice_get all (k + 1 + i) =
      λ i. let next : k + suc i ≡ k + 1 + i = omega arith in behind (suc i) ∙ ap (slice_get all) next in
      subst (λ (y : List Found × Unit {0}). AreRows all (group ∷ groups) y.0) same
      (one_row all k group groups first.0.0 second.0.0 (place_found k group left first.0 first.1) there
      (all_rows all (k + 1) groups first.0.1 second.0 rest_behind second.1))

-- data group by data group
abbrev pub AreDataRows : DataRow → DataFound → Type 0
AreDataRows row one = AreRows row.groups row.groups one.groups

module _ (file : List ℕ) where
  data_rows : (row : DataRow) (number : ℕ) (found : DataFound × ℕ) → data_found file row number ≡ Ok found → AreDataRows row found.0
  unfolding data_found data_at groups_found
  data_rows row number found is =
      let laid = bind_ok (layouts row) _ found is in
      let parts = bind_ok (data_parts file Dt row.content) _ found laid.2 in
      let lists = bind_ok (places_of (stream_of file parts.0) (stream_size parts.0) true row) _ found parts.2 in
      let next = bind_ok (counted lists.0 row.groups number) _ found lists.2 in
      let held : DataStream = record { parts = parts.0; groups = row.groups; lists = lists.0 } in
      let one_found = bind_ok (data_at file parts.0 row lists.0) _ found next.2 in
      let groups = bind_ok (groups_found file held) _ one_found.0 one_found.1 in
      let all = bind_ok (every (group_place file held) 0 row.groups tt) _ groups.0 groups.1 in
      let begins : (i : ℕ) → slice_get row.groups i ≡ slice_get row.groups (0 + i) = λ i. let same : i ≡ 0 + i = omega arith in ap (slice_get row.groups) same in
      let here : AreRows row.groups row.groups groups.0 =
      subst (AreRows row.groups row.groups) (ok_is _ _ all.2) (all_rows file held row.groups 0 row.groups tt all.0 begins all.1) in
      let made : DataFound = record { view = parts.0; lists = lists.0; groups = groups.0; strict = is_strict row (stream_size parts.0) lists.0 } in
      let same : made ≡ one_found.0 = ok_is _ _ groups.2 in
      let last : (one_found.0, next.0) ≡ found = ok_is _ _ one_found.2 in
      subst (λ (z : DataFound × ℕ). AreDataRows row z.0) last (subst (AreDataRows row) same here)

  every_rows : (k : ℕ) (rows : List DataRow) (number : ℕ) (found : List DataFound × ℕ) → every (data_place file) k rows number ≡ Ok found
      → AllZip AreDataRows rows found.0
  unfolding every
  every_rows k [] number found is =
      let same : ([], number) ≡ found = ok_is _ _ is in
      subst (λ (y : List DataFound × ℕ). AllZip AreDataRows [] y.0) same tt
  every_rows k (row ∷ rows) number found is =
      let first = bind_ok (data_place file k row number)
      (λ one. every (data_place file) (k + 1) rows one.1 >>= λ rest. Ok (option_to_list one.0 ++ rest.0, rest.1)) found is in
      let second = bind_ok (every (data_place file) (k + 1) rows first.0.1)
      (λ rest. Ok (option_to_list first.0.0 ++ rest.0, rest.1)) found first.2 in
      let one_found = bind_ok (data_found file row number) (λ found. Ok (Some found.0, found.1)) first.0 first.1 in
      let one : (Some one_found.0.0, one_found.0.1) ≡ first.0 = ok_is _ _ one_found.2 in
      let same : (option_to_list first.0.0 ++ second.0.0, second.0.1) ≡ found = ok_is _ _ second.2 in
      subst (λ (y : List DataFound × ℕ). AllZip AreDataRows (row ∷ rows) y.0) same
      (subst (λ (y : Option DataFound × ℕ). AllZip AreDataRows (row ∷ rows) (option_to_list y.0 ++ second.0.0)) one
      (data_rows row number one_found.0 one_found.1, every_rows (k + 1) rows first.0.1 second.0 second.1))

  pub whole_rows : (all : WholeFound) → whole_found file ≡ Ok all → AllZip AreDataRows all.tree.rows all.found
  unfolding whole_found all_found
  whole_rows all read =
      let ident = bind_ok (finalized file) _ all read in
      let data_tree = bind_ok (tree file) _ all ident.2 in
      let found = bind_ok (all_found file data_tree.0.rows) _ all data_tree.2 in
      let list = bind_ok (every (data_place file) 0 data_tree.0.rows 0) _ found.0 found.1 in
      subst (λ (z : WholeFound). AllZip AreDataRows z.tree.rows z.found) (ok_is _ all found.2)
      (subst (AllZip AreDataRows data_tree.0.rows) (ok_is _ _ list.2) (every_rows 0 data_tree.0.rows 0 list.0 list.1))

both_joined : {A B : Type 0} (g : A → B) (xs ys : List A) (us vs : List B) → map g xs ≡ us → map g ys ≡ vs → map g (xs ++ ys) ≡ us ++ vs
both_joined {A} {B} g xs ys us vs first second =
    map-append g xs ys ∙ ap (λ (front : List B). front ++ map g ys) first ∙ ap (λ (rest : List B). us ++ rest) second

pub first_is : {A : Type 0} (x y : A) (xs ys : List A) → ◌≡◌ {A = List A} (x ∷ xs) (y ∷ ys) → x ≡ y
first_is x y xs ys same = cc

pub rest_is : {A : Type 0} (x y : A) (xs ys : List A) → ◌≡◌ {A = List A} (x ∷ xs) (y ∷ ys) → xs ≡ ys
rest_is x y xs ys same = cc

-- what is seen of the groups of the measurement, data group by data group
module _ (file : List ℕ) {B : Type 0} (seen : Measure → B) (at : List GroupRow → DataFound → Found → List B)
    (each : (comment : Note) (all : List GroupRow) (parent : DataFound) (group : GroupRow) (one : Found) → slice_get all one.which ≡ Some group
    → seen (measure_of comment group (held_at file (located parent one))) ∷ [] ≡ at all parent one) where
  groups_seen : (comment : Note) (all : List GroupRow) (parent : DataFound) (rows : List GroupRow) (found : List Found)
      → map (row_in all) found ≡ map Some rows
      → map seen (paired comment rows (map (fetched file parent.view parent.lists) found)) ≡ flat_map (at all parent) found
  groups_seen comment all parent [] [] are = refl
  groups_seen comment all parent [] (one ∷ found) are =
      let wrong : ◌≡◌ {A = List (Option GroupRow)} (row_in all one ∷ map (row_in all) found) [] = are in cc
  groups_seen comment all parent (group ∷ rows) [] are =
      let wrong : ◌≡◌ {A = List (Option GroupRow)} [] (Some group ∷ map Some rows) = are in cc
  groups_seen comment all parent (group ∷ rows) (one ∷ found) are =
      let there = first_is (row_in all one) (Some group) (map (row_in all) found) (map Some rows) are in
      let behind = rest_is (row_in all one) (Some group) (map (row_in all) found) (map Some rows) are in
      ap (λ (more : List B). seen (measure_of comment group (held_at file (located parent one))) ∷ more) (groups_seen comment all parent rows found behind)
      ∙ ap (λ (front : List B). front ++ flat_map (at all parent) found) (each comment all parent group one there)

  module _ (whole : List DataRow → List DataFound → List B) (none : [] ≡ whole [] [])
      (more : (row : DataRow) (rows : List DataRow) (one : DataFound) (found : List DataFound)
      → flat_map (at row.groups one) one.groups ++ whole rows found ≡ whole (row ∷ rows) (one ∷ found)) where
    all_seen : (rows : List DataRow) (found : List DataFound) → AllZip AreDataRows rows found
        → map seen (measures rows (map (data_fetched file) found)) ≡ whole rows found
    all_seen [] [] are = none
    all_seen [] (one ∷ found) are = absurd are
    all_seen (row ∷ rows) [] are = absurd are
    all_seen (row ∷ rows) (one ∷ found) are =
        both_joined seen (data_measures row (data_fetched file one)) (measures rows (map (data_fetched file) found))
        (flat_map (at row.groups one) one.groups) (whole rows found)
        (groups_seen row.comment row.groups one (filter holds_samples row.groups) one.groups are.0) (all_seen rows found are.1)
        ∙ more row rows one found

    pub whole_seen : (all : WholeFound) → whole_found file ≡ Ok all → map seen (measured_from file all).groups ≡ whole all.tree.rows all.found
    whole_seen all read = all_seen all.tree.rows all.found (whole_rows file all read)

module _ (file : List ℕ) where
  -- what they hold
  pub groups_are : (all : WholeFound) → whole_found file ≡ Ok all → map contents_of (measured_from file all).groups ≡ map (held_at file) (groups_of all)
  groups_are =
      whole_seen file contents_of (λ rows parent one. held_at file (located parent one) ∷ []) (λ comment rows parent group one there. refl)
      (λ rows found. map (held_at file) (flat_map groups_in found)) refl
      (λ row rows one found.
      ap (λ (front : List Contents). front ++ map (held_at file) (flat_map groups_in found))
      (flat_map_single (λ (group : Found). held_at file (located one group)) one.groups ∙ sym (map-map (held_at file) (located one) one.groups))
      ∙ sym (map-append (held_at file) (groups_in one) (flat_map groups_in found)))

  -- and how they were read
  pub rows_are : (all : WholeFound) → whole_found file ≡ Ok all → map (λ (m : Measure). m.part.row) (measured_from file all).groups ≡ group_rows all
  rows_are =
      whole_seen file (λ (m : Measure). m.part.row) (λ rows parent one. option_to_list (slice_get rows one.which))
      (λ comment rows parent group one there. sym (ap option_to_list there))
      (λ rows found. flat_map rows_in (zip rows found)) refl (λ row rows one found. refl)

  pub as_many : (all : WholeFound) → whole_found file ≡ Ok all → length (groups_of all) ≡ length (measured_from file all).groups
  as_many all read =
      sym (length-map (groups_of all) (held_at file)) ∙ ap length (sym (groups_are all read)) ∙ length-map (measured_from file all).groups contents_of

  some_turned : {A B : Type 0} (v : A → B) (x : Option A) (y : B) → option_map v x ≡ Some y → (a : A) × (x ≡ Some a) × (v a ≡ y)
  some_turned v None y is = let wrong : ◌≡◌ {A = Option _} None (Some y) = is in cc
  some_turned v (Some a) y is = let same : Some (v a) ≡ Some y = is in (a, refl, cc)

  pub group_is : (all : WholeFound) (group : ℕ) (d : Measure) (place : Located) → whole_found file ≡ Ok all → slice_get (groups_of all) group ≡ Some place
      → contents_of (slice_index_or (measured_from file all).groups group d) ≡ held_at file place
  group_is all group d place read there =
      let groups = (measured_from file all).groups in
      let same : option_map contents_of (slice_get groups group) ≡ Some (held_at file place) =
      sym (slice_get-map contents_of groups group) ∙ ap (λ (xs : List Contents). slice_get xs group) (groups_are all read)
      ∙ slice_get-map (held_at file) (groups_of all) group ∙ ap (option_map (held_at file)) there in
      let one = some_turned contents_of (slice_get groups group) (held_at file place) same in
      ap contents_of (get_or_from_slice_get groups group one.0 d one.1) ∙ one.2

  pub row_is : (all : WholeFound) (group : ℕ) (d : Measure) (row : GroupRow) → whole_found file ≡ Ok all → slice_get (group_rows all) group ≡ Some row
      → row ≡ (slice_index_or (measured_from file all).groups group d).part.row
  row_is all group d row read there =
      let groups = (measured_from file all).groups in
      let seen = λ (m : Measure). m.part.row in
      let same : option_map seen (slice_get groups group) ≡ Some row =
      sym (slice_get-map seen groups group) ∙ ap (λ (rows : List GroupRow). slice_get rows group) (rows_are all read) ∙ there in
      let one = some_turned seen (slice_get groups group) row same in
      sym (ap seen (get_or_from_slice_get groups group one.0 d one.1) ∙ one.2)

  pub sample_is : (all : WholeFound) (group : ℕ) (d : Measure) (place : Located) (i : ℕ) → whole_found file ≡ Ok all
      → slice_get (groups_of all) group ≡ Some place
      → sample_of (slice_index_or (measured_from file all).groups group d) i ≡ sample_in file place i
  sample_is all group d place i read there =
      ap (λ (c : Contents). sample_at c.shape c.content c.streams i) (group_is all group d place read there)

  -- what is read is the measurement
  pub seen_ok : (all : WholeFound) → whole_found file ≡ Ok all → measurement file ≡ Ok (measured_from file all)
  seen_ok all read = measurement_seen file (Ok all) read

  pub seen_err : (halt : Halt ReadFault) → Halts read_refusal halt (whole_found file) → Halts read_refusal halt (measurement file)
  seen_err halt halted = measurement_seen file (Err halt) halted

  pub strict_fetched : (found : List DataFound) → list_all (λ (one : DataFound). one.strict) found
      ≡ list_all (λ (found : DataContents). found.strict) (map (data_fetched file) found)
  strict_fetched [] = refl
  strict_fetched (one ∷ found) = ap (λ (b : Bool). one.strict && b) (strict_fetched found)
