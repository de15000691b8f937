-- A measurement is strict exactly where its file is valid.
use Rattle.std.proofs.Common.{◌≡◌, ◌≢◌, ◌+◌, ◌≤◌, ℕ, zero, List, [], ◌∷◌, length, get_or, map, refl, sym, ◌∙◌, ap, subst, inl, inr, arith}
use Rattle.std.specs.Prelude.{Bool, true, false, not, nat_eq, ◌||◌, slice_get, IsTrue, ◌↔◌, Some, Ok}
use Rattle.std.specs.List.{AllByRecursion, AllZip, list_all, list_any}
use Rattle.std.proofs.lemmas.Bool.{cases_eq, eqb-true, eq-eqb, ne_eqb, and_parts, and_from, or_cases, or_left, or_right, or_parts, or_from, not-true, not_from_false}
use Rattle.mdf_block.proofs.Wholes.{chosen}
use Rattle.mdf_data.specs.declared.known.Size.TheVariants as sizes
use Rattle.mdf_stream.specs.Parts.{stream_of, stream_size}
use Rattle.mdf_data.specs.Split.{Record, IsRecordSplit}
use Rattle.mdf_stream.proofs.Joins.{length-stream}
use Rattle.mdf_format.specs.declared.kind.Kind.TheVariants.{Dt}
use Rattle.mdf_head.specs.declared.identity.Ident.{Ident}
use Rattle.mdf_group.specs.declared.row.GroupRow.{GroupRow}
use Rattle.mdf_group.specs.declared.row.DataRow.{DataRow}
use Rattle.mdf_group.specs.Group.{is_variable}
use Rattle.mdf_group.specs.Standing.{AreDistinct}
use Rattle.mdf_content.specs.declared.contents.DataContents.{DataContents}
use Rattle.mdf_content.specs.declared.found.DataFound.{DataFound}
use Rattle.mdf_content.specs.Records.{record_size, size_of, known_of}
use Rattle.mdf_content.specs.Found.{data_fetched}
use Rattle.mdf_content.specs.Contents.{taken, leaves_nothing, are_said, has_id, are_ids_apart}
use Rattle.mdf_model.specs.declared.whole.WholeFound.{WholeFound}
use Rattle.mdf_model.specs.Found.{whole_fetched}
use Rattle.mdf_model.specs.Measurement as model
use Rattle.mdf_model.specs.Measurement.{measures, Measured, measurement}
use Rattle.mdf_data.specs.Bodies.{bodies}
use Rattle.mdf_model.specs.Contents.{empties_in, IsDataSplit}
use Rattle.mdf_model.specs.InWords.{IsValidData, IsValidFile}
use Rattle.mdf_stream.proofs.Insides.{data_inside}
use Rattle.mdf_data.proofs.Bodies.{parted, places_long}
use Rattle.mdf_model.proofs.Alone.{at_most_one}
use Rattle.mdf_block.proofs.Picks.{AreNumbered, numbered_both, all_there}
use Rattle.mdf_model.proofs.Founds.{IsDataFound, data_split}
use Rattle.mdf_model.proofs.Onces.{split_unique, rows_unique}
use Rattle.mdf_model.proofs.Wholes.{IsWhole, all_of, measurement_of}

-- each group says what it has
abbrev Says : List (List ℕ) → ℕ → GroupRow → Type 0
Says lists k group = group.cycles ≡ length (get_or lists k [])

said_is : (lists : List (List ℕ)) (k : ℕ) (groups : List GroupRow) → are_said lists k groups ≡ true → AreNumbered (Says lists) k groups
unfolding are_said
said_is lists k [] is = tt
said_is lists k (group ∷ groups) is =
    let both = and_parts _ _ is in (eqb-true _ _ both.0, said_is lists (k + 1) groups both.1)

said_from : (lists : List (List ℕ)) (k : ℕ) (groups : List GroupRow) → AreNumbered (Says lists) k groups → are_said lists k groups ≡ true
unfolding are_said
said_from lists k [] all = refl
said_from lists k (group ∷ groups) all = and_from _ _ (eq-eqb _ _ all.0) (said_from lists (k + 1) groups all.1)

-- no two groups have one id
abbrev id_of : GroupRow → ℕ
id_of group = group.id

none_has : (id : ℕ) (groups : List GroupRow) → not (list_any (has_id id) groups) ≡ true → AllByRecursion (λ n. n ≢ id) (map id_of groups)
none_has id [] none = tt
none_has id (group ∷ groups) none =
    let parts = or_parts (has_id id group) (list_any (has_id id) groups) (not-true (has_id id group || list_any (has_id id) groups) none) in (
      (λ same. let wrong : true ≡ false = sym (eq-eqb group.id id same) ∙ parts.0 in cc),
      none_has id groups (not_from_false (list_any (has_id id) groups) parts.1),
    )

none_from : (id : ℕ) (groups : List GroupRow) → AllByRecursion (λ n. n ≢ id) (map id_of groups) → list_any (has_id id) groups ≡ false
none_from id [] all = refl
none_from id (group ∷ groups) all =
    or_from (has_id id group) (list_any (has_id id) groups) (ne_eqb group.id id all.0) (none_from id groups all.1)

apart_is : (groups : List GroupRow) → are_ids_apart groups ≡ true → AreDistinct (map id_of groups)
unfolding are_ids_apart AreDistinct
apart_is [] is = tt
apart_is (group ∷ groups) is =
    let both = and_parts _ _ is in (none_has group.id groups both.0, apart_is groups both.1)

apart_from : (groups : List GroupRow) → AreDistinct (map id_of groups) → are_ids_apart groups ≡ true
unfolding are_ids_apart AreDistinct
apart_from [] all = refl
apart_from (group ∷ groups) all =
    and_from _ _ (not_from_false (list_any (has_id group.id) groups) (none_from group.id groups all.0)) (apart_from groups all.1)

fixed_injective : (m n : ℕ) → sizes.Fixed m ≡ sizes.Fixed n → m ≡ n
fixed_injective m n same = cc

size_is : (group : GroupRow) (m : ℕ) → size_of group ≡ sizes.Fixed m → record_size group ≡ m
size_is group m is =
    elim (chosen (is_variable group) sizes.Variable (sizes.Fixed (record_size group)) (sizes.Fixed m) is) [
      | inl values ↦ let wrong : sizes.Variable ≡ sizes.Fixed m = values.1 in cc
      | inr samples ↦ fixed_injective (record_size group) m samples.1
    ]

rest_left : (stream : List ℕ) (groups : List GroupRow) (lists : List (List ℕ)) (records : List Record) (rest : List ℕ) → length groups ≤ 1
    → IsRecordSplit stream 0 (map known_of groups) (empties_in groups) records rest
    → ((k : ℕ) (group : GroupRow) → slice_get groups k ≡ Some group → length (get_or lists k []) ≡ length (bodies 0 records k))
    → length stream ≡ taken groups lists + length rest
rest_left stream [] lists records rest few split counts = let long : length rest ≡ length stream = ap length split.rest_is in omega (arith, long)
rest_left stream (group ∷ []) lists records rest few split counts =
    parted (size_of group) (record_size group) (length (get_or lists 0 [])) stream (empties_in (group ∷ [])) records rest
    (size_is group) (counts zero group refl) split
rest_left stream (group ∷ other ∷ groups) lists records rest few split counts = absurd (omega (arith, few))

empty_is : (xs : List ℕ) → length xs ≡ 0 → xs ≡ []
empty_is [] none = refl
empty_is (x ∷ xs) none = absurd (omega (arith, none))

module _ (f : List ℕ) (row : DataRow) (found : DataFound) (is : IsDataFound f row found) where
  abbrev stream : List ℕ
  stream = stream_of f found.view

  total_is : stream_size found.view ≡ length stream
  total_is = sym (length-stream f found.view (data_inside f Dt row.content found.view is.is_parts))

  count_is : (k : ℕ) (group : GroupRow) → slice_get row.groups k ≡ Some group → length (get_or found.lists k []) ≡ length (bodies row.id_size is.split.records k)
  count_is k group there = places_long stream (size_of group) (get_or found.lists k []) (bodies row.id_size is.split.records k) (is.hold k group there)

  -- without ids
  abbrev Lasts : ℕ → Type 0
  Lasts n = IsRecordSplit stream n (map known_of row.groups) (empties_in row.groups) is.split.records is.split.rest
      → ((k : ℕ) (group : GroupRow) → slice_get row.groups k ≡ Some group → length (get_or found.lists k []) ≡ length (bodies n is.split.records k))
      → length stream ≡ taken row.groups found.lists + length is.split.rest

  left_over : row.id_size ≡ 0 → stream_size found.view ≡ taken row.groups found.lists + length is.split.rest
  left_over none =
      let first : Lasts 0 = λ split counts. rest_left stream row.groups found.lists is.split.records is.split.rest (at_most_one row is.id_size none) split counts in
      total_is ∙ subst Lasts (sym none) first is.split.split count_is

  nothing_is : leaves_nothing row (stream_size found.view) found.lists ≡ true → is.split.rest ≡ []
  nothing_is nothing =
      elim (cases_eq row.id_size 0) [
        | inl none ↦ elim (or_cases _ _ nothing) [
          | inl some ↦ let wrong : true ≡ false = sym (eq-eqb row.id_size 0 none) ∙ not-true (nat_eq row.id_size 0) some in cc
          | inr all ↦
              let same : stream_size found.view ≡ taken row.groups found.lists = eqb-true _ _ all in
              empty_is is.split.rest (omega (arith, same, left_over none))
        ]
        | inr some ↦ is.split.whole some
      ]

  nothing_from : is.split.rest ≡ [] → leaves_nothing row (stream_size found.view) found.lists ≡ true
  nothing_from none =
      elim (cases_eq row.id_size 0) [
        | inl zero_size ↦
            let long : length is.split.rest ≡ 0 = ap length none in
            or_right (not (nat_eq row.id_size 0)) _ (eq-eqb _ _ (omega (arith, left_over zero_size, long)))
        | inr some ↦ or_left _ (nat_eq (stream_size found.view) (taken row.groups found.lists)) (not_from_false (nat_eq row.id_size 0) (ne_eqb row.id_size 0 some))
      ]

  abbrev Holds : List Record → ℕ → GroupRow → Type 0
  Holds records k group = group.cycles ≡ length (bodies row.id_size records k)

  holds_from : AreNumbered (Says found.lists) 0 row.groups → AreNumbered (Holds is.split.records) 0 row.groups
  holds_from says =
      numbered_both (λ k group. slice_get row.groups k ≡ Some group) (Says found.lists) (Holds is.split.records)
      (λ k group there said. said ∙ count_is k group there) 0 row.groups (all_there row.groups) says

  says_from : AreNumbered (Holds is.split.records) 0 row.groups → AreNumbered (Says found.lists) 0 row.groups
  says_from holds =
      numbered_both (λ k group. slice_get row.groups k ≡ Some group) (Holds is.split.records) (Says found.lists)
      (λ k group there held. held ∙ sym (count_is k group there)) 0 row.groups (all_there row.groups) holds

  data_valid : found.strict ≡ true → IsValidData f row
  data_valid strict =
      let tests = and_parts _ _ (sym is.strict ∙ strict) in
      let others = and_parts _ _ tests.1 in
      record {
        records = is.split.records;
        split = subst (IsDataSplit f row is.split.records) (nothing_is tests.0) (data_split f row found is);
        said = holds_from (said_is found.lists 0 row.groups others.0);
        ids = apart_is row.groups others.1;
      }

  data_strict : IsValidData f row → found.strict ≡ true
  data_strict valid =
      let same = split_unique f row is.split.records valid.records is.split.rest [] (data_split f row found is) valid.split in
      let holds = subst (λ (records : List Record). AreNumbered (Holds records) 0 row.groups) (sym same.0) valid.said in
      is.strict ∙ and_from _ _ (nothing_from same.1)
      (and_from _ _ (said_from found.lists 0 row.groups (says_from holds)) (apart_from row.groups valid.ids))

-- all data groups
abbrev strict_of : DataContents → Bool
strict_of found = found.strict

all_valid : (f : List ℕ) (rows : List DataRow) (found : List DataFound) → AllZip (IsDataFound f) rows found → list_all strict_of (map (data_fetched f) found) ≡ true
    → AllByRecursion (IsValidData f) rows
all_valid f [] [] all strict = tt
all_valid f [] (y ∷ found) all strict = absurd all
all_valid f (row ∷ rows) [] all strict = absurd all
all_valid f (row ∷ rows) (y ∷ found) all strict =
    let both = and_parts _ _ strict in (data_valid f row y all.0 both.0, all_valid f rows found all.1 both.1)

all_strict : (f : List ℕ) (rows : List DataRow) (found : List DataFound) → AllZip (IsDataFound f) rows found → AllByRecursion (IsValidData f) rows
    → list_all strict_of (map (data_fetched f) found) ≡ true
all_strict f [] [] all valid = refl
all_strict f [] (y ∷ found) all valid = absurd all
all_strict f (row ∷ rows) [] all valid = absurd all
all_strict f (row ∷ rows) (y ∷ found) all valid = and_from _ _ (data_strict f row y all.0 valid.0) (all_strict f rows found all.1 valid.1)

-- a file
whole_valid : (f : List ℕ) (all : WholeFound) → IsWhole f all → model.is_strict (whole_fetched f all) ≡ true → IsValidFile f
whole_valid f all is strict =
    let flags = and_parts _ _ strict in
    let more = and_parts _ _ flags.1 in
    record {
      standard = ap (λ (id : Ident). id.std_flags) is.says ∙ eqb-true all.ident.std_flags 0 flags.0;
      custom = ap (λ (id : Ident). id.custom_flags) is.says ∙ eqb-true all.ident.custom_flags 0 more.0;
      head = all.tree.head;
      history = all.tree.history;
      groups = measures all.tree.rows (map (data_fetched f) all.found);
      measurement = measurement_of f all is;
      each = all_valid f all.tree.rows all.found is.held more.1;
    }

whole_strict : (f : List ℕ) (all : WholeFound) → IsWhole f all → IsValidFile f → model.is_strict (whole_fetched f all) ≡ true
whole_strict f all is valid =
    let rows = rows_unique f valid.head all.tree.head valid.history all.tree.history valid.groups (measures all.tree.rows (map (data_fetched f) all.found))
    valid.measurement (measurement_of f all is) in
    let each = subst (AllByRecursion (IsValidData f)) rows valid.each in
    and_from _ _ (eq-eqb all.ident.std_flags 0 (sym (ap (λ (id : Ident). id.std_flags) is.says) ∙ valid.standard))
    (and_from _ _ (eq-eqb all.ident.custom_flags 0 (sym (ap (λ (id : Ident). id.custom_flags) is.says) ∙ valid.custom))
    (all_strict f all.tree.rows all.found is.held each))

pub strict_is_valid : (f : List ℕ) (m : Measured) → measurement f ≡ Ok m → IsTrue m.strict ↔ IsValidFile f
strict_is_valid f m is =
    let all = all_of f m is in
    let same : model.is_strict (whole_fetched f all.0) ≡ m.strict = ap (λ (y : Measured). y.strict) all.2 in
    (λ strict. whole_valid f all.0 all.1 (same ∙ strict), λ valid. sym same ∙ whole_strict f all.0 all.1 valid)
