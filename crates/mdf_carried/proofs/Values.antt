-- The bodies of records are whole, and how many bytes those of values have.
use Rattle.std.proofs.Common.{◌≡◌, ◌+◌, ◌-◌, ◌<◌, ◌≤◌, ℕ, zero, suc, List, [], ◌∷◌, ◌++◌, length, get_or, take, drop, map, refl, sym, ◌∙◌, ap, subst, inl, inr, arith, append_assoc, length-append}
use Rattle.std.specs.Prelude.{filter, if◌then◌else◌, slice_get, Some}
use Rattle.std.specs.Option.{option_map}
use Rattle.std.specs.List.{AllByRecursion, enumerate_from}
use Rattle.std.proofs.lemmas.Bool.{cases_eq, cond-true, cond-false, eq-eqb, ne_eqb}
use Rattle.std.proofs.lemmas.List.{drop_at, take_at, take-append-drop}
use Rattle.std.proofs.lemmas.List.Sums.{sum_by-cons}
use Rattle.std.proofs.lemmas.Option.{slice_get_within, get_or_from_slice_get, slice_get-map}
use Rattle.mdf_format.specs.Number.{le_number, bytes_at}
use Rattle.mdf_data.specs.declared.known.Size.{Size}
use Rattle.mdf_data.specs.declared.known.Size.TheVariants as sizes
use Rattle.mdf_data.specs.declared.known.Known.{Known}
use Rattle.mdf_data.specs.Split.{Record, IsValue, IsBody, IsRecord, IsAlone, IsSplitAlone, IsRecordSplit}
use Rattle.mdf_data.proofs.Groups.{group_is}
use Rattle.mdf_group.specs.declared.row.GroupRow.{GroupRow}
use Rattle.mdf_group.specs.declared.row.DataRow.{DataRow}
use Rattle.mdf_group.specs.Group.{is_variable}
use Rattle.mdf_content.specs.Records.{record_size, size_of, known_of}
use Rattle.mdf_data.specs.Bodies.{is_of, bodies}
use Rattle.mdf_model.specs.Contents.{HasIdSize}
use Rattle.mdf_model.proofs.Alone.{at_most_one}
use Rattle.mdf_data.proofs.Bodies.{bodies_at, size_there}
use Rattle.mdf_block.proofs.Cases.{two_ways}
use Rattle.mdf_model.proofs.Channels.{HoldBodies}
use Rattle.mdf_block.proofs.Picks.{AreNumbered, numbered_both, all_there}
use Rattle.mdf_session.specs.Counted.{values_total, total_of, totals_from}
use Rattle.mdf_carried.specs.Recovered.{value_bytes}

-- what holds of the bodies of a group holds where it holds of each of its records
all_bodies : (P : List ℕ → Type 0) (Q : Record → Type 0) (id_size k : ℕ) → ((r : Record) → r.which ≡ k → Q r → P (drop id_size r.bytes))
    → (records : List Record) → AllByRecursion Q records → AllByRecursion P (bodies id_size records k)
all_bodies P Q id_size k one [] each = tt
all_bodies P Q id_size k one (r ∷ records) each =
    let rest = all_bodies P Q id_size k one records each.1 in
    let Bodies : List Record → Type 0 = λ rs. AllByRecursion P (map (λ (r : Record). drop id_size r.bytes) rs) in
    let kept = filter (is_of k) records in
    elim (cases_eq r.which k) [
      | inl same ↦ subst Bodies (sym (cond-true (is_of k r) (r ∷ kept) kept (eq-eqb r.which k same))) (one r same each.0, rest)
      | inr other ↦ subst Bodies (sym (cond-false (is_of k r) (r ∷ kept) kept (ne_eqb r.which k other))) rest
    ]

-- a record with an id has a whole body
body_whole : (id_size : ℕ) (known : List Known) (k : ℕ) (d : Known) (r : Record) → r.which ≡ k → IsRecord id_size known r
    → IsBody (get_or known k d).size (drop id_size r.bytes)
body_whole id_size known k d r same is =
    let size : (get_or known r.which d).size ≡ is.size = (group_is known (le_number is.id) (record { which = r.which; size = is.size }) is.group).1 d in
    let body : drop id_size r.bytes ≡ is.body = ap (drop id_size) is.bytes_are ∙ drop_at is.id is.body id_size is.long in
    subst (λ (n : ℕ). IsBody (get_or known n d).size (drop id_size r.bytes)) same
    (subst (λ (s : Size). IsBody s (drop id_size r.bytes)) (sym size) (subst (IsBody is.size) (sym body) is.body_is))

no_bodies : (P : List ℕ → Type 0) (id_size k : ℕ) (records : List Record) → records ≡ [] → AllByRecursion P (bodies id_size records k)
no_bodies P id_size k records none = subst (λ (rs : List Record). AllByRecursion P (bodies id_size rs k)) (sym none) tt

-- and so has one without
alone_whole : (size : Size) (stream : List ℕ) (records : List Record) (rest : List ℕ) → IsSplitAlone 0 size stream records rest
    → AllByRecursion (IsBody size) (bodies 0 records 0)
alone_whole (sizes.Fixed zero) stream records rest split = no_bodies (IsBody (sizes.Fixed zero)) 0 0 records split.records_are
alone_whole (sizes.Fixed (suc size)) stream records rest split =
    all_bodies (IsBody (sizes.Fixed (suc size))) (IsAlone (suc size)) 0 0 (λ r same alone. alone.long) records split.each
alone_whole sizes.Variable stream records rest split = no_bodies (IsBody sizes.Variable) 0 0 records split.records_are

whole_by : (stream : List ℕ) (id_size : ℕ) (known : List Known) (records : List Record) (rest : List ℕ) (k : ℕ) (d : Known)
    → IsRecordSplit stream id_size known 0 records rest → (id_size ≡ 0 → length known ≤ 1) → k < length known
    → AllByRecursion (IsBody (get_or known k d).size) (bodies id_size records k)
whole_by stream zero [] records rest k d split few below = absurd (omega (arith, below))
whole_by stream zero (first ∷ known) records rest zero d split few below = alone_whole first.size stream records rest split
whole_by stream zero (first ∷ known) records rest (suc k) d split few below =
    let one : length (first ∷ known) ≤ 1 = few refl in absurd (omega (arith, one, below))
whole_by stream (suc n) known records rest k d split few below =
    all_bodies (IsBody (get_or known k d).size) (IsRecord (suc n) known) (suc n) k (λ r same is. body_whole (suc n) known k d r same is) records split.each

known_long : (groups : List GroupRow) → length (map known_of groups) ≡ length groups
known_long [] = refl
known_long (group ∷ groups) = ap (λ (n : ℕ). suc n) (known_long groups)

-- the bodies of the records of each group are whole
pub bodies_whole : (row : DataRow) (stream : List ℕ) (records : List Record) (rest : List ℕ) → HasIdSize row
    → IsRecordSplit stream row.id_size (map known_of row.groups) 0 records rest → (k : ℕ) (group : GroupRow) → slice_get row.groups k ≡ Some group
    → AllByRecursion (IsBody (size_of group)) (bodies row.id_size records k)
bodies_whole row stream records rest has split k group there =
    let known = map known_of row.groups in
    let found : slice_get known k ≡ Some (known_of group) = slice_get-map known_of row.groups k ∙ ap (option_map known_of) there in
    let same : get_or known k (known_of group) ≡ known_of group = get_or_from_slice_get known k (known_of group) (known_of group) found in
    subst (λ (one : Known). AllByRecursion (IsBody one.size) (bodies row.id_size records k)) same
    (whole_by stream row.id_size known records rest k (known_of group) split
    (λ none. subst (λ (n : ℕ). n ≤ 1) (sym (known_long row.groups)) (at_most_one row has none)) (slice_get_within known k (known_of group) found))

-- the length that stands in front of a value
value_long : (stream : List ℕ) (n place : ℕ) → IsValue (bytes_at n stream place)
    → le_number (bytes_at 4 stream place) ≡ length (bytes_at n stream place) - 4
value_long stream n place is =
    let here = bytes_at n stream place in
    let behind = drop n (drop place stream) in
    let front : drop place stream ≡ is.size ++ (is.value ++ behind) =
    sym (take-append-drop n (drop place stream)) ∙ ap (λ (xs : List ℕ). xs ++ behind) is.body_is ∙ append_assoc is.size is.value behind in
    let four : bytes_at 4 stream place ≡ is.size = ap (take 4) front ∙ take_at is.size (is.value ++ behind) 4 is.four in
    let number : le_number (bytes_at 4 stream place) ≡ length is.value = ap le_number four ∙ is.long in
    let long : length here ≡ length is.size + length is.value = ap length is.body_is ∙ length-append is.size is.value in
    omega (arith, number, long, is.four)

values_long : (stream : List ℕ) (places : List ℕ) → AllByRecursion IsValue (bodies_at stream sizes.Variable places)
    → values_total stream places ≡ value_bytes (bodies_at stream sizes.Variable places)
values_long stream [] each = refl
values_long stream (place ∷ places) each =
    let rest = values_long stream places each.1 in
    let size = size_there stream sizes.Variable place in
    let first = value_long stream size place each.0 in
    let left = bodies_at stream sizes.Variable places in
    sum_by-cons (λ (at : ℕ). le_number (bytes_at 4 stream at)) place places
    ∙ ap (λ (n : ℕ). n + values_total stream places) first
    ∙ ap (λ (n : ℕ). (length (bytes_at size stream place) - 4) + n) rest
    ∙ sym (sum_by-cons (λ (value : List ℕ). length value - 4) (bytes_at size stream place) left)

-- how many bytes the values of each group have
totals_each : (stream : List ℕ) (lists : List (List ℕ)) (sized : ℕ × GroupRow → ℕ) (k : ℕ) (groups : List GroupRow)
    → AreNumbered (λ n group. total_of stream group (get_or lists n []) ≡ sized (n, group)) k groups
    → totals_from stream lists k groups ≡ map sized (enumerate_from k groups)
unfolding totals_from
totals_each stream lists sized k [] each = refl
totals_each stream lists sized k (group ∷ groups) each =
    ap (λ (n : ℕ). n ∷ totals_from stream lists (k + 1) groups) each.0
    ∙ ap (λ (ns : List ℕ). sized (k, group) ∷ ns) (totals_each stream lists sized (k + 1) groups each.1)

abbrev pub sized : DataRow → List Record → ℕ × GroupRow → ℕ
sized row records group = if is_variable group.1 then value_bytes (bodies row.id_size records group.0) else 0

module _ (row : DataRow) (stream : List ℕ) (lists : List (List ℕ)) (records : List Record) (rest : List ℕ) (has : HasIdSize row)
    (hold : HoldBodies stream row lists records) (split : IsRecordSplit stream row.id_size (map known_of row.groups) 0 records rest) where
  total_is : (k : ℕ) (group : GroupRow) → slice_get row.groups k ≡ Some group → total_of stream group (get_or lists k []) ≡ sized row records (k, group)
  total_is k group there = elim (two_ways (is_variable group)) [
    | inl values ↦
        let places = get_or lists k [] in
        let variable : size_of group ≡ sizes.Variable = cond-true (is_variable group) sizes.Variable (sizes.Fixed (record_size group)) values in
        let same : bodies_at stream sizes.Variable places ≡ bodies row.id_size records k =
        ap (λ (size : Size). bodies_at stream size places) (sym variable) ∙ hold k group there in
        let each : AllByRecursion IsValue (bodies row.id_size records k) =
        subst (λ (size : Size). AllByRecursion (IsBody size) (bodies row.id_size records k)) variable (bodies_whole row stream records rest has split k group there) in
        cond-true (is_variable group) (values_total stream places) 0 values
        ∙ values_long stream places (subst (AllByRecursion IsValue) (sym same) each)
        ∙ ap value_bytes same
        ∙ sym (cond-true (is_variable group) (value_bytes (bodies row.id_size records k)) 0 values)
    | inr samples ↦
        cond-false (is_variable group) (values_total stream (get_or lists k [])) 0 samples
        ∙ sym (cond-false (is_variable group) (value_bytes (bodies row.id_size records k)) 0 samples)
  ]

  pub totals_are : totals_from stream lists 0 row.groups ≡ map (sized row records) (enumerate_from 0 row.groups)
  totals_are =
      totals_each stream lists (sized row records) 0 row.groups
      (numbered_both (λ n group. slice_get row.groups n ≡ Some group) (λ n group. slice_get row.groups n ≡ Some group)
      (λ n group. total_of stream group (get_or lists n []) ≡ sized row records (n, group)) (λ n group there _. total_is n group there) 0 row.groups
      (all_there row.groups) (all_there row.groups))
