-- What a session counts of its records, and their bytes.
use Rattle.std.proofs.Common.{◌≡◌, ◌≢◌, ◌+◌, ◌*◌, ℕ, zero, suc, List, [], ◌∷◌, ◌++◌, length, get_or, drop, map, refl, sym, ◌∙◌, ap, subst, inl, inr, arith, length-append}
use Rattle.std.specs.Prelude.{true, nat_eq, filter, slice_get, Some}
use Rattle.std.specs.List.{flat_map, AllByRecursion, enumerate_from}
use Rattle.std.proofs.lemmas.Bool.{cond-true, cond-false, eqb-true, eqb-false, eq-eqb}
use Rattle.std.proofs.lemmas.List.{take_at}
use Rattle.std.proofs.Math.Nat.{mul-suc}
use Rattle.mdf_format.specs.Number.{bytes_at}
use Rattle.mdf_data.specs.declared.known.Size.{Size}
use Rattle.mdf_data.specs.declared.known.Size.TheVariants as sizes
use Rattle.mdf_data.specs.declared.known.Known.{Known}
use Rattle.mdf_data.specs.Split.{Record, IsAlone, IsSplitAlone, IsRecordSplit}
use Rattle.mdf_group.specs.declared.row.GroupRow.{GroupRow}
use Rattle.mdf_group.specs.declared.row.DataRow.{DataRow}
use Rattle.mdf_group.specs.Group.{is_variable}
use Rattle.mdf_content.specs.Records.{record_size, size_of, known_of}
use Rattle.mdf_content.specs.Contents.{taken}
use Rattle.mdf_data.specs.Bodies.{is_of, bodies}
use Rattle.mdf_block.proofs.Cases.{two_ways}
use Rattle.mdf_model.proofs.Channels.{HoldBodies}
use Rattle.mdf_block.proofs.Picks.{AreNumbered, numbered_both, all_there}
use Rattle.mdf_data.proofs.Bodies.{places_long}
use Rattle.mdf_session.specs.Counted.{counts_from, records_content}

abbrev bytes_of : List Record → List ℕ
bytes_of records = flat_map (λ (r : Record). r.bytes) records

-- there are as many places as bodies
pub places_count : (stream : List ℕ) (row : DataRow) (lists : List (List ℕ)) (records : List Record) → HoldBodies stream row lists records
    → (k : ℕ) (group : GroupRow) → slice_get row.groups k ≡ Some group → length (get_or lists k []) ≡ length (bodies row.id_size records k)
places_count stream row lists records hold k group there =
    places_long stream (size_of group) (get_or lists k []) (bodies row.id_size records k) (hold k group there)

-- the numbers of records
counts_each : (lists : List (List ℕ)) (id_size : ℕ) (records : List Record) (k : ℕ) (groups : List GroupRow)
    → AreNumbered (λ n group. length (get_or lists n []) ≡ length (bodies id_size records n)) k groups
    → counts_from lists k groups ≡ map (λ (group : ℕ × GroupRow). length (bodies id_size records group.0)) (enumerate_from k groups)
unfolding counts_from
counts_each lists id_size records k [] each = refl
counts_each lists id_size records k (group ∷ groups) each =
    ap (λ (n : ℕ). n ∷ counts_from lists (k + 1) groups) each.0
    ∙ ap (λ (ns : List ℕ). length (bodies id_size records k) ∷ ns) (counts_each lists id_size records (k + 1) groups each.1)

pub counts_are : (stream : List ℕ) (row : DataRow) (lists : List (List ℕ)) (records : List Record) → HoldBodies stream row lists records
    → counts_from lists 0 row.groups ≡ map (λ (group : ℕ × GroupRow). length (bodies row.id_size records group.0)) (enumerate_from 0 row.groups)
counts_are stream row lists records hold =
    counts_each lists row.id_size records 0 row.groups
    (numbered_both (λ n group. slice_get row.groups n ≡ Some group) (λ n group. slice_get row.groups n ≡ Some group)
    (λ n group. length (get_or lists n []) ≡ length (bodies row.id_size records n))
    (λ n group there _. places_count stream row lists records hold n group there) 0 row.groups (all_there row.groups) (all_there row.groups))

-- the stream is the records and what is left
alone_whole : (size : Size) (stream : List ℕ) (records : List Record) (rest : List ℕ) → IsSplitAlone 0 size stream records rest
    → stream ≡ bytes_of records ++ rest
alone_whole (sizes.Fixed zero) stream records rest split =
    sym split.rest_is ∙ ap (λ (rs : List Record). bytes_of rs ++ rest) (sym split.records_are)
alone_whole (sizes.Fixed (suc size)) stream records rest split = split.whole
alone_whole sizes.Variable stream records rest split =
    sym split.rest_is ∙ ap (λ (rs : List Record). bytes_of rs ++ rest) (sym split.records_are)

pub split_whole : (stream : List ℕ) (id_size : ℕ) (known : List Known) (records : List Record) (rest : List ℕ)
    → IsRecordSplit stream id_size known 0 records rest → stream ≡ bytes_of records ++ rest
split_whole stream zero [] records rest split =
    sym split.rest_is ∙ ap (λ (rs : List Record). bytes_of rs ++ rest) (sym split.records_are)
split_whole stream zero (group ∷ known) records rest split = alone_whole group.size stream records rest split
split_whole stream (suc id_size) known records rest split = split.whole

-- records without ids are as long as their number says
all_first : (size : ℕ) (records : List Record) → AllByRecursion (IsAlone size) records
    → length (bytes_of records) ≡ size * length (bodies 0 records 0)
all_first size [] each = let none : 0 ≡ size * 0 = omega arith in none
all_first size (r ∷ records) each =
    let passes : is_of 0 r ≡ true = eq-eqb r.which 0 each.0.which in
    let own : bodies 0 (r ∷ records) 0 ≡ drop 0 r.bytes ∷ bodies 0 records 0 =
    ap (λ (rs : List Record). map (λ (one : Record). drop 0 one.bytes) rs) (cond-true (is_of 0 r) (r ∷ filter (is_of 0) records) (filter (is_of 0) records) passes) in
    let rest = all_first size records each.1 in
    let more : size * suc (length (bodies 0 records 0)) ≡ size * length (bodies 0 records 0) + size = mul-suc size (length (bodies 0 records 0)) in
    let long : length (bytes_of (r ∷ records)) ≡ length r.bytes + length (bytes_of records) = length-append r.bytes (bytes_of records) in
    let sum : length (bytes_of (r ∷ records)) ≡ size * suc (length (bodies 0 records 0)) = omega (arith, long, more, rest, each.0.long) in
    sum ∙ ap (λ (xs : List (List ℕ)). size * length xs) (sym own)

no_bodies : (records : List Record) → records ≡ [] → length (bytes_of records) ≡ 0
no_bodies records none = ap (λ (rs : List Record). length (bytes_of rs)) none

alone_long : (size : ℕ) (stream : List ℕ) (records : List Record) (rest : List ℕ) → IsSplitAlone 0 (sizes.Fixed size) stream records rest
    → length (bytes_of records) ≡ size * length (bodies 0 records 0)
alone_long zero stream records rest split =
    let none : length (bytes_of records) ≡ 0 = no_bodies records split.records_are in omega (arith, none)
alone_long (suc size) stream records rest split = all_first (suc size) records split.each

-- so many bytes of the stream are records
module _ (row : DataRow) (stream : List ℕ) (lists : List (List ℕ)) (records : List Record) (rest : List ℕ)
    (hold : HoldBodies stream row lists records) (none : row.id_size ≡ 0)
    (split : IsRecordSplit stream row.id_size (map known_of row.groups) 0 records rest) where
  taken_long : (groups : List GroupRow) → row.groups ≡ groups → taken groups lists ≡ length (bytes_of records)
  taken_long [] are =
      let alone : IsRecordSplit stream 0 [] 0 records rest =
      subst (λ (gs : List GroupRow). IsRecordSplit stream 0 (map known_of gs) 0 records rest) are
      (subst (λ (n : ℕ). IsRecordSplit stream n (map known_of row.groups) 0 records rest) none split) in
      sym (no_bodies records alone.records_are)
  taken_long (group ∷ groups) are =
      let alone : IsSplitAlone 0 (size_of group) stream records rest =
      subst (λ (gs : List GroupRow). IsRecordSplit stream 0 (map known_of gs) 0 records rest) are
      (subst (λ (n : ℕ). IsRecordSplit stream n (map known_of row.groups) 0 records rest) none split) in
      let there : slice_get row.groups 0 ≡ Some group = ap (λ (gs : List GroupRow). slice_get gs 0) are in
      let long : length (get_or lists 0 []) ≡ length (bodies 0 records 0) =
      places_count stream row lists records hold 0 group there ∙ ap (λ (n : ℕ). length (bodies n records 0)) none in
      elim (two_ways (is_variable group)) [
        | inl values ↦
            let empty : IsSplitAlone 0 sizes.Variable stream records rest =
            subst (λ (size : Size). IsSplitAlone 0 size stream records rest) (cond-true (is_variable group) sizes.Variable (sizes.Fixed (record_size group)) values) alone in
            let no_places : length (get_or lists 0 []) ≡ 0 = long ∙ ap (λ (rs : List Record). length (bodies 0 rs 0)) empty.records_are in
            let nothing : record_size group * 0 ≡ 0 = omega arith in
            ap (λ (n : ℕ). record_size group * n) no_places ∙ nothing ∙ sym (no_bodies records empty.records_are)
        | inr samples ↦
            let fixed : IsSplitAlone 0 (sizes.Fixed (record_size group)) stream records rest =
            subst (λ (size : Size). IsSplitAlone 0 size stream records rest) (cond-false (is_variable group) sizes.Variable (sizes.Fixed (record_size group)) samples) alone in
            ap (λ (n : ℕ). record_size group * n) long ∙ sym (alone_long (record_size group) stream records rest fixed)
      ]

-- the records one behind the other
nothing_behind : (xs rest : List ℕ) → rest ≡ [] → (whole : List ℕ) → whole ≡ xs ++ rest → whole ≡ xs
nothing_behind xs rest none whole is = is ∙ ap (λ (ys : List ℕ). xs ++ ys) none ∙ append_none xs
  where
    append_none : (ys : List ℕ) → ys ++ [] ≡ ys
    append_none [] = refl
    append_none (y ∷ ys) = ap (λ (zs : List ℕ). y ∷ zs) (append_none ys)

pub content_is : (row : DataRow) (stream : List ℕ) (lists : List (List ℕ)) (records : List Record) (rest : List ℕ)
    → HoldBodies stream row lists records → IsRecordSplit stream row.id_size (map known_of row.groups) 0 records rest
    → (row.id_size ≢ 0 → rest ≡ []) → records_content stream row lists ≡ bytes_of records
content_is row stream lists records rest hold split whole =
    let is = split_whole stream row.id_size (map known_of row.groups) records rest split in
    elim (two_ways (nat_eq row.id_size 0)) [
      | inl zero_size ↦
          let none = eqb-true row.id_size 0 zero_size in
          let long = taken_long row stream lists records rest hold none split row.groups refl in
          cond-true (nat_eq row.id_size 0) (bytes_at (taken row.groups lists) stream 0) stream zero_size
          ∙ ap (λ (xs : List ℕ). bytes_at (taken row.groups lists) xs 0) is
          ∙ take_at (bytes_of records) rest (taken row.groups lists) (sym long)
      | inr some ↦
          cond-false (nat_eq row.id_size 0) (bytes_at (taken row.groups lists) stream 0) stream some
          ∙ nothing_behind (bytes_of records) rest (whole (eqb-false row.id_size 0 some)) stream is
    ]
