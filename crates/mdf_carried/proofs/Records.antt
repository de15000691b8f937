-- The records that a recording's blocks are read as by the layouts are the split of their data by the groups that stand in the
-- file, and each group has its own.
use Rattle.std.proofs.Common.{◌≡◌, ◌≢◌, ◌+◌, ◌-◌, ◌<◌, ◌≤◌, ℕ, zero, suc, true, false, List, [], ◌∷◌, ◌++◌, length, get_or, take, drop, map, refl, sym, ◌∙◌, ap, subst, inl, inr, arith, length-append, append-nil}
use Rattle.std.proofs.lemmas.Bool.{cases_eq, eq-eqb, ne_eqb, le-leb, lt-leb, leb-true, leb-false, cond-true, cond-false}
use Rattle.std.proofs.lemmas.List.{take_all}
use Rattle.std.proofs.lemmas.Option.{slice_get-get_or}
use Rattle.std.specs.Prelude.{Bool, nat_eq, nat_le, filter, slice_get, Some}
use Rattle.std.specs.List.{flat_map, AllByRecursion}
use Rattle.std.specs.Int.{to_le_bytes, w32}
use Rattle.mdf_format.specs.Number.{le_number}
use Rattle.mdf_data.specs.declared.known.Size.{Size}
use Rattle.mdf_data.specs.declared.known.Size.TheVariants as sizes
use Rattle.mdf_data.specs.declared.known.Known.{Known}
use Rattle.mdf_data.specs.Split.{Record, IsValue, IsBody, IsRecord, IsRecordSplit}
use Rattle.mdf_group.specs.declared.row.GroupRow.{GroupRow}
use Rattle.mdf_group.specs.declared.row.DataRow.{DataRow}
use Rattle.mdf_group.specs.Group.{is_variable}
use Rattle.mdf_vlsd.specs.Value.{value_bytes}
use Rattle.mdf_layout.specs.Layout.{Layout, record_size}
use Rattle.mdf_layout.specs.Behind.{first_id}
use Rattle.mdf_layout.specs.Read.{Piece, piece_body, piece_bytes, IsPiece, stream_of}
use Rattle.mdf_content.specs.Records.{size_of, known_of}
use Rattle.mdf_data.specs.Bodies.{is_of, bodies, joined}
use Rattle.mdf_tree.proofs.Numbers.{back32}
use Rattle.mdf_block.proofs.Cases.{two_ways}
use Rattle.mdf_carried.proofs.Numbers.{numbered_at}
use Rattle.mdf_carried.proofs.Rows.{all_values, IsRecorded, fronts_many, front_at, back_at, front_size, back_size}

-- the record of a piece, of which so many groups hold samples
abbrev pub record_of : ℕ → Piece → Record
record_of groups piece = record { which = piece.id - 1; bytes = piece_bytes groups piece }

-- a piece of group k, and the contents of those
abbrev pub is_own : ℕ → Piece → Bool
is_own k piece = nat_eq piece.id (k + 1)

abbrev pub own : ℕ → List Piece → List (List ℕ)
own k pieces = map (λ (piece : Piece). piece.content) (filter (is_own k) pieces)

-- a group of a list that is two
front_get : (xs ys : List GroupRow) (k : ℕ) (d : GroupRow) → k < length xs → get_or (xs ++ ys) k d ≡ get_or xs k d
front_get [] ys k d below = absurd (omega (arith, below))
front_get (x ∷ xs) ys zero d below = refl
front_get (x ∷ xs) ys (suc k) d below = front_get xs ys k d (omega (arith, below))

pub back_get : (xs ys : List GroupRow) (k : ℕ) (d : GroupRow) → length xs ≤ k → get_or (xs ++ ys) k d ≡ get_or ys (k - length xs) d
back_get [] ys k d past = let same : k ≡ k - 0 = omega arith in ap (λ (n : ℕ). get_or ys n d) same
back_get (x ∷ xs) ys zero d past = absurd (omega (arith, past))
back_get (x ∷ xs) ys (suc k) d past =
    let same : k - length xs ≡ suc k - suc (length xs) = omega arith in
    back_get xs ys k d (omega (arith, past)) ∙ ap (λ (n : ℕ). get_or ys n d) same

pub no_layout : Layout
no_layout = record { rows = []; data_bytes = 0; inval_bytes = 0 }

-- a list has an item below its length
first_of : (xs : List GroupRow) (k : ℕ) → k < length xs → GroupRow
first_of [] k below = absurd (omega (arith, below))
first_of (x ∷ xs) k below = x

-- a byte alone is its number
number_is : (n : ℕ) → le_number (n ∷ []) ≡ n
number_is n = omega arith

module _ (layouts : List Layout) (row : DataRow) (is : IsRecorded layouts row) where
  abbrev pub known : List Known
  known = map known_of row.groups

  abbrev count : ℕ
  count = length layouts

  pub groups_many : length row.groups ≡ count + all_values layouts
  groups_many = omega (arith, ap length is.groups_are, length-append is.front is.back, fronts_many is.at 0 is.front layouts is.fronts, is.many)

  ids_end : first_id layouts count ≡ count + 1 + all_values layouts
  ids_end = ap (λ (xs : List Layout). count + 1 + all_values xs) (take_all count layouts (omega arith))

  -- the size of a group's records
  front_sized : (k : ℕ) (d : GroupRow) (layout : Layout) → slice_get layouts k ≡ Some layout → k < count
      → size_of (get_or row.groups k d) ≡ sizes.Fixed (record_size layout)
  front_sized k d layout laid below =
      let within : k < length is.front = omega (arith, below, fronts_many is.at 0 is.front layouts is.fronts) in
      let group = get_or is.front k d in
      let here = front_at is.at 0 k is.front layouts group layout is.fronts (slice_get-get_or is.front k d within) laid in
      ap (λ (groups : List GroupRow). size_of (get_or groups k d)) is.groups_are
      ∙ ap size_of (front_get is.front is.back k d within)
      ∙ front_size is.at (0 + all_values (take k layouts)) group layout here

  back_sized : (k : ℕ) (d : GroupRow) → count ≤ k → k < length row.groups → size_of (get_or row.groups k d) ≡ sizes.Variable
  back_sized k d past below =
      let many = fronts_many is.at 0 is.front layouts is.fronts in
      let place = k - length is.front in
      let here = back_at is.at 0 place is.back d is.backs (omega (arith, past, below, many, groups_many, is.many)) in
      ap (λ (groups : List GroupRow). size_of (get_or groups k d)) is.groups_are
      ∙ ap size_of (back_get is.front is.back k d (omega (arith, past, many)))
      ∙ back_size (get_or is.back place d) here.1

  -- which groups hold samples
  pub front_holds : (k : ℕ) (d : GroupRow) → k < count → is_variable (get_or row.groups k d) ≡ false
  front_holds k d below =
      let within : k < length is.front = omega (arith, below, fronts_many is.at 0 is.front layouts is.fronts) in
      let group = get_or is.front k d in
      let layout = get_or layouts k no_layout in
      let here = front_at is.at 0 k is.front layouts group layout is.fronts (slice_get-get_or is.front k d within) (slice_get-get_or layouts k no_layout below) in
      ap (λ (groups : List GroupRow). is_variable (get_or groups k d)) is.groups_are
      ∙ ap is_variable (front_get is.front is.back k d within) ∙ here.samples

  pub back_holds : (k : ℕ) (d : GroupRow) → count ≤ k → k < length row.groups → is_variable (get_or row.groups k d) ≡ true
  back_holds k d past below =
      let many = fronts_many is.at 0 is.front layouts is.fronts in
      let here = back_at is.at 0 (k - length is.front) is.back d is.backs (omega (arith, past, below, many, groups_many, is.many)) in
      ap (λ (groups : List GroupRow). is_variable (get_or groups k d)) is.groups_are
      ∙ ap is_variable (back_get is.front is.back k d (omega (arith, past, many))) ∙ here.1

  -- a piece names a group
  pub which_below : (piece : Piece) → IsPiece layouts piece → piece.id - 1 < length row.groups
  which_below piece is_piece = omega (arith, is_piece.some, is_piece.known, ids_end, groups_many)

  -- a piece is a record of its group
  piece_is : (piece : Piece) → IsPiece layouts piece → IsRecord 1 known (record_of count piece)
  piece_is piece is_piece =
      let which = piece.id - 1 in
      let id_is : le_number (piece.id ∷ []) ≡ 1 + which = number_is piece.id ∙ omega (arith, is_piece.some) in
      let below : which < length row.groups = omega (arith, is_piece.some, is_piece.known, ids_end, groups_many) in
      let group = first_of row.groups which below in
      let size = size_of (get_or row.groups which group) in
      record {
        id = piece.id ∷ [];
        body = piece_body count piece;
        size = size;
        bytes_are = refl;
        long = refl;
        group = numbered_at row.groups (le_number (piece.id ∷ [])) which group is.numbered below id_is;
        body_is = elim (two_ways (nat_le piece.id count)) [
          | inl first ↦
              let within : which < count = omega (arith, is_piece.some, leb-true piece.id count first) in
              let layout = get_or layouts which no_layout in
              let laid = slice_get-get_or layouts which no_layout within in
              let body : piece_body count piece ≡ piece.content = cond-true (nat_le piece.id count) piece.content (value_bytes piece.content) first in
              subst (λ (s : Size). IsBody s (piece_body count piece)) (sym (front_sized which group layout laid within))
              (ap length body ∙ is_piece.whole layout laid)
          | inr later ↦
              let over : count < piece.id = leb-false piece.id count later in
              let short = is_piece.short over in
              let body : piece_body count piece ≡ value_bytes piece.content = cond-false (nat_le piece.id count) piece.content (value_bytes piece.content) later in
              subst (λ (s : Size). IsBody s (piece_body count piece)) (sym (back_sized which group (omega (arith, over)) below))
              (subst IsValue (sym body) (record {
                size = to_le_bytes w32 (length piece.content);
                value = piece.content;
                body_is = refl;
                four = refl;
                long = back32 (length piece.content) short;
              }))
        ];
      }

  each_record : (pieces : List Piece) → AllByRecursion (IsPiece layouts) pieces → AllByRecursion (IsRecord 1 known) (map (record_of count) pieces)
  each_record [] each = tt
  each_record (piece ∷ pieces) each = (piece_is piece each.0, each_record pieces each.1)

  bytes_are : (pieces : List Piece) → flat_map (piece_bytes count) pieces ≡ flat_map (λ (r : Record). r.bytes) (map (record_of count) pieces)
  bytes_are [] = refl
  bytes_are (piece ∷ pieces) = ap (λ (xs : List ℕ). piece_bytes count piece ++ xs) (bytes_are pieces)

  -- no record begins where nothing is left
  none_left : (r : Record) (more : List ℕ) → IsRecord 1 known r → [] ≡ r.bytes ++ more → ⊥
  none_left r more record_is same =
      let long : 0 ≡ length r.bytes + length more = ap length same ∙ length-append r.bytes more in
      let parts : length r.bytes ≡ length record_is.id + length record_is.body = ap length record_is.bytes_are ∙ length-append record_is.id record_is.body in
      omega (arith, long, parts, record_is.long)

  pub records_split : (pieces : List Piece) → AllByRecursion (IsPiece layouts) pieces
      → IsRecordSplit (flat_map (piece_bytes count) pieces) 1 known 0 (map (record_of count) pieces) []
  records_split pieces each = record {
    whole = bytes_are pieces ∙ sym (append-nil (flat_map (λ (r : Record). r.bytes) (map (record_of count) pieces)));
    each = each_record pieces each;
    none = none_left;
  }

-- the bodies of a group's records are the contents of its pieces
module _ (layouts : List Layout) where
  pub own_body : (piece : Piece) → nat_le piece.id (length layouts) ≡ true → drop 1 (piece_bytes (length layouts) piece) ≡ piece.content
  own_body piece first = cond-true (nat_le piece.id (length layouts)) piece.content (value_bytes piece.content) first

  value_body : (piece : Piece) → nat_le piece.id (length layouts) ≡ false → drop 1 (piece_bytes (length layouts) piece) ≡ value_bytes piece.content
  value_body piece later = cond-false (nat_le piece.id (length layouts)) piece.content (value_bytes piece.content) later

  abbrev records : List Piece → List Record
  records pieces = map (record_of (length layouts)) pieces

  pub own_bodies : (k : ℕ) (pieces : List Piece) → k < length layouts → AllByRecursion (IsPiece layouts) pieces → bodies 1 (records pieces) k ≡ own k pieces
  own_bodies k [] below each = refl
  own_bodies k (piece ∷ pieces) below each =
      let rest = own_bodies k pieces below each.1 in
      let r = record_of (length layouts) piece in
      let others = filter (is_of k) (records pieces) in
      let mine = filter (is_own k) pieces in
      let body : Record → List ℕ = λ s. drop 1 s.bytes in
      let content : Piece → List ℕ = λ p. p.content in
      elim (cases_eq piece.id (k + 1)) [
        | inl same ↦
            let which : r.which ≡ k = omega (arith, same) in
            let first : nat_le piece.id (length layouts) ≡ true = le-leb piece.id (length layouts) (omega (arith, same, below)) in
            ap (map body) (cond-true (nat_eq r.which k) (r ∷ others) others (eq-eqb r.which k which))
            ∙ ap (λ (x : List ℕ). x ∷ map body others) (own_body piece first)
            ∙ ap (λ (xs : List (List ℕ)). piece.content ∷ xs) rest
            ∙ ap (map content) (sym (cond-true (nat_eq piece.id (k + 1)) (piece ∷ mine) mine (eq-eqb piece.id (k + 1) same)))
        | inr other ↦
            let which : r.which ≢ k = λ same. other (omega (arith, same, each.0.some)) in
            ap (map body) (cond-false (nat_eq r.which k) (r ∷ others) others (ne_eqb r.which k which))
            ∙ rest
            ∙ ap (map content) (sym (cond-false (nat_eq piece.id (k + 1)) (piece ∷ mine) mine (ne_eqb piece.id (k + 1) other)))
      ]

  -- and those of a group of values are its stream
  pub value_bodies : (k : ℕ) (pieces : List Piece) → length layouts ≤ k → AllByRecursion (IsPiece layouts) pieces
      → joined (bodies 1 (records pieces) k) ≡ stream_of pieces (k + 1)
  value_bodies k [] past each = refl
  value_bodies k (piece ∷ pieces) past each =
      let rest = value_bodies k pieces past each.1 in
      let r = record_of (length layouts) piece in
      let others = filter (is_of k) (records pieces) in
      let body : Record → List ℕ = λ s. drop 1 s.bytes in
      elim (cases_eq piece.id (k + 1)) [
        | inl same ↦
            let which : r.which ≡ k = omega (arith, same) in
            let later : nat_le piece.id (length layouts) ≡ false = lt-leb piece.id (length layouts) (omega (arith, same, past)) in
            ap (λ (rs : List Record). joined (map body rs)) (cond-true (nat_eq r.which k) (r ∷ others) others (eq-eqb r.which k which))
            ∙ ap (λ (x : List ℕ). x ++ joined (map body others)) (value_body piece later)
            ∙ ap (λ (xs : List ℕ). value_bytes piece.content ++ xs) rest
            ∙ ap (λ (x : List ℕ). x ++ stream_of pieces (k + 1))
            (sym (cond-true (nat_eq piece.id (k + 1)) (value_bytes piece.content) [] (eq-eqb piece.id (k + 1) same)))
        | inr other ↦
            let which : r.which ≢ k = λ same. other (omega (arith, same, each.0.some)) in
            ap (λ (rs : List Record). joined (map body rs)) (cond-false (nat_eq r.which k) (r ∷ others) others (ne_eqb r.which k which))
            ∙ rest
            ∙ ap (λ (x : List ℕ). x ++ stream_of pieces (k + 1))
            (sym (cond-false (nat_eq piece.id (k + 1)) (value_bytes piece.content) [] (ne_eqb piece.id (k + 1) other)))
      ]

  -- a group's contents are as long as its records
  pub own_long : (k : ℕ) (layout : Layout) (pieces : List Piece) → slice_get layouts k ≡ Some layout → AllByRecursion (IsPiece layouts) pieces
      → AllByRecursion (λ (x : List ℕ). length x ≡ record_size layout) (own k pieces)
  own_long k layout [] laid each = tt
  own_long k layout (piece ∷ pieces) laid each =
      let rest = own_long k layout pieces laid each.1 in
      let mine = filter (is_own k) pieces in
      let content : Piece → List ℕ = λ p. p.content in
      let Long : List Piece → Type 0 = λ ps. AllByRecursion (λ (x : List ℕ). length x ≡ record_size layout) (map content ps) in
      elim (cases_eq piece.id (k + 1)) [
        | inl same ↦
            let which : piece.id - 1 ≡ k = omega (arith, same) in
            subst Long (sym (cond-true (nat_eq piece.id (k + 1)) (piece ∷ mine) mine (eq-eqb piece.id (k + 1) same)))
            (each.0.whole layout (ap (slice_get layouts) which ∙ laid), rest)
        | inr other ↦ subst Long (sym (cond-false (nat_eq piece.id (k + 1)) (piece ∷ mine) mine (ne_eqb piece.id (k + 1) other))) rest
      ]
