-- The records that are found one by one are the split of the stream, and a refusal leaves the rest.
use Rattle.std.proofs.Common.{◌≡◌, ◌+◌, ◌-◌, ◌<◌, ◌≤◌, ℕ, zero, suc, List, [], ◌∷◌, ◌++◌, length, take, drop, map, Option, Some, None, Ok, Err, refl, sym, ◌∙◌, ap, subst, inl, inr, arith, append_assoc, length-append}
use Rattle.std.proofs.lemmas.Bool.{eqb-true, ltb-true, ltb-false}
use Rattle.std.proofs.lemmas.List.{length-take-le, length-drop, take-append-drop, take_at, drop_at, drop_all}
use Rattle.std.proofs.Math.Seq.{drop-drop}
use Rattle.std.specs.Prelude.{nat_eq, nat_lt, if◌then◌else◌}
use Rattle.std.specs.List.{flat_map, AllByRecursion}
use Rattle.mdf_format.specs.Number.{le_number, bytes_at}
use Rattle.mdf_block.specs.Refusal.{Refusal, UnknownId, Cut, Read}
use Rattle.mdf_block.proofs.Refusals.{bind_ok, bind_err}
use Rattle.mdf_block.proofs.Wholes.{chosen}
use Rattle.mdf_data.specs.declared.known.Size.{Size}
use Rattle.mdf_data.specs.declared.known.Size.TheVariants as sizes
use Rattle.mdf_data.specs.declared.known.Known.{Known}
use Rattle.mdf_data.specs.declared.known.Piece.{Piece}
use Rattle.mdf_data.specs.declared.known.Group.{Group}
use Rattle.mdf_data.specs.Record.{group_of, body_size, id_at, whole_piece, group_piece, piece_with, piece_at}
use Rattle.mdf_data.specs.Places.{pieces_after, pieces_from, pieces}
use Rattle.mdf_data.specs.Split.{Record, IsValue, IsBody, IsRecord, record_of, IsRefusedAt, IsRecordSplit}
use Rattle.mdf_stream.proofs.Joins.{bytes_at-add}
use Rattle.mdf_block.proofs.Cases.{ok_injective, some_injective}

err_injective : {A : Type 0} (x y : Refusal) → ◌≡◌ {A = Read A} (Err x) (Err y) → x ≡ y
err_injective x y same = cc

-- bytes that are there are so many
pub length-bytes : (n at : ℕ) (stream : List ℕ) → at + n ≤ length stream → length (bytes_at n stream at) ≡ n
length-bytes n at stream within = length-take-le n (drop at stream) (omega (arith, length-drop at stream, within))

-- the bytes from a place on, parted
pub parted : (n at : ℕ) (stream : List ℕ) → drop at stream ≡ bytes_at n stream at ++ drop (at + n) stream
parted n at stream = sym (take-append-drop n (drop at stream)) ∙ ap (λ (xs : List ℕ). bytes_at n stream at ++ xs) (drop-drop n at stream)

-- what begins at a place is the bytes there
pub begins_there : (at : ℕ) (stream xs more : List ℕ) → drop at stream ≡ xs ++ more → bytes_at (length xs) stream at ≡ xs
begins_there at stream xs more is = ap (take (length xs)) is ∙ take_at xs more (length xs) refl

pub follows_there : (at : ℕ) (stream xs more : List ℕ) → drop at stream ≡ xs ++ more → drop (at + length xs) stream ≡ more
follows_there at stream xs more is = sym (drop-drop (length xs) at stream) ∙ ap (drop (length xs)) is ∙ drop_at xs more (length xs) refl

-- a body that is whole
module _ (stream : List ℕ) (at rest : ℕ) (is_rest : at + rest ≡ length stream) where
  fixed_stands : (size n : ℕ) → body_size stream at rest (sizes.Fixed size) ≡ Some n → (n ≤ rest) × (length (bytes_at n stream at) ≡ size)
  fixed_stands size n found =
      elim (chosen (nat_lt rest size) None (Some size) (Some n) found) [
        | inl short ↦ let wrong : ◌≡◌ {A = Option ℕ} None (Some n) = short.1 in cc
        | inr whole ↦
            let same : size ≡ n = some_injective size n whole.1 in
            let room : size ≤ rest = ltb-false rest size whole.0 in
            (omega (arith, same, room), length-bytes n at stream (omega (arith, same, room, is_rest)) ∙ sym same)
      ]

  variable_stands : (n : ℕ) → body_size stream at rest sizes.Variable ≡ Some n → (n ≤ rest) × IsValue (bytes_at n stream at)
  variable_stands n found =
      let value = le_number (bytes_at 4 stream at) in
      elim (chosen (nat_lt rest 4) None (if nat_lt (rest - 4) value then None else Some (4 + value)) (Some n) found) [
        | inl short ↦ let wrong : ◌≡◌ {A = Option ℕ} None (Some n) = short.1 in cc
        | inr four ↦ elim (chosen (nat_lt (rest - 4) value) None (Some (4 + value)) (Some n) four.1) [
          | inl short ↦ let wrong : ◌≡◌ {A = Option ℕ} None (Some n) = short.1 in cc
          | inr whole ↦
              let same : 4 + value ≡ n = some_injective (4 + value) n whole.1 in
              let first : 4 ≤ rest = ltb-false rest 4 four.0 in
              let room : value ≤ rest - 4 = ltb-false (rest - 4) value whole.0 in (
                omega (arith, same, first, room),
                record {
                  size = bytes_at 4 stream at;
                  value = bytes_at value stream (at + 4);
                  body_is = ap (λ (count : ℕ). bytes_at count stream at) (sym same) ∙ bytes_at-add 4 value stream at;
                  four = length-bytes 4 at stream (omega (arith, first, is_rest));
                  long = sym (length-bytes value (at + 4) stream (omega (arith, first, room, is_rest)));
                },
              )
        ]
      ]

  body_stands : (size : Size) (n : ℕ) → body_size stream at rest size ≡ Some n → (n ≤ rest) × IsBody size (bytes_at n stream at)
  body_stands (sizes.Fixed size) n found = fixed_stands size n found
  body_stands sizes.Variable n found = variable_stands n found

  -- where none is whole, none begins
  no_fixed : (size : ℕ) (body more : List ℕ) → length body ≡ size → drop at stream ≡ body ++ more
      → body_size stream at rest (sizes.Fixed size) ≡ None → ⊥
  no_fixed size body more long is found =
      let left : length (drop at stream) ≡ length body + length more = ap length is ∙ length-append body more in
      elim (chosen (nat_lt rest size) None (Some size) None found) [
        | inl short ↦ omega (arith, ltb-true rest size short.0, left, length-drop at stream, is_rest, long)
        | inr whole ↦ let wrong : ◌≡◌ {A = Option ℕ} (Some size) None = whole.1 in cc
      ]

  no_variable : (body more : List ℕ) → IsValue body → drop at stream ≡ body ++ more → body_size stream at rest sizes.Variable ≡ None → ⊥
  no_variable body more is_value is found =
      let value = le_number (bytes_at 4 stream at) in
      let left : length (drop at stream) ≡ length body + length more = ap length is ∙ length-append body more in
      let parts : length body ≡ length is_value.size + length is_value.value = ap length is_value.body_is ∙ length-append is_value.size is_value.value in
      let front : drop at stream ≡ is_value.size ++ (is_value.value ++ more) =
      is ∙ ap (λ (xs : List ℕ). xs ++ more) is_value.body_is ∙ append_assoc is_value.size is_value.value more in
      let number : value ≡ length is_value.value =
      ap (λ (count : ℕ). le_number (bytes_at count stream at)) (sym is_value.four)
      ∙ ap le_number (begins_there at stream is_value.size (is_value.value ++ more) front) ∙ is_value.long in
      elim (chosen (nat_lt rest 4) None (if nat_lt (rest - 4) value then None else Some (4 + value)) None found) [
        | inl short ↦ omega (arith, ltb-true rest 4 short.0, left, parts, length-drop at stream, is_rest, is_value.four)
        | inr four ↦ elim (chosen (nat_lt (rest - 4) value) None (Some (4 + value)) None four.1) [
          | inl short ↦ omega (arith, ltb-true (rest - 4) value short.0, ltb-false rest 4 four.0, left, parts, length-drop at stream, is_rest, is_value.four, number)
          | inr whole ↦ let wrong : ◌≡◌ {A = Option ℕ} (Some (4 + value)) None = whole.1 in cc
        ]
      ]

  no_body : (size : Size) (body more : List ℕ) → IsBody size body → drop at stream ≡ body ++ more → body_size stream at rest size ≡ None → ⊥
  no_body (sizes.Fixed size) body more long is found = no_fixed size body more long is found
  no_body sizes.Variable body more is_value is found = no_variable body more is_value is found

-- no whole record begins at the place
abbrev NoneBegins : List ℕ → ℕ → List Known → ℕ → Type 0
NoneBegins stream id_size known at = (r : Record) (more : List ℕ) → IsRecord id_size known r → drop at stream ≡ r.bytes ++ more → ⊥

module _ (stream : List ℕ) (id_size : ℕ) (known : List Known) (at : ℕ) (within : at ≤ length stream) where
  -- a record that begins at the place and is whole
  record Stands (piece : Piece) : Type 0 where
    begins : piece.at ≡ at
    ends : at + piece.len ≤ length stream
    long : id_size ≤ piece.len
    whole : IsRecord id_size known (record_of stream piece)

  sized_stands : (group : Group) (size : Option ℕ) (piece : Piece) → id_size ≤ length stream - at
      → group_of known (le_number (bytes_at id_size stream at)) 0 ≡ Some group
      → body_size stream (at + id_size) (length stream - at - id_size) group.size ≡ size → whole_piece group.which at id_size size ≡ Ok piece → Stands piece
  sized_stands group None piece room is_group is_size found = let wrong : ◌≡◌ {A = Read Piece} (Err (Cut at)) (Ok piece) = found in cc
  sized_stands group (Some n) piece room is_group is_size found =
      let same : record { which = group.which; at = at; len = id_size + n } ≡ piece = ok_injective _ _ found in
      let body = body_stands stream (at + id_size) (length stream - at - id_size) (omega (arith, within, room)) group.size n is_size in
      subst Stands same (record {
        begins = refl;
        ends = omega (arith, body.0, within, room);
        long = omega arith;
        whole = record {
          id = bytes_at id_size stream at;
          body = bytes_at n stream (at + id_size);
          size = group.size;
          bytes_are = bytes_at-add id_size n stream at;
          long = length-bytes id_size at stream (omega (arith, within, room));
          group = is_group;
          body_is = body.1;
        };
      })

  group_stands : (id : ℕ) (group : Option Group) (piece : Piece) → id_size ≤ length stream - at → id ≡ le_number (bytes_at id_size stream at)
      → group_of known id 0 ≡ group → group_piece stream id_size at (length stream - at) id group ≡ Ok piece → Stands piece
  unfolding group_piece
  group_stands id None piece room is_id is_group found = let wrong : ◌≡◌ {A = Read Piece} (Err (UnknownId id at)) (Ok piece) = found in cc
  group_stands id (Some group) piece room is_id is_group found =
      sized_stands group _ piece room (ap (λ (n : ℕ). group_of known n 0) (sym is_id) ∙ is_group) refl found

  -- the id at the place
  record IsIdHere (id : ℕ) : Type 0 where
    room : id_size ≤ length stream - at
    is : id ≡ le_number (bytes_at id_size stream at)

  id_here : (id : ℕ) → id_at stream id_size at (length stream - at) ≡ Ok (Some id) → IsIdHere id
  unfolding id_at
  id_here id found =
      let here = le_number (bytes_at id_size stream at) in
      elim (chosen (nat_eq (length stream - at) 0) (Ok None) (if nat_lt (length stream - at) id_size then Err (Cut at) else Ok (Some here)) (Ok (Some id)) found) [
        | inl none ↦ let wrong : ◌≡◌ {A = Read (Option ℕ)} (Ok None) (Ok (Some id)) = none.1 in cc
        | inr some ↦ elim (chosen (nat_lt (length stream - at) id_size) (Err (Cut at)) (Ok (Some here)) (Ok (Some id)) some.1) [
          | inl short ↦ let wrong : ◌≡◌ {A = Read (Option ℕ)} (Err (Cut at)) (Ok (Some id)) = short.1 in cc
          | inr whole ↦
              let same : Some here ≡ Some id = ok_injective {A = Option ℕ} _ _ whole.1 in
              record { room = ltb-false (length stream - at) id_size whole.0; is = sym (some_injective here id same) }
        ]
      ]

  with_stands : (id : Option ℕ) (piece : Piece) → id_at stream id_size at (length stream - at) ≡ Ok id
      → piece_with stream id_size known at (length stream - at) id ≡ Ok (Some piece) → Stands piece
  with_stands None piece is_id found = let wrong : ◌≡◌ {A = Read (Option Piece)} (Ok None) (Ok (Some piece)) = found in cc
  with_stands (Some id) piece is_id found =
      let first = bind_ok (group_piece stream id_size at (length stream - at) id (group_of known id 0)) (λ p. Ok (Some p)) (Some piece) found in
      let same : Some first.0 ≡ Some piece = ok_injective {A = Option Piece} _ _ first.2 in
      let here = id_here id is_id in
      subst Stands (some_injective first.0 piece same) (group_stands id _ first.0 here.room here.is refl first.1)

  piece_stands : (piece : Piece) → piece_at stream id_size known at (length stream - at) ≡ Ok (Some piece) → Stands piece
  unfolding piece_at
  piece_stands piece found =
      let first = bind_ok (id_at stream id_size at (length stream - at)) (piece_with stream id_size known at (length stream - at)) (Some piece) found in
      with_stands first.0 piece first.1 first.2

  -- at the end nothing is left
  none_with : (id : Option ℕ) → id_at stream id_size at (length stream - at) ≡ Ok id → piece_with stream id_size known at (length stream - at) id ≡ Ok None
      → id_at stream id_size at (length stream - at) ≡ Ok None
  none_with None is_id found = is_id
  none_with (Some id) is_id found =
      let first = bind_ok (group_piece stream id_size at (length stream - at) id (group_of known id 0)) (λ p. Ok (Some p)) None found in
      let wrong : ◌≡◌ {A = Read (Option Piece)} (Ok (Some first.0)) (Ok None) = first.2 in cc

  id_none : id_at stream id_size at (length stream - at) ≡ Ok None → length stream ≤ at
  unfolding id_at
  id_none found =
      let here = le_number (bytes_at id_size stream at) in
      elim (chosen (nat_eq (length stream - at) 0) (Ok None) (if nat_lt (length stream - at) id_size then Err (Cut at) else Ok (Some here)) (Ok None) found) [
        | inl none ↦ omega (arith, eqb-true (length stream - at) 0 none.0)
        | inr some ↦ elim (chosen (nat_lt (length stream - at) id_size) (Err (Cut at)) (Ok (Some here)) (Ok None) some.1) [
          | inl short ↦ let wrong : ◌≡◌ {A = Read (Option ℕ)} (Err (Cut at)) (Ok None) = short.1 in cc
          | inr whole ↦ let wrong : ◌≡◌ {A = Read (Option ℕ)} (Ok (Some here)) (Ok None) = whole.1 in cc
        ]
      ]

  piece_none : piece_at stream id_size known at (length stream - at) ≡ Ok None → length stream ≤ at
  unfolding piece_at
  piece_none found =
      let first = bind_ok (id_at stream id_size at (length stream - at)) (piece_with stream id_size known at (length stream - at)) None found in
      id_none (none_with first.0 first.1 first.2)

  -- where the record is refused, none begins
  sized_refused : (id : ℕ) (group : Group) (size : Option ℕ) (refusal : Refusal) → IsIdHere id → group_of known id 0 ≡ Some group
      → body_size stream (at + id_size) (length stream - at - id_size) group.size ≡ size → whole_piece group.which at id_size size ≡ Err refusal
      → IsRefusedAt refusal at × NoneBegins stream id_size known at
  sized_refused id group (Some n) refusal here is_group is_size found =
      let wrong : ◌≡◌ {A = Read Piece} (Ok (record { which = group.which; at = at; len = id_size + n })) (Err refusal) = found in cc
  sized_refused id group None refusal here is_group is_size found =
      let same : Cut at ≡ refusal = err_injective {A = Piece} _ _ found in (
        subst (λ (r : Refusal). IsRefusedAt r at) same refl,
        λ r more is_record is.
            let front : drop at stream ≡ is_record.id ++ (is_record.body ++ more) =
            is ∙ ap (λ (xs : List ℕ). xs ++ more) is_record.bytes_are ∙ append_assoc is_record.id is_record.body more in
            let ids : bytes_at id_size stream at ≡ is_record.id =
            ap (λ (n : ℕ). bytes_at n stream at) (sym is_record.long) ∙ begins_there at stream is_record.id (is_record.body ++ more) front in
            let behind : drop (at + id_size) stream ≡ is_record.body ++ more =
            ap (λ (n : ℕ). drop (at + n) stream) (sym is_record.long) ∙ follows_there at stream is_record.id (is_record.body ++ more) front in
            let groups : Some group ≡ Some (record { which = r.which; size = is_record.size }) =
            sym is_group ∙ ap (λ (n : ℕ). group_of known n 0) (here.is ∙ ap le_number ids) ∙ is_record.group in
            let size_same : group.size ≡ is_record.size = ap (λ (g : Group). g.size) (some_injective group (record { which = r.which; size = is_record.size }) groups) in
            no_body stream (at + id_size) (length stream - at - id_size) (omega (arith, within, here.room)) group.size is_record.body more
            (subst (λ (s : Size). IsBody s is_record.body) (sym size_same) is_record.body_is) behind is_size,
      )

  group_refused : (id : ℕ) (group : Option Group) (refusal : Refusal) → IsIdHere id → group_of known id 0 ≡ group
      → group_piece stream id_size at (length stream - at) id group ≡ Err refusal → IsRefusedAt refusal at × NoneBegins stream id_size known at
  unfolding group_piece
  group_refused id None refusal here is_group found =
      let same : UnknownId id at ≡ refusal = err_injective {A = Piece} _ _ found in (
        subst (λ (r : Refusal). IsRefusedAt r at) same refl,
        λ r more is_record is.
            let front : drop at stream ≡ is_record.id ++ (is_record.body ++ more) =
            is ∙ ap (λ (xs : List ℕ). xs ++ more) is_record.bytes_are ∙ append_assoc is_record.id is_record.body more in
            let ids : bytes_at id_size stream at ≡ is_record.id =
            ap (λ (n : ℕ). bytes_at n stream at) (sym is_record.long) ∙ begins_there at stream is_record.id (is_record.body ++ more) front in
            let wrong : ◌≡◌ {A = Option Group} None (Some (record { which = r.which; size = is_record.size })) =
            sym is_group ∙ ap (λ (n : ℕ). group_of known n 0) (here.is ∙ ap le_number ids) ∙ is_record.group in cc,
      )
  group_refused id (Some group) refusal here is_group found = sized_refused id group _ refusal here is_group refl found

  id_refused : (refusal : Refusal) → id_at stream id_size at (length stream - at) ≡ Err refusal → IsRefusedAt refusal at × NoneBegins stream id_size known at
  unfolding id_at
  id_refused refusal found =
      let here = le_number (bytes_at id_size stream at) in
      elim (chosen (nat_eq (length stream - at) 0) (Ok None) (if nat_lt (length stream - at) id_size then Err (Cut at) else Ok (Some here)) (Err refusal) found) [
        | inl none ↦ let wrong : ◌≡◌ {A = Read (Option ℕ)} (Ok None) (Err refusal) = none.1 in cc
        | inr some ↦ elim (chosen (nat_lt (length stream - at) id_size) (Err (Cut at)) (Ok (Some here)) (Err refusal) some.1) [
          | inl short ↦
              let same : Cut at ≡ refusal = err_injective {A = Option ℕ} _ _ short.1 in (
                subst (λ (r : Refusal). IsRefusedAt r at) same refl,
                λ r more is_record is.
                    let left : length (drop at stream) ≡ length r.bytes + length more = ap length is ∙ length-append r.bytes more in
                    let parts : length r.bytes ≡ length is_record.id + length is_record.body =
                    ap length is_record.bytes_are ∙ length-append is_record.id is_record.body in
                    omega (arith, ltb-true (length stream - at) id_size short.0, left, parts, length-drop at stream, is_record.long),
              )
          | inr whole ↦ let wrong : ◌≡◌ {A = Read (Option ℕ)} (Ok (Some here)) (Err refusal) = whole.1 in cc
        ]
      ]

  with_refused : (id : Option ℕ) (refusal : Refusal) → id_at stream id_size at (length stream - at) ≡ Ok id
      → piece_with stream id_size known at (length stream - at) id ≡ Err refusal → IsRefusedAt refusal at × NoneBegins stream id_size known at
  with_refused None refusal is_id found = let wrong : ◌≡◌ {A = Read (Option Piece)} (Ok None) (Err refusal) = found in cc
  with_refused (Some id) refusal is_id found =
      elim (bind_err (group_piece stream id_size at (length stream - at) id (group_of known id 0)) (λ p. Ok (Some p)) refusal found) [
        | inl refused ↦ group_refused id _ refusal (id_here id is_id) refl refused
        | inr later ↦ let wrong : ◌≡◌ {A = Read (Option Piece)} (Ok (Some later.0)) (Err refusal) = later.2 in cc
      ]

  piece_refused : (refusal : Refusal) → piece_at stream id_size known at (length stream - at) ≡ Err refusal → IsRefusedAt refusal at × NoneBegins stream id_size known at
  unfolding piece_at
  piece_refused refusal found =
      elim (bind_err (id_at stream id_size at (length stream - at)) (piece_with stream id_size known at (length stream - at)) refusal found) [
        | inl refused ↦ id_refused refusal refused
        | inr later ↦ with_refused later.0 refusal later.1 later.2
      ]

-- the records from a place on, and what is left behind them
record IsGathered (stream : List ℕ) (id_size : ℕ) (known : List Known) (at : ℕ) (records : List Record) (place : ℕ) : Type 0 where
  ends : place ≤ length stream
  bytes : drop at stream ≡ flat_map (λ (r : Record). r.bytes) records ++ drop place stream
  each : AllByRecursion (IsRecord id_size known) records

gathered_more : (stream : List ℕ) (id_size : ℕ) (known : List Known) (at : ℕ) (within : at ≤ length stream) (piece : Piece) (records : List Record) (place : ℕ)
    → Stands stream id_size known at within piece → IsGathered stream id_size known (piece.at + piece.len) records place
    → IsGathered stream id_size known at (record_of stream piece ∷ records) place
gathered_more stream id_size known at within piece records place stands rest = record {
  ends = rest.ends;
  bytes =
      parted piece.len at stream
      ∙ ap (λ (p : ℕ). bytes_at piece.len stream p ++ drop (p + piece.len) stream) (sym stands.begins)
      ∙ ap (λ (xs : List ℕ). bytes_at piece.len stream piece.at ++ xs) rest.bytes
      ∙ sym (append_assoc (bytes_at piece.len stream piece.at) (flat_map (λ (r : Record). r.bytes) records) (drop place stream));
  each = (stands.whole, rest.each);
}

-- a refusal, with the records before it
record IsStopped (stream : List ℕ) (id_size : ℕ) (known : List Known) (at : ℕ) (refusal : Refusal) : Type 0 where
  records : List Record
  place : ℕ
  gathered : IsGathered stream id_size known at records place
  refused : IsRefusedAt refusal place
  none : NoneBegins stream id_size known place

module _ (stream : List ℕ) (id_size : ℕ) (known : List Known) (some : 1 ≤ id_size) where
  -- how many records may still come falls with each
  falls : (most at : ℕ) (within : at ≤ length stream) (piece : Piece) → Stands stream id_size known at within piece → length stream - at < suc most
      → length stream - (piece.at + piece.len) < most
  falls most at within piece stands less = omega (arith, some, less, within, stands.begins, stands.ends, stands.long)

  behind : (at : ℕ) (within : at ≤ length stream) (piece : Piece) → Stands stream id_size known at within piece → piece.at + piece.len ≤ length stream
  behind at within piece stands = omega (arith, stands.begins, stands.ends)

  abbrev Found : ℕ → Type 0
  Found most =
      (at : ℕ) (found : List Piece) → at ≤ length stream → length stream - at < most
      → pieces_from stream (length stream) id_size known most at ≡ Ok found
      → IsGathered stream id_size known at (map (record_of stream) found) (length stream)

  found_after : (most at : ℕ) (found : List Piece) (next : Option Piece) → at ≤ length stream → length stream - at < suc most
      → piece_at stream id_size known at (length stream - at) ≡ Ok next
      → pieces_after (pieces_from stream (length stream) id_size known most) next ≡ Ok found → Found most
      → IsGathered stream id_size known at (map (record_of stream) found) (length stream)
  found_after most at found None within less is_next is deeper =
      let same : [] ≡ found = ok_injective {A = List Piece} [] found is in
      let last : at ≡ length stream = omega (arith, within, piece_none stream id_size known at within is_next) in
      subst (λ (pieces : List Piece). IsGathered stream id_size known at (map (record_of stream) pieces) (length stream)) same
      (record { ends = omega arith; bytes = ap (λ (p : ℕ). drop p stream) last; each = tt })
  found_after most at found (Some piece) within less is_next is deeper =
      let first = bind_ok (pieces_from stream (length stream) id_size known most (piece.at + piece.len)) (λ pieces. Ok (piece ∷ pieces)) found is in
      let stands = piece_stands stream id_size known at within piece is_next in
      let rest = deeper (piece.at + piece.len) first.0 (behind at within piece stands) (falls most at within piece stands less) first.1 in
      let same : piece ∷ first.0 ≡ found = ok_injective {A = List Piece} _ found first.2 in
      subst (λ (pieces : List Piece). IsGathered stream id_size known at (map (record_of stream) pieces) (length stream)) same
      (gathered_more stream id_size known at within piece (map (record_of stream) first.0) (length stream) stands rest)

  all_found : (most : ℕ) → Found most
  unfolding pieces_from
  all_found zero at found within less is = absurd (omega (arith, less))
  all_found (suc most) at found within less is =
      let first = bind_ok (piece_at stream id_size known at (length stream - at))
      (pieces_after (pieces_from stream (length stream) id_size known most)) found is in
      found_after most at found first.0 within less first.1 first.2 (all_found most)

  abbrev Refused : ℕ → Type 0
  Refused most =
      (at : ℕ) (refusal : Refusal) → at ≤ length stream → length stream - at < most
      → pieces_from stream (length stream) id_size known most at ≡ Err refusal → IsStopped stream id_size known at refusal

  refused_after : (most at : ℕ) (refusal : Refusal) (next : Option Piece) → at ≤ length stream → length stream - at < suc most
      → piece_at stream id_size known at (length stream - at) ≡ Ok next
      → pieces_after (pieces_from stream (length stream) id_size known most) next ≡ Err refusal → Refused most
      → IsStopped stream id_size known at refusal
  refused_after most at refusal None within less is_next is deeper =
      let wrong : ◌≡◌ {A = Read (List Piece)} (Ok []) (Err refusal) = is in cc
  refused_after most at refusal (Some piece) within less is_next is deeper =
      let stands = piece_stands stream id_size known at within piece is_next in
      elim (bind_err (pieces_from stream (length stream) id_size known most (piece.at + piece.len)) (λ pieces. Ok (piece ∷ pieces)) refusal is) [
        | inl refused ↦
            let rest = deeper (piece.at + piece.len) refusal (behind at within piece stands) (falls most at within piece stands less) refused in
            record {
              records = record_of stream piece ∷ rest.records;
              place = rest.place;
              gathered = gathered_more stream id_size known at within piece rest.records rest.place stands rest.gathered;
              refused = rest.refused;
              none = rest.none;
            }
        | inr later ↦ let wrong : ◌≡◌ {A = Read (List Piece)} (Ok (piece ∷ later.0)) (Err refusal) = later.2 in cc
      ]

  all_refused : (most : ℕ) → Refused most
  unfolding pieces_from
  all_refused zero at refusal within less is = absurd (omega (arith, less))
  all_refused (suc most) at refusal within less is =
      elim (bind_err (piece_at stream id_size known at (length stream - at))
      (pieces_after (pieces_from stream (length stream) id_size known most)) refusal is) [
        | inl refused ↦
            let here = piece_refused stream id_size known at within refusal refused in
            record {
              records = [];
              place = at;
              gathered = record { ends = within; bytes = refl; each = tt };
              refused = here.0;
              none = here.1;
            }
        | inr later ↦ refused_after most at refusal later.0 within less later.1 later.2 (all_refused most)
      ]

-- no record begins where nothing is left
none_left : (n : ℕ) (known : List Known) (r : Record) (more : List ℕ) → IsRecord (suc n) known r → [] ≡ r.bytes ++ more → ⊥
none_left n known r more is_record is =
    let long : 0 ≡ length r.bytes + length more = ap length is ∙ length-append r.bytes more in
    let parts : length r.bytes ≡ length is_record.id + length is_record.body =
    ap length is_record.bytes_are ∙ length-append is_record.id is_record.body in
    omega (arith, long, parts, is_record.long)

pub records_found : (stream : List ℕ) (id_size : ℕ) (known : List Known) (found : List Piece) → 1 ≤ id_size
    → pieces stream (length stream) id_size known ≡ Ok found → IsRecordSplit stream id_size known 0 (map (record_of stream) found) []
records_found stream zero known found some is = absurd (omega (arith, some))
records_found stream (suc n) known found some is =
    let all = all_found stream (suc n) known some (length stream + 1) 0 found (omega arith) (omega arith) is in
    record {
      whole =
          all.bytes
          ∙ ap (λ (xs : List ℕ). flat_map (λ (r : Record). r.bytes) (map (record_of stream) found) ++ xs) (drop_all (length stream) stream (omega arith));
      each = all.each;
      none = none_left n known;
    }

pub records_refused : (stream : List ℕ) (id_size : ℕ) (known : List Known) (refusal : Refusal) → 1 ≤ id_size
    → pieces stream (length stream) id_size known ≡ Err refusal
    → (place : ℕ) × (records : List Record) × IsRefusedAt refusal place × IsRecordSplit stream id_size known 0 records (drop place stream)
records_refused stream zero known refusal some is = absurd (omega (arith, some))
records_refused stream (suc n) known refusal some is =
    let stopped = all_refused stream (suc n) known some (length stream + 1) 0 refusal (omega arith) (omega arith) is in (
      stopped.place,
      stopped.records,
      stopped.refused,
      record { whole = stopped.gathered.bytes; each = stopped.gathered.each; none = stopped.none },
    )
