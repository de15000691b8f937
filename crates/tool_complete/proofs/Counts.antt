-- The whole records of a stream are those of its split, up to a rest in which none begins.
use Rattle.std.proofs.Common.{◌≡◌, ◌+◌, ◌-◌, ◌<◌, ◌≤◌, ℕ, zero, suc, Bool, true, false, cond, List, [], ◌∷◌, ◌++◌, length, drop, map, Option, Some, None, Ok, Err, refl, sym, ◌∙◌, ap, subst, inl, inr, arith, append-nil}
use Rattle.std.proofs.lemmas.Bool.{cond-true, cond-false, eq-eqb, le-ltb, ltb-false, ne_eqb}
use Rattle.std.proofs.lemmas.List.{take-append-drop}
use Rattle.std.proofs.lemmas.List.Sums.{sum_by-cons}
use Rattle.std.specs.Prelude.{filter, nat_eq, nat_lt, if◌then◌else◌}
use Rattle.std.specs.List.{AllByRecursion, flat_map}
use Rattle.mdf_format.specs.Number.{bytes_at, le_number}
use Rattle.mdf_format.specs.declared.kind.Kind.TheVariants.{Dt}
use Rattle.mdf_block.specs.Refusal.{Cut, Read, Refusal, UnknownId, ◌>>=◌}
use Rattle.mdf_block.proofs.Cases.{ok_injective, some_injective}
use Rattle.mdf_block.proofs.Parts.{bytes_at-bytes_at}
use Rattle.mdf_block.proofs.Refusals.{bind_ok}
use Rattle.mdf_block.proofs.Wholes.{chosen}
use Rattle.mdf_stream.specs.declared.part.Part.{Part}
use Rattle.mdf_stream.specs.Link.{data_parts}
use Rattle.mdf_stream.specs.Parts.{stream_of, stream_size}
use Rattle.mdf_stream.proofs.Insides.{data_inside}
use Rattle.mdf_stream.proofs.Joins.{length-stream}
use Rattle.mdf_stream.proofs.Streams.{stream_found}
use Rattle.mdf_data.specs.declared.known.Known.{Known}
use Rattle.mdf_data.specs.declared.known.Piece.{Piece}
use Rattle.mdf_data.specs.declared.known.Size.{Size}
use Rattle.mdf_data.specs.declared.known.Size.TheVariants as sizes
use Rattle.mdf_data.specs.Places.{pieces, pieces_after, pieces_from, places_alone}
use Rattle.mdf_data.specs.Record.{body_size, group_of, group_piece, id_at, piece_at, piece_with, whole_piece}
use Rattle.mdf_data.specs.Split.{IsRecord, IsRecordSplit, IsRefusedAt, IsSplitBy, Record, alone_at, record_of}
use Rattle.mdf_data.specs.Bodies.{bodies, is_of as is_record_of}
use Rattle.mdf_data.proofs.Alones.{alones_found}
use Rattle.mdf_data.proofs.Pieces.{length-bytes, records_found, records_refused}
use Rattle.mdf_data.proofs.Stops.{IsStop, IsUnknown, IsShort, piece_stop}
use Rattle.mdf_content.specs.Layouts.{has_id_size}
use Rattle.mdf_content.specs.Records.{empties_of, known_of, record_size}
use Rattle.mdf_group.specs.Group.{is_variable}
use Rattle.mdf_group.specs.declared.row.DataRow.{DataRow}
use Rattle.mdf_group.specs.declared.row.GroupRow.{GroupRow}
use Rattle.mdf_model.specs.Contents.{empties_in}
use Rattle.tool_complete.specs.Completed.{Split, split_by, split_of}
use Rattle.tool_complete.specs.InWords.{IsCountOfSplit}
use Rattle.tool_complete.specs.Records.{count_of, found_before, if_whole, is_of, piece_alone, whole_alone, whole_from, whole_records}

-- the first bytes of a stream
abbrev front : ℕ → List ℕ → List ℕ
front p stream = bytes_at p stream 0

front_bytes : (n at p : ℕ) (stream : List ℕ) → at + n ≤ p → bytes_at n (front p stream) at ≡ bytes_at n stream at
front_bytes n at p stream within =
    let same : 0 + at ≡ at = omega arith in bytes_at-bytes_at n p at 0 stream within ∙ ap (λ (k : ℕ). bytes_at n stream k) same

-- a body that is whole lies in what is left, and is as long in each beginning of the stream that holds it
module _ (stream : List ℕ) (at rest n : ℕ) where
  record IsBodyThere (size : Size) : Type 0 where
    inside : n ≤ rest
    kept : (p less : ℕ) → n ≤ less → at + n ≤ p → body_size (front p stream) at less size ≡ Some n

  body_there : (size : Size) → body_size stream at rest size ≡ Some n → IsBodyThere size
  body_there (sizes.Fixed size) found =
      elim (chosen (nat_lt rest size) None (Some size) (Some n) found) [
        | inl short ↦ let wrong : ◌≡◌ {A = Option ℕ} None (Some n) = short.1 in cc
        | inr whole ↦
            let same : size ≡ n = some_injective size n whole.1 in
            let room : size ≤ rest = ltb-false rest size whole.0 in
            record {
              inside = omega (arith, same, room);
              kept = λ p less fits within.
                  cond-false (nat_lt less size) None (Some size) (le-ltb less size (omega (arith, same, fits))) ∙ ap Some same;
            }
      ]
  body_there sizes.Variable found =
      let value = le_number (bytes_at 4 stream at) in
      elim (chosen (nat_lt rest 4) None (if nat_lt (rest - 4) value then None else Some (4 + value)) (Some n) found) [
        | inl short ↦ let wrong : ◌≡◌ {A = Option ℕ} None (Some n) = short.1 in cc
        | inr four ↦ elim (chosen (nat_lt (rest - 4) value) None (Some (4 + value)) (Some n) four.1) [
          | inl short ↦ let wrong : ◌≡◌ {A = Option ℕ} None (Some n) = short.1 in cc
          | inr whole ↦
              let same : 4 + value ≡ n = some_injective (4 + value) n whole.1 in
              let first : 4 ≤ rest = ltb-false rest 4 four.0 in
              let room : value ≤ rest - 4 = ltb-false (rest - 4) value whole.0 in
              record {
                inside = omega (arith, same, first, room);
                kept = λ p less fits within.
                    let read : le_number (bytes_at 4 (front p stream) at) ≡ value =
                    ap le_number (front_bytes 4 at p stream (omega (arith, same, within))) in
                    ap (λ (v : ℕ). if nat_lt less 4 then None else (if nat_lt (less - 4) v then None else Some (4 + v))) read
                    ∙ cond-false (nat_lt less 4) None (if nat_lt (less - 4) value then None else Some (4 + value)) (le-ltb less 4 (omega (arith, same, fits)))
                    ∙ cond-false (nat_lt (less - 4) value) None (Some (4 + value)) (le-ltb (less - 4) value (omega (arith, same, fits)))
                    ∙ ap Some same;
              }
        ]
      ]

module _ (stream : List ℕ) (id_size : ℕ) (known : List Known) (some : 1 ≤ id_size) (at : ℕ) where
  -- a record that is found lies in the stream, and is found in each beginning of it that holds it
  pub record IsThere (piece : Piece) : Type 0 where
    pub begins : piece.at ≡ at
    pub ends : at + piece.len ≤ length stream
    pub long : id_size ≤ piece.len
    kept : (p : ℕ) → at + piece.len ≤ p → piece_at (front p stream) id_size known at (p - at) ≡ Ok (Some piece)

  record IsIdThere (id : ℕ) : Type 0 where
    room : id_size ≤ length stream - at
    is : id ≡ le_number (bytes_at id_size stream at)

  id_there : (id : ℕ) → id_at stream id_size at (length stream - at) ≡ Ok (Some id) → IsIdThere id
  unfolding id_at
  id_there id found =
      let rest = length stream - at in
      let here = le_number (bytes_at id_size stream at) in
      elim (chosen (nat_eq rest 0) (Ok None) (if nat_lt rest id_size then Err (Cut at) else Ok (Some here)) (Ok (Some id)) found) [
        | inl none ↦ let wrong : ◌≡◌ {A = Read (Option ℕ)} (Ok None) (Ok (Some id)) = none.1 in cc
        | inr more ↦ elim (chosen (nat_lt rest id_size) (Err (Cut at)) (Ok (Some here)) (Ok (Some id)) more.1) [
          | inl short ↦ let wrong : ◌≡◌ {A = Read (Option ℕ)} (Err (Cut at)) (Ok (Some id)) = short.1 in cc
          | inr whole ↦
              let same : Some here ≡ Some id = ok_injective {A = Option ℕ} _ _ whole.1 in
              record { room = ltb-false rest id_size whole.0; is = sym (some_injective here id same) }
        ]
      ]

  id_kept : (id p : ℕ) → IsIdThere id → at + id_size ≤ p → id_at (front p stream) id_size at (p - at) ≡ Ok (Some id)
  unfolding id_at
  id_kept id p there within =
      let here = le_number (bytes_at id_size (front p stream) at) in
      cond-false (nat_eq (p - at) 0) (Ok None) (if nat_lt (p - at) id_size then Err (Cut at) else Ok (Some here)) (ne_eqb (p - at) 0 (λ none. omega (arith, none, some, within)))
      ∙ cond-false (nat_lt (p - at) id_size) (Err (Cut at)) (Ok (Some here)) (le-ltb (p - at) id_size (omega (arith, within)))
      ∙ ap (λ (bytes : List ℕ). Ok (Some (le_number bytes))) (front_bytes id_size at p stream within)
      ∙ ap (λ (n : ℕ). Ok (Some n)) (sym there.is)

  sized_there : (id : ℕ) (group : _) (size : Option ℕ) (piece : Piece) → IsIdThere id → group_of known id 0 ≡ Some group
      → body_size stream (at + id_size) (length stream - at - id_size) group.size ≡ size → whole_piece group.which at id_size size ≡ Ok piece → IsThere piece
  unfolding piece_at group_piece
  sized_there id group None piece there is_group is_size found = let wrong : ◌≡◌ {A = Read Piece} (Err (Cut at)) (Ok piece) = found in cc
  sized_there id group (Some n) piece there is_group is_size found =
      let here : Piece = record { which = group.which; at = at; len = id_size + n } in
      let body = body_there stream (at + id_size) (length stream - at - id_size) n group.size is_size in
      subst IsThere (ok_injective here piece found) (record {
        begins = refl;
        ends = omega (arith, body.inside, there.room, some);
        long = omega arith;
        kept = λ p within.
            ap (λ (read : Read (Option ℕ)). read >>= piece_with (front p stream) id_size known at (p - at)) (id_kept id p there (omega (arith, within)))
            ∙ ap (λ (read : Read Piece). read >>= λ piece. Ok (Some piece))
            (ap (group_piece (front p stream) id_size at (p - at) id) is_group
            ∙ ap (whole_piece group.which at id_size) (body.kept p (p - at - id_size) (omega (arith, within)) (omega (arith, within))));
      })

  group_there : (id : ℕ) (group : Option _) (piece : Piece) → IsIdThere id → group_of known id 0 ≡ group
      → group_piece stream id_size at (length stream - at) id group ≡ Ok piece → IsThere piece
  unfolding group_piece
  group_there id None piece there is_group found = let wrong : ◌≡◌ {A = Read Piece} (Err (UnknownId id at)) (Ok piece) = found in cc
  group_there id (Some group) piece there is_group found = sized_there id group _ piece there is_group refl found

  with_there : (id : Option ℕ) (piece : Piece) → id_at stream id_size at (length stream - at) ≡ Ok id
      → piece_with stream id_size known at (length stream - at) id ≡ Ok (Some piece) → IsThere piece
  with_there None piece is_id found = let wrong : ◌≡◌ {A = Read (Option Piece)} (Ok None) (Ok (Some piece)) = found in cc
  with_there (Some id) piece is_id found =
      let first = bind_ok (group_piece stream id_size at (length stream - at) id (group_of known id 0)) (λ p. Ok (Some p)) (Some piece) found in
      let same : Some first.0 ≡ Some piece = ok_injective {A = Option Piece} _ _ first.2 in
      subst IsThere (some_injective first.0 piece same) (group_there id _ first.0 (id_there id is_id) refl first.1)

  pub piece_there : (piece : Piece) → piece_at stream id_size known at (length stream - at) ≡ Ok (Some piece) → IsThere piece
  unfolding piece_at
  piece_there piece found =
      let first = bind_ok (id_at stream id_size at (length stream - at)) (piece_with stream id_size known at (length stream - at)) (Some piece) found in
      with_there first.0 piece first.1 first.2

  -- at the end of a beginning nothing is found
  none_there : piece_at (front at stream) id_size known at (at - at) ≡ Ok None
  unfolding piece_at id_at
  none_there =
      let none : at - at ≡ 0 = omega arith in
      ap (λ (read : Read (Option ℕ)). read >>= piece_with (front at stream) id_size known at (at - at))
      (cond-true (nat_eq (at - at) 0) (Ok None) (if nat_lt (at - at) id_size then Err (Cut at) else Ok (Some (le_number (bytes_at id_size (front at stream) at)))) (eq-eqb (at - at) 0 none))

module _ (stream : List ℕ) (id_size : ℕ) (known : List Known) (some : 1 ≤ id_size) where
  abbrev found_at : ℕ → Read (Option Piece)
  found_at at = piece_at stream id_size known at (length stream - at)

  abbrev whole_after : ℕ → ℕ → List Piece
  whole_after most at = whole_from stream (length stream) id_size known most at

  -- the whole records from a place on are all records of the stream up to where they end, and none is found there
  record AreWhole (most at : ℕ) (found : List Piece) : Type 0 where
    place : ℕ
    behind : at ≤ place
    inside : place ≤ length stream
    each : AllByRecursion (λ (piece : Piece). piece.at + piece.len ≤ place) found
    same : (fuel : ℕ) → place - at < fuel → pieces_from (front place stream) place id_size known fuel at ≡ Ok found
    none : if_whole (found_at place) ≡ None
    ended : found_at place ≡ Ok None → pieces_from stream (length stream) id_size known most at ≡ Ok found
    refused : (refusal : Refusal) → found_at place ≡ Err refusal → pieces_from stream (length stream) id_size known most at ≡ Err refusal

  abbrev Follow : ℕ → Type 0
  Follow most = (at : ℕ) → at ≤ length stream → length stream - at < most → AreWhole most at (whole_after most at)

  abbrev after : List ℕ → ℕ → ℕ → Read (Option Piece) → Read (List Piece)
  after bytes total most read = read >>= pieces_after (pieces_from bytes total id_size known most)

  abbrev one_more : Piece → Read (List Piece) → Read (List Piece)
  one_more piece read = read >>= λ pieces. Ok (piece ∷ pieces)

  ends_here : (most at : ℕ) → at ≤ length stream → if_whole (found_at at) ≡ None → AreWhole (suc most) at []
  unfolding pieces_from
  ends_here most at within none = record {
    place = at;
    behind = omega arith;
    inside = within;
    each = tt;
    same = no_more;
    none = none;
    ended = λ is. ap (after stream (length stream) most) is;
    refused = λ refusal is. ap (after stream (length stream) most) is;
  }
    where
      no_more : (fuel : ℕ) → at - at < fuel → pieces_from (front at stream) at id_size known fuel at ≡ Ok []
      no_more zero less = absurd (omega (arith, less))
      no_more (suc fuel) less = ap (after (front at stream) at fuel) (none_there stream id_size known some at)

  goes_on : (most at : ℕ) (piece : Piece) (rest : List Piece) → found_at at ≡ Ok (Some piece) → AreWhole most (piece.at + piece.len) rest
      → AreWhole (suc most) at (piece ∷ rest)
  unfolding pieces_from
  goes_on most at piece rest is all =
      let there = piece_there stream id_size known some at piece is in
      record {
        place = all.place;
        behind = omega (arith, there.begins, all.behind);
        inside = all.inside;
        each = (all.behind, all.each);
        same = one_then;
        none = all.none;
        ended = λ ended. ap (after stream (length stream) most) is ∙ ap (one_more piece) (all.ended ended);
        refused = λ refusal refused. ap (after stream (length stream) most) is ∙ ap (one_more piece) (all.refused refusal refused);
      }
    where
      one_then : (fuel : ℕ) → all.place - at < fuel → pieces_from (front all.place stream) all.place id_size known fuel at ≡ Ok (piece ∷ rest)
      one_then zero less = absurd (omega (arith, less))
      one_then (suc fuel) less =
          let there = piece_there stream id_size known some at piece is in
          ap (after (front all.place stream) all.place fuel) (there.kept all.place (omega (arith, there.begins, all.behind)))
          ∙ ap (one_more piece) (all.same fuel (omega (arith, less, some, there.begins, there.long, all.behind)))

  by_found : (most at : ℕ) (read : Read (Option Piece)) → at ≤ length stream → length stream - at < suc most → found_at at ≡ read → Follow most
      → AreWhole (suc most) at (found_before (whole_after most) (if_whole read))
  by_found most at (Ok (Some piece)) within less is follow =
      let there = piece_there stream id_size known some at piece is in
      goes_on most at piece (whole_after most (piece.at + piece.len)) is
      (follow (piece.at + piece.len) (omega (arith, there.begins, there.ends)) (omega (arith, there.begins, there.ends, there.long, some, less, within)))
  by_found most at (Ok None) within less is follow = ends_here most at within (ap if_whole is)
  by_found most at (Err refusal) within less is follow = ends_here most at within (ap if_whole is)

  all_follow : (most : ℕ) → Follow most
  unfolding whole_from
  all_follow zero at within less = absurd (omega (arith, less))
  all_follow (suc most) at within less = by_found most at (found_at at) within less refl (all_follow most)

  -- the records of a beginning are those of the stream
  records_kept : (place : ℕ) (found : List Piece) → AllByRecursion (λ (piece : Piece). piece.at + piece.len ≤ place) found
      → map (record_of (front place stream)) found ≡ map (record_of stream) found
  records_kept place [] inside = refl
  records_kept place (piece ∷ found) inside =
      ap (λ (bytes : List ℕ). record { which = piece.which; bytes = bytes } ∷ map (record_of (front place stream)) found)
      (front_bytes piece.len piece.at place stream inside.0)
      ∙ ap (λ (records : List Record). record_of stream piece ∷ records) (records_kept place found inside.1)

-- of ids of some bytes
module _ (stream : List ℕ) (n : ℕ) (known : List Known) where
  abbrev whole : List Piece
  whole = whole_from stream (length stream) (suc n) known (length stream + 1) 0

  refused_place : (place other : ℕ) (refusal : Refusal) → IsStop stream (suc n) known place refusal → IsRefusedAt refusal other → place ≡ other
  refused_place place other refusal (IsUnknown id same room is none) at = subst (λ (r : Refusal). IsRefusedAt r other) same at
  refused_place place other refusal (IsShort same) at = subst (λ (r : Refusal). IsRefusedAt r other) same at

  module _ (some : 1 ≤ suc n) (all : AreWhole stream (suc n) known some (length stream + 1) 0 whole) where
    split_so : (read : Read (Option Piece)) → found_at stream (suc n) known some all.place ≡ read
        → (rest : List ℕ) × IsRecordSplit stream (suc n) known 0 (map (record_of stream) whole) rest
    split_so (Ok (Some piece)) is = let wrong : ◌≡◌ {A = Option Piece} (Some piece) None = sym (ap if_whole is) ∙ all.none in cc
    split_so (Ok None) is = ([], records_found stream (suc n) known whole some (all.ended is))
    split_so (Err refusal) is =
        let place = all.place in
        let part = front place stream in
        let stop = records_refused stream (suc n) known refusal some (all.refused refusal is) in
        let there : place ≡ stop.0 = refused_place place stop.0 refusal ((piece_stop stream (suc n) known place).tells refusal is) stop.2 in
        let long : length part ≡ place = length-bytes place 0 stream (omega (arith, all.inside)) in
        let read : pieces part (length part) (suc n) known ≡ Ok whole =
        ap (λ (total : ℕ). pieces part total (suc n) known) long ∙ all.same (place + 1) (omega arith) in
        let found : IsSplitBy (IsRecord (suc n) known) part (map (record_of part) whole) [] = records_found part (suc n) known whole some read in
        let kept = records_kept stream (suc n) known some place whole all.each in (
          drop place stream,
          record {
            whole =
                sym (take-append-drop place stream)
                ∙ ap (λ (bytes : List ℕ). bytes ++ drop place stream)
                (found.whole ∙ append-nil (flat_map (λ (r : Record). r.bytes) (map (record_of part) whole)) ∙ ap (flat_map (λ (r : Record). r.bytes)) kept);
            each = subst (AllByRecursion (IsRecord (suc n) known)) kept found.each;
            none = subst (λ (p : ℕ). (r : Record) (more : List ℕ) → IsRecord (suc n) known r → drop p stream ≡ r.bytes ++ more → ⊥) (sym there) stop.3.none;
          },
        )

  whole_split : (rest : List ℕ) × IsRecordSplit stream (suc n) known 0 (map (record_of stream) whole) rest
  whole_split =
      let some : 1 ≤ suc n = omega arith in
      let all = all_follow stream (suc n) known some (length stream + 1) 0 (omega arith) (omega arith) in
      split_so some all (found_at stream (suc n) known some all.place) refl

-- of one group without ids
module _ (stream : List ℕ) (group : GroupRow) where
  records_alone : (places : List ℕ) → map (record_of stream) (map (piece_alone group) places) ≡ map (alone_at stream (sizes.Fixed (record_size group))) places
  records_alone [] = refl
  records_alone (place ∷ places) = ap (λ (records : List Record). alone_at stream (sizes.Fixed (record_size group)) place ∷ records) (records_alone places)

  abbrev size_by : Bool → Size
  size_by variable = if variable then sizes.Variable else sizes.Fixed (record_size group)

  alone_by : (variable : Bool) (empties : ℕ)
      → map (record_of stream) (map (piece_alone group) (places_alone (length stream) empties (size_by variable)))
      ≡ map (alone_at stream (size_by variable)) (places_alone (length stream) empties (size_by variable))
  alone_by true empties = refl
  alone_by false empties = records_alone (places_alone (length stream) empties (sizes.Fixed (record_size group)))

alone_split : (stream : List ℕ) (groups : List GroupRow)
    → (rest : List ℕ) × IsRecordSplit stream 0 (map known_of groups) (empties_in groups) (map (record_of stream) (whole_alone (length stream) groups)) rest
alone_split stream [] = (stream, record { records_are = refl; rest_is = refl })
alone_split stream (group ∷ groups) =
    let empties = empties_of group.cycles group in
    let found = alones_found stream (known_of group) (map known_of groups) empties in (
      found.0,
      subst (λ (records : List Record). IsRecordSplit stream 0 (known_of group ∷ map known_of groups) empties records found.0)
          (sym (alone_by stream group (is_variable group) empties)) found.1,
    )

-- the whole records of a stream are those of its split
row_split : (stream : List ℕ) (row : DataRow)
    → (rest : List ℕ) × IsRecordSplit stream row.id_size (map known_of row.groups) (empties_in row.groups)
    (map (record_of stream) (whole_records stream (length stream) row)) rest
unfolding whole_records
row_split stream row = by_size row.id_size
  where
    by_size : (n : ℕ)
        → (rest : List ℕ) × IsRecordSplit stream n (map known_of row.groups) (empties_in row.groups) (map (record_of stream)
        (if nat_eq n 0 then whole_alone (length stream) row.groups
        else whole_from stream (length stream) n (map known_of row.groups) (length stream + 1) 0)) rest
    by_size zero = alone_split stream row.groups
    by_size (suc n) =
        let some : nat_eq (suc n) 0 ≡ false = ne_eqb (suc n) 0 (λ none. omega (arith, none)) in
        rw some (whole_split stream n (map known_of row.groups))

-- a group has as many bodies as records
bodies_many : (stream : List ℕ) (id_size k : ℕ) (found : List Piece) → count_of k found ≡ length (bodies id_size (map (record_of stream) found) k)
bodies_many stream id_size k [] = refl
bodies_many stream id_size k (piece ∷ found) =
    by_test (nat_eq piece.which k) (sum_by-cons (λ (p : Piece). cond (is_of k p) 1 0) piece found) (bodies_many stream id_size k found)
  where
    records : List Record
    records = map (record_of stream) found

    by_test : (b : Bool) → count_of k (piece ∷ found) ≡ cond b 1 0 + count_of k found → count_of k found ≡ length (bodies id_size records k)
        → count_of k (piece ∷ found)
        ≡ length (map (λ (r : Record). drop id_size r.bytes) (cond b (record_of stream piece ∷ filter (is_record_of k) records) (filter (is_record_of k) records)))
    by_test true one more = omega (arith, one, more)
    by_test false one more = omega (arith, one, more)

module _ (file : List ℕ) (row : DataRow) where
  of_parts : (parts : List Part) → data_parts file Dt row.content ≡ Ok parts
      → IsCountOfSplit file row (record { total = stream_size parts; records = whole_records (stream_of file parts) (stream_size parts) row })
  of_parts parts is =
      let stream = stream_of file parts in
      let long : length stream ≡ stream_size parts = length-stream file parts (data_inside file Dt row.content parts is) in
      subst (λ (total : ℕ). IsCountOfSplit file row (record { total = total; records = whole_records stream total row })) long (
      let found = row_split stream row in
      record {
        stream = stream;
        rest = found.0;
        long = refl;
        is_split = record { stream = stream; is_stream = stream_found file Dt row.content parts is; split = found.1 };
        each = λ k. bodies_many stream row.id_size k (whole_records stream (length stream) row);
      }
      )

  by_parts : (split : Split) (read : Read (List Part)) → data_parts file Dt row.content ≡ read → split_by file row read ≡ Some split → IsCountOfSplit file row split
  by_parts split (Ok parts) is found = subst (IsCountOfSplit file row) (some_injective _ split found) (of_parts parts is)
  by_parts split (Err refusal) is found = let wrong : ◌≡◌ {A = Option Split} None (Some split) = found in cc

-- what is counted is of the split
pub split_is : (file : List ℕ) (row : DataRow) (split : Split) → split_of file row ≡ Some split → IsCountOfSplit file row split
unfolding split_of
split_is file row split found =
    elim (chosen (has_id_size row) (split_by file row (data_parts file Dt row.content)) None (Some split) found) [
      | inl sized ↦ by_parts file row split (data_parts file Dt row.content) refl sized.1
      | inr other ↦ let wrong : ◌≡◌ {A = Option Split} None (Some split) = other.1 in cc
    ]
