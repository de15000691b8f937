-- Records with ids that make up a stream are found in it one by one.
use Rattle.std.proofs.Common.{◌≡◌, ◌+◌, ◌-◌, ◌<◌, ◌≤◌, ℕ, zero, suc, List, [], ◌∷◌, ◌++◌, length, drop, replicate, Option, Some, None, Ok, Err, sym, ◌∙◌, ap, arith, append_assoc, length-append}
use Rattle.std.proofs.lemmas.Bool.{eq-eqb, ne_eqb, le-ltb, cond-true, cond-false}
use Rattle.std.proofs.lemmas.List.{length-drop}
use Rattle.std.specs.Prelude.{nat_eq, nat_lt, if◌then◌else◌}
use Rattle.std.specs.List.{flat_map, AllByRecursion}
use Rattle.mdf_format.specs.Number.{le_number, bytes_at}
use Rattle.mdf_block.specs.Refusal.{Cut, Read, ◌>>=◌}
use Rattle.mdf_data.specs.declared.known.Size.{Size}
use Rattle.mdf_data.specs.declared.known.Size.TheVariants as sizes
use Rattle.mdf_data.specs.declared.known.Known.{Known}
use Rattle.mdf_data.specs.declared.known.Piece.{Piece}
use Rattle.mdf_data.specs.Record.{group_of, body_size, id_at, whole_piece, group_piece, piece_with, piece_at}
use Rattle.mdf_data.specs.Places.{pieces_after, pieces_from, spread, places}
use Rattle.mdf_data.specs.Split.{Record, IsBody, IsRecord}
use Rattle.mdf_data.proofs.Pieces.{begins_there, follows_there}

left_there : (at : ℕ) (stream xs more : List ℕ) → drop at stream ≡ xs ++ more → length stream - at ≡ length xs + length more
left_there at stream xs more is = sym (length-drop at stream) ∙ ap length is ∙ length-append xs more

-- a whole body is as long as it says
body_found : (size : Size) (stream body more : List ℕ) (at rest : ℕ) → drop at stream ≡ body ++ more → rest ≡ length body + length more
    → IsBody size body → body_size stream at rest size ≡ Some (length body)
body_found (sizes.Fixed n) stream body more at rest is left long =
    cond-false (nat_lt rest n) None (Some n) (le-ltb rest n (omega (arith, left, long))) ∙ ap Some (sym long)
body_found sizes.Variable stream body more at rest is left value =
    let four = value.four in
    let parts : length body ≡ length value.size + length value.value = ap length value.body_is ∙ length-append value.size value.value in
    let front : drop at stream ≡ value.size ++ (value.value ++ more) =
    is ∙ ap (λ (xs : List ℕ). xs ++ more) value.body_is ∙ append_assoc value.size value.value more in
    let number : le_number (bytes_at 4 stream at) ≡ length value.value =
    ap (λ (n : ℕ). le_number (bytes_at n stream at)) (sym four)
    ∙ ap le_number (begins_there at stream value.size (value.value ++ more) front) ∙ value.long in
    let n = le_number (bytes_at 4 stream at) in
    cond-false (nat_lt rest 4) None (if nat_lt (rest - 4) n then None else Some (4 + n)) (le-ltb rest 4 (omega (arith, left, parts, four)))
    ∙ cond-false (nat_lt (rest - 4) n) None (Some (4 + n)) (le-ltb (rest - 4) n (omega (arith, left, parts, four, number)))
    ∙ ap Some (omega (arith, parts, four, number))

module _ (stream : List ℕ) (id_size : ℕ) (known : List Known) (some : 1 ≤ id_size) where
  -- the piece of a record that begins at a place
  abbrev piece_of : ℕ → Record → Piece
  piece_of at r = record { which = r.which; at = at; len = length r.bytes }

  id_found : (at : ℕ) (id more : List ℕ) → drop at stream ≡ id ++ more → length id ≡ id_size
      → id_at stream id_size at (length stream - at) ≡ Ok (Some (le_number id))
  unfolding id_at
  id_found at id more is long =
      let rest = length stream - at in
      let left : rest ≡ length id + length more = left_there at stream id more is in
      let here = le_number (bytes_at id_size stream at) in
      cond-false (nat_eq rest 0) (Ok None) (if nat_lt rest id_size then Err (Cut at) else Ok (Some here)) (ne_eqb rest 0 (λ none. omega (arith, left, long, none, some)))
      ∙ cond-false (nat_lt rest id_size) (Err (Cut at)) (Ok (Some here)) (le-ltb rest id_size (omega (arith, left, long)))
      ∙ ap (λ (n : ℕ). Ok (Some (le_number (bytes_at n stream at)))) (sym long)
      ∙ ap (λ (xs : List ℕ). Ok (Some (le_number xs))) (begins_there at stream id more is)

  piece_found : (at : ℕ) (r : Record) (more : List ℕ) → IsRecord id_size known r → drop at stream ≡ r.bytes ++ more
      → piece_at stream id_size known at (length stream - at) ≡ Ok (Some (piece_of at r))
  unfolding piece_at group_piece
  piece_found at r more record_is is =
      let id = record_is.id in
      let body = record_is.body in
      let rest = length stream - at in
      let front : drop at stream ≡ id ++ (body ++ more) =
      is ∙ ap (λ (xs : List ℕ). xs ++ more) record_is.bytes_are ∙ append_assoc id body more in
      let behind : drop (at + id_size) stream ≡ body ++ more =
      ap (λ (n : ℕ). drop (at + n) stream) (sym record_is.long) ∙ follows_there at stream id (body ++ more) front in
      let left : rest ≡ length id + length (body ++ more) = left_there at stream id (body ++ more) front in
      let parts : length r.bytes ≡ length id + length body = ap length record_is.bytes_are ∙ length-append id body in
      let size : body_size stream (at + id_size) (rest - id_size) record_is.size ≡ Some (length body) =
      body_found record_is.size stream body more (at + id_size) (rest - id_size) behind (omega (arith, left, record_is.long, length-append body more)) record_is.body_is in
      let group : group_piece stream id_size at rest (le_number id) (group_of known (le_number id) 0) ≡ Ok (piece_of at r) =
      ap (group_piece stream id_size at rest (le_number id)) record_is.group
      ∙ ap (whole_piece r.which at id_size) size
      ∙ ap (λ (n : ℕ). Ok (record { which = r.which; at = at; len = n })) (omega (arith, parts, record_is.long)) in
      ap (λ (read : Read (Option ℕ)). read >>= piece_with stream id_size known at rest) (id_found at id (body ++ more) front record_is.long)
      ∙ ap (λ (read : Read Piece). read >>= λ piece. Ok (Some piece)) group

  -- nothing is found at the end
  none_found : (at : ℕ) → drop at stream ≡ [] → piece_at stream id_size known at (length stream - at) ≡ Ok None
  unfolding piece_at id_at
  none_found at is =
      let rest = length stream - at in
      let none : rest ≡ 0 = sym (length-drop at stream) ∙ ap length is in
      ap (λ (read : Read (Option ℕ)). read >>= piece_with stream id_size known at rest)
      (cond-true (nat_eq rest 0) (Ok None) (if nat_lt rest id_size then Err (Cut at) else Ok (Some (le_number (bytes_at id_size stream at)))) (eq-eqb rest 0 none))

  abbrev joined : List Record → List ℕ
  joined records = flat_map (λ (r : Record). r.bytes) records

  all_found : (most at : ℕ) (records : List Record) → AllByRecursion (IsRecord id_size known) records → drop at stream ≡ joined records
      → length stream - at < most → (found : List Piece) × (pieces_from stream (length stream) id_size known most at ≡ Ok found)
  unfolding pieces_from
  all_found zero at records each is less = absurd (omega (arith, less))
  all_found (suc most) at [] each is less =
      ([], ap (λ (read : Read (Option Piece)). read >>= pieces_after (pieces_from stream (length stream) id_size known most)) (none_found at is))
  all_found (suc most) at (r ∷ records) each is less =
      let parts : length r.bytes ≡ length each.0.id + length each.0.body = ap length each.0.bytes_are ∙ length-append each.0.id each.0.body in
      let left : length stream - at ≡ length r.bytes + length (joined records) = left_there at stream r.bytes (joined records) is in
      let rest = all_found most (at + length r.bytes) records each.1 (follows_there at stream r.bytes (joined records) is)
      (omega (arith, left, less, parts, each.0.long, some)) in (
        piece_of at r ∷ rest.0,
        ap (λ (read : Read (Option Piece)). read >>= pieces_after (pieces_from stream (length stream) id_size known most)) (piece_found at r (joined records) each.0 is)
            ∙ ap (λ (read : Read (List Piece)). read >>= λ pieces. Ok (piece_of at r ∷ pieces)) rest.1,
      )

  -- the places of all records are found
  pub places_are : (records : List Record) → AllByRecursion (IsRecord id_size known) records → stream ≡ joined records
      → (lists : List (List ℕ)) × (places stream (length stream) id_size known ≡ Ok lists)
  unfolding places
  places_are records each is =
      let all = all_found (length stream + 1) 0 records each is (omega arith) in (
        spread id_size (replicate (length known) []) all.0,
        ap (λ (read : Read (List Piece)). read >>= λ found. Ok (spread id_size (replicate (length known) []) found)) all.1,
      )
