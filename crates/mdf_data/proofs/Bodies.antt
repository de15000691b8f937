-- The places of records hold their bodies.
use Rattle.std.proofs.Common.{◌≡◌, ◌≢◌, ◌+◌, ◌-◌, ◌<◌, ◌≤◌, ℕ, zero, suc, List, [], ◌∷◌, ◌++◌, length, get_or, take, drop, map, replicate, Ok, refl, sym, ◌∙◌, ap, subst, inl, inr, arith, append-nil, append_assoc, length-append, ◌*◌}
use Rattle.std.specs.Prelude.{Bool, min, nat_eq, filter}
use Rattle.std.specs.List.{AllByRecursion, flat_map}
use Rattle.std.proofs.lemmas.Bool.{cases_eq, eq-eqb, ne_eqb, cond-true, cond-false}
use Rattle.std.proofs.lemmas.Grind.{get_or-set_at}
use Rattle.std.proofs.lemmas.List.{get_or-set_other, get_or-replicate, length-set, length-take, take_at, drop_at, length-drop, take-append-drop, length-replicate, drop-take, length-map}
use Rattle.std.proofs.Math.Seq.{drop-drop}
use Rattle.mdf_format.specs.Number.{le_number, bytes_at}
use Rattle.mdf_data.specs.declared.known.Size.{Size}
use Rattle.mdf_data.specs.declared.known.Size.TheVariants as sizes
use Rattle.mdf_data.specs.declared.known.Known.{Known}
use Rattle.mdf_data.specs.declared.known.Piece.{Piece}
use Rattle.mdf_data.specs.Record.{least_size}
use Rattle.mdf_data.specs.Places.{with_place, spread, pieces, places, places_alone}
use Rattle.mdf_data.specs.Split.{Record, IsValue, IsBody, IsRecord, IsRecordSplit, record_of, alone_at, IsAlone, IsSplitAlone}
use Rattle.mdf_block.proofs.Refusals.{bind_ok}
use Rattle.mdf_data.proofs.Groups.{group_is}
use Rattle.mdf_data.proofs.Pieces.{records_found}
use Rattle.mdf_data.specs.Bodies.{is_of, bodies}
use Rattle.mdf_block.proofs.Cases.{ok_injective}
use Rattle.std.proofs.Math.Nat.{mul-suc}

-- the pieces of group k
abbrev is_piece_of : ℕ → Piece → Bool
is_piece_of k piece = nat_eq piece.which k

-- where their bodies begin
abbrev body_place : ℕ → Piece → ℕ
body_place id_size piece = piece.at + id_size

-- the places of a group are those of its pieces, in order
spread_at : (id_size : ℕ) (found : List Piece) (lists : List (List ℕ)) (k : ℕ) → AllByRecursion (λ (piece : Piece). piece.which < length lists) found
    → get_or (spread id_size lists found) k [] ≡ get_or lists k [] ++ map (body_place id_size) (filter (is_piece_of k) found)
unfolding spread
spread_at id_size [] lists k below = sym (append-nil (get_or lists k []))
spread_at id_size (piece ∷ found) lists k below =
    let place = body_place id_size piece in
    let next = with_place lists piece.which place in
    let others = map (body_place id_size) (filter (is_piece_of k) found) in
    let long : length next ≡ length lists = length-set lists piece.which (get_or lists piece.which [] ++ place ∷ []) in
    let rest : get_or (spread id_size next found) k [] ≡ get_or next k [] ++ others =
    spread_at id_size found next k (subst (λ (n : ℕ). AllByRecursion (λ (p : Piece). p.which < n) found) (sym long) below.1) in
    elim (cases_eq k piece.which) [
      | inl same ↦
          let here : get_or next k [] ≡ get_or lists k [] ++ place ∷ [] =
          get_or-set_at lists piece.which k (get_or lists piece.which [] ++ place ∷ []) [] same below.0
          ∙ ap (λ (n : ℕ). get_or lists n [] ++ place ∷ []) (sym same) in
          rest
          ∙ ap (λ (xs : List ℕ). xs ++ others) here
          ∙ append_assoc (get_or lists k []) (place ∷ []) others
          ∙ ap (λ (xs : List Piece). get_or lists k [] ++ map (body_place id_size) xs)
          (sym (cond-true (nat_eq piece.which k) (piece ∷ filter (is_piece_of k) found) (filter (is_piece_of k) found) (eq-eqb piece.which k (sym same))))
      | inr other ↦
          let here : get_or next k [] ≡ get_or lists k [] =
          get_or-set_other lists piece.which k (get_or lists piece.which [] ++ place ∷ []) [] other in
          rest
          ∙ ap (λ (xs : List ℕ). xs ++ others) here
          ∙ ap (λ (xs : List Piece). get_or lists k [] ++ map (body_place id_size) xs)
          (sym (cond-false (nat_eq piece.which k) (piece ∷ filter (is_piece_of k) found) (filter (is_piece_of k) found)
          (ne_eqb piece.which k (λ same. other (sym same)))))
    ]

-- how many bytes the body at a place of a stream has
abbrev pub size_there : List ℕ → Size → ℕ → ℕ
size_there stream (sizes.Fixed size) place = size
size_there stream sizes.Variable place = min (4 + le_number (bytes_at 4 stream place)) (length stream - place)

-- the bodies at these places
abbrev pub bodies_at : List ℕ → Size → List ℕ → List (List ℕ)
bodies_at stream size places = map (λ (place : ℕ). bytes_at (size_there stream size place) stream place) places

-- as many bytes of a list as a front of it has are that front
take_own : (n : ℕ) (xs : List ℕ) → take (length (take n xs)) xs ≡ take n xs
take_own zero xs = refl
take_own (suc n) [] = refl
take_own (suc n) (x ∷ xs) = ap (λ (ys : List ℕ). x ∷ ys) (take_own n xs)

at_most : (n : ℕ) (xs : List ℕ) → length (take n xs) ≤ n
at_most n xs = omega (arith, length-take n xs)

length_take : (n : ℕ) (xs : List ℕ) → length (take n xs) ≤ length xs
length_take n xs = omega (arith, length-take n xs)

-- a body that begins at a place is what is found there
there_fixed : (stream : List ℕ) (size n place : ℕ) → length (bytes_at n stream place) ≡ size → bytes_at size stream place ≡ bytes_at n stream place
there_fixed stream size n place long = ap (λ (m : ℕ). bytes_at m stream place) (sym long) ∙ take_own n (drop place stream)

there_variable : (stream : List ℕ) (n place : ℕ) → IsValue (bytes_at n stream place)
    → bytes_at (size_there stream sizes.Variable place) stream place ≡ bytes_at n stream place
there_variable stream n place is =
    let here = bytes_at n stream place in
    let behind = drop n (drop place stream) in
    let front : drop place stream ≡ is.size ++ (is.value ++ behind) =
    sym (take-append-drop n (drop place stream)) ∙ ap (λ (xs : List ℕ). xs ++ behind) is.body_is ∙ append_assoc is.size is.value behind in
    let four : bytes_at 4 stream place ≡ is.size = ap (take 4) front ∙ take_at is.size (is.value ++ behind) 4 is.four in
    let number : le_number (bytes_at 4 stream place) ≡ length is.value = ap le_number four ∙ is.long in
    let long : length here ≡ length is.size + length is.value = ap length is.body_is ∙ length-append is.size is.value in
    let within : length here ≤ length stream - place =
    subst (λ (m : ℕ). length here ≤ m) (length-drop place stream) (length_take n (drop place stream)) in
    let size : size_there stream sizes.Variable place ≡ length here = omega (arith, number, long, is.four, within) in
    ap (λ (m : ℕ). bytes_at m stream place) size ∙ take_own n (drop place stream)

there : (stream : List ℕ) (size : Size) (n place : ℕ) → IsBody size (bytes_at n stream place)
    → bytes_at (size_there stream size place) stream place ≡ bytes_at n stream place
there stream (sizes.Fixed size) n place is = there_fixed stream size n place is
there stream sizes.Variable n place is = there_variable stream n place is

-- the body of a record
body_of : (id_size : ℕ) (known : List Known) (r : Record) (is : IsRecord id_size known r) → drop id_size r.bytes ≡ is.body
body_of id_size known r is = ap (drop id_size) is.bytes_are ∙ drop_at is.id is.body id_size is.long

-- the bytes behind the id of a piece
behind_id : (stream : List ℕ) (id_size : ℕ) (piece : Piece) → id_size ≤ piece.len
    → drop id_size (bytes_at piece.len stream piece.at) ≡ bytes_at (piece.len - id_size) stream (piece.at + id_size)
behind_id stream id_size piece long =
    let parts : piece.len ≡ id_size + (piece.len - id_size) = omega (arith, long) in
    ap (λ (n : ℕ). drop id_size (take n (drop piece.at stream))) parts
    ∙ drop-take id_size (piece.len - id_size) (drop piece.at stream)
    ∙ ap (take (piece.len - id_size)) (drop-drop id_size piece.at stream)

-- a piece is as long as its id at least
has_id : (stream : List ℕ) (id_size : ℕ) (known : List Known) (piece : Piece) → IsRecord id_size known (record_of stream piece) → id_size ≤ piece.len
has_id stream id_size known piece is =
    let parts : length (bytes_at piece.len stream piece.at) ≡ length is.id + length is.body = ap length is.bytes_are ∙ length-append is.id is.body in
    omega (arith, parts, is.long, at_most piece.len (drop piece.at stream))

piece_body : (stream : List ℕ) (id_size : ℕ) (known : List Known) (d : Known) (piece : Piece) → IsRecord id_size known (record_of stream piece)
    → bytes_at (size_there stream (get_or known piece.which d).size (piece.at + id_size)) stream (piece.at + id_size)
    ≡ drop id_size (bytes_at piece.len stream piece.at)
piece_body stream id_size known d piece is =
    let same : (get_or known piece.which d).size ≡ is.size = (group_is known (le_number is.id) (record { which = piece.which; size = is.size }) is.group).1 d in
    let body : bytes_at (piece.len - id_size) stream (piece.at + id_size) ≡ is.body =
    sym (behind_id stream id_size piece (has_id stream id_size known piece is)) ∙ body_of id_size known (record_of stream piece) is in
    ap (λ (size : Size). bytes_at (size_there stream size (piece.at + id_size)) stream (piece.at + id_size)) same
    ∙ there stream is.size (piece.len - id_size) (piece.at + id_size) (subst (IsBody is.size) (sym body) is.body_is)
    ∙ sym (behind_id stream id_size piece (has_id stream id_size known piece is))

-- the places of group k hold its bodies
pieces_bodies : (stream : List ℕ) (id_size : ℕ) (known : List Known) (k : ℕ) (d : Known) (found : List Piece)
    → AllByRecursion (IsRecord id_size known) (map (record_of stream) found)
    → bodies_at stream (get_or known k d).size (map (body_place id_size) (filter (is_piece_of k) found)) ≡ bodies id_size (map (record_of stream) found) k
pieces_bodies stream id_size known k d [] each = refl
pieces_bodies stream id_size known k d (piece ∷ found) each =
    let rest = pieces_bodies stream id_size known k d found each.1 in
    let size = (get_or known k d).size in
    let places = filter (is_piece_of k) found in
    let records = filter (is_of k) (map (record_of stream) found) in
    elim (cases_eq piece.which k) [
      | inl same ↦
          let passes = eq-eqb piece.which k same in
          let here : bytes_at (size_there stream size (piece.at + id_size)) stream (piece.at + id_size) ≡ drop id_size (bytes_at piece.len stream piece.at) =
          ap (λ (n : ℕ). bytes_at (size_there stream (get_or known n d).size (piece.at + id_size)) stream (piece.at + id_size)) (sym same)
          ∙ piece_body stream id_size known d piece each.0 in
          ap (λ (ps : List Piece). bodies_at stream size (map (body_place id_size) ps)) (cond-true (nat_eq piece.which k) (piece ∷ places) places passes)
          ∙ ap (λ (xs : List ℕ). xs ∷ bodies_at stream size (map (body_place id_size) places)) here
          ∙ ap (λ (xs : List (List ℕ)). drop id_size (bytes_at piece.len stream piece.at) ∷ xs) rest
          ∙ ap (λ (rs : List Record). map (λ (r : Record). drop id_size r.bytes) rs)
          (sym (cond-true (nat_eq piece.which k) (record_of stream piece ∷ records) records passes))
      | inr other ↦
          let passes = ne_eqb piece.which k other in
          ap (λ (ps : List Piece). bodies_at stream size (map (body_place id_size) ps)) (cond-false (nat_eq piece.which k) (piece ∷ places) places passes)
          ∙ rest
          ∙ ap (λ (rs : List Record). map (λ (r : Record). drop id_size r.bytes) rs)
          (sym (cond-false (nat_eq piece.which k) (record_of stream piece ∷ records) records passes))
    ]

-- each record that is found is of one of the groups
which_below : (stream : List ℕ) (id_size : ℕ) (known : List Known) (found : List Piece) → AllByRecursion (IsRecord id_size known) (map (record_of stream) found)
    → AllByRecursion (λ (piece : Piece). piece.which < length known) found
which_below stream id_size known [] each = tt
which_below stream id_size known (piece ∷ found) each =
    let is = each.0 in
    ((group_is known (le_number is.id) (record { which = piece.which; size = is.size }) is.group).0, which_below stream id_size known found each.1)

-- the least body of a group has room at a place of the stream
abbrev pub HasRoom : List ℕ → Size → ℕ → Type 0
HasRoom stream size place = place + least_size size ≤ length stream

least_body : (size : Size) (body : List ℕ) → IsBody size body → least_size size ≤ length body
least_body (sizes.Fixed n) body is = omega (arith, is)
least_body sizes.Variable body is =
    let parts : length body ≡ length is.size + length is.value = ap length is.body_is ∙ length-append is.size is.value in omega (arith, parts, is.four)

piece_room : (stream : List ℕ) (id_size : ℕ) (known : List Known) (d : Known) (piece : Piece) → 1 ≤ id_size → IsRecord id_size known (record_of stream piece)
    → HasRoom stream (get_or known piece.which d).size (body_place id_size piece)
piece_room stream id_size known d piece some is =
    let same : (get_or known piece.which d).size ≡ is.size = (group_is known (le_number is.id) (record { which = piece.which; size = is.size }) is.group).1 d in
    let parts : length (bytes_at piece.len stream piece.at) ≡ length is.id + length is.body = ap length is.bytes_are ∙ length-append is.id is.body in
    let within : length (bytes_at piece.len stream piece.at) ≤ length stream - piece.at =
    subst (λ (m : ℕ). length (bytes_at piece.len stream piece.at) ≤ m) (length-drop piece.at stream) (length_take piece.len (drop piece.at stream)) in
    subst (λ (size : Size). HasRoom stream size (body_place id_size piece)) (sym same)
    (omega (arith, parts, within, some, is.long, least_body is.size is.body is.body_is))

pieces_room : (stream : List ℕ) (id_size : ℕ) (known : List Known) (k : ℕ) (d : Known) (found : List Piece) → 1 ≤ id_size
    → AllByRecursion (IsRecord id_size known) (map (record_of stream) found)
    → AllByRecursion (HasRoom stream (get_or known k d).size) (map (body_place id_size) (filter (is_piece_of k) found))
pieces_room stream id_size known k d [] some each = tt
pieces_room stream id_size known k d (piece ∷ found) some each =
    let rest = pieces_room stream id_size known k d found some each.1 in
    let Rooms : List Piece → Type 0 = λ ps. AllByRecursion (HasRoom stream (get_or known k d).size) (map (body_place id_size) ps) in
    elim (cases_eq piece.which k) [
      | inl same ↦
          subst Rooms (sym (cond-true (nat_eq piece.which k) (piece ∷ filter (is_piece_of k) found) (filter (is_piece_of k) found) (eq-eqb piece.which k same)))
          (subst (λ (n : ℕ). HasRoom stream (get_or known n d).size (body_place id_size piece)) same (piece_room stream id_size known d piece some each.0), rest)
      | inr other ↦
          subst Rooms (sym (cond-false (nat_eq piece.which k) (piece ∷ filter (is_piece_of k) found) (filter (is_piece_of k) found) (ne_eqb piece.which k other))) rest
    ]

-- the split of a stream with ids, and where the bodies of each group are
pub record AreSplitAt (stream : List ℕ) (id_size : ℕ) (known : List Known) (empties : ℕ) (lists : List (List ℕ)) : Type 0 where
  pub records : List Record
  pub rest : List ℕ
  pub split : IsRecordSplit stream id_size known empties records rest
  pub whole : id_size ≢ 0 → rest ≡ []
  pub room : (k : ℕ) (d : Known) → k < length known → AllByRecursion (HasRoom stream (get_or known k d).size) (get_or lists k [])
  pub places : (k : ℕ) (d : Known) → k < length known → bodies_at stream (get_or known k d).size (get_or lists k []) ≡ bodies id_size records k

places_split : (stream : List ℕ) (n : ℕ) (known : List Known) (empties : ℕ) (found : List Piece) (lists : List (List ℕ))
    → pieces stream (length stream) (suc n) known ≡ Ok found → spread (suc n) (replicate (length known) []) found ≡ lists
    → AreSplitAt stream (suc n) known empties lists
places_split stream n known empties found lists is are =
    let split : IsRecordSplit stream (suc n) known empties (map (record_of stream) found) [] = records_found stream (suc n) known found (omega arith) is in
    let start : List (List ℕ) = replicate (length known) [] in
    let long : length known ≡ length start = sym (length-replicate (length known) []) in
    let below = subst (λ (m : ℕ). AllByRecursion (λ (piece : Piece). piece.which < m) found) long (which_below stream (suc n) known found split.each) in
    record {
      records = map (record_of stream) found;
      rest = [];
      split = split;
      whole = λ _. refl;
      room = λ k d within.
          subst (λ (places : List ℕ). AllByRecursion (HasRoom stream (get_or known k d).size) places)
          (sym (ap (λ (xs : List (List ℕ)). get_or xs k []) (sym are)
          ∙ spread_at (suc n) found start k below
          ∙ ap (λ (xs : List ℕ). xs ++ map (body_place (suc n)) (filter (is_piece_of k) found)) (get_or-replicate (length known) k [] [] within)))
          (pieces_room stream (suc n) known k d found (omega arith) split.each);
      places = λ k d within.
          ap (λ (xs : List (List ℕ)). bodies_at stream (get_or known k d).size (get_or xs k [])) (sym are)
          ∙ ap (bodies_at stream (get_or known k d).size)
          (spread_at (suc n) found start k below
          ∙ ap (λ (xs : List ℕ). xs ++ map (body_place (suc n)) (filter (is_piece_of k) found)) (get_or-replicate (length known) k [] [] within))
          ∙ pieces_bodies stream (suc n) known k d found split.each;
    }

pub places_found : (stream : List ℕ) (id_size : ℕ) (known : List Known) (empties : ℕ) (lists : List (List ℕ)) → 1 ≤ id_size
    → places stream (length stream) id_size known ≡ Ok lists → AreSplitAt stream id_size known empties lists
unfolding places
places_found stream zero known empties lists some is = absurd (omega (arith, some))
places_found stream (suc n) known empties lists some is =
    let first = bind_ok (pieces stream (length stream) (suc n) known) (λ found. Ok (spread (suc n) (replicate (length known) []) found)) lists is in
    places_split stream n known empties first.0 lists first.1 (ok_injective _ lists first.2)

-- records without ids
steps_bodies : (stream : List ℕ) (n : ℕ) (found : List ℕ) → bodies_at stream (sizes.Fixed n) found ≡ bodies 0 (map (alone_at stream (sizes.Fixed n)) found) 0
steps_bodies stream n [] = refl
steps_bodies stream n (place ∷ found) = ap (λ (xs : List (List ℕ)). bytes_at n stream place ∷ xs) (steps_bodies stream n found)

pub alone_bodies : (stream : List ℕ) (size : Size) (empties : ℕ)
    → bodies_at stream size (places_alone (length stream) empties size)
    ≡ bodies 0 (map (alone_at stream size) (places_alone (length stream) empties size)) 0
alone_bodies stream (sizes.Fixed n) empties = steps_bodies stream n (places_alone (length stream) empties (sizes.Fixed n))
alone_bodies stream sizes.Variable empties = refl

pub first_alone : (stream : List ℕ) (known : Known) (found : List ℕ) (records : List Record) → bodies_at stream known.size found ≡ bodies 0 records 0
    → (k : ℕ) (d : Known) → k < 1 → bodies_at stream (get_or (known ∷ []) k d).size (get_or (found ∷ []) k []) ≡ bodies 0 records k
first_alone stream known found records same zero d below = same
first_alone stream known found records same (suc k) d below = absurd (omega (arith, below))

-- how long a stream without ids is
turned : (m n : ℕ) → m + n ≡ n + m
turned m n = omega arith

lengths : (n : ℕ) (records : List Record) → AllByRecursion (IsAlone n) records
    → length (flat_map (λ (r : Record). r.bytes) records) ≡ n * length (bodies 0 records 0)
lengths n [] each = let none : 0 ≡ n * 0 = omega arith in none
lengths n (r ∷ records) each =
    let others = filter (is_of 0) records in
    let rest = lengths n records each.1 in
    let here : bodies 0 (r ∷ records) 0 ≡ r.bytes ∷ bodies 0 records 0 =
    ap (λ (rs : List Record). map (λ (x : Record). x.bytes) rs) (cond-true (nat_eq r.which 0) (r ∷ others) others (eq-eqb r.which 0 each.0.which)) in
    length-append r.bytes (flat_map (λ (x : Record). x.bytes) records)
    ∙ ap (λ (m : ℕ). m + length (flat_map (λ (x : Record). x.bytes) records)) each.0.long
    ∙ ap (λ (m : ℕ). n + m) rest
    ∙ turned n (n * length (bodies 0 records 0))
    ∙ sym (mul-suc n (length (bodies 0 records 0)))
    ∙ sym (ap (λ (xs : List (List ℕ)). n * length xs) here)

no_times : (n : ℕ) → n * 0 ≡ 0
no_times n = omega arith

-- of a stream without ids so much is records of the one group, and the others are its rest
pub parted : (size : Size) (n count : ℕ) (stream : List ℕ) (empties : ℕ) (records : List Record) (rest : List ℕ)
    → ((m : ℕ) → size ≡ sizes.Fixed m → n ≡ m) → count ≡ length (bodies 0 records 0)
    → IsSplitAlone empties size stream records rest → length stream ≡ n * count + length rest
parted (sizes.Fixed zero) n count stream empties records rest is counted split =
    let none : n ≡ 0 = is zero refl in
    let same : n * count ≡ 0 * count = ap (λ (m : ℕ). m * count) none in
    let long : length rest ≡ length stream = ap length split.rest_is in
    omega (arith, same, long)
parted (sizes.Fixed (suc m)) n count stream empties records rest is counted split =
    let front = flat_map (λ (r : Record). r.bytes) records in
    ap length split.whole
    ∙ length-append front rest
    ∙ ap (λ (k : ℕ). k + length rest)
    (lengths (suc m) records split.each ∙ ap (λ (k : ℕ). suc m * k) (sym counted) ∙ ap (λ (k : ℕ). k * count) (sym (is (suc m) refl)))
parted sizes.Variable n count stream empties records rest is counted split =
    let none : count ≡ 0 = counted ∙ ap (λ (rs : List Record). length (bodies 0 rs 0)) split.records_are in
    let same : n * count ≡ 0 = ap (λ (k : ℕ). n * k) none ∙ no_times n in
    let long : length rest ≡ length stream = ap length split.rest_is in
    omega (arith, same, long)

-- as many places as bodies
pub places_long : (stream : List ℕ) (size : Size) (places : List ℕ) (found : List (List ℕ)) → bodies_at stream size places ≡ found
    → length places ≡ length found
places_long stream size places found is =
    sym (length-map places (λ (place : ℕ). bytes_at (size_there stream size place) stream place)) ∙ ap length is
