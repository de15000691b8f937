-- What is written behind a history is read as those samples.
use Rattle.std.proofs.Common.{◌≡◌, ◌≢◌, ◌≤◌, ◌<◌, ◌+◌, ◌-◌, ◌^◌, ◌⊎◌, ℕ, zero, suc, Bool, true, false, List, [], ◌∷◌, ◌++◌, length, get_or, drop, map, refl, sym, ◌∙◌, ap, subst, arith, inl, inr, Some, length-append}
use Rattle.std.specs.Prelude.{slice_get, All, nat_le, nat_eq, ◌==◌, if◌then◌else◌, sum_by}
use Rattle.std.specs.List.{flat_map}
use Rattle.std.specs.Option.{option_map, option_map_or, option_and_then}
use Rattle.std.proofs.lemmas.Bool.{le-leb, lt-leb, ne_eqb, eq-eqb, cond-true, cond-false, cases_eq, cases_order}
use Rattle.std.proofs.lemmas.List.{append_assoc, append-nil, drop_at, take_at}
use Rattle.std.proofs.lemmas.List.Concat.{flat_map-append}
use Rattle.std.proofs.lemmas.List.Elements.{filter-append, All-append}
use Rattle.std.proofs.lemmas.List.Sums.{sum_by-append}
use Rattle.std.proofs.lemmas.Option.{slice_get_within, same_Some}
use Rattle.mdf_vlsd.specs.Value.{value_bytes, value_at}
use Rattle.mdf_layout.specs.History.{group_samples}
use Rattle.mdf_layout.specs.Layout.{Layout, record_size}
use Rattle.mdf_layout.specs.Rule.{spot_in, is_variable}
use Rattle.mdf_layout.specs.Values.{bytes_in, value_in, is_valid, entry_of, finders_behind, first_finder, sample_by}
use Rattle.mdf_layout.specs.Behind.{variables, first_id, value_records, value_size, offsets_from, offsets_behind, always, IsRecordBehind, AreEncodingsBehind}
use Rattle.mdf_layout.specs.Read.{Piece, piece_body, piece_bytes, IsPiece, stream_of, streams_from, values_of, record_of, samples_from, AreRead}
use Rattle.mdf_layout.specs.declared.field.FieldKind.{FieldKind}
use Rattle.mdf_layout.specs.declared.field.FieldKind.TheVariants.{Unsigned, Signed, Fixed, Variable, Virtual}
use Rattle.mdf_layout.specs.declared.field.FieldRow.{FieldRow}
use Rattle.mdf_layout.specs.declared.sample.Value.TheVariants as values
use Rattle.mdf_layout.specs.declared.sample.Entry.{Entry}
use Rattle.mdf_layout.specs.declared.sample.Sample.{Sample}
use Rattle.mdf_layout.proofs.Once.{ids_rise}
use Rattle.mdf_layout.proofs.Entered.{parts_of_entries}
use Rattle.mdf_layout.specs.Next.{added}
use Rattle.mdf_layout.proofs.Found.{AreFoundIn, joined, joined-lengths, found_behind, offset_in, sample_alike}

-- the records of values as pieces
abbrev pub value_pieces : ℕ → List (List ℕ) → List Piece
value_pieces id [] = []
value_pieces id (v ∷ vs) = record { id = id; content = v } ∷ value_pieces (id + 1) vs

pub value_pieces-bytes : (groups id : ℕ) (vs : List (List ℕ)) → groups < id → flat_map (piece_bytes groups) (value_pieces id vs) ≡ value_records id vs
unfolding value_records
value_pieces-bytes groups id [] over = refl
value_pieces-bytes groups id (v ∷ vs) over =
    let body : piece_body groups (record { id = id; content = v }) ≡ value_bytes v = cond-false (nat_le id groups) v (value_bytes v) (lt-leb id groups over) in
    ap (λ xs. (id ∷ xs) ++ flat_map (piece_bytes groups) (value_pieces (id + 1) vs)) body
    ∙ ap (λ xs. id ∷ (value_bytes v ++ xs)) (value_pieces-bytes groups (id + 1) vs (omega (arith, over)))

pub each_value : (layouts : List Layout) (id : ℕ) (vs : List (List ℕ)) → length layouts < id → id + length vs ≤ first_id layouts (length layouts) → All (λ v. length v < 2 ^ 32) vs
    → All (IsPiece layouts) (value_pieces id vs)
each_value layouts id [] over known short k d within = absurd (omega (arith, within))
each_value layouts id (v ∷ vs) over known short zero d within = record {
  some = omega (arith, over);
  known = omega (arith, known);
  whole = λ layout there. absurd (omega (arith, over, slice_get_within layouts (id - 1) layout there));
  short = λ _. short 0 [] (omega arith);
}
each_value layouts id (v ∷ vs) over known short (suc k) d within =
    each_value layouts (id + 1) vs (omega (arith, over)) (omega (arith, known)) (λ j e less. short (suc j) e (omega arith)) k d (omega (arith, within))

-- the streams of pieces with other ids stay
other_streams : (piece : Piece) (pieces : List Piece) (id : ℕ) (rows : List FieldRow) → (piece.id < id) ⊎ (id + length rows ≤ piece.id)
    → streams_from (piece ∷ pieces) id rows ≡ streams_from pieces id rows
other_streams piece pieces id [] apart = refl
other_streams piece pieces id (row ∷ rows) apart =
    let differs : piece.id ≢ id = elim apart [ inl less ↦ λ same. omega (arith, less, same) | inr more ↦ λ same. omega (arith, more, same) ] in
    let still : (piece.id < id + 1) ⊎ (id + 1 + length rows ≤ piece.id) = elim apart [ inl less ↦ inl (omega (arith, less)) | inr more ↦ inr (omega (arith, more)) ] in
    let one : stream_of (piece ∷ pieces) id ≡ stream_of pieces id =
    ap (λ xs. xs ++ stream_of pieces id) (cond-false (nat_eq piece.id id) (value_bytes piece.content) [] (ne_eqb piece.id id differs)) in
    ap (λ s. s ∷ streams_from (piece ∷ pieces) (id + 1) rows) one ∙ ap (λ ss. stream_of pieces id ∷ ss) (other_streams piece pieces (id + 1) rows still)

other_values : (from : ℕ) (vs : List (List ℕ)) (pieces : List Piece) (id : ℕ) (rows : List FieldRow) → (from + length vs ≤ id) ⊎ (id + length rows ≤ from)
    → streams_from (value_pieces from vs ++ pieces) id rows ≡ streams_from pieces id rows
other_values from [] pieces id rows apart = refl
other_values from (v ∷ vs) pieces id rows apart =
    let first : (from < id) ⊎ (id + length rows ≤ from) = elim apart [ inl less ↦ inl (omega (arith, less)) | inr more ↦ inr (omega (arith, more)) ] in
    let still : (from + 1 + length vs ≤ id) ⊎ (id + length rows ≤ from + 1) = elim apart [ inl less ↦ inl (omega (arith, less)) | inr more ↦ inr (omega (arith, more)) ] in
    other_streams (record { id = from; content = v }) (value_pieces (from + 1) vs ++ pieces) id rows first
    ∙ other_values (from + 1) vs pieces id rows still

-- streams of pieces behind pieces
joined_streams : (xs ys : List Piece) (id : ℕ) (rows : List FieldRow) → streams_from (xs ++ ys) id rows ≡ joined (streams_from xs id rows) (streams_from ys id rows)
joined_streams xs ys id [] = refl
joined_streams xs ys id (row ∷ rows) =
    ap (λ s. s ∷ streams_from (xs ++ ys) (id + 1) rows) (flat_map-append (λ (piece : Piece). if nat_eq piece.id id then value_bytes piece.content else []) xs ys)
    ∙ ap (λ ss. (stream_of xs id ++ stream_of ys id) ∷ ss) (joined_streams xs ys (id + 1) rows)

pub length-streams : (pieces : List Piece) (id : ℕ) (rows : List FieldRow) → length (streams_from pieces id rows) ≡ length rows
length-streams pieces id [] = refl
length-streams pieces id (row ∷ rows) = omega (arith, length-streams pieces (id + 1) rows)

-- no value with a later id is in a stream
none_of : (from : ℕ) (vs : List (List ℕ)) (pieces : List Piece) (id : ℕ) → id < from → stream_of (value_pieces from vs ++ pieces) id ≡ stream_of pieces id
none_of from [] pieces id less = refl
none_of from (v ∷ vs) pieces id less =
    ap (λ xs. xs ++ stream_of (value_pieces (from + 1) vs ++ pieces) id) (cond-false (nat_eq from id) (value_bytes v) [] (ne_eqb from id (λ same. omega (arith, less, same))))
    ∙ none_of (from + 1) vs pieces id (omega (arith, less))

-- the streams of a sample's values are these, before others
own_streams : (id : ℕ) (vs : List (List ℕ)) (pieces : List Piece) (rows : List FieldRow) → length vs ≡ length rows
    → streams_from (value_pieces id vs ++ pieces) id rows ≡ joined (map value_bytes vs) (streams_from pieces id rows)
own_streams id [] pieces [] count = refl
own_streams id [] pieces (row ∷ rows) count = absurd (omega (arith, count))
own_streams id (v ∷ vs) pieces [] count = absurd (omega (arith, count))
own_streams id (v ∷ vs) pieces (row ∷ rows) count =
    let piece : Piece = record { id = id; content = v } in
    let behind = value_pieces (id + 1) vs ++ pieces in
    let rest = other_streams piece behind (id + 1) rows (inl (omega arith)) ∙ own_streams (id + 1) vs pieces rows (omega (arith, count)) in
    let mine : stream_of (piece ∷ behind) id ≡ value_bytes v ++ stream_of behind id =
    ap (λ xs. xs ++ stream_of behind id) (cond-true (nat_eq id id) (value_bytes v) [] (eq-eqb id id refl)) in
    let others : stream_of behind id ≡ stream_of pieces id = none_of (id + 1) vs pieces id (omega arith) in
    ap (λ s. s ∷ streams_from (piece ∷ behind) (id + 1) rows) (mine ∙ ap (λ xs. value_bytes v ++ xs) others)
    ∙ ap (λ ss. (value_bytes v ++ stream_of pieces id) ∷ ss) rest

-- the offsets behind samples and more samples
offsets_with : Bool → ℕ → List FieldRow → List Sample → List ℕ
offsets_with b k rows samples = if b then sum_by (value_size k) samples ∷ offsets_from (k + 1) rows samples else offsets_from (k + 1) rows samples

append_step : (b : Bool) (k : ℕ) (rows : List FieldRow) (xs ys : List Sample) → offsets_from (k + 1) rows (xs ++ ys) ≡ added (offsets_from (k + 1) rows xs) (offsets_from (k + 1) rows ys)
    → offsets_with b k rows (xs ++ ys) ≡ added (offsets_with b k rows xs) (offsets_with b k rows ys)
unfolding offsets_with
append_step true k rows xs ys rest =
    ap (λ n. n ∷ offsets_from (k + 1) rows (xs ++ ys)) (sum_by-append (value_size k) xs ys) ∙ ap (λ ns. (sum_by (value_size k) xs + sum_by (value_size k) ys) ∷ ns) rest
append_step false k rows xs ys rest = rest

pub offsets-append : (k : ℕ) (rows : List FieldRow) (xs ys : List Sample) → offsets_from k rows (xs ++ ys) ≡ added (offsets_from k rows xs) (offsets_from k rows ys)
unfolding offsets_from offsets_with
offsets-append k [] xs ys = refl
offsets-append k (row ∷ rows) xs ys = append_step (is_variable row) k rows xs ys (offsets-append (k + 1) rows xs ys)

-- no bytes and no samples
zero_step : (b : Bool) (row : FieldRow) (rows : List FieldRow) (k id : ℕ) → ((id : ℕ) → map length (streams_from [] id (variables rows)) ≡ offsets_from (k + 1) rows [])
    → map length (streams_from [] id (if b then row ∷ variables rows else variables rows)) ≡ offsets_with b k rows []
unfolding offsets_with
zero_step true row rows k id rest = ap (λ ns. 0 ∷ ns) (rest (id + 1))
zero_step false row rows k id rest = rest id

zeros : (rows : List FieldRow) (k id : ℕ) → map length (streams_from [] id (variables rows)) ≡ offsets_from k rows []
unfolding offsets_from offsets_with
zeros [] k id = refl
zeros (row ∷ rows) k id = zero_step (is_variable row) row rows k id (λ id. zeros rows (k + 1) id)

added_none : (xs : List ℕ) (id : ℕ) (rows : List FieldRow) → added xs (map length (streams_from [] id rows)) ≡ xs
added_none [] id rows = refl
added_none (x ∷ xs) id [] = refl
added_none (x ∷ xs) id (row ∷ rows) = let same : x + 0 ≡ x = omega arith in ap (λ n. n ∷ added xs (map length (streams_from [] (id + 1) rows))) same ∙ ap (λ ns. x ∷ ns) (added_none xs (id + 1) rows)

-- the first of what is left of a list
pub head_of : {A : Type 0} (xs : List A) (k : ℕ) (x : A) (ys : List A) → drop k xs ≡ x ∷ ys → (slice_get xs k ≡ Some x) × (drop (suc k) xs ≡ ys)
head_of [] zero x ys is = cc
head_of [] (suc k) x ys is = cc
head_of (z ∷ zs) zero x ys is = let same : z ≡ x = cc in let rest : zs ≡ ys = cc in (ap Some same, rest)
head_of (z ∷ zs) (suc k) x ys is = head_of zs k x ys is

-- the value of a channel of variable length
pub value_of_entry : (kind : FieldKind) (row : FieldRow) (bytes inval v : List ℕ) (index : ℕ) (entry : Entry) → row.kind ≡ kind → is_variable row ≡ true
    → entry_of row bytes inval (always v) index ≡ Some entry → bytes_in entry.value ≡ v
value_of_entry Unsigned row bytes inval v index entry is value given = let wrong : false ≡ true = rw is at value in cc
value_of_entry Signed row bytes inval v index entry is value given = let wrong : false ≡ true = rw is at value in cc
value_of_entry Fixed row bytes inval v index entry is value given = let wrong : false ≡ true = rw is at value in cc
value_of_entry Variable row bytes inval v index entry is value given =
    let there : Some (record { value = values.Bytes v; valid = is_valid row inval }) ≡ Some entry =
    ap (λ (k : FieldKind). option_map (λ x. record { value = x; valid = is_valid row inval }) (value_in k (spot_in row) bytes (always v) index)) (sym is) ∙ given in
    ap (λ (e : Entry). bytes_in e.value) (sym (same_Some (record { value = values.Bytes v; valid = is_valid row inval }) entry there))
value_of_entry Virtual row bytes inval v index entry is value given = let wrong : false ≡ true = rw is at value in cc

-- what one sample adds to the offsets: its values with their lengths
module _ (row : FieldRow) (rows : List FieldRow) (bytes inval : List ℕ) (index : ℕ) (s : Sample) where
  one_step : (b : Bool) (k : ℕ) (vs : List (List ℕ)) (entry : Entry) (behind : List Entry) → is_variable row ≡ b
      → length vs ≡ length (if b then row ∷ variables rows else variables rows)
      → slice_get s.values k ≡ Some entry → entry_of row bytes inval (first_finder (map always vs)) index ≡ Some entry
      → sample_by rows bytes inval (if b then drop 1 (map always vs) else map always vs) index ≡ Some behind
      → ((ws : List (List ℕ)) → length ws ≡ length (variables rows) → sample_by rows bytes inval (map always ws) index ≡ Some behind
      → offsets_from (k + 1) rows (s ∷ []) ≡ map length (map value_bytes ws))
      → offsets_with b k rows (s ∷ []) ≡ map length (map value_bytes vs)
  unfolding offsets_with
  one_step false k vs entry behind is count there given more rest = rest vs count more
  one_step true k [] entry behind is count there given more rest = absurd (omega (arith, count))
  one_step true k (v ∷ vs) entry behind is count there given more rest =
      let value_is = value_of_entry row.kind row bytes inval v index entry refl is given in
      let size : value_size k s ≡ 4 + length v =
      ap (λ found. option_map_or (λ e. 4 + length (bytes_in e.value)) found 0) there ∙ ap (λ xs. 4 + length xs) value_is in
      let sum : sum_by (value_size k) (s ∷ []) ≡ length (value_bytes v) = omega (arith, size) in
      ap (λ n. n ∷ offsets_from (k + 1) rows (s ∷ [])) sum ∙ ap (λ ns. length (value_bytes v) ∷ ns) (rest vs (omega (arith, count)) more)

one_sample : (rows : List FieldRow) (k : ℕ) (bytes inval : List ℕ) (vs : List (List ℕ)) (index : ℕ) (s : Sample) (entries : List Entry)
    → drop k s.values ≡ entries → sample_by rows bytes inval (map always vs) index ≡ Some entries → length vs ≡ length (variables rows)
    → offsets_from k rows (s ∷ []) ≡ map length (map value_bytes vs)
unfolding offsets_from offsets_with sample_by
one_sample [] k bytes inval [] index s entries left given count = refl
one_sample [] k bytes inval (v ∷ vs) index s entries left given count = absurd (omega (arith, count))
one_sample (row ∷ rows) k bytes inval vs index s entries left given count =
    let found = parts_of_entries (entry_of row bytes inval (first_finder (map always vs)) index) (sample_by rows bytes inval (finders_behind row (map always vs)) index) entries given in
    let here = head_of s.values k found.0 found.1 (left ∙ sym found.4) in
    let next : k + 1 ≡ suc k = omega arith in
    one_step row rows bytes inval index s (is_variable row) k vs found.0 found.1 refl count here.0 found.2 found.3
    (λ ws counted more. one_sample rows (k + 1) bytes inval ws index s found.1 (ap (λ n. drop n s.values) next ∙ here.1) more counted)

-- the streams of the pieces so far are as long as the next offsets
record HoldStreams (layouts : List Layout) (front : List Piece) (before : List Sample) : Type 0 where
  pub lengths : (g : ℕ) (layout : Layout) → slice_get layouts g ≡ Some layout
      → map length (streams_from front (first_id layouts g) (variables layout.rows)) ≡ offsets_behind layout.rows (group_samples before g)

hold_none : (layouts : List Layout) → HoldStreams layouts [] []
hold_none layouts = record { lengths = λ g layout known. zeros layout.rows 0 (first_id layouts g) }

module _ (layouts : List Layout) (before : List Sample) (bytes : List ℕ) (sample : Sample) (r : IsRecordBehind layouts before bytes sample) where
  abbrev pub own_id : ℕ
  own_id = first_id layouts sample.group

  abbrev pub group_piece : Piece
  group_piece = record { id = sample.group + 1; content = r.data_bytes ++ r.inval_bytes }

  abbrev pub own_pieces : List Piece
  own_pieces = value_pieces own_id r.values ++ group_piece ∷ []

  in_layouts : sample.group < length layouts
  in_layouts = slice_get_within layouts sample.group r.layout r.known

  over_groups : (g : ℕ) → sample.group + 1 < first_id layouts g
  over_groups g = omega (arith, in_layouts)

  -- of the sample's own group, and of another one
  own_lengths : map length (streams_from own_pieces own_id (variables r.layout.rows)) ≡ offsets_behind r.layout.rows (sample ∷ [])
  own_lengths =
      let vars = variables r.layout.rows in
      ap (map length) (own_streams own_id r.values (group_piece ∷ []) vars r.count)
      ∙ joined-lengths (map value_bytes r.values) (streams_from (group_piece ∷ []) own_id vars)
      ∙ ap (λ ss. added (map length (map value_bytes r.values)) (map length ss)) (other_streams group_piece [] own_id vars (inl (over_groups sample.group)))
      ∙ added_none (map length (map value_bytes r.values)) own_id vars
      ∙ sym (one_sample r.layout.rows 0 r.data_bytes r.inval_bytes r.values (length (group_samples before sample.group)) sample sample.values refl r.entries r.count)

  other_lengths : (g : ℕ) (layout : Layout) → slice_get layouts g ≡ Some layout → g ≢ sample.group
      → map length (streams_from own_pieces (first_id layouts g) (variables layout.rows)) ≡ offsets_behind layout.rows []
  other_lengths g layout known differs =
      let id = first_id layouts g in
      let vars = variables layout.rows in
      let apart : (own_id + length r.values ≤ id) ⊎ (id + length vars ≤ own_id) = elim (cases_order sample.group g) [
        | inl same ↦ absurd (differs (sym same))
        | inr (inl less) ↦ inl (omega (arith, r.count, ids_rise layouts sample.group g r.layout r.known less))
        | inr (inr more) ↦ inr (ids_rise layouts g sample.group layout known more)
      ] in
      ap (map length) (other_values own_id r.values (group_piece ∷ []) id vars apart ∙ other_streams group_piece [] id vars (inl (over_groups g)))
      ∙ zeros layout.rows 0 id

  of_group : (g : ℕ) (layout : Layout) → slice_get layouts g ≡ Some layout
      → map length (streams_from own_pieces (first_id layouts g) (variables layout.rows)) ≡ offsets_behind layout.rows (group_samples (sample ∷ []) g)
  of_group g layout known = elim (cases_eq sample.group g) [
    | inl same ↦
        let layout_is : r.layout ≡ layout = same_Some r.layout layout (sym r.known ∙ ap (slice_get layouts) same ∙ known) in
        let group : group_samples (sample ∷ []) g ≡ sample ∷ [] = cond-true (sample.group == g) (sample ∷ []) [] (eq-eqb sample.group g same) in
        subst (λ l. map length (streams_from own_pieces (first_id layouts g) (variables l.rows)) ≡ offsets_behind l.rows (group_samples (sample ∷ []) g)) layout_is
        (subst (λ h. map length (streams_from own_pieces (first_id layouts h) (variables r.layout.rows)) ≡ offsets_behind r.layout.rows (group_samples (sample ∷ []) g)) same
        (own_lengths ∙ ap (offsets_behind r.layout.rows) (sym group)))
    | inr differs ↦
        let group : group_samples (sample ∷ []) g ≡ [] = cond-false (sample.group == g) (sample ∷ []) [] (ne_eqb sample.group g differs) in
        other_lengths g layout known (λ same. differs (sym same)) ∙ ap (offsets_behind layout.rows) (sym group)
  ]

  hold_more : (front : List Piece) → HoldStreams layouts front before → HoldStreams layouts (front ++ own_pieces) (before ++ sample ∷ [])
  hold_more front hold = record {
    lengths = λ g layout known.
        let id = first_id layouts g in
        let vars = variables layout.rows in
        ap (map length) (joined_streams front own_pieces id vars)
        ∙ joined-lengths (streams_from front id vars) (streams_from own_pieces id vars)
        ∙ ap (λ ns. added ns (map length (streams_from own_pieces id vars))) (hold.lengths g layout known)
        ∙ ap (added (offsets_behind layout.rows (group_samples before g))) (of_group g layout known)
        ∙ sym (offsets-append 0 layout.rows (group_samples before g) (group_samples (sample ∷ []) g))
        ∙ ap (offsets_behind layout.rows) (sym (filter-append (λ (s : Sample). s.group == g) before (sample ∷ [])));
  }

  -- the sample is read from its group's record
  sample_there : (front more : List Piece) → HoldStreams layouts front before
      → record_of layouts (front ++ (own_pieces ++ more)) before (sample.group + 1 - 1) (r.data_bytes ++ r.inval_bytes) ≡ Some sample
  sample_there front more hold =
      let rows = r.layout.rows in
      let vars = variables rows in
      let all = front ++ (own_pieces ++ more) in
      let fronts = streams_from front own_id vars in
      let rests = streams_from (group_piece ∷ more) own_id vars in
      let streams : streams_from all own_id vars ≡ joined fronts (joined (map value_bytes r.values) rests) =
      joined_streams front (own_pieces ++ more) own_id vars
      ∙ ap (λ ps. joined fronts (streams_from ps own_id vars)) (append_assoc (value_pieces own_id r.values) (group_piece ∷ []) more)
      ∙ ap (joined fronts) (own_streams own_id r.values (group_piece ∷ more) vars r.count) in
      let at = found_behind fronts rests r.values (length-streams front own_id vars ∙ sym r.count) (length-streams (group_piece ∷ more) own_id vars ∙ sym r.count) r.short in
      let offsets : map length fronts ≡ map (offset_in r.data_bytes) vars = hold.lengths sample.group r.layout r.known ∙ sym r.offsets in
      let found = subst (λ os. AreFoundIn (joined fronts (joined (map value_bytes r.values) rests)) os r.values) offsets at in
      let index = length (group_samples before sample.group) in
      let read = ap (λ ss. sample_by rows r.data_bytes r.inval_bytes (map value_at ss) index) streams
      ∙ sample_alike rows r.data_bytes r.inval_bytes (joined fronts (joined (map value_bytes r.values) rests)) r.values index found ∙ r.entries in
      let values : values_of layouts all before sample.group r.layout (r.data_bytes ++ r.inval_bytes) ≡ Some sample.values =
      ap (λ xs. sample_by rows xs (drop r.layout.data_bytes (r.data_bytes ++ r.inval_bytes)) (map value_at (streams_from all own_id vars)) index) (take_at r.data_bytes r.inval_bytes r.layout.data_bytes r.data_long)
      ∙ ap (λ xs. sample_by rows r.data_bytes xs (map value_at (streams_from all own_id vars)) index) (drop_at r.data_bytes r.inval_bytes r.layout.data_bytes r.data_long)
      ∙ read in
      let back : sample.group + 1 - 1 ≡ sample.group = omega arith in
      ap (λ g. record_of layouts all before g (r.data_bytes ++ r.inval_bytes)) back
      ∙ ap (option_and_then (λ (layout : Layout). option_map (λ vs. record { group = sample.group; values = vs }) (values_of layouts all before sample.group layout (r.data_bytes ++ r.inval_bytes)))) r.known
      ∙ ap (option_map (λ (vs : List Entry). record { group = sample.group; values = vs })) values

  pub own_bytes : bytes ≡ flat_map (piece_bytes (length layouts)) own_pieces
  own_bytes =
      let groups = length layouts in
      let body : piece_body groups group_piece ≡ r.data_bytes ++ r.inval_bytes =
      cond-true (nat_le (sample.group + 1) groups) (r.data_bytes ++ r.inval_bytes) (value_bytes (r.data_bytes ++ r.inval_bytes)) (le-leb (sample.group + 1) groups (omega (arith, in_layouts))) in
      r.bytes_are
      ∙ ap (λ xs. xs ++ (sample.group + 1) ∷ (r.data_bytes ++ r.inval_bytes)) (sym (value_pieces-bytes groups own_id r.values (omega arith)))
      ∙ ap (λ xs. flat_map (piece_bytes groups) (value_pieces own_id r.values) ++ (sample.group + 1) ∷ xs) (sym body ∙ sym (append-nil (piece_body groups group_piece)))
      ∙ sym (flat_map-append (piece_bytes groups) (value_pieces own_id r.values) (group_piece ∷ []))

  group_is_piece : IsPiece layouts group_piece
  group_is_piece = record {
    some = omega arith;
    known = omega (arith, in_layouts);
    whole = λ layout known.
        let back : sample.group + 1 - 1 ≡ sample.group = omega arith in
        let same : r.layout ≡ layout = same_Some r.layout layout (sym r.known ∙ ap (slice_get layouts) (sym back) ∙ known) in
        omega (arith, length-append r.data_bytes r.inval_bytes, r.data_long, r.inval_long, ap record_size same);
    short = λ over. absurd (omega (arith, in_layouts, over));
  }

  pub each_own : All (IsPiece layouts) own_pieces
  each_own =
      All-append (IsPiece layouts) (value_pieces own_id r.values) (group_piece ∷ [])
      (each_value layouts own_id r.values (omega arith) (omega (arith, r.count, ids_rise layouts sample.group (length layouts) r.layout r.known in_layouts)) r.short)
      (λ k d within. elim (cases_eq k 0) [
        | inl first ↦ subst (λ n. IsPiece layouts (get_or (group_piece ∷ []) n d)) (sym first) group_is_piece
        | inr later ↦ absurd (omega (arith, within, later))
      ])

-- the pieces of values are passed over
skip_values : (layouts : List Layout) (all : List Piece) (before : List Sample) (id : ℕ) (vs : List (List ℕ)) (pieces : List Piece) → length layouts < id
    → samples_from layouts all before (value_pieces id vs ++ pieces) ≡ samples_from layouts all before pieces
unfolding samples_from
skip_values layouts all before id [] pieces over = refl
skip_values layouts all before id (v ∷ vs) pieces over =
    cond-false (nat_le id (length layouts)) _ _ (lt-leb id (length layouts) over) ∙ skip_values layouts all before (id + 1) vs pieces (omega (arith, over))

-- what is written behind a history, as pieces behind pieces
record Continues (layouts : List Layout) (front : List Piece) (before : List Sample) (bytes : List ℕ) (samples : List Sample) : Type 0 where
  pub pieces : List Piece
  pub each : All (IsPiece layouts) pieces
  pub bytes_are : bytes ≡ flat_map (piece_bytes (length layouts)) pieces
  pub samples_are : samples_from layouts (front ++ pieces) before pieces ≡ Some samples

module _ (layouts : List Layout) (front : List Piece) (before : List Sample) (first rest : List ℕ) (sample : Sample) (samples : List Sample)
    (r : IsRecordBehind layouts before first sample) (hold : HoldStreams layouts front before) where
  with_sample : Continues layouts (front ++ own_pieces layouts before first sample r) (before ++ sample ∷ []) rest samples → Continues layouts front before (first ++ rest) (sample ∷ samples)
  unfolding samples_from
  with_sample behind =
      let mine = own_pieces layouts before first sample r in
      let groups = length layouts in
      let all = front ++ (mine ++ behind.pieces) in
      let piece = group_piece layouts before first sample r in
      let id = first_id layouts sample.group in
      let rests : samples_from layouts all (before ++ sample ∷ []) behind.pieces ≡ Some samples =
      ap (λ ps. samples_from layouts ps (before ++ sample ∷ []) behind.pieces) (sym (append_assoc front mine behind.pieces)) ∙ behind.samples_are in
      record {
        pieces = mine ++ behind.pieces;
        each = All-append (IsPiece layouts) mine behind.pieces (each_own layouts before first sample r) behind.each;
        bytes_are = ap (λ xs. xs ++ rest) (own_bytes layouts before first sample r) ∙ ap (λ xs. flat_map (piece_bytes groups) mine ++ xs) behind.bytes_are
            ∙ sym (flat_map-append (piece_bytes groups) mine behind.pieces);
        samples_are =
            ap (samples_from layouts all before) (append_assoc (value_pieces id r.values) (piece ∷ []) behind.pieces)
            ∙ skip_values layouts all before id r.values (piece ∷ behind.pieces) (omega arith)
            ∙ cond-true (nat_le (sample.group + 1) groups) _ _ (le-leb (sample.group + 1) groups (omega (arith, in_layouts layouts before first sample r)))
            ∙ ap (option_and_then (λ (s : Sample). option_map (λ samples. s ∷ samples) (samples_from layouts all (before ++ s ∷ []) behind.pieces))) (sample_there layouts before first sample r front behind.pieces hold)
            ∙ ap (option_map (λ (samples : List Sample). sample ∷ samples)) rests;
      }

continues : (layouts : List Layout) (front : List Piece) (before : List Sample) (bytes : List ℕ) (samples : List Sample) → HoldStreams layouts front before
    → AreEncodingsBehind layouts before bytes samples → Continues layouts front before bytes samples
unfolding AreEncodingsBehind samples_from
continues layouts front before bytes [] hold none = record {
  pieces = [];
  each = λ k d within. absurd (omega (arith, within));
  bytes_are = none;
  samples_are = refl;
}
continues layouts front before bytes (sample ∷ samples) hold (first, rest, whole, one, behind) =
    let mine = own_pieces layouts before first sample one.is in
    let more = continues layouts (front ++ mine) (before ++ sample ∷ []) rest samples (hold_more layouts before first sample one.is front hold) behind in
    subst (λ xs. Continues layouts front before xs (sample ∷ samples)) (sym whole) (with_sample layouts front before first rest sample samples one.is hold more)

pub encodings_read : (layouts : List Layout) (bytes : List ℕ) (samples : List Sample) → AreEncodingsBehind layouts [] bytes samples → AreRead layouts bytes samples
encodings_read layouts bytes samples written =
    let found = continues layouts [] [] bytes samples (hold_none layouts) written in
    record { pieces = found.pieces; each = found.each; bytes_are = found.bytes_are; samples_are = found.samples_are }
