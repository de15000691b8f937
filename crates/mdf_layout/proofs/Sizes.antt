-- How long records of values of variable length are.
use Rattle.std.proofs.Common.{◌≡◌, ◌<◌, ◌≤◌, ◌+◌, ◌*◌, ℕ, suc, Bool, true, false, List, [], ◌∷◌, ◌++◌, length, get_or, drop, map, refl, sym, ◌∙◌, ap, arith, length-append, Some}
use Rattle.std.specs.Prelude.{sum_by, if◌then◌else◌, not}
use Rattle.std.specs.Option.{option_map_or}
use Rattle.std.proofs.lemmas.List.{drop_more}
use Rattle.std.proofs.lemmas.List.Sums.{sum_by-cons}
use Rattle.std.proofs.lemmas.List.Filters.{length-filter_both}
use Rattle.mdf_vlsd.specs.Value.{value_bytes}
use Rattle.mdf_layout.specs.Layout.{Layout, record_size}
use Rattle.mdf_layout.specs.Rule.{is_variable, is_variable_kind}
use Rattle.mdf_layout.specs.Written.{ValueFits, AreEntriesOf}
use Rattle.mdf_layout.specs.Values.{bytes_in, entry_of, first_finder, finders_behind, sample_by}
use Rattle.mdf_layout.specs.Record.{long_values, long_size, value_record_size, encoded_size, history_size}
use Rattle.mdf_layout.specs.Behind.{variables, value_records, first_id, always, IsRecordBehind, AreEncodingsBehind}
use Rattle.mdf_layout.specs.declared.field.FieldKind.{FieldKind}
use Rattle.mdf_layout.specs.declared.field.FieldKind.TheVariants.{Unsigned, Signed, Fixed, Variable, Virtual}
use Rattle.mdf_layout.specs.declared.field.FieldRow.{FieldRow}
use Rattle.mdf_layout.specs.declared.sample.Value.{Value}
use Rattle.mdf_layout.specs.declared.sample.Value.TheVariants as value
use Rattle.mdf_layout.specs.declared.sample.Entry.{Entry}
use Rattle.mdf_layout.specs.declared.sample.Sample.{Sample}
use Rattle.mdf_layout.proofs.Entered.{parts_of_entries}
use Rattle.mdf_layout.proofs.Bridge.{value_of_entry}
use Rattle.mdf_layout.proofs.Encoded.{long_with}

-- no more channels are of variable length than there are channels
pub few_variables : (rows : List FieldRow) → length (variables rows) ≤ length rows
few_variables rows = omega (arith, length-filter_both is_variable (λ (row : FieldRow). not (is_variable row)) (λ row. refl) rows)

-- with one channel before
size_step : (b : Bool) (entry : Entry) (rest : List (List ℕ)) → sum_by (λ value. 5 + length value) (long_with b entry rest)
    ≡ (if b then 5 + length (bytes_in entry.value) else 0) + sum_by (λ value. 5 + length value) rest
unfolding long_with
size_step true entry rest = sum_by-cons (λ (value : List ℕ). 5 + length value) (bytes_in entry.value) rest
size_step false entry rest = omega arith

pub long_size-cons : (row : FieldRow) (rows : List FieldRow) (entry : Entry) (entries : List Entry)
    → long_size (row ∷ rows) (entry ∷ entries) ≡ value_record_size row entry + long_size rows entries
unfolding long_values long_with
long_size-cons row rows entry entries = size_step (is_variable row) entry (long_values rows entries)

pub long_size-none : (entries : List Entry) → long_size [] entries ≡ 0
unfolding long_values
long_size-none entries = refl

-- the channels from k on, without the first of them
pub long_size-drop : (rows : List FieldRow) (entries : List Entry) (k : ℕ) (row : FieldRow) (entry : Entry)
    → k < length rows → k < length entries → row ≡ get_or rows k row → entry ≡ get_or entries k entry
    → long_size (drop k rows) (drop k entries) ≡ value_record_size row entry + long_size (drop (k + 1) rows) (drop (k + 1) entries)
long_size-drop rows entries k row entry within within' row_is entry_is =
    let front = drop_more rows k row within in
    let front' = drop_more entries k entry within' in
    ap (λ (rs : List FieldRow). long_size rs (drop k entries)) front ∙ ap (long_size (get_or rows k row ∷ drop (k + 1) rows)) front'
    ∙ long_size-cons (get_or rows k row) (drop (k + 1) rows) (get_or entries k entry) (drop (k + 1) entries)
    ∙ ap (λ (r : FieldRow). value_record_size r (get_or entries k entry) + long_size (drop (k + 1) rows) (drop (k + 1) entries)) (sym row_is)
    ∙ ap (λ (e : Entry). value_record_size row e + long_size (drop (k + 1) rows) (drop (k + 1) entries)) (sym entry_is)

-- they are not long in all
value_short : (kind : FieldKind) (bits : ℕ) (v : Value) → ValueFits kind bits v → (if is_variable_kind kind then 5 + length (bytes_in v) else 0) ≤ 4294967300
value_short Variable bits (value.Bytes b) fits = omega (arith, fits)
value_short Variable bits (value.Unsigned n) fits = absurd fits
value_short Variable bits (value.Signed n) fits = absurd fits
value_short Variable bits (value.Index n) fits = absurd fits
value_short Unsigned bits v fits = omega arith
value_short Signed bits v fits = omega arith
value_short Fixed bits v fits = omega arith
value_short Virtual bits v fits = omega arith

pub long_size-most : (rows : List FieldRow) (entries : List Entry) → AreEntriesOf rows entries → long_size rows entries ≤ 4294967300 * length rows
unfolding long_values
long_size-most [] entries fit = omega arith
long_size-most (row ∷ rows) [] fit = absurd (omega (arith, fit.count))
long_size-most (row ∷ rows) (entry ∷ entries) fit =
    let one = fit.each 0 row entry (omega arith) in
    let rest : AreEntriesOf rows entries = record { count = omega (arith, fit.count); each = λ k r e within. fit.each (suc k) r e (omega (arith, within)) } in
    omega (arith, long_size-cons row rows entry entries, value_short row.kind row.bits entry.value one.value, long_size-most rows entries rest)

-- the values whose records stand before that of the group are those of variable length
module _ (row : FieldRow) (rows : List FieldRow) (bytes inval : List ℕ) (index : ℕ) where
  long_step : (b : Bool) (vs : List (List ℕ)) (entry : Entry) (behind : List Entry) → is_variable row ≡ b
      → length vs ≡ length (if b then row ∷ variables rows else variables rows)
      → entry_of row bytes inval (first_finder (map always vs)) index ≡ Some entry
      → sample_by rows bytes inval (if b then drop 1 (map always vs) else map always vs) index ≡ Some behind
      → ((ws : List (List ℕ)) → length ws ≡ length (variables rows) → sample_by rows bytes inval (map always ws) index ≡ Some behind → long_values rows behind ≡ ws)
      → long_with b entry (long_values rows behind) ≡ vs
  unfolding long_with
  long_step false vs entry behind is count given more rest = rest vs count more
  long_step true [] entry behind is count given more rest = absurd (omega (arith, count))
  long_step true (v ∷ vs) entry behind is count given more rest =
      ap (λ x. x ∷ long_values rows behind) (value_of_entry row.kind row bytes inval v index entry refl is given)
      ∙ ap (λ xs. v ∷ xs) (rest vs (omega (arith, count)) more)

pub long_are : (rows : List FieldRow) (bytes inval : List ℕ) (vs : List (List ℕ)) (index : ℕ) (entries : List Entry)
    → sample_by rows bytes inval (map always vs) index ≡ Some entries → length vs ≡ length (variables rows) → long_values rows entries ≡ vs
unfolding long_values sample_by long_with
long_are [] bytes inval [] index entries given count = refl
long_are [] bytes inval (v ∷ vs) index entries given count = absurd (omega (arith, count))
long_are (row ∷ rows) bytes inval vs index entries given count =
    let found = parts_of_entries (entry_of row bytes inval (first_finder (map always vs)) index) (sample_by rows bytes inval (finders_behind row (map always vs)) index) entries given in
    ap (long_values (row ∷ rows)) (sym found.4)
    ∙ long_step row rows bytes inval index (is_variable row) vs found.0 found.1 refl count found.2 found.3
    (λ ws counted more. long_are rows bytes inval ws index found.1 more counted)

-- how long records are
length-value_records : (id : ℕ) (vs : List (List ℕ)) → length (value_records id vs) ≡ sum_by (λ value. 5 + length value) vs
unfolding value_records
length-value_records id [] = refl
length-value_records id (v ∷ vs) =
    let front : length (value_bytes v) ≡ 4 + length v = omega arith in
    omega (arith, front, sum_by-cons (λ (value : List ℕ). 5 + length value) v vs, length-append (value_bytes v) (value_records (id + 1) vs), length-value_records (id + 1) vs)

pub record-length : (layouts : List Layout) (before : List Sample) (bytes : List ℕ) (sample : Sample) → IsRecordBehind layouts before bytes sample
    → length bytes ≡ encoded_size layouts sample
record-length layouts before bytes sample r =
    let size = ap (λ found. option_map_or (λ layout. 1 + record_size layout + long_size layout.rows sample.values) found 0) r.known in
    let long = ap length r.bytes_are in
    let own = long_are r.layout.rows r.data_bytes r.inval_bytes r.values _ sample.values r.entries r.count in
    omega (
      arith,
      size,
      long,
      r.data_long,
      r.inval_long,
      ap (sum_by (λ (value : List ℕ). 5 + length value)) own,
      length-value_records (first_id layouts sample.group) r.values,
      length-append (value_records (first_id layouts sample.group) r.values) ((sample.group + 1) ∷ (r.data_bytes ++ r.inval_bytes)),
      length-append r.data_bytes r.inval_bytes,
    )

pub encodings-length : (layouts : List Layout) (before : List Sample) (bytes : List ℕ) (samples : List Sample) → AreEncodingsBehind layouts before bytes samples
    → length bytes ≡ history_size layouts samples
unfolding AreEncodingsBehind
encodings-length layouts before bytes [] none = ap length none
encodings-length layouts before bytes (sample ∷ samples) (first, rest, whole, one, behind) =
    omega (
      arith,
      ap length whole,
      length-append first rest,
      record-length layouts before first sample one.is,
      encodings-length layouts (before ++ sample ∷ []) rest samples behind,
      sum_by-cons (encoded_size layouts) sample samples,
    )
