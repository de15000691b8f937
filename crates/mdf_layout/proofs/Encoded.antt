-- A sample as it is written behind a history.
use Rattle.std.proofs.Common.{◌≡◌, ◌≢◌, ◌<◌, ◌+◌, ◌^◌, ℕ, zero, suc, Bool, true, false, List, [], ◌∷◌, ◌++◌, length, get_or, take, drop, map, refl, sym, ◌∙◌, ap, arith, length-drop, Some}
use Rattle.std.specs.Prelude.{All, filter, slice_get, if◌then◌else◌}
use Rattle.std.proofs.lemmas.List.{take-append-drop, length-take-le}
use Rattle.mdf_format.specs.Field.{bit_of, field_number}
use Rattle.mdf_layout.specs.History.{group_samples}
use Rattle.mdf_layout.specs.Layout.{Layout, record_size}
use Rattle.mdf_layout.specs.Rule.{spot_in, is_variable, is_variable_kind}
use Rattle.mdf_layout.specs.Values.{Finder, bytes_in, finder_at, sample_by, streams_before}
use Rattle.mdf_layout.specs.Written.{ValueFits, AreEntriesOf, IsEntryOf, IsFree, IsFreePosition, IsFound, AreFound, HoldsValue, HoldValues, offset_of}
use Rattle.mdf_layout.specs.Record.{long_values}
use Rattle.mdf_layout.specs.Behind.{variables, value_records, first_id, offsets_behind, always, IsEncodingBehind}
use Rattle.mdf_layout.specs.declared.field.FieldKind.{FieldKind}
use Rattle.mdf_layout.specs.declared.field.FieldKind.TheVariants.{Unsigned, Signed, Fixed, Variable, Virtual}
use Rattle.mdf_layout.specs.declared.field.FieldRow.{FieldRow}
use Rattle.mdf_layout.specs.declared.sample.Value.{Value}
use Rattle.mdf_layout.specs.declared.sample.Value.TheVariants as value
use Rattle.mdf_layout.specs.declared.sample.Entry.{Entry}
use Rattle.mdf_layout.specs.declared.sample.Sample.{Sample}

-- a kind of variable length
variable_kind : (kind : FieldKind) → is_variable_kind kind ≡ true → kind ≡ Variable
variable_kind Unsigned is = let wrong : false ≡ true = is in cc
variable_kind Signed is = let wrong : false ≡ true = is in cc
variable_kind Fixed is = let wrong : false ≡ true = is in cc
variable_kind Variable is = refl
variable_kind Virtual is = let wrong : false ≡ true = is in cc

-- the channels behind the first
behind_entries : (row : FieldRow) (rows : List FieldRow) (entry : Entry) (entries : List Entry) → AreEntriesOf (row ∷ rows) (entry ∷ entries) → AreEntriesOf rows entries
behind_entries row rows entry entries fit = record {
  count = omega (arith, fit.count);
  each = λ k r e within. fit.each (suc k) r e (omega (arith, within));
}

-- the values of variable length, with one channel before
unfoldable pub long_with : Bool → Entry → List (List ℕ) → List (List ℕ)
long_with b entry rest = if b then bytes_in entry.value ∷ rest else rest

-- as many values as channels of variable length, each shorter than 2^32 bytes
variables_with : Bool → FieldRow → List FieldRow → List FieldRow
variables_with b row rest = if b then row ∷ rest else rest

count_step : (b : Bool) (row : FieldRow) (entry : Entry) (rows : List FieldRow) (rest : List (List ℕ)) → length rest ≡ length rows
    → length (long_with b entry rest) ≡ length (variables_with b row rows)
unfolding long_with variables_with
count_step true row entry rows rest same = omega (arith, same)
count_step false row entry rows rest same = same

pub long_values-count : (rows : List FieldRow) (entries : List Entry) → AreEntriesOf rows entries → length (long_values rows entries) ≡ length (variables rows)
unfolding long_values long_with variables_with
long_values-count [] entries fit = refl
long_values-count (row ∷ rows) [] fit = absurd (omega (arith, fit.count))
long_values-count (row ∷ rows) (entry ∷ entries) fit =
    count_step (is_variable row) row entry (variables rows) (long_values rows entries) (long_values-count rows entries (behind_entries row rows entry entries fit))

fits_short : (kind : FieldKind) (bits : ℕ) (v : Value) → kind ≡ Variable → ValueFits kind bits v → length (bytes_in v) < 2 ^ 32
fits_short Variable bits (value.Bytes b) is fits = fits
fits_short Variable bits (value.Unsigned n) is fits = absurd fits
fits_short Variable bits (value.Signed n) is fits = absurd fits
fits_short Variable bits (value.Index n) is fits = absurd fits
fits_short Unsigned bits v is fits = let wrong : Unsigned ≡ Variable = is in cc
fits_short Signed bits v is fits = let wrong : Signed ≡ Variable = is in cc
fits_short Fixed bits v is fits = let wrong : Fixed ≡ Variable = is in cc
fits_short Virtual bits v is fits = let wrong : Virtual ≡ Variable = is in cc

short_step : (b : Bool) (entry : Entry) (rest : List (List ℕ)) → (b ≡ true → length (bytes_in entry.value) < 2 ^ 32) → All (λ v. length v < 2 ^ 32) rest
    → All (λ v. length v < 2 ^ 32) (long_with b entry rest)
unfolding long_with
short_step false entry rest first all k d within = all k d within
short_step true entry rest first all zero d within = first refl
short_step true entry rest first all (suc k) d within = all k d (omega (arith, within))

pub long_values-short : (rows : List FieldRow) (entries : List Entry) → AreEntriesOf rows entries → All (λ v. length v < 2 ^ 32) (long_values rows entries)
unfolding long_values long_with
long_values-short [] entries fit = λ k d within. absurd (omega (arith, within))
long_values-short (row ∷ rows) [] fit = absurd (omega (arith, fit.count))
long_values-short (row ∷ rows) (entry ∷ entries) fit =
    let one : IsEntryOf row entry = fit.each 0 row entry (omega arith) in
    short_step (is_variable row) entry (long_values rows entries)
    (λ is. fits_short row.kind row.bits entry.value (variable_kind row.kind is) one.value)
    (long_values-short rows entries (behind_entries row rows entry entries fit))

-- the offsets that the fields hold are these
offset_step : (b : Bool) (row : FieldRow) (rows : List FieldRow) (content offsets : List ℕ) → is_variable row ≡ b
    → length offsets ≡ length (variables_with b row (variables rows))
    → ((k : ℕ) (d : FieldRow) → k < length (row ∷ rows) → is_variable (get_or (row ∷ rows) k d) ≡ true
    → field_number (spot_in (get_or (row ∷ rows) k d)) content ≡ get_or offsets (streams_before (row ∷ rows) k) 0)
    → ((offsets : List ℕ) → length offsets ≡ length (variables rows)
    → ((k : ℕ) (d : FieldRow) → k < length rows → is_variable (get_or rows k d) ≡ true
    → field_number (spot_in (get_or rows k d)) content ≡ get_or offsets (streams_before rows k) 0)
    → map (λ row. field_number (spot_in row) content) (variables rows) ≡ offsets)
    → map (λ row. field_number (spot_in row) content) (variables_with b row (variables rows)) ≡ offsets
unfolding variables_with
offset_step false row rows content offsets is count held rest =
    rest offsets count (λ k d within variable. held (suc k) d (omega (arith, within)) variable ∙ ap (λ n. get_or offsets n 0) (counted k)) where
      counted : (k : ℕ) → streams_before (row ∷ rows) (suc k) ≡ streams_before rows k
      counted k = ap (λ (b : Bool). length (if b then row ∷ filter is_variable (take k rows) else filter is_variable (take k rows))) is
offset_step true row rows content [] is count held rest = absurd (omega (arith, count))
offset_step true row rows content (o ∷ offsets) is count held rest =
    ap (λ n. n ∷ map (λ row. field_number (spot_in row) content) (variables rows)) (held 0 row (omega arith) is)
    ∙ ap (λ ns. o ∷ ns) (rest offsets (omega (arith, count)) (λ k d within variable. held (suc k) d (omega (arith, within)) variable ∙ ap (λ n. get_or (o ∷ offsets) n 0) (counted k))) where
      counted : (k : ℕ) → streams_before (row ∷ rows) (suc k) ≡ suc (streams_before rows k)
      counted k = ap (λ (b : Bool). length (if b then row ∷ filter is_variable (take k rows) else filter is_variable (take k rows))) is

offsets_are : (rows : List FieldRow) (content offsets : List ℕ) → length offsets ≡ length (variables rows)
    → ((k : ℕ) (d : FieldRow) → k < length rows → is_variable (get_or rows k d) ≡ true
    → field_number (spot_in (get_or rows k d)) content ≡ get_or offsets (streams_before rows k) 0)
    → map (λ row. field_number (spot_in row) content) (variables rows) ≡ offsets
unfolding variables_with
offsets_are [] content [] count held = refl
offsets_are [] content (o ∷ offsets) count held = absurd (omega (arith, count))
offsets_are (row ∷ rows) content offsets count held =
    offset_step (is_variable row) row rows content offsets refl count held (λ os counted more. offsets_are rows content os counted more)

held_offset : (kind : FieldKind) (row : FieldRow) (content : List ℕ) (offset : ℕ) (v : Value) → kind ≡ Variable → HoldsValue kind (spot_in row) content offset v
    → field_number (spot_in row) content ≡ offset
held_offset Variable row content offset v is holds = holds
held_offset Unsigned row content offset v is holds = let wrong : Unsigned ≡ Variable = is in cc
held_offset Signed row content offset v is holds = let wrong : Signed ≡ Variable = is in cc
held_offset Fixed row content offset v is holds = let wrong : Fixed ≡ Variable = is in cc
held_offset Virtual row content offset v is holds = let wrong : Virtual ≡ Variable = is in cc

-- each value of variable length is found among them
found_step : (b : Bool) (row : FieldRow) (rows : List FieldRow) (entry : Entry) (entries : List Entry) → is_variable row ≡ b → (k : ℕ) (d : FieldRow) (e : Entry) (offset : ℕ)
    → is_variable (get_or (row ∷ rows) k d) ≡ true
    → ((k : ℕ) (d : FieldRow) (e : Entry) (offset : ℕ) → k < length rows → is_variable (get_or rows k d) ≡ true
    → finder_at (map always (long_values rows entries)) (streams_before rows k) offset ≡ Some (bytes_in (get_or entries k e).value))
    → k < length (row ∷ rows)
    → finder_at (map always (long_with b entry (long_values rows entries))) (streams_before (row ∷ rows) k) offset ≡ Some (bytes_in (get_or (entry ∷ entries) k e).value)
unfolding long_with
found_step true row rows entry entries is zero d e offset variable rest within = refl
found_step false row rows entry entries is zero d e offset variable rest within = let wrong : false ≡ true = sym is ∙ variable in cc
found_step true row rows entry entries is (suc k) d e offset variable rest within =
    ap (λ n. finder_at (map always (bytes_in entry.value ∷ long_values rows entries)) n offset) counted ∙ rest k d e offset (omega (arith, within)) variable where
      counted : streams_before (row ∷ rows) (suc k) ≡ suc (streams_before rows k)
      counted = ap (λ (b : Bool). length (if b then row ∷ filter is_variable (take k rows) else filter is_variable (take k rows))) is
found_step false row rows entry entries is (suc k) d e offset variable rest within =
    ap (λ n. finder_at (map always (long_values rows entries)) n offset) counted ∙ rest k d e offset (omega (arith, within)) variable where
      counted : streams_before (row ∷ rows) (suc k) ≡ streams_before rows k
      counted = ap (λ (b : Bool). length (if b then row ∷ filter is_variable (take k rows) else filter is_variable (take k rows))) is

long_found : (rows : List FieldRow) (entries : List Entry) → length entries ≡ length rows → (k : ℕ) (d : FieldRow) (e : Entry) (offset : ℕ) → k < length rows
    → is_variable (get_or rows k d) ≡ true
    → finder_at (map always (long_values rows entries)) (streams_before rows k) offset ≡ Some (bytes_in (get_or entries k e).value)
unfolding long_values long_with
long_found [] entries count k d e offset within variable = absurd (omega (arith, within))
long_found (row ∷ rows) [] count k d e offset within variable = absurd (omega (arith, count))
long_found (row ∷ rows) (entry ∷ entries) count k d e offset within variable =
    found_step (is_variable row) row rows entry entries refl k d e offset variable
    (λ k d e offset within variable. long_found rows entries (omega (arith, count)) k d e offset within variable) within

-- a channel whose values can be written: they are no indices of records
is_found : (kind : FieldKind) (offset : ℕ) (find : Finder) (index : ℕ) (v : Value) → kind ≢ Virtual → (is_variable_kind kind ≡ true → find offset ≡ Some (bytes_in v))
    → IsFound kind offset find index v
is_found Unsigned offset find index (value.Unsigned n) real found = tt
is_found Unsigned offset find index (value.Signed n) real found = tt
is_found Unsigned offset find index (value.Bytes b) real found = tt
is_found Unsigned offset find index (value.Index n) real found = tt
is_found Signed offset find index (value.Unsigned n) real found = tt
is_found Signed offset find index (value.Signed n) real found = tt
is_found Signed offset find index (value.Bytes b) real found = tt
is_found Signed offset find index (value.Index n) real found = tt
is_found Fixed offset find index (value.Unsigned n) real found = tt
is_found Fixed offset find index (value.Signed n) real found = tt
is_found Fixed offset find index (value.Bytes b) real found = tt
is_found Fixed offset find index (value.Index n) real found = tt
is_found Variable offset find index (value.Bytes b) real found = found refl
is_found Variable offset find index (value.Unsigned n) real found = tt
is_found Variable offset find index (value.Signed n) real found = tt
is_found Variable offset find index (value.Index n) real found = tt
is_found Virtual offset find index v real found = absurd (real refl)

-- what `encode` wrote behind the records of the values, as the encoding of the sample
pub encoding_behind : (layouts : List Layout) (before : List Sample) (bytes : List ℕ) (sample : Sample) (layout : Layout) (content offsets : List ℕ)
    → slice_get layouts sample.group ≡ Some layout → AreEntriesOf layout.rows sample.values → All (λ row. row.kind ≢ Virtual) layout.rows
    → length content ≡ record_size layout
    → bytes ≡ value_records (first_id layouts sample.group) (long_values layout.rows sample.values) ++ (sample.group + 1) ∷ content
    → offsets ≡ offsets_behind layout.rows (group_samples before sample.group) → length offsets ≡ length (variables layout.rows)
    → ((finders : List Finder) (index : ℕ) → AreFound layout.rows sample.values offsets finders index
    → sample_by layout.rows (take layout.data_bytes content) (drop layout.data_bytes content) finders index ≡ Some sample.values)
    → HoldValues layout.rows sample.values offsets (length layout.rows) (take layout.data_bytes content)
    → ((p : ℕ) → IsFree layout.rows p → bit_of (take layout.data_bytes content) p ≡ 0)
    → ((p : ℕ) → IsFreePosition layout.rows p → bit_of (drop layout.data_bytes content) p ≡ 0)
    → IsEncodingBehind layouts before bytes sample
encoding_behind layouts before bytes sample layout content offsets known fit real long bytes_are offsets_is count read hold unused unused' =
    let rows = layout.rows in
    let body = take layout.data_bytes content in
    let inval = drop layout.data_bytes content in
    let vs = long_values rows sample.values in
    let index = length (group_samples before sample.group) in
    record {
      is = record {
        layout = layout;
        known = known;
        values = vs;
        data_bytes = body;
        inval_bytes = inval;
        bytes_are = bytes_are ∙ ap (λ xs. value_records (first_id layouts sample.group) vs ++ (sample.group + 1) ∷ xs) (sym (take-append-drop layout.data_bytes content));
        count = long_values-count rows sample.values fit;
        short = long_values-short rows sample.values fit;
        data_long = length-take-le layout.data_bytes content (omega (arith, long));
        inval_long = omega (arith, length-drop layout.data_bytes content, long);
        offsets = offsets_are rows body offsets count
            (λ k d within variable. held_offset (get_or rows k d).kind (get_or rows k d) body (offset_of rows offsets k) (get_or sample.values k blank).value
            (variable_kind (get_or rows k d).kind variable) (hold k d blank within))
            ∙ offsets_is;
        entries = read (map always vs) index (λ k d e within.
            is_found (get_or rows k d).kind (offset_of rows offsets k) (finder_at (map always vs) (streams_before rows k)) index (get_or sample.values k e).value
            (real k d within) (λ variable. long_found rows sample.values fit.count k d e (offset_of rows offsets k) within variable));
      };
      unused = unused;
      unused_positions = unused';
    } where
      blank : Entry
      blank = record { value = value.Index 0; valid = true }
