-- Records of values of variable length, one channel behind the other.
use Rattle.std.proofs.Common.{◌≡◌, ◌<◌, ◌+◌, ℕ, suc, Bool, true, false, List, [], ◌∷◌, ◌++◌, length, get_or, set, take, drop, refl, sym, ◌∙◌, ap, arith}
use Rattle.std.specs.Prelude.{if◌then◌else◌, sum_by}
use Rattle.std.proofs.Math.Seq.{take-add}
use Rattle.std.proofs.lemmas.List.{append_assoc, append-nil, drop_more, length-set, take_more_set}
use Rattle.std.proofs.lemmas.Slice.{take-put_mid}
use borrow.Rule.Slice.PartMut.{put_mid}
use Rattle.mdf_format.specs.Number.{bytes_at}
use Rattle.mdf_vlsd.specs.Value.{value_bytes}
use Rattle.mdf_layout.specs.Rule.{is_variable}
use Rattle.mdf_layout.specs.Values.{bytes_in}
use Rattle.mdf_layout.specs.Record.{long_value, long_values, long_size}
use Rattle.mdf_layout.specs.Behind.{variables, value_records}
use Rattle.mdf_layout.specs.declared.field.FieldRow.{FieldRow}
use Rattle.mdf_layout.specs.declared.sample.Entry.{Entry}

-- bytes put behind others
pub take_put : (old new bytes : List ℕ) (start : ℕ) → take start new ≡ take start old → bytes_at (length bytes) new start ≡ bytes
    → take (start + length bytes) new ≡ take start old ++ bytes
take_put old new bytes start before there =
    take-add start (length bytes) new ∙ ap (λ xs. xs ++ take (length bytes) (drop start new)) before ∙ ap (λ xs. take start old ++ xs) there

-- the values of a channel and of those behind it
values_step : (b : Bool) (v : List ℕ) (rest : List (List ℕ)) → (if b then v ∷ rest else rest) ≡ (if b then v ∷ [] else []) ++ rest
values_step true v rest = refl
values_step false v rest = refl

pub long_values-cons : (row : FieldRow) (rows : List FieldRow) (entry : Entry) (entries : List Entry)
    → long_values (row ∷ rows) (entry ∷ entries) ≡ long_value row entry ++ long_values rows entries
unfolding long_values
long_values-cons row rows entry entries = values_step (is_variable row) (bytes_in entry.value) (long_values rows entries)

pub long_values-none : (entries : List Entry) → long_values [] entries ≡ []
unfolding long_values
long_values-none entries = refl

pub long_values-drop : (rows : List FieldRow) (entries : List Entry) (k : ℕ) (row : FieldRow) (entry : Entry)
    → k < length rows → k < length entries → row ≡ get_or rows k row → entry ≡ get_or entries k entry
    → long_values (drop k rows) (drop k entries) ≡ long_value row entry ++ long_values (drop (k + 1) rows) (drop (k + 1) entries)
long_values-drop rows entries k row entry within within' row_is entry_is =
    ap (λ (rs : List FieldRow). long_values rs (drop k entries)) (drop_more rows k row within)
    ∙ ap (long_values (get_or rows k row ∷ drop (k + 1) rows)) (drop_more entries k entry within')
    ∙ long_values-cons (get_or rows k row) (drop (k + 1) rows) (get_or entries k entry) (drop (k + 1) entries)
    ∙ ap (λ (r : FieldRow). long_value r (get_or entries k entry) ++ long_values (drop (k + 1) rows) (drop (k + 1) entries)) (sym row_is)
    ∙ ap (λ (e : Entry). long_value row e ++ long_values (drop (k + 1) rows) (drop (k + 1) entries)) (sym entry_is)

-- how many channels of variable length are left
variables_step : (b : Bool) (row : FieldRow) (rest : List FieldRow) → length (if b then row ∷ rest else rest) ≡ (if b then 1 else 0) + length rest
variables_step true row rest = omega arith
variables_step false row rest = omega arith

pub variables-drop : (rows : List FieldRow) (k : ℕ) (row : FieldRow) → k < length rows → row ≡ get_or rows k row
    → length (variables (drop k rows)) ≡ (if is_variable row then 1 else 0) + length (variables (drop (k + 1) rows))
variables-drop rows k row within row_is =
    ap (λ (rs : List FieldRow). length (variables rs)) (drop_more rows k row within)
    ∙ variables_step (is_variable (get_or rows k row)) (get_or rows k row) (variables (drop (k + 1) rows))
    ∙ ap (λ (r : FieldRow). (if is_variable r then 1 else 0) + length (variables (drop (k + 1) rows))) (sym row_is)

-- records of values behind records of values
value_records-append : (id : ℕ) (xs ys : List (List ℕ)) → value_records id (xs ++ ys) ≡ value_records id xs ++ value_records (id + length xs) ys
unfolding value_records
value_records-append id [] ys = let same : id ≡ id + 0 = omega arith in ap (λ n. value_records n ys) same
value_records-append id (v ∷ xs) ys =
    let next : id + 1 + length xs ≡ id + suc (length xs) = omega arith in
    ap (λ rs. id ∷ (value_bytes v ++ rs)) (value_records-append (id + 1) xs ys ∙ ap (λ n. value_records (id + 1) xs ++ value_records n ys) next)
    ∙ ap (λ rs. id ∷ rs) (sym (append_assoc (value_bytes v) (value_records (id + 1) xs) (value_records (id + suc (length xs)) ys)))

length-long_value : (b : Bool) (v : List ℕ) → length (if b then v ∷ [] else []) ≡ (if b then 1 else 0)
length-long_value true v = refl
length-long_value false v = refl

-- the records of one channel more are written
pub written_more : (whole : List ℕ) (next at : ℕ) (out front : List ℕ) (rows : List FieldRow) (entries : List Entry) (k : ℕ) (row : FieldRow) (entry : Entry)
    → k < length rows → k < length entries → row ≡ get_or rows k row → entry ≡ get_or entries k entry
    → whole ≡ take at out ++ value_records next (long_values (drop k rows) (drop k entries))
    → front ≡ take at out ++ value_records next (long_value row entry)
    → whole ≡ front ++ value_records (next + (if is_variable row then 1 else 0)) (long_values (drop (k + 1) rows) (drop (k + 1) entries))
written_more whole next at out front rows entries k row entry within within' row_is entry_is before here =
    let own = long_value row entry in
    let rest = long_values (drop (k + 1) rows) (drop (k + 1) entries) in
    before
    ∙ ap (λ vs. take at out ++ value_records next vs) (long_values-drop rows entries k row entry within within' row_is entry_is)
    ∙ ap (λ xs. take at out ++ xs) (value_records-append next own rest)
    ∙ sym (append_assoc (take at out) (value_records next own) (value_records (next + length own) rest))
    ∙ ap (λ xs. xs ++ value_records (next + length own) rest) (sym here)
    ∙ ap (λ n. front ++ value_records (next + n) rest) (length-long_value (is_variable row) (bytes_in entry.value))

-- no channel is left
pub written_all : (whole front : List ℕ) (next : ℕ) (rows : List FieldRow) (entries : List Entry) → rows ≡ []
    → whole ≡ front ++ value_records next (long_values rows entries) → front ≡ whole
unfolding value_records
written_all whole front next rows entries none is =
    sym (is ∙ ap (λ (rs : List FieldRow). front ++ value_records next (long_values rs entries)) none
    ∙ ap (λ vs. front ++ value_records next vs) (long_values-none entries) ∙ append-nil front)

-- the record of a channel's value, where it has one
record_step : (b : Bool) (front : List ℕ) (id : ℕ) (v : List ℕ) → b ≡ true → front ++ id ∷ value_bytes v ≡ front ++ value_records id (if b then v ∷ [] else [])
unfolding value_records
record_step true front id v is = ap (λ xs. front ++ id ∷ xs) (sym (append-nil (value_bytes v)))
record_step false front id v is = let wrong : false ≡ true = is in cc

pub one_record : (front : List ℕ) (id : ℕ) (row : FieldRow) (entry : Entry) → is_variable row ≡ true
    → front ++ id ∷ value_bytes (bytes_in entry.value) ≡ front ++ value_records id (long_value row entry)
one_record front id row entry is = record_step (is_variable row) front id (bytes_in entry.value) is

no_record_step : (b : Bool) (front : List ℕ) (id : ℕ) (v : List ℕ) → b ≡ false → front ≡ front ++ value_records id (if b then v ∷ [] else [])
unfolding value_records
no_record_step true front id v is = let wrong : true ≡ false = is in cc
no_record_step false front id v is = sym (append-nil front)

pub no_record : (front : List ℕ) (id : ℕ) (row : FieldRow) (entry : Entry) → is_variable row ≡ false
    → front ≡ front ++ value_records id (long_value row entry)
no_record front id row entry is = no_record_step (is_variable row) front id (bytes_in entry.value) is

-- the record of a group behind the records of values
pub record_written : (out content front : List ℕ) (at count n id : ℕ) → at < length out → n ≡ at + 1 + length content → front ≡ take at out
    → take n (put_mid (at + 1) count (set out at id) content) ≡ front ++ id ∷ content
record_written out content front at count n id within long front_is =
    take-put_mid (at + 1) count (set out at id) content n long (omega (arith, within, length-set out at id))
    ∙ ap (λ xs. xs ++ content) (take_more_set out at id within)
    ∙ append_assoc (take at out) (id ∷ []) content
    ∙ ap (λ xs. xs ++ id ∷ content) (sym front_is)

-- where no channel is of variable length, none of the values is
none_step : (b : Bool) (row : FieldRow) (rest : List FieldRow) (v : List ℕ) (vs : List (List ℕ)) → length (if b then row ∷ rest else rest) ≡ 0
    → (length rest ≡ 0 → vs ≡ []) → (if b then v ∷ vs else vs) ≡ []
none_step true row rest v vs none behind = absurd (omega (arith, none))
none_step false row rest v vs none behind = behind none

pub no_long_values : (rows : List FieldRow) (entries : List Entry) → length (variables rows) ≡ 0 → long_values rows entries ≡ []
unfolding long_values
no_long_values [] entries none = refl
no_long_values (row ∷ rows) [] none = refl
no_long_values (row ∷ rows) (entry ∷ entries) none =
    none_step (is_variable row) row (variables rows) (bytes_in entry.value) (long_values rows entries) none (no_long_values rows entries)

pub no_long_size : (rows : List FieldRow) (entries : List Entry) → length (variables rows) ≡ 0 → long_size rows entries ≡ 0
no_long_size rows entries none = ap (sum_by (λ (value : List ℕ). 5 + length value)) (no_long_values rows entries none)
