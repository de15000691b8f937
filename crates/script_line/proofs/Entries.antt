-- The values of a sample.
use Rattle.std.proofs.Common.{◌≡◌, ◌∙◌, sym, ap, subst, ℕ, zero, suc, ◌+◌, ◌-◌, ◌/◌, ◌^◌, ◌<◌, ◌≤◌, Bool, true, false, cond, Option, Some, None, List, [], ◌∷◌, ◌++◌, length, get_or, refl, arith, append_assoc, append-nil, drop-cons}
use Rattle.std.specs.Prelude.{nat_lt, nat_le, ◌==◌, ◌&&◌, is_some, pos, neg_ℤ, IfSome, take, drop}
use Rattle.std.specs.Option.{option_map, option_and_then}
use Rattle.std.proofs.lemmas.Bool.{ltb-true, leb-true, eqb-true, and_parts, false≢true}
use Rattle.std.proofs.lemmas.Int.{ints}
use Rattle.std.proofs.lemmas.Nat.{pow_pos}
use Rattle.mdf_layout.specs.declared.field.FieldKind.{FieldKind}
use Rattle.mdf_layout.specs.declared.field.FieldKind.TheVariants as kinds
use Rattle.mdf_layout.specs.declared.field.FieldRow.{FieldRow}
use Rattle.mdf_layout.specs.declared.sample.Value.{Value}
use Rattle.mdf_layout.specs.declared.sample.Value.TheVariants.{Unsigned, Signed, Bytes}
use Rattle.mdf_layout.specs.declared.sample.Entry.{Entry}
use Rattle.mdf_layout.specs.Written.{ValueFits, IsEntryOf, AreEntriesOf}
use Rattle.script_line.specs.Float.{float_bits}
use Rattle.script_line.specs.Text.{begins_with, is_end, is_marked}
use Rattle.script_line.specs.Number.{number_of}
use Rattle.script_line.specs.Value.{held_in, unsigned_value, negative_in, positive_in, signed_value, bytes_of, sized, fixed_value, value_as, value_of, number_value, value_in, entry_with, entry_of, first_width, entries_of, short, long_value}
use Rattle.script_line.specs.declared.float.Width.{Width}

-- the entries so far in front of those to come
abbrev pub behind : List Entry → Option (List Entry) → Option (List Entry)
behind front entries = option_map (λ more. front ++ more) entries

behind_more : (front : List Entry) (entry : Entry) (entries : Option (List Entry)) → behind front (option_map (λ more. entry ∷ more) entries) ≡ behind (front ++ entry ∷ []) entries
behind_more front entry None = refl
behind_more front entry (Some more) = ap Some (sym (append_assoc front (entry ∷ []) more))

-- a row, for what is read past the end
abbrev pub some_row : FieldRow
some_row = record { kind = kinds.Unsigned; big = false; byte = 0; bit = 0; bits = 0; inval = None; all_invalid = false }

pub row_next : (rows : List FieldRow) (i : ℕ) (d : FieldRow) → i < length rows → drop i rows ≡ get_or rows i d ∷ drop (i + 1) rows
row_next rows i d below =
    let one : i + 1 ≡ suc i = omega arith in
    rw one (drop-cons rows i d below)

pub none_left : (rows : List FieldRow) (i : ℕ) → length rows ≤ i → drop i rows ≡ []
none_left [] zero past = refl
none_left [] (suc i) past = refl
none_left (row ∷ rows) zero past = absurd (omega (arith, past))
none_left (row ∷ rows) (suc i) past = none_left rows i (omega (arith, past))

pub one_entry : (front : List Entry) (widths : List (Option Width)) (left : List FieldRow) (row : FieldRow) (rows : List FieldRow) (entry : Entry) (all : List (List ℕ)) (word : List ℕ) (words : List (List ℕ)) → left ≡ row ∷ rows → all ≡ word ∷ words → entry_of (first_width widths) row word ≡ Some entry → behind front (entries_of widths left all) ≡ behind (front ++ entry ∷ []) (entries_of (drop 1 widths) rows words)
unfolding entries_of
one_entry front widths left row rows entry all word words e is found =
    let later = drop 1 widths in
    ap (λ k. behind front (entries_of widths k all)) e
    ∙ ap (λ ws. behind front (entries_of widths (row ∷ rows) ws)) is
    ∙ ap (λ o. behind front (option_and_then (λ x. option_map (λ entries. x ∷ entries) (entries_of later rows words)) o)) found
    ∙ behind_more front entry (entries_of later rows words)

pub no_entry : (front : List Entry) (widths : List (Option Width)) (left : List FieldRow) (row : FieldRow) (rows : List FieldRow) (all : List (List ℕ)) (word : List ℕ) (words : List (List ℕ)) → left ≡ row ∷ rows → all ≡ word ∷ words → entry_of (first_width widths) row word ≡ None → behind front (entries_of widths left all) ≡ None
unfolding entries_of
no_entry front widths left row rows all word words e is found =
    ap (λ k. behind front (entries_of widths k all)) e
    ∙ ap (λ ws. behind front (entries_of widths (row ∷ rows) ws)) is
    ∙ ap (λ o. behind front (option_and_then (λ x. option_map (λ entries. x ∷ entries) (entries_of (drop 1 widths) rows words)) o)) found

pub too_few : (front : List Entry) (widths : List (Option Width)) (left : List FieldRow) (row : FieldRow) (rows : List FieldRow) (all : List (List ℕ)) → left ≡ row ∷ rows → all ≡ [] → behind front (entries_of widths left all) ≡ None
unfolding entries_of
too_few front widths left row rows all e is = ap (λ k. behind front (entries_of widths k all)) e ∙ ap (λ ws. behind front (entries_of widths (row ∷ rows) ws)) is

pub too_many : (front : List Entry) (widths : List (Option Width)) (left : List FieldRow) (all : List (List ℕ)) → left ≡ [] → is_end all ≡ false → behind front (entries_of widths left all) ≡ None
unfolding entries_of
too_many front widths left [] e more = absurd (false≢true (sym more))
too_many front widths left (word ∷ words) e more = ap (λ k. behind front (entries_of widths k (word ∷ words))) e

pub all_entries : (front : List Entry) (widths : List (Option Width)) (left : List FieldRow) (all : List (List ℕ)) → left ≡ [] → is_end all ≡ true → behind front (entries_of widths left all) ≡ Some front
unfolding entries_of
all_entries front widths left [] e more = ap (λ k. behind front (entries_of widths k [])) e ∙ ap Some (append-nil front)
all_entries front widths left (word ∷ words) e more = absurd (false≢true more)

-- a test and then what holds of an option
pub kept : {A : Type 0} (b : Bool) (o : Option A) (x : A) → cond b o None ≡ Some x → (b ≡ true) × (o ≡ Some x)
kept true o x e = (refl, e)
kept false o x e = absurd (cc)

-- a value fits the kind and the bits that it is read for
held_fits : (bits n : ℕ) (v : Value) → held_in bits n ≡ Some v → ValueFits kinds.Unsigned bits v
held_fits bits n v e =
    let both : (nat_lt n (2 ^ bits) ≡ true) × (Some (Unsigned n) ≡ Some v) = kept (nat_lt n (2 ^ bits)) (Some (Unsigned n)) v e in
    let is : Unsigned n ≡ v = cc in
    subst (ValueFits kinds.Unsigned bits) is (ltb-true _ _ both.0)

positive_fits : (bits n : ℕ) (v : Value) → positive_in bits n ≡ Some v → ValueFits kinds.Signed bits v
positive_fits bits n v e =
    let both : (nat_lt n (2 ^ (bits - 1)) ≡ true) × (Some (Signed (pos n)) ≡ Some v) = kept (nat_lt n (2 ^ (bits - 1))) (Some (Signed (pos n))) v e in
    let is : Signed (pos n) ≡ v = cc in
    let less : n < 2 ^ (bits - 1) = ltb-true _ _ both.0 in
    subst (ValueFits kinds.Signed bits) is (record { low = omega (arith, ints); high = omega (arith, ints, less) })

negative_fits : (bits n : ℕ) (v : Value) → negative_in bits n ≡ Some v → ValueFits kinds.Signed bits v
negative_fits bits n v e =
    let both : ((nat_le 1 n && nat_le n (2 ^ (bits - 1))) ≡ true) × (Some (Signed (neg_ℤ (pos n))) ≡ Some v) = kept (nat_le 1 n && nat_le n (2 ^ (bits - 1))) (Some (Signed (neg_ℤ (pos n)))) v e in
    let is : Signed (neg_ℤ (pos n)) ≡ v = cc in
    let range = and_parts (nat_le 1 n) (nat_le n (2 ^ (bits - 1))) both.0 in
    let some : 1 ≤ n = leb-true _ _ range.0 in
    let few : n ≤ 2 ^ (bits - 1) = leb-true _ _ range.1 in
    let power = pow_pos (bits - 1) in
    subst (ValueFits kinds.Signed bits) is (record { low = omega (arith, ints, few); high = omega (arith, ints, some, power) })

sized_fits : (size : ℕ) (b : List ℕ) (v : Value) (bits : ℕ) → size ≡ bits / 8 → sized size b ≡ Some v → ValueFits kinds.Fixed bits v
sized_fits size b v bits same e =
    let both : ((length b == size) ≡ true) × (Some (Bytes b) ≡ Some v) = kept (length b == size) (Some (Bytes b)) v e in
    let is : Bytes b ≡ v = cc in
    subst (ValueFits kinds.Fixed bits) is (eqb-true _ _ both.0 ∙ same)

short_fits : (b : List ℕ) (v : Value) (bits : ℕ) → short b ≡ Some v → ValueFits kinds.Variable bits v
short_fits b v bits e =
    let both : (nat_le (length b) 65535 ≡ true) × (Some (Bytes b) ≡ Some v) = kept (nat_le (length b) 65535) (Some (Bytes b)) v e in
    let is : Bytes b ≡ v = cc in
    let few : length b ≤ 65535 = leb-true _ _ both.0 in
    subst (ValueFits kinds.Variable bits) is (omega (arith, few))

pub then_some : {A B : Type 0} (f : A → Option B) (o : Option A) (y : B) → option_and_then f o ≡ Some y → (x : A) × (o ≡ Some x) × (f x ≡ Some y)
then_some f None y e = absurd (cc)
then_some f (Some x) y e = (x, refl, e)

pub mapped : {A B : Type 0} (f : A → B) (o : Option A) (y : B) → option_map f o ≡ Some y → (x : A) × (o ≡ Some x) × (f x ≡ y)
mapped f None y e = absurd (cc)
mapped f (Some x) y e = (x, refl, cc)

signed_fits : (b : Bool) (bits : ℕ) (first second : Option ℕ) (v : Value) → cond b (option_and_then (negative_in bits) first) (option_and_then (positive_in bits) second) ≡ Some v → ValueFits kinds.Signed bits v
signed_fits true bits first second v e = let found = then_some (negative_in bits) first v e in negative_fits bits found.0 v found.2
signed_fits false bits first second v e = let found = then_some (positive_in bits) second v e in positive_fits bits found.0 v found.2

value_as_fits : (kind : FieldKind) (bits : ℕ) (word : List ℕ) (v : Value) → value_as kind bits word ≡ Some v → ValueFits kind bits v
unfolding unsigned_value signed_value fixed_value long_value
value_as_fits kinds.Unsigned bits word v e = let found = then_some (held_in bits) (number_of word) v e in held_fits bits found.0 v found.2
value_as_fits kinds.Signed bits word v e = signed_fits (begins_with 45 word) bits (number_of (drop 1 word)) (number_of word) v e
value_as_fits kinds.Fixed bits word v e = let found = then_some (sized (bits / 8)) (bytes_of word) v e in sized_fits (bits / 8) found.0 v bits refl found.2
value_as_fits kinds.Variable bits word v e = let found = then_some short (bytes_of word) v e in short_fits found.0 v bits found.2
value_as_fits kinds.Virtual bits word v e = absurd (cc)

value_of_fits : (row : FieldRow) (word : List ℕ) (v : Value) → value_of row word ≡ Some v → ValueFits row.kind row.bits v
unfolding value_of
value_of_fits row word v e = value_as_fits row.kind row.bits word v e

number_value_fits : (kind : FieldKind) (bits n : ℕ) (v : Value) → number_value kind bits n ≡ Some v → ValueFits kind bits v
number_value_fits kinds.Unsigned bits n v e = held_fits bits n v e
number_value_fits kinds.Signed bits n v e = positive_fits bits n v e
number_value_fits kinds.Fixed bits n v e = absurd (cc)
number_value_fits kinds.Variable bits n v e = absurd (cc)
number_value_fits kinds.Virtual bits n v e = absurd (cc)

value_in_fits : (width : Option Width) (row : FieldRow) (word : List ℕ) (v : Value) → value_in width row word ≡ Some v → ValueFits row.kind row.bits v
value_in_fits None row word v e = value_of_fits row word v e
value_in_fits (Some width) row word v e =
    let found = then_some (number_value row.kind row.bits) (float_bits width word) v e in
    number_value_fits row.kind row.bits found.0 v found.2

-- where there is a position, the entry can be invalid
has_position : (row : FieldRow) (at : Option ℕ) → row.inval ≡ at → is_some at ≡ true → row.inval ≡ None → ⊥
has_position row None is some none = absurd (false≢true some)
has_position row (Some p) is some none = let wrong : ◌≡◌ {A = Option ℕ} (Some p) None = sym is ∙ none in cc

entry_fits_if : (b : Bool) (width : Option Width) (row : FieldRow) (word front : List ℕ) (entry : Entry)
    → cond b (cond (is_some row.inval) (option_map (entry_with false) (value_in width row front)) None) (option_map (entry_with true) (value_in width row word)) ≡ Some entry → IsEntryOf row entry
entry_fits_if true width row word front entry e =
    let both : (is_some row.inval ≡ true) × (option_map (entry_with false) (value_in width row front) ≡ Some entry) = kept (is_some row.inval) (option_map (entry_with false) (value_in width row front)) entry e in
    let found = mapped (entry_with false) (value_in width row front) entry both.1 in
    subst (IsEntryOf row) found.2 (record { value = value_in_fits width row front found.0 found.1; valid = λ none. absurd (has_position row row.inval refl both.0 none) })
entry_fits_if false width row word front entry e =
    let found = mapped (entry_with true) (value_in width row word) entry e in
    subst (IsEntryOf row) found.2 (record { value = value_in_fits width row word found.0 found.1; valid = λ none. refl })

pub entry_fits : (width : Option Width) (row : FieldRow) (word : List ℕ) (entry : Entry) → entry_of width row word ≡ Some entry → IsEntryOf row entry
unfolding entry_of
entry_fits width row word entry e = entry_fits_if (is_marked word) width row word (take (length word - 1) word) entry e

none_yet : AreEntriesOf [] []
none_yet = record { count = refl; each = λ k row entry below. absurd (omega (arith, below)) }

first_or_later : (row : FieldRow) (rows : List FieldRow) (entry : Entry) (entries : List Entry) → IsEntryOf row entry → AreEntriesOf rows entries
    → (k : ℕ) (r : FieldRow) (d : Entry) → k < suc (length rows) → IsEntryOf (get_or (row ∷ rows) k r) (get_or (entry ∷ entries) k d)
first_or_later row rows entry entries here are zero r d below = here
first_or_later row rows entry entries here are (suc k) r d below = are.each k r d (omega (arith, below))

pub with_entry : (row : FieldRow) (rows : List FieldRow) (entry : Entry) (entries : List Entry) → IsEntryOf row entry → AreEntriesOf rows entries → AreEntriesOf (row ∷ rows) (entry ∷ entries)
with_entry row rows entry entries here are = record { count = ap suc are.count; each = first_or_later row rows entry entries here are }

-- the entries that words are fit their channels
pub entries_fit : (widths : List (Option Width)) (rows : List FieldRow) (words : List (List ℕ)) (entries : List Entry) → entries_of widths rows words ≡ Some entries → AreEntriesOf rows entries
unfolding entries_of
entries_fit widths [] [] entries e =
    let is : [] ≡ entries = cc in
    subst (AreEntriesOf []) is none_yet
entries_fit widths [] (word ∷ words) entries e = absurd (cc)
entries_fit widths (row ∷ rows) [] entries e = absurd (cc)
entries_fit widths (row ∷ rows) (word ∷ words) entries e =
    let later = drop 1 widths in
    let first = then_some (λ entry. option_map (λ more. entry ∷ more) (entries_of later rows words)) (entry_of (first_width widths) row word) entries e in
    let rest = mapped (λ more. first.0 ∷ more) (entries_of later rows words) entries first.2 in
    subst (AreEntriesOf (row ∷ rows)) rest.2
    (with_entry row rows first.0 rest.0 (entry_fits (first_width widths) row word first.0 first.1) (entries_fit later rows words rest.0 rest.1))

pub some_fit : (widths : List (Option Width)) (rows : List FieldRow) (words : List (List ℕ)) (found : Option (List Entry)) → found ≡ entries_of widths rows words → IfSome found (AreEntriesOf rows)
some_fit widths rows words None is = tt
some_fit widths rows words (Some entries) is = entries_fit widths rows words entries (sym is)
