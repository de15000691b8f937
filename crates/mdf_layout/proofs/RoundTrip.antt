-- What is written is read back.
use Rattle.std.proofs.Common.{◌≡◌, ◌≤◌, ◌<◌, ◌+◌, ℕ, zero, suc, Bool, true, false, List, length, get_or, take, refl, sym, ◌∙◌, ap, subst, arith, Option, Some, None}
use Rattle.std.specs.Prelude.{if◌then◌else◌, slice_get, nat_eq, not, ◌&&◌, All}
use Rattle.std.specs.Option.{option_map, option_map_or}
use borrow.Author.Count.{below_more}
use Rattle.std.proofs.lemmas.List.{get_or_default, take_more, take_all}
use Rattle.std.proofs.lemmas.Option.{slice_get-get_or, slice_get_within, get_or_from_slice_get}
use Rattle.mdf_format.specs.Field.{Spot, bit_of}
use Rattle.mdf_layout.specs.Rule.{spot_in}
use Rattle.mdf_layout.specs.Values.{Finder, value_in, is_valid, entry_of, finder_at, sample_by, streams_before}
use Rattle.mdf_layout.specs.Written.{ValueFits, AreEntriesOf, HoldsValue, HoldsMark, HoldValues, HoldMarks, IsFound, AreFound, offset_of, AreApart}
use Rattle.mdf_layout.specs.declared.field.FieldKind.{FieldKind}
use Rattle.mdf_layout.specs.declared.field.FieldKind.TheVariants.{Unsigned, Signed, Fixed, Variable, Virtual}
use Rattle.mdf_layout.specs.declared.field.FieldRow.{FieldRow}
use Rattle.mdf_layout.specs.declared.sample.Value.{Value}
use Rattle.mdf_layout.specs.declared.sample.Value.TheVariants as value
use Rattle.mdf_layout.specs.declared.sample.Entry.{Entry}
use Rattle.mdf_layout.proofs.Entered.{sample_more}

-- the value of a field that holds it
value_read : (kind : FieldKind) (s : Spot) (bits : ℕ) (bytes : List ℕ) (offset : ℕ) (find : Finder) (index : ℕ) (v : Value)
    → ValueFits kind bits v → HoldsValue kind s bytes offset v → IsFound kind offset find index v → value_in kind s bytes find index ≡ Some v
value_read Unsigned s bits bytes offset find index v fits holds found = holds
value_read Signed s bits bytes offset find index v fits holds found = holds
value_read Fixed s bits bytes offset find index v fits holds found = holds
value_read Variable s bits bytes offset find index (value.Bytes b) fits holds found = ap (λ (o : ℕ). option_map value.Bytes (find o)) holds ∙ ap (option_map value.Bytes) found
value_read Variable s bits bytes offset find index (value.Unsigned n) fits holds found = absurd fits
value_read Variable s bits bytes offset find index (value.Signed n) fits holds found = absurd fits
value_read Variable s bits bytes offset find index (value.Index n) fits holds found = absurd fits
value_read Virtual s bits bytes offset find index (value.Index n) fits holds found = ap (λ (i : ℕ). Some (value.Index i)) (sym found)
value_read Virtual s bits bytes offset find index (value.Unsigned n) fits holds found = absurd fits
value_read Virtual s bits bytes offset find index (value.Signed n) fits holds found = absurd fits
value_read Virtual s bits bytes offset find index (value.Bytes n) fits holds found = absurd fits

-- whether it is valid, from its invalidation bit
valid_bit : (valid : Bool) (bit : ℕ) → bit ≡ (if valid then 0 else 1) → not (nat_eq bit 1) ≡ valid
valid_bit true bit is = rw is refl
valid_bit false bit is = rw is refl

valid_read : (inval_is : Option ℕ) (row : FieldRow) (inval : List ℕ) (valid : Bool) → row.inval ≡ inval_is → row.all_invalid ≡ false
    → (row.inval ≡ None → valid ≡ true) → HoldsMark row inval valid → is_valid row inval ≡ valid
valid_read None row inval valid is never can mark =
    ap (λ (all : Bool). not all && option_map_or (λ p. not (nat_eq (bit_of inval p) 1)) row.inval true) never
    ∙ ap (λ (at : Option ℕ). option_map_or (λ p. not (nat_eq (bit_of inval p) 1)) at true) is ∙ sym (can is)
valid_read (Some p) row inval valid is never can mark =
    ap (λ (all : Bool). not all && option_map_or (λ p. not (nat_eq (bit_of inval p) 1)) row.inval true) never
    ∙ ap (λ (at : Option ℕ). option_map_or (λ p. not (nat_eq (bit_of inval p) 1)) at true) is ∙ valid_bit valid (bit_of inval p) (mark p is)

entry_is : (found : Option Value) (valid : Bool) (entry : Entry) → found ≡ Some entry.value → valid ≡ entry.valid
    → option_map (λ v. record { value = v; valid = valid }) found ≡ Some entry
entry_is found valid entry value_is valid_is =
    ap (option_map (λ (v : Value). record { value = v; valid = valid })) value_is ∙ ap (λ (b : Bool). Some (record { value = entry.value; valid = b })) valid_is

-- the sample of a record whose channels hold their entries
module _ (rows : List FieldRow) (values : List Entry) (offsets bytes inval : List ℕ) (finders : List Finder) (index : ℕ) (d : FieldRow) (e : Entry)
    (fits : AreEntriesOf rows values) (never : All (λ row. row.all_invalid ≡ false) rows)
    (hold : HoldValues rows values offsets (length rows) bytes) (marks : HoldMarks rows values (length rows) inval)
    (found : AreFound rows values offsets finders index) where
  entry_there : (k : ℕ) → k < length rows
      → entry_of (get_or rows k d) bytes inval (finder_at finders (streams_before rows k)) index ≡ Some (get_or values k e)
  entry_there k within =
      let row = get_or rows k d in
      let entry = get_or values k e in
      let can = fits.each k d e within in
      entry_is (value_in row.kind (spot_in row) bytes (finder_at finders (streams_before rows k)) index) (is_valid row inval) entry
      (value_read row.kind (spot_in row) row.bits bytes (offset_of rows offsets k) (finder_at finders (streams_before rows k)) index entry.value can.value
      (hold k d e within) (found k d e within))
      (valid_read row.inval row inval entry.valid refl (never k d within) can.valid (marks k d e within))

  firsts : (n : ℕ) → n ≤ length rows → sample_by (take n rows) bytes inval finders index ≡ Some (take n values)
  unfolding sample_by
  firsts zero within = refl
  firsts (suc n) within =
      let next : n + 1 ≡ suc n = omega arith in
      let before = firsts n (omega arith) in
      let below : n < length rows = omega arith in
      let more = sample_more rows n (get_or rows n d) bytes inval finders index (take n values) (get_or values n e) (slice_get-get_or rows n d below) before (entry_there n below) in
      ap (λ (m : ℕ). sample_by (take m rows) bytes inval finders index) (sym next) ∙ more
      ∙ ap Some (sym (take_more values n e (omega (arith, fits.count)))) ∙ ap (λ (m : ℕ). Some (take m values)) next

  all_read : sample_by rows bytes inval finders index ≡ Some values
  all_read =
      ap (λ (rs : List FieldRow). sample_by rs bytes inval finders index) (sym (take_all (length rows) rows (omega arith)))
      ∙ firsts (length rows) (omega arith) ∙ ap Some (take_all (length rows) values (omega (arith, fits.count)))

blank : FieldRow
blank = record { kind = Unsigned; big = false; byte = 0; bit = 0; bits = 0; inval = None; all_invalid = false }

no_entry : Entry
no_entry = record { value = value.Unsigned 0; valid = true }

pub sample_read : (rows : List FieldRow) (values : List Entry) (offsets bytes inval : List ℕ) (finders : List Finder) (index : ℕ)
    → AreEntriesOf rows values → All (λ row. row.all_invalid ≡ false) rows → HoldValues rows values offsets (length rows) bytes → HoldMarks rows values (length rows) inval
    → AreFound rows values offsets finders index → sample_by rows bytes inval finders index ≡ Some values
sample_read rows values offsets bytes inval finders index fits never hold marks found =
    all_read rows values offsets bytes inval finders index blank no_entry fits never hold marks found

-- one more channel marked
pub marks_more : (rows : List FieldRow) (values : List Entry) (i : ℕ) (old new : List ℕ) (row : FieldRow) (entry : Entry)
    → slice_get rows i ≡ Some row → entry ≡ get_or values i entry → i < length values → AreApart rows
    → ((p : ℕ) → ¬ (row.inval ≡ Some p) → bit_of new p ≡ bit_of old p)
    → HoldMarks rows values i old → HoldsMark row new entry.valid → HoldMarks rows values (i + 1) new
marks_more rows values i old new row entry there is within apart others before here = λ k r e below.
    let inside = slice_get_within rows i row there in
    below_more (λ k. HoldsMark (get_or rows k r) new (get_or values k e).valid) i
    (λ k less p has. others p (λ mine.
    let at = get_or_from_slice_get rows i row r there in
    (apart k i r less inside).positions p has (subst (λ x. x.inval ≡ Some p) (sym at) mine)) ∙ before k r e less p has)
    (subst (λ x. HoldsMark x new (get_or values i e).valid) (sym (get_or_from_slice_get rows i row r there))
    (subst (λ x. HoldsMark row new x.valid) (is ∙ get_or_default values i entry e within) here)) k below

-- where each channel so far is marked and each other bit is 0
pub mark_clear : (rows : List FieldRow) (i : ℕ) (inval : List ℕ) (row : FieldRow) → slice_get rows i ≡ Some row → AreApart rows
    → ((p : ℕ) → ((k : ℕ) (d : FieldRow) → k < i → ¬ ((get_or rows k d).inval ≡ Some p)) → bit_of inval p ≡ 0)
    → (p : ℕ) → row.inval ≡ Some p → bit_of inval p ≡ 0
mark_clear rows i inval row there apart others p mine =
    others p (λ k d below has.
    (apart k i d below (slice_get_within rows i row there)).positions p has (subst (λ x. x.inval ≡ Some p) (sym (get_or_from_slice_get rows i row d there)) mine))

pub mark_others : (rows : List FieldRow) (i : ℕ) (old new : List ℕ) (row : FieldRow) → slice_get rows i ≡ Some row
    → ((p : ℕ) → ¬ (row.inval ≡ Some p) → bit_of new p ≡ bit_of old p)
    → ((p : ℕ) → ((k : ℕ) (d : FieldRow) → k < i → ¬ ((get_or rows k d).inval ≡ Some p)) → bit_of old p ≡ 0)
    → (p : ℕ) → ((k : ℕ) (d : FieldRow) → k < i + 1 → ¬ ((get_or rows k d).inval ≡ Some p)) → bit_of new p ≡ 0
mark_others rows i old new row there kept before p free =
    kept p (subst (λ x. ¬ (x.inval ≡ Some p)) (get_or_from_slice_get rows i row row there) (free i row (omega arith)))
    ∙ before p (λ k d below. free k d (omega arith))
