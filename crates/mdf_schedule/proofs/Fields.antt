-- A record follows from its sample and from the offsets in it: each bit of it is one of a channel's, or is 0.
use Rattle.std.proofs.Common.{◌≡◌, ◌⊎◌, ℕ, Bool, true, false, List, [], ◌∷◌, length, map, sym, ◌∙◌, ap, inl, inr}
use Rattle.std.proofs.lemmas.Bool.{cases_eq}
use Rattle.std.proofs.lemmas.List.Elements.{All-nil, All-cons}
use Rattle.std.proofs.lemmas.Option.{same_Some}
use Rattle.std.specs.Prelude.{not, nat_eq, ◌&&◌, if◌then◌else◌, Option, Some, None}
use Rattle.std.specs.List.{AllByRecursion}
use Rattle.std.specs.Option.{option_map, option_map_or}
use Rattle.mdf_format.specs.Field.{HasBit, bit_of, field_number}
use Rattle.mdf_layout.specs.Layout.{Layout}
use Rattle.mdf_layout.specs.Rule.{spot_in, bits_in, is_variable, has_bit}
use Rattle.mdf_layout.specs.Values.{Finder, value_in, is_valid, entry_of, first_finder, finders_behind, sample_by}
use Rattle.mdf_layout.specs.Written.{IsFree, IsFreePosition}
use Rattle.mdf_layout.specs.Behind.{variables}
use Rattle.mdf_layout.specs.declared.field.FieldKind.{FieldKind}
use Rattle.mdf_layout.specs.declared.field.FieldRow.{FieldRow}
use Rattle.mdf_layout.specs.declared.sample.Value.{Value}
use Rattle.mdf_layout.specs.declared.sample.Entry.{Entry}
use Rattle.mdf_layout.proofs.Rules.{has_bit_law}
use Rattle.mdf_layout.proofs.Entered.{parts_of_entries}
use Rattle.mdf_schedule.specs.Records.{AreBytes, IsStoredIn}
use Rattle.mdf_schedule.proofs.Bits.{two_ways, same_bytes, kind_bits, mark_bits}

-- the value of an entry, and whether it is valid
entry_parts : (found : Option Value) (valid : Bool) (entry : Entry) → option_map (λ v. record { value = v; valid = valid }) found ≡ Some entry
    → (found ≡ Some entry.value) × (valid ≡ entry.valid)
entry_parts None valid entry is = let wrong : ◌≡◌ {A = Option Entry} None (Some entry) = is in cc
entry_parts (Some v) valid entry is =
    let same : record { value = v; valid = valid } ≡ entry = same_Some (record { value = v; valid = valid }) entry is in
    (ap (λ (e : Entry). Some e.value) same, ap (λ (e : Entry). e.valid) same)

-- a position that is used
mark_is : (row : FieldRow) (inval : List ℕ) (p : ℕ) → row.all_invalid ≡ false → row.inval ≡ Some p → is_valid row inval ≡ not (nat_eq (bit_of inval p) 1)
mark_is row inval p valid used =
    ap (λ (all : Bool). not all && option_map_or (λ q. not (nat_eq (bit_of inval q) 1)) row.inval true) valid
    ∙ ap (λ (o : Option ℕ). option_map_or (λ q. not (nat_eq (bit_of inval q) 1)) o true) used

cases_position : (o : Option ℕ) (p : ℕ) → (o ≡ Some p) ⊎ (o ≡ Some p → ⊥)
cases_position None p = inr (λ same. let wrong : ◌≡◌ {A = Option ℕ} None (Some p) = same in cc)
cases_position (Some q) p = elim (cases_eq q p) [ inl is ↦ inl (ap Some is) | inr differs ↦ inr (λ same. differs (same_Some q p same)) ]

-- two records with equal entries and equal offsets, of so many bytes
module _ (layout : Layout) (xs ys inval inval' : List ℕ) (i j : ℕ) (long : length xs ≡ layout.data_bytes) (long' : length ys ≡ layout.data_bytes) where
  -- the channel's bits are the same
  pub record IsSame (row : FieldRow) : Type 0 where
    pub field : (p : ℕ) → HasBit (spot_in row) p → bit_of xs p ≡ bit_of ys p
    pub mark : (p : ℕ) → row.inval ≡ Some p → bit_of inval p ≡ bit_of inval' p

  abbrev Equals : FieldRow → Type 0
  Equals row = field_number (spot_in row) xs ≡ field_number (spot_in row) ys

  row_same : (row : FieldRow) (find find' : Finder) (entry : Entry) → IsStoredIn layout row → (is_variable row ≡ true → Equals row)
      → entry_of row xs inval find i ≡ Some entry → entry_of row ys inval' find' j ≡ Some entry → IsSame row
  row_same row find find' entry stored offset one two =
      let first = entry_parts (value_in row.kind (spot_in row) xs find i) (is_valid row inval) entry one in
      let second = entry_parts (value_in row.kind (spot_in row) ys find' j) (is_valid row inval') entry two in
      record {
        field = kind_bits row.kind (spot_in row) layout.data_bytes xs ys find find' i j entry.value long long' stored.field offset
            (λ none. ap (λ (k : FieldKind). bits_in k row.bits) none) first.0 second.0;
        mark = λ p used. mark_bits inval inval' p
            (sym (mark_is row inval p stored.valid used) ∙ first.1 ∙ sym second.1 ∙ mark_is row inval' p stored.valid used);
      }

  -- the offsets of the channels of variable length
  abbrev pub numbers : List ℕ → List FieldRow → List ℕ
  numbers bytes rows = map (λ (row : FieldRow). field_number (spot_in row) bytes) (variables rows)

  numbers_first : (row : FieldRow) (rows : List FieldRow) → is_variable row ≡ true → numbers xs (row ∷ rows) ≡ numbers ys (row ∷ rows)
      → (Equals row) × (numbers xs rows ≡ numbers ys rows)
  numbers_first row rows is same =
      let all : (bytes : List ℕ) → numbers bytes (row ∷ rows) ≡ field_number (spot_in row) bytes ∷ numbers bytes rows =
      λ bytes. ap (λ (b : Bool). map (λ (r : FieldRow). field_number (spot_in r) bytes) (if b then row ∷ variables rows else variables rows)) is in
      let both : field_number (spot_in row) xs ∷ numbers xs rows ≡ field_number (spot_in row) ys ∷ numbers ys rows = sym (all xs) ∙ same ∙ all ys in
      ((cc), (cc))

  numbers_behind : (row : FieldRow) (rows : List FieldRow) → is_variable row ≡ false → numbers xs (row ∷ rows) ≡ numbers ys (row ∷ rows)
      → numbers xs rows ≡ numbers ys rows
  numbers_behind row rows other same =
      let all : (bytes : List ℕ) → numbers bytes (row ∷ rows) ≡ numbers bytes rows =
      λ bytes. ap (λ (b : Bool). map (λ (r : FieldRow). field_number (spot_in r) bytes) (if b then row ∷ variables rows else variables rows)) other in
      sym (all xs) ∙ same ∙ all ys

  numbers_parts : (row : FieldRow) (rows : List FieldRow) → numbers xs (row ∷ rows) ≡ numbers ys (row ∷ rows)
      → (is_variable row ≡ true → Equals row) × (numbers xs rows ≡ numbers ys rows)
  numbers_parts row rows same = elim (two_ways (is_variable row)) [
    | inl is ↦ let both = numbers_first row rows is same in (λ _. both.0, both.1)
    | inr other ↦ (λ is. let wrong : true ≡ false = sym is ∙ other in cc, numbers_behind row rows other same)
  ]

  rows_same : (rows : List FieldRow) (finders finders' : List Finder) (entries : List Entry) → AllByRecursion (IsStoredIn layout) rows
      → numbers xs rows ≡ numbers ys rows → sample_by rows xs inval finders i ≡ Some entries → sample_by rows ys inval' finders' j ≡ Some entries
      → AllByRecursion IsSame rows
  unfolding sample_by
  rows_same [] finders finders' entries stored offsets one two = tt
  rows_same (row ∷ rows) finders finders' entries stored offsets one two =
      let first = parts_of_entries (entry_of row xs inval (first_finder finders) i) (sample_by rows xs inval (finders_behind row finders) i) entries one in
      let second = parts_of_entries (entry_of row ys inval' (first_finder finders') j) (sample_by rows ys inval' (finders_behind row finders') j) entries two in
      let both : first.0 ∷ first.1 ≡ second.0 ∷ second.1 = first.4 ∙ sym second.4 in
      let entry : second.0 ≡ first.0 = cc in
      let behind : second.1 ≡ first.1 = cc in
      let number = numbers_parts row rows offsets in (
        row_same row (first_finder finders) (first_finder finders') first.0 stored.0 number.0 first.2 (second.2 ∙ ap Some entry),
        rows_same rows (finders_behind row finders) (finders_behind row finders') first.1 stored.1 number.1 first.3 (second.3 ∙ ap Some behind),
      )

  -- each bit is a channel's, or of no channel
  bits_same : (rows : List FieldRow) (p : ℕ) → AllByRecursion IsSame rows → (IsFree rows p → bit_of xs p ≡ bit_of ys p) → bit_of xs p ≡ bit_of ys p
  bits_same [] p same free = free (All-nil (λ (row : FieldRow). ¬ HasBit (spot_in row) p))
  bits_same (row ∷ rows) p same free = elim (two_ways (has_bit (spot_in row) p)) [
    | inl has ↦ same.0.field p ((has_bit_law (spot_in row) p).to has)
    | inr none ↦
        bits_same rows p same.1 (λ rest.
        free (All-cons (λ (r : FieldRow). ¬ HasBit (spot_in r) p) row rows
        (λ has. let wrong : true ≡ false = sym ((has_bit_law (spot_in row) p).from has) ∙ none in cc) rest))
  ]

  marks_same : (rows : List FieldRow) (p : ℕ) → AllByRecursion IsSame rows → (IsFreePosition rows p → bit_of inval p ≡ bit_of inval' p)
      → bit_of inval p ≡ bit_of inval' p
  marks_same [] p same free = free (All-nil (λ (row : FieldRow). row.inval ≡ Some p → ⊥))
  marks_same (row ∷ rows) p same free = elim (cases_position row.inval p) [
    | inl used ↦ same.0.mark p used
    | inr other ↦ marks_same rows p same.1 (λ rest. free (All-cons (λ (r : FieldRow). r.inval ≡ Some p → ⊥) row rows other rest))
  ]

-- so the records are the same
pub record_once : (layout : Layout) (xs ys inval inval' : List ℕ) (i j : ℕ) (finders finders' : List Finder) (entries : List Entry)
    → AllByRecursion (IsStoredIn layout) layout.rows → AreBytes xs → AreBytes ys → AreBytes inval → AreBytes inval'
    → length xs ≡ layout.data_bytes → length ys ≡ layout.data_bytes → length inval ≡ layout.inval_bytes → length inval' ≡ layout.inval_bytes
    → map (λ (row : FieldRow). field_number (spot_in row) xs) (variables layout.rows) ≡ map (λ (row : FieldRow). field_number (spot_in row) ys) (variables layout.rows)
    → sample_by layout.rows xs inval finders i ≡ Some entries → sample_by layout.rows ys inval' finders' j ≡ Some entries
    → ((p : ℕ) → IsFree layout.rows p → bit_of xs p ≡ 0) → ((p : ℕ) → IsFree layout.rows p → bit_of ys p ≡ 0)
    → ((p : ℕ) → IsFreePosition layout.rows p → bit_of inval p ≡ 0) → ((p : ℕ) → IsFreePosition layout.rows p → bit_of inval' p ≡ 0)
    → (xs ≡ ys) × (inval ≡ inval')
record_once layout xs ys inval inval' i j finders finders' entries stored small_xs small_ys small small' long_xs long_ys long long' offsets one two free_xs free_ys free free' =
    let same = rows_same layout xs ys inval inval' i j long_xs long_ys layout.rows finders finders' entries stored offsets one two in (
      same_bytes xs ys (long_xs ∙ sym long_ys) small_xs small_ys
          (λ p below. bits_same layout xs ys inval inval' i j long_xs long_ys layout.rows p same (λ none. free_xs p none ∙ sym (free_ys p none))),
      same_bytes inval inval' (long ∙ sym long') small small'
          (λ p below. marks_same layout xs ys inval inval' i j long_xs long_ys layout.rows p same (λ none. free p none ∙ sym (free' p none))),
    )
