-- The rules over the numbers of rows are those over fields.
use Rattle.std.proofs.Common.{◌≡◌, ◌≢◌, ◌<◌, ◌/◌, ◌%◌, ℕ, Bool, true, false, List, map, refl, sym, ◌∙◌, ap, subst, inl, inr, Option, Some, None}
use Rattle.std.specs.Prelude.{nat_eq, slice_get, if◌then◌else◌}
use Rattle.std.specs.Option.{option_map}
use Rattle.std.proofs.lemmas.Bool.{eqb-true, eq-eqb, both_ways}
use Rattle.std.proofs.lemmas.Option.{slice_get-map}
use Rattle.mdf_format.specs.Field.{Spot}
use Rattle.mdf_format.specs.Row as forms
use Rattle.mdf_format.specs.Row.{RowNumbers, Form, form_of, field_bits, spot_of_row, IsPlaced, IsInvalPlaced, SharesBit, BreaksRowRule}
use Rattle.mdf_layout.specs.Row.{field_row, kind_in}
use Rattle.mdf_layout.specs.Rule.{bits_in, spot_in, IsPlacedAs, IsInvalIn, BreaksRule, breaks_row_rule}
use Rattle.mdf_layout.specs.declared.field.FieldKind.TheVariants.{Unsigned, Signed, Fixed, Variable, Virtual}
use Rattle.mdf_layout.specs.declared.field.FieldRow.{FieldRow}
use Rattle.mdf_layout.proofs.Rules.{Tells, breaks_law}

-- each of two facts gives the other
record Same (P Q : Type 0) : Type 0 where
  pub to : P → Q
  pub back : Q → P

-- the same place over the numbers of a channel and over its field
same_bits : (f : Form) (bits : ℕ) → bits_in (kind_in f) bits ≡ field_bits f bits
same_bits forms.Unsigned bits = refl
same_bits forms.Signed bits = refl
same_bits forms.Fixed bits = refl
same_bits forms.Variable bits = refl
same_bits forms.Virtual bits = refl

pub same_spot : (row : RowNumbers) → spot_in (field_row row) ≡ spot_of_row row
same_spot row = ap (λ (bits : ℕ). record { byte = row.byte; bit = row.bit; bits = bits; big = (field_row row).big }) (same_bits (form_of row) row.bits)

same_place : (f : Form) (data_bytes : ℕ) (s : Spot) → Same (IsPlacedAs (kind_in f) data_bytes s) (IsPlaced f data_bytes s)
same_place forms.Unsigned data_bytes s = record { to = λ x. x; back = λ x. x }
same_place forms.Signed data_bytes s = record { to = λ x. x; back = λ x. x }
same_place forms.Fixed data_bytes s = record { to = λ x. x; back = λ x. x }
same_place forms.Variable data_bytes s = record { to = λ x. x; back = λ x. x }
same_place forms.Virtual data_bytes s = record { to = λ x. x; back = λ x. x }

same_kind : (f : Form) → Same (kind_in f ≡ Variable) (f ≡ forms.Variable)
same_kind forms.Unsigned = record { to = λ wrong. let w : Unsigned ≡ Variable = wrong in cc; back = λ wrong. let w : forms.Unsigned ≡ forms.Variable = wrong in cc }
same_kind forms.Signed = record { to = λ wrong. let w : Signed ≡ Variable = wrong in cc; back = λ wrong. let w : forms.Signed ≡ forms.Variable = wrong in cc }
same_kind forms.Fixed = record { to = λ wrong. let w : Fixed ≡ Variable = wrong in cc; back = λ wrong. let w : forms.Fixed ≡ forms.Variable = wrong in cc }
same_kind forms.Variable = record { to = λ _. refl; back = λ _. refl }
same_kind forms.Virtual = record { to = λ wrong. let w : Virtual ≡ Variable = wrong in cc; back = λ wrong. let w : forms.Virtual ≡ forms.Variable = wrong in cc }

-- the position by what the flags say of it
same_inval : (inval_bytes position : ℕ) (used : Bool) → Same (IsInvalIn inval_bytes (if used then Some position else None)) (used ≡ true → position / 8 < inval_bytes)
same_inval inval_bytes position true = record {
  to = λ at _. at position refl;
  back = λ at p same. let equal : position ≡ p = cc in subst (λ n. n / 8 < inval_bytes) equal (at refl);
}
same_inval inval_bytes position false = record {
  to = λ at wrong. absurd (both_ways false refl wrong);
  back = λ at p wrong. let w : ◌≡◌ {A = Option ℕ} None (Some p) = wrong in cc;
}

same_position : (inval_bytes : ℕ) (row : RowNumbers) → Same (IsInvalIn inval_bytes (field_row row).inval) (IsInvalPlaced inval_bytes row)
same_position inval_bytes row =
    let both = same_inval inval_bytes row.inval (nat_eq (row.flags / 2 % 2) 1) in record {
      to = λ at uses. both.to at (eq-eqb _ _ uses);
      back = λ at. both.back (λ used. at (eqb-true _ _ used));
    }

-- another channel that it meets, in the one list and in the other
Meets : List FieldRow → ℕ → Spot → Type 0
Meets rows k s = (j : ℕ) × (other : FieldRow) × (j ≢ k) × (slice_get rows j ≡ Some other) × SharesBit s (spot_in other)

MeetsNumbers : List RowNumbers → ℕ → Spot → Type 0
MeetsNumbers rows k s = (j : ℕ) × (other : RowNumbers) × (j ≢ k) × (slice_get rows j ≡ Some other) × SharesBit s (spot_of_row other)

was_row : (found at : Option RowNumbers) (other : FieldRow) → found ≡ at → option_map field_row found ≡ Some other → (row : RowNumbers) × (at ≡ Some row) × (field_row row ≡ other)
was_row None at other is found = let w : ◌≡◌ {A = Option FieldRow} None (Some other) = found in cc
was_row (Some row) at other is found = let same : Some (field_row row) ≡ Some other = found in (row, sym is, cc)

meets_to : (rows : List RowNumbers) (k : ℕ) (s : Spot) → Meets (map field_row rows) k s → MeetsNumbers rows k s
unfolding Meets MeetsNumbers
meets_to rows k s (j, other, differs, there, shares) =
    let was = was_row (slice_get rows j) (slice_get rows j) other refl (sym (slice_get-map field_row rows j) ∙ there) in
    (j, was.0, differs, was.1, subst (SharesBit s) (same_spot was.0) (subst (λ r. SharesBit s (spot_in r)) (sym was.2) shares))

meets_back : (rows : List RowNumbers) (k : ℕ) (s : Spot) → MeetsNumbers rows k s → Meets (map field_row rows) k s
unfolding Meets MeetsNumbers
meets_back rows k s (j, other, differs, there, shares) =
    (j, field_row other, differs, slice_get-map field_row rows j ∙ ap (option_map field_row) there, subst (SharesBit s) (sym (same_spot other)) shares)

rule_to : (data_bytes inval_bytes : ℕ) (rows : List RowNumbers) (k : ℕ) (row : RowNumbers)
    → BreaksRule data_bytes inval_bytes (map field_row rows) k (field_row row) → BreaksRowRule data_bytes inval_bytes rows k row
unfolding Meets MeetsNumbers
rule_to data_bytes inval_bytes rows k row (inl unplaced) =
    inl (λ placed. unplaced (subst (IsPlacedAs (kind_in (form_of row)) data_bytes) (sym (same_spot row)) ((same_place (form_of row) data_bytes (spot_of_row row)).back placed)))
rule_to data_bytes inval_bytes rows k row (inr (inl outside)) = inr (inl (λ at. outside ((same_position inval_bytes row).back at)))
rule_to data_bytes inval_bytes rows k row (inr (inr offset)) =
    inr (inr ((same_kind (form_of row)).to offset.0, subst (MeetsNumbers rows k) (same_spot row) (meets_to rows k (spot_in (field_row row)) offset.1)))

rule_back : (data_bytes inval_bytes : ℕ) (rows : List RowNumbers) (k : ℕ) (row : RowNumbers)
    → BreaksRowRule data_bytes inval_bytes rows k row → BreaksRule data_bytes inval_bytes (map field_row rows) k (field_row row)
unfolding Meets MeetsNumbers
rule_back data_bytes inval_bytes rows k row (inl unplaced) =
    inl (λ placed. unplaced ((same_place (form_of row) data_bytes (spot_of_row row)).to (subst (IsPlacedAs (kind_in (form_of row)) data_bytes) (same_spot row) placed)))
rule_back data_bytes inval_bytes rows k row (inr (inl outside)) = inr (inl (λ at. outside ((same_position inval_bytes row).to at)))
rule_back data_bytes inval_bytes rows k row (inr (inr offset)) =
    inr (inr ((same_kind (form_of row)).back offset.0, meets_back rows k (spot_in (field_row row)) (subst (MeetsNumbers rows k) (sym (same_spot row)) offset.1)))

-- the test over the fields says what the rules over the numbers say
pub numbers_law : (data_bytes inval_bytes : ℕ) (rows : List RowNumbers) (k : ℕ) (row : RowNumbers)
    → Tells (breaks_row_rule data_bytes inval_bytes (map field_row rows) k (field_row row)) (BreaksRowRule data_bytes inval_bytes rows k row)
numbers_law data_bytes inval_bytes rows k row =
    let law = breaks_law data_bytes inval_bytes (map field_row rows) k (field_row row) in record {
      to = λ is. rule_to data_bytes inval_bytes rows k row (law.to is);
      from = λ breaks. law.from (rule_back data_bytes inval_bytes rows k row breaks);
    }
