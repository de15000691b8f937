-- The test of the rules says what the rules say.
use Rattle.std.proofs.Common.{◌≡◌, ◌≢◌, ◌<◌, ◌+◌, ◌-◌, ◌*◌, ◌/◌, ◌%◌, ◌⊎◌, ℕ, zero, suc, Bool, true, false, ◌&&◌, ◌||◌, not, List, length, refl, sym, ◌∙◌, ap, subst, arith, inl, inr, Option, Some, None}
use Rattle.std.specs.Prelude.{nat_eq, nat_le, nat_lt, slice_get}
use Rattle.std.specs.Option.{option_map_or}
use Rattle.std.proofs.lemmas.Bool.{and_parts, and_from, or_cases, or_left, or_right, or_from, not-true, not_from_false, leb-true, ltb-true, eqb-true, le-leb, lt-ltb, eq-eqb, ne_eqb, eqb-false, both_ways, cases_eq, false_from_ne_true}
use Rattle.std.proofs.lemmas.Option.{slice_get_within}
use Rattle.mdf_format.specs.Field.{Spot, HasBit, covered_size, covered_end, place_of}
use Rattle.mdf_format.specs.Row.{IsNumberPlaced, AreBytesPlaced, SharesBit}
use Rattle.mdf_bits.specs.Field.{bit_within}
use Rattle.mdf_bits.proofs.Spots.{lies_at, comes_from}
use Rattle.mdf_layout.specs.Rule.{any_below, is_among, has_bit, shares_bit, is_number_placed, are_bytes_placed, is_placed, is_inval_placed, is_variable, meets_at, breaks_row_rule, spot_in, IsPlacedAs, IsInvalIn, BreaksRule}
use Rattle.mdf_layout.specs.declared.field.FieldKind.{FieldKind}
use Rattle.mdf_layout.specs.declared.field.FieldKind.TheVariants.{Unsigned, Signed, Fixed, Variable, Virtual}
use Rattle.mdf_layout.specs.declared.field.FieldRow.{FieldRow}

-- one number below n that passes
pub any_from : (n : ℕ) (test : ℕ → Bool) (i : ℕ) → i < n → test i ≡ true → any_below n test ≡ true
unfolding any_below
any_from zero test i below passes = absurd (omega arith)
any_from (suc n) test i below passes = elim (cases_eq i n) [
  | inl same ↦ or_left (test n) (any_below n test) (subst (λ k. test k ≡ true) same passes)
  | inr other ↦ or_right (test n) (any_below n test) (any_from n test i (omega arith) passes)
]

pub any_to : (n : ℕ) (test : ℕ → Bool) → any_below n test ≡ true → (i : ℕ) × (i < n) × (test i ≡ true)
unfolding any_below
any_to zero test passes = absurd (both_ways false refl passes)
any_to (suc n) test passes = elim (or_cases (test n) (any_below n test) passes) [
  | inl here ↦ (n, omega arith, here)
  | inr below ↦ let found = any_to n test below in (found.0, omega (arith, found.1), found.2)
]

pub any_none : (test : ℕ → Bool) → any_below 0 test ≡ false
unfolding any_below
any_none test = refl

pub any_more : (n : ℕ) (test : ℕ → Bool) → any_below n test ≡ false → test n ≡ false → any_below (n + 1) test ≡ false
unfolding any_below
any_more n test none here =
    let one : n + 1 ≡ suc n = omega arith in
    rw one (or_from (test n) (any_below n test) here none)

-- a test for each of two facts
pub record Tells (b : Bool) (P : Type 0) : Type 0 where
  pub to : b ≡ true → P
  pub from : P → b ≡ true

tells_not : (b : Bool) (P : Type 0) → Tells b P → Tells (not b) (¬ P)
tells_not b P t = record {
  to = λ is p. both_ways b (not-true b is) (t.from p);
  from = λ none. not_from_false b (false_from_ne_true b (λ is. none (t.to is)));
}

tells_or : (b c : Bool) (P Q : Type 0) → Tells b P → Tells c Q → Tells (b || c) (P ⊎ Q)
tells_or b c P Q t u = record {
  to = λ is. elim (or_cases b c is) [ inl one ↦ inl (t.to one) | inr two ↦ inr (u.to two) ];
  from = λ some. elim some [ inl p ↦ or_left b c (t.from p) | inr q ↦ or_right b c (u.from q) ];
}

tells_and : (b c : Bool) (P Q : Type 0) → Tells b P → Tells c Q → Tells (b && c) (P × Q)
tells_and b c P Q t u = record {
  to = λ is. let both = and_parts b c is in (t.to both.0, u.to both.1);
  from = λ both. and_from b c (t.from both.0) (u.from both.1);
}

-- whether a bit is the field's
pub has_bit_law : (s : Spot) (p : ℕ) → Tells (has_bit s p) (HasBit s p)
has_bit_law s p = record {
  to = λ is.
      let outer = and_parts (nat_le (8 * s.byte) p) (nat_lt p (8 * covered_end s) && is_among s (bit_within s p)) is in
      let inner = and_parts (nat_lt p (8 * covered_end s)) (is_among s (bit_within s p)) outer.1 in
      let among = and_parts (nat_le s.bit (bit_within s p)) (nat_lt (bit_within s p) (s.bit + s.bits)) inner.1 in
      let at = lies_at s p (leb-true _ _ outer.0) (ltb-true _ _ inner.0) in
      record { k = bit_within s p; low = leb-true _ _ among.0; high = ltb-true _ _ among.1; there = at.there };
  from = λ has.
      let k = has.k in
      let within : k < 8 * covered_size s = omega (arith, has.high) in
      let from = comes_from s p k within has.there in
      let among : is_among s (bit_within s p) ≡ true = rw from.back (and_from (nat_le s.bit k) (nat_lt k (s.bit + s.bits)) (le-leb _ _ has.low) (lt-ltb _ _ has.high)) in
      and_from (nat_le (8 * s.byte) p) (nat_lt p (8 * covered_end s) && is_among s (bit_within s p)) (le-leb _ _ from.low)
      (and_from (nat_lt p (8 * covered_end s)) (is_among s (bit_within s p)) (lt-ltb _ _ from.high) among);
}

-- whether two fields share a bit
pub shares_bit_law : (one other : Spot) → Tells (shares_bit one other) (SharesBit one other)
shares_bit_law one other =
    let test : ℕ → Bool = λ i. has_bit other (place_of one (one.bit + i)) in record {
      to = λ is.
          let found = any_to one.bits test is in
          let i = found.0 in
          record {
            p = place_of one (one.bit + i);
            first = record { k = one.bit + i; low = omega arith; high = omega (arith, found.1); there = refl };
            second = (has_bit_law other (place_of one (one.bit + i))).to found.2;
          };
      from = λ shares.
          let k = shares.first.k in
          let place : one.bit + (k - one.bit) ≡ k = omega (arith, shares.first.low) in
          let there : place_of one (one.bit + (k - one.bit)) ≡ shares.p = ap (place_of one) place ∙ sym shares.first.there in
          any_from one.bits test (k - one.bit) (omega (arith, shares.first.low, shares.first.high))
          (ap (has_bit other) there ∙ (has_bit_law other shares.p).from shares.second);
    }

-- whether a field has its place
number_law : (data_bytes : ℕ) (s : Spot) → Tells (is_number_placed data_bytes s) (IsNumberPlaced data_bytes s)
number_law data_bytes s = record {
  to = λ is.
      let one = and_parts (nat_le s.bit 7) (nat_le 1 s.bits && (nat_le s.bits 64 && nat_le (covered_end s) data_bytes)) is in
      let two = and_parts (nat_le 1 s.bits) (nat_le s.bits 64 && nat_le (covered_end s) data_bytes) one.1 in
      let three = and_parts (nat_le s.bits 64) (nat_le (covered_end s) data_bytes) two.1 in
      record { bit = leb-true _ _ one.0; some = leb-true _ _ two.0; few = leb-true _ _ three.0; inside = leb-true _ _ three.1 };
  from = λ at.
      and_from (nat_le s.bit 7) (nat_le 1 s.bits && (nat_le s.bits 64 && nat_le (covered_end s) data_bytes)) (le-leb _ _ at.bit)
      (and_from (nat_le 1 s.bits) (nat_le s.bits 64 && nat_le (covered_end s) data_bytes) (le-leb _ _ at.some)
      (and_from (nat_le s.bits 64) (nat_le (covered_end s) data_bytes) (le-leb _ _ at.few) (le-leb _ _ at.inside)));
}

bytes_law : (data_bytes : ℕ) (s : Spot) → Tells (are_bytes_placed data_bytes s) (AreBytesPlaced data_bytes s)
bytes_law data_bytes s = record {
  to = λ is.
      let one = and_parts (nat_eq s.bit 0) (nat_eq (s.bits % 8) 0 && nat_le (covered_end s) data_bytes) is in
      let two = and_parts (nat_eq (s.bits % 8) 0) (nat_le (covered_end s) data_bytes) one.1 in
      record { bit = eqb-true _ _ one.0; whole = eqb-true _ _ two.0; inside = leb-true _ _ two.1 };
  from = λ at.
      and_from (nat_eq s.bit 0) (nat_eq (s.bits % 8) 0 && nat_le (covered_end s) data_bytes) (eq-eqb _ _ at.bit)
      (and_from (nat_eq (s.bits % 8) 0) (nat_le (covered_end s) data_bytes) (eq-eqb _ _ at.whole) (le-leb _ _ at.inside));
}

pub placed_law : (kind : FieldKind) (data_bytes : ℕ) (s : Spot) → Tells (is_placed kind data_bytes s) (IsPlacedAs kind data_bytes s)
placed_law Unsigned data_bytes s = number_law data_bytes s
placed_law Signed data_bytes s = number_law data_bytes s
placed_law Fixed data_bytes s = bytes_law data_bytes s
placed_law Variable data_bytes s = number_law data_bytes s
placed_law Virtual data_bytes s = record { to = λ _. tt; from = λ _. refl }

-- whether an invalidation bit has its place
pub inval_law : (inval_bytes : ℕ) (inval : Option ℕ) → Tells (is_inval_placed inval_bytes inval) (IsInvalIn inval_bytes inval)
inval_law inval_bytes None = record { to = λ _ p is. let wrong : ◌≡◌ {A = Option ℕ} None (Some p) = is in cc; from = λ _. refl }
inval_law inval_bytes (Some q) = record {
  to = λ is p same.
      let equal : q ≡ p = ap (λ found. option_map_or (λ x. x) found q) same in
      subst (λ n. n / 8 < inval_bytes) equal (ltb-true _ _ is);
  from = λ at. lt-ltb _ _ (at q refl);
}

-- whether a channel is of variable length
kind_law : (kind : FieldKind) (row : FieldRow) → row.kind ≡ kind → Tells (is_variable row) (row.kind ≡ Variable)
kind_law Unsigned row is = rw is (record { to = λ wrong. absurd (both_ways false refl wrong); from = λ wrong. let w : Unsigned ≡ Variable = wrong in cc })
kind_law Signed row is = rw is (record { to = λ wrong. absurd (both_ways false refl wrong); from = λ wrong. let w : Signed ≡ Variable = wrong in cc })
kind_law Fixed row is = rw is (record { to = λ wrong. absurd (both_ways false refl wrong); from = λ wrong. let w : Fixed ≡ Variable = wrong in cc })
kind_law Variable row is = rw is (record { to = λ _. refl; from = λ _. refl })
kind_law Virtual row is = rw is (record { to = λ wrong. absurd (both_ways false refl wrong); from = λ wrong. let w : Virtual ≡ Variable = wrong in cc })

-- whether it meets another channel
meets_to : (rows : List FieldRow) (k : ℕ) (row : FieldRow) (j : ℕ) → meets_at rows k row j ≡ true
    → (other : FieldRow) × (j ≢ k) × (slice_get rows j ≡ Some other) × SharesBit (spot_in row) (spot_in other)
meets_to rows k row j is =
    let both = and_parts (not (nat_eq j k)) (option_map_or (λ other. shares_bit (spot_in row) (spot_in other)) (slice_get rows j) false) is in
    let differs : j ≢ k = eqb-false j k (not-true (nat_eq j k) both.0) in
    found_to row (slice_get rows j) (slice_get rows j) refl both.1 differs
  where
    found_to : (row : FieldRow) (found at : Option FieldRow) → found ≡ at → option_map_or (λ other. shares_bit (spot_in row) (spot_in other)) found false ≡ true
        → j ≢ k → (other : FieldRow) × (j ≢ k) × (at ≡ Some other) × SharesBit (spot_in row) (spot_in other)
    found_to row None at is shares differs = absurd (both_ways false refl shares)
    found_to row (Some other) at is shares differs = (other, differs, sym is, (shares_bit_law (spot_in row) (spot_in other)).to shares)

meets_from : (rows : List FieldRow) (k : ℕ) (row : FieldRow) (j : ℕ) (other : FieldRow) → j ≢ k → slice_get rows j ≡ Some other
    → SharesBit (spot_in row) (spot_in other) → meets_at rows k row j ≡ true
meets_from rows k row j other differs there shares =
    let found = ap (λ o. option_map_or (λ other. shares_bit (spot_in row) (spot_in other)) o false) there in
    and_from (not (nat_eq j k)) (option_map_or (λ other. shares_bit (spot_in row) (spot_in other)) (slice_get rows j) false)
    (not_from_false (nat_eq j k) (ne_eqb j k differs)) (found ∙ (shares_bit_law (spot_in row) (spot_in other)).from shares)

pub meets_law : (rows : List FieldRow) (k : ℕ) (row : FieldRow) → Tells (any_below (length rows) (meets_at rows k row))
    ((j : ℕ) × (other : FieldRow) × (j ≢ k) × (slice_get rows j ≡ Some other) × SharesBit (spot_in row) (spot_in other))
meets_law rows k row = record {
  to = λ is.
      let found = any_to (length rows) (meets_at rows k row) is in
      let other = meets_to rows k row found.0 found.2 in
      (found.0, other.0, other.1, other.2, other.3);
  from = λ found.
      any_from (length rows) (meets_at rows k row) found.0 (slice_get_within rows found.0 found.1 found.3)
      (meets_from rows k row found.0 found.1 found.2 found.3 found.4);
}

-- the test is true exactly where a rule is broken
pub breaks_law : (data_bytes inval_bytes : ℕ) (rows : List FieldRow) (k : ℕ) (row : FieldRow)
    → Tells (breaks_row_rule data_bytes inval_bytes rows k row) (BreaksRule data_bytes inval_bytes rows k row)
breaks_law data_bytes inval_bytes rows k row =
    tells_or _ _ _ _ (tells_not _ _ (placed_law row.kind data_bytes (spot_in row)))
    (tells_or _ _ _ _ (tells_not _ _ (inval_law inval_bytes row.inval))
    (tells_and _ _ _ _ (kind_law row.kind row refl) (meets_law rows k row)))
