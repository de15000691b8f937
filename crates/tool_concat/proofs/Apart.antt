-- The offsets of a layout that keeps the rules have their places, and share no bit.
use Rattle.std.proofs.Common.{◌≡◌, ◌≢◌, inr, ℕ, true, false, List, Some, refl, sym, ◌∙◌, ap, subst}
use Rattle.std.proofs.lemmas.Bool.{both_ways}
use Rattle.std.proofs.lemmas.Option.{slice_get_within, get_or_from_slice_get}
use Rattle.std.specs.Prelude.{slice_get}
use Rattle.mdf_format.specs.Field.{HasBit}
use Rattle.mdf_format.specs.Row.{IsNumberPlaced}
use Rattle.mdf_layout.specs.Layout.{IsRuled, Layout}
use Rattle.mdf_layout.specs.Rule.{IsPlacedAs, bits_in, breaks_row_rule, is_variable, is_variable_kind, spot_in}
use Rattle.mdf_layout.specs.declared.field.FieldKind.{FieldKind}
use Rattle.mdf_layout.specs.declared.field.FieldKind.TheVariants.{Unsigned, Signed, Fixed, Variable, Virtual}
use Rattle.mdf_layout.specs.declared.field.FieldRow.{FieldRow}
use Rattle.mdf_layout.proofs.Rules.{breaks_law}
use Rattle.tool_concat.specs.Moved.{IsVariableAt}
use Rattle.tool_concat.specs.Placed.{AreOffsetsPlaced}

-- what a kind is of variable length
kind_is : (kind : FieldKind) → is_variable_kind kind ≡ true → kind ≡ Variable
kind_is Unsigned is = absurd (both_ways false refl is)
kind_is Signed is = absurd (both_ways false refl is)
kind_is Fixed is = absurd (both_ways false refl is)
kind_is Variable is = refl
kind_is Virtual is = absurd (both_ways false refl is)

pub variable_kind : (row : FieldRow) → is_variable row ≡ true → row.kind ≡ Variable
variable_kind row is = kind_is row.kind is

pub is_variable_of : (row : FieldRow) → row.kind ≡ Variable → is_variable row ≡ true
is_variable_of row is = ap is_variable_kind is

-- the bits of an offset are all of the channel's
pub bits_of : (row : FieldRow) → row.kind ≡ Variable → (spot_in row).bits ≡ row.bits
bits_of row is = ap (λ (kind : FieldKind). bits_in kind row.bits) is

-- a channel in its place is the one that is there
pub one_row : (rows : List FieldRow) (k : ℕ) (row other : FieldRow) → slice_get rows k ≡ Some row → slice_get rows k ≡ Some other → row ≡ other
one_row rows k row other is there = sym (get_or_from_slice_get rows k row row is) ∙ get_or_from_slice_get rows k other row there

module _ (layout : Layout) (ruled : IsRuled layout) where
  placed_at : (k : ℕ) (row : FieldRow) → IsVariableAt layout.rows k row → IsNumberPlaced layout.data_bytes (spot_in row)
  placed_at k row is =
      let here = (ruled.placed k row (slice_get_within layout.rows k row is.there)).field in
      let placed = subst (λ (r : FieldRow). IsPlacedAs r.kind layout.data_bytes (spot_in r)) (get_or_from_slice_get layout.rows k row row is.there) here in
      subst (λ (kind : FieldKind). IsPlacedAs kind layout.data_bytes (spot_in row)) is.kind placed

  apart_at : (k j : ℕ) (row other : FieldRow) (p : ℕ) → IsVariableAt layout.rows k row → IsVariableAt layout.rows j other → j ≢ k
      → HasBit (spot_in row) p → ¬ HasBit (spot_in other) p
  apart_at k j row other p is there differs has shared =
      let none = ruled.ruled k row (slice_get_within layout.rows k row is.there) in
      let keeps = ap (λ (r : FieldRow). breaks_row_rule layout.data_bytes layout.inval_bytes layout.rows k r) (sym (get_or_from_slice_get layout.rows k row row is.there)) ∙ none in
      both_ways (breaks_row_rule layout.data_bytes layout.inval_bytes layout.rows k row) keeps
      ((breaks_law layout.data_bytes layout.inval_bytes layout.rows k row).from
      (inr (inr (is.kind, (j, other, differs, there.there, record { p = p; first = has; second = shared })))))

  pub offsets_placed : AreOffsetsPlaced layout.rows layout.data_bytes
  offsets_placed = record { few = ruled.few; placed = placed_at; apart = apart_at }
