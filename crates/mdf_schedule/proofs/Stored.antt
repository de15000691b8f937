-- The layouts of rows that can be recorded are of channels that are stored; and the data of the opened blocks are bytes.
use Rattle.std.proofs.Common.{◌≡◌, ◌+◌, ◌%◌, ◌⊎◌, ℕ, zero, suc, true, false, List, [], ◌∷◌, ◌++◌, take, drop, map, sym, ◌∙◌, ap, subst, inl, inr}
use Rattle.std.proofs.lemmas.Bool.{cond-false}
use Rattle.std.proofs.lemmas.Option.{same_Some}
use Rattle.std.specs.Prelude.{nat_eq, slice_get, Option, Some, None}
use Rattle.std.specs.List.{concat, AllByRecursion, enumerate_from}
use Rattle.mdf_format.specs.declared.form.Form.{Form}
use Rattle.mdf_format.specs.Block.{body_size, header_size, links_at}
use Rattle.mdf_gate.specs.Unit.{block_place, next_place, unit_data, AreUnits}
use Rattle.mdf_group.specs.declared.row.ChannelRow.{ChannelRow}
use Rattle.mdf_group.specs.declared.row.GroupRow.{GroupRow}
use Rattle.mdf_group.specs.Group.{is_variable}
use Rattle.mdf_group.specs.Recordable.{IsRecordableChannel, IsRecordableGroup}
use Rattle.mdf_layout.specs.Layout.{Layout}
use Rattle.mdf_layout.specs.Rule.{spot_in, is_placed, is_inval_placed, BreaksRule}
use Rattle.mdf_layout.specs.declared.field.FieldRow.{FieldRow}
use Rattle.mdf_layout.proofs.Rules.{placed_law, inval_law}
use Rattle.mdf_content.specs.Layouts.{field_of, layout_of}
use Rattle.mdf_spell.specs.Standing.{AreBytes}
use Rattle.mdf_model.specs.Contents.{KeepsRules}
use Rattle.mdf_block.proofs.Cases.{two_ways}
use Rattle.mdf_schedule.specs.Records.{IsStoredIn, AreStored}

-- the first bytes, and those behind them
pub taken : (n : ℕ) (bytes : List ℕ) → AreBytes bytes → AreBytes (take n bytes)
taken zero bytes small = tt
taken (suc n) [] small = tt
taken (suc n) (b ∷ bytes) small = (small.0, taken n bytes small.1)

pub left : (n : ℕ) (bytes : List ℕ) → AreBytes bytes → AreBytes (drop n bytes)
left zero bytes small = small
left (suc n) [] small = tt
left (suc n) (b ∷ bytes) small = left n bytes small.1

both : (xs ys : List ℕ) → AreBytes xs → AreBytes ys → AreBytes (xs ++ ys)
both [] ys one two = two
both (x ∷ xs) ys one two = (one.0, both xs ys one.1 two)

-- the data of units
pub units_small : (form : Form) (file : List ℕ) (place last : ℕ) (blocks : List (List ℕ)) → AreBytes file → AreUnits form file place blocks last → AreBytes (concat blocks)
unfolding AreUnits
units_small form file place last [] small are = tt
units_small form file place last (body ∷ blocks) small are =
    let at = block_place form place in
    let whole : AreBytes (unit_data form file place) =
    taken (body_size file at) (drop (at + header_size (links_at file at)) file) (left (at + header_size (links_at file at)) file small) in
    both body (concat blocks) (subst AreBytes (sym are.1) whole) (units_small form file (next_place form file place) last blocks small are.2)

-- some values of a channel can be valid
flags_valid : (flags : ℕ) → (flags ≡ 0) ⊎ (flags ≡ 2) → nat_eq (flags % 2) 1 ≡ false
flags_valid flags (inl none) = ap (λ (n : ℕ). nat_eq (n % 2) 1) none
flags_valid flags (inr two) = ap (λ (n : ℕ). nat_eq (n % 2) 1) two

abbrev CanBeValid : FieldRow → Type 0
CanBeValid row = row.all_invalid ≡ false

channels_valid : (channels : List ChannelRow) → AllByRecursion IsRecordableChannel channels → AllByRecursion CanBeValid (map field_of channels)
channels_valid [] each = tt
channels_valid (channel ∷ channels) each = (flags_valid channel.flags each.0.flags, channels_valid channels each.1)

group_valid : (row : GroupRow) → IsRecordableGroup row → AllByRecursion CanBeValid (layout_of row).rows
group_valid row is = elim (two_ways (is_variable row)) [
  | inl values ↦ let wrong : false ≡ true = sym (ap (λ (flags : ℕ). nat_eq (flags % 2) 1) is.flags) ∙ values in cc
  | inr samples ↦
      subst (λ (channels : List ChannelRow). AllByRecursion CanBeValid (map field_of channels))
      (sym (cond-false (is_variable row) [] row.channels samples)) (channels_valid row.channels is.each)
]

-- a channel that keeps the rules has its place
rows_stored : (layout : Layout) (k : ℕ) (rows : List FieldRow)
    → AllByRecursion (λ (channel : ℕ × FieldRow). ¬ BreaksRule layout.data_bytes layout.inval_bytes layout.rows channel.0 channel.1) (enumerate_from k rows)
    → AllByRecursion CanBeValid rows → AllByRecursion (IsStoredIn layout) rows
rows_stored layout k [] keeps valid = tt
rows_stored layout k (row ∷ rows) keeps valid = (
  record {
    field = elim (two_ways (is_placed row.kind layout.data_bytes (spot_in row))) [
      | inl is ↦ (placed_law row.kind layout.data_bytes (spot_in row)).to is
      | inr not_placed ↦ absurd (keeps.0 (inl (λ placed.
          let wrong : true ≡ false = sym ((placed_law row.kind layout.data_bytes (spot_in row)).from placed) ∙ not_placed in cc)))
    ];
    position = elim (two_ways (is_inval_placed layout.inval_bytes row.inval)) [
      | inl is ↦ (inval_law layout.inval_bytes row.inval).to is
      | inr not_placed ↦ absurd (keeps.0 (inr (inl (λ placed.
          let wrong : true ≡ false = sym ((inval_law layout.inval_bytes row.inval).from placed) ∙ not_placed in cc))))
    ];
    valid = valid.0;
  },
  rows_stored layout (k + 1) rows keeps.1 valid.1,
)

pub layout_stored : (row : GroupRow) → IsRecordableGroup row → KeepsRules (layout_of row) → AreStored (layout_of row)
layout_stored row is keeps = rows_stored (layout_of row) 0 (layout_of row).rows keeps (group_valid row is)

-- the row of a layout
pub row_at : (rows : List GroupRow) (k : ℕ) (layout : Layout) → AllByRecursion IsRecordableGroup rows → slice_get (map layout_of rows) k ≡ Some layout
    → (row : GroupRow) × IsRecordableGroup row × (layout_of row ≡ layout)
row_at [] k layout each there = let wrong : ◌≡◌ {A = Option Layout} None (Some layout) = there in cc
row_at (row ∷ rows) zero layout each there = (row, each.0, same_Some (layout_of row) layout there)
row_at (row ∷ rows) (suc k) layout each there = row_at rows k layout each.1 there
