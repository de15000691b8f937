-- The channels of a layout that is found keep the rules.
use Rattle.std.proofs.Common.{◌≡◌, ◌+◌, ℕ, List, [], ◌∷◌, map, Ok, sym, inl, inr}
use Rattle.std.specs.Prelude.{Option, Some, None}
use Rattle.std.specs.List.{AllByRecursion, enumerate_from}
use Rattle.std.proofs.lemmas.Bool.{both_ways}
use Rattle.mdf_block.proofs.Wholes.{chosen}
use Rattle.mdf_group.specs.declared.row.ChannelRow.{ChannelRow}
use Rattle.mdf_group.specs.declared.row.GroupRow.{GroupRow}
use Rattle.mdf_layout.specs.Layout.{Layout}
use Rattle.mdf_layout.specs.Rule.{breaks_row_rule, BreaksRule}
use Rattle.mdf_layout.specs.declared.field.FieldRow.{FieldRow}
use Rattle.mdf_layout.proofs.Rules.{breaks_law}
use Rattle.mdf_content.specs.Layouts.{field_of, placed_channels, layout_of, first_unplaced, layout}
use Rattle.mdf_content.proofs.Laid.{unless_found}
use Rattle.mdf_model.specs.Contents.{KeepsRules}

abbrev Keeps : Layout → ℕ × FieldRow → Type 0
Keeps layout channel = ¬ BreaksRule layout.data_bytes layout.inval_bytes layout.rows channel.0 channel.1

none_breaks : (layout : Layout) (k : ℕ) (channels : List ChannelRow) → first_unplaced layout k channels ≡ None
    → AllByRecursion (Keeps layout) (enumerate_from k (map field_of channels))
unfolding first_unplaced
none_breaks layout k [] none = tt
none_breaks layout k (channel ∷ channels) none =
    let test = breaks_row_rule layout.data_bytes layout.inval_bytes layout.rows k (field_of channel) in
    elim (chosen test (Some channel) (first_unplaced layout (k + 1) channels) None none) [
      | inl breaks ↦ let wrong : ◌≡◌ {A = Option ChannelRow} (Some channel) None = breaks.1 in cc
      | inr keeps ↦ (
        λ breaks. both_ways test keeps.0 ((breaks_law layout.data_bytes layout.inval_bytes layout.rows k (field_of channel)).from breaks),
        none_breaks layout (k + 1) channels keeps.1,
      )
    ]

pub layout_found : (group : GroupRow) (found : Layout) → layout group ≡ Ok found → KeepsRules (layout_of group) × (found ≡ layout_of group)
unfolding layout
layout_found group found is =
    let parts = unless_found group (first_unplaced (layout_of group) 0 (placed_channels group)) found is in
    (none_breaks (layout_of group) 0 (placed_channels group) parts.0, sym parts.1)
