-- Channels that are placed have the same fields, and say the same.
use Rattle.std.proofs.Common.{◌≡◌, ◌/◌, ◌%◌, ◌^◌, ℕ, Bool, true, false, List, [], ◌∷◌, map, refl, ◌∙◌, ap, arith}
use Rattle.std.specs.Prelude.{nat_eq, if◌then◌else◌, Some, None}
use Rattle.mdf_block.specs.declared.link.Link.{Link}
use Rattle.mdf_block.specs.Draft.{Placed}
use Rattle.mdf_group.specs.declared.row.ChannelRow.{ChannelRow}
use Rattle.mdf_group.specs.declared.row.GroupRow.{GroupRow}
use Rattle.mdf_group.specs.Group.{is_variable}
use Rattle.mdf_tree.specs.Group.{written_flags, past_channel, value_link, values_behind, placed_channel, placed_channels, group_channels, group_values, placed_group}
use Rattle.mdf_layout.specs.Layout.{Layout}
use Rattle.mdf_layout.specs.declared.field.FieldRow.{FieldRow}
use Rattle.mdf_content.specs.Layouts.{field_of, layout_of}
use Rattle.mdf_model.specs.Same.{plain_channel, plain_group}

-- the two lowest bits of the flags stay
flags_low : (whole : Bool) (flags : ℕ) → (if whole then flags else flags % 2 ^ 12) % 2 ≡ flags % 2
flags_low true flags = refl
flags_low false flags = omega arith

flags_next : (whole : Bool) (flags : ℕ) → (if whole then flags else flags % 2 ^ 12) / 2 % 2 ≡ flags / 2 % 2
flags_next true flags = refl
flags_next false flags = omega arith

pub field_same : (blocks : List Placed) (n : ℕ) (values : Link) (row : ChannelRow) → field_of (placed_channel blocks n values row) ≡ field_of row
field_same blocks n values row =
    let field : ℕ → ℕ → FieldRow = λ low next. record (field_of row) {
      inval = if nat_eq next 1 then Some row.inval else None;
      all_invalid = nat_eq low 1;
    } in
    ap (λ (low : ℕ). field low (written_flags row / 2 % 2)) (flags_low (nat_eq row.extra 0) row.flags)
    ∙ ap (λ (next : ℕ). field (row.flags % 2) next) (flags_next (nat_eq row.extra 0) row.flags)

fields_same : (blocks : List Placed) (n : ℕ) (values : List Link) (rows : List ChannelRow)
    → map field_of (placed_channels blocks n values rows) ≡ map field_of rows
unfolding placed_channels
fields_same blocks n values [] = refl
fields_same blocks n values (row ∷ rows) =
    ap (λ (field : FieldRow). field ∷ map field_of (placed_channels blocks (past_channel n row) (values_behind values row) rows))
    (field_same blocks n (value_link values row) row)
    ∙ ap (λ (fields : List FieldRow). field_of row ∷ fields) (fields_same blocks (past_channel n row) (values_behind values row) rows)

-- the channels that have fields, if it is told whether the group is one of values
kept_fields : (of_values : Bool) (xs ys : List ChannelRow) → map field_of xs ≡ map field_of ys
    → map field_of (if of_values then [] else xs) ≡ map field_of (if of_values then [] else ys)
kept_fields true xs ys same = refl
kept_fields false xs ys same = same

-- so is the layout
pub layout_same : (blocks : List Placed) (n : ℕ) (values : List Link) (row : GroupRow) → layout_of (placed_group blocks n values row) ≡ layout_of row
layout_same blocks n values row =
    let placed = placed_channels blocks (group_channels n row) (group_values values row) row.channels in
    let layout : List FieldRow → Layout = λ fields. record { rows = fields; data_bytes = row.data_bytes; inval_bytes = row.inval_bytes } in
    ap layout (kept_fields (is_variable row) placed row.channels (fields_same blocks (group_channels n row) (group_values values row) row.channels))

channels_plain : (blocks : List Placed) (n : ℕ) (values : List Link) (rows : List ChannelRow)
    → map plain_channel rows ≡ map plain_channel (placed_channels blocks n values rows)
unfolding placed_channels
channels_plain blocks n values [] = refl
channels_plain blocks n values (row ∷ rows) =
    ap (λ (more : List ChannelRow). plain_channel row ∷ more) (channels_plain blocks (past_channel n row) (values_behind values row) rows)

-- the group says the same
pub group_plain : (blocks : List Placed) (n : ℕ) (values : List Link) (row : GroupRow) → plain_group row ≡ plain_group (placed_group blocks n values row)
group_plain blocks n values row =
    ap (λ (channels : List ChannelRow). record (plain_group row) { channels = channels })
    (channels_plain blocks (group_channels n row) (group_values values row) row.channels)
