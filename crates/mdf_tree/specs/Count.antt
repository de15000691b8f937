-- How many blocks a conversion has, wherever they stand.
use Rattle.std.specs.Prelude.{ℕ, zero, suc, ◌+◌, length, sum_by}
use Rattle.mdf_conv.specs.declared.row.Conversion.{Conversion}
use Rattle.mdf_conv.specs.declared.row.Ref.{Ref}
use Rattle.mdf_conv.specs.declared.row.Ref.TheOpen as layers
use Rattle.mdf_conv.specs.declared.row.Ref.TheViews.{out-Ref}
use Rattle.mdf_tree.specs.Text.{note_blocks}
use Rattle.mdf_tree.specs.Conv.{Layer}

-- what a reference leads to, where `inner` counts the blocks of a conversion
abbrev pub layer_count : (Conversion → ℕ) → Layer → ℕ
layer_count inner layers.Nothing = 0
layer_count inner (layers.Words note) = length (note_blocks note)
layer_count inner (layers.Conv conv) = inner conv

unfoldable pub ref_count : (Conversion → ℕ) → Ref → ℕ
ref_count inner found = layer_count inner (out-Ref found)

-- CC, its texts, and what its references lead to
unfoldable pub conv_count_by : (Conversion → ℕ) → Conversion → ℕ
conv_count_by inner conv =
    1 + length (note_blocks conv.name) + length (note_blocks conv.unit) + length (note_blocks conv.comment) + sum_by (ref_count inner) conv.refs

-- the same where at most so many conversions lie in one another
unfoldable pub conv_count : ℕ → Conversion → ℕ
conv_count zero conv = 0
conv_count (suc levels) conv = conv_count_by (conv_count levels) conv
