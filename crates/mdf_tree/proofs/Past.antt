-- What is past a number of blocks where a part of it is.
use Rattle.std.proofs.Common.{◌≡◌, ◌+◌, ◌≤◌, ◌<◌, ℕ, List, [], ◌∷◌, sym, ◌∙◌, ap, arith}
use Rattle.std.specs.Prelude.{Result, Ok, Err, OnErr}
use Rattle.mdf_group.specs.declared.row.ChannelRow.{ChannelRow}
use Rattle.mdf_group.specs.declared.row.GroupRow.{GroupRow}
use Rattle.mdf_tree.specs.Group.{group_channels, past_channel, past_channels, past_group, past_groups}

pub wants : {T E P : Type 0} (r : Result T E) → P → OnErr r P
wants (Ok x) p = tt
wants (Err e) p = p

-- the block behind channels and behind groups is none before them
pub channels_rise : (n : ℕ) (rows : List ChannelRow) → n ≤ past_channels n rows
unfolding past_channels
channels_rise n [] = omega arith
channels_rise n (row ∷ rows) = omega (arith, channels_rise (past_channel n row) rows)

pub group_rises : (n : ℕ) (row : GroupRow) → n + 1 ≤ past_group n row
group_rises n row = omega (arith, channels_rise (group_channels n row) row.channels)

pub groups_rise : (n : ℕ) (rows : List GroupRow) → n ≤ past_groups n rows
unfolding past_groups
groups_rise n [] = omega arith
groups_rise n (row ∷ rows) = omega (arith, group_rises n row, groups_rise (past_group n row) rows)

pub channels_past : (most n at : ℕ) (rows rest left : List ChannelRow) (row : ChannelRow) → left ≡ row ∷ rest
    → past_channels at left ≡ past_channels n rows → most < past_channel at row → most < past_channels n rows
unfolding past_channels
channels_past most n at rows rest left row are same past =
    omega (arith, past, channels_rise (past_channel at row) rest, sym same ∙ ap (past_channels at) are)

pub groups_past : (most n at : ℕ) (rows rest left : List GroupRow) (row : GroupRow) → left ≡ row ∷ rest
    → past_groups at left ≡ past_groups n rows → most < past_group at row → most < past_groups n rows
unfolding past_groups
groups_past most n at rows rest left row are same past =
    omega (arith, past, groups_rise (past_group at row) rest, sym same ∙ ap (past_groups at) are)
