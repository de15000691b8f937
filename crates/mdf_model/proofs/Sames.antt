-- What is written anew says the same.
use Rattle.std.proofs.Common.{◌≡◌, ℕ, List, ◌∷◌, refl, ap}
use Rattle.mdf_head.specs.declared.entry.Head.{Head}
use Rattle.mdf_group.specs.declared.row.ChannelRow.{ChannelRow}
use Rattle.mdf_group.specs.declared.row.GroupRow.{GroupRow}
use Rattle.mdf_model.specs.Same.{plain_flags, plain_channel, plain_group, SameHead, SameRows}

pub head_same : (head : Head) (at : ℕ) → SameHead head (record head { first_dg = at })
head_same head at = refl

-- a channel that stands elsewhere, without its links after the eighth
abbrev pub placed_channel : ℕ → ℕ → ChannelRow → ChannelRow
placed_channel at values row = record row { at = at; values = values; extra = 0; flags = plain_flags row }

pub channel_same : (row : ChannelRow) (at values : ℕ) → plain_channel row ≡ plain_channel (placed_channel at values row)
channel_same row at values = refl

pub rows_same : (row : GroupRow) (rows others : List GroupRow) (at id cycles : ℕ) → SameRows rows others
    → SameRows (row ∷ rows) (record row { at = at; id = id; cycles = cycles } ∷ others)
rows_same row rows others at id cycles same = ap (λ (more : List GroupRow). plain_group row ∷ more) same
