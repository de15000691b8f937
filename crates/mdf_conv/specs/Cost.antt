-- What texts, sources and conversions take of what may still come of a file.
use Rattle.std.specs.Prelude.{ℕ, zero, suc, ◌≡◌, ◌+◌, ◌-◌, ◌^◌, min, nat_eq, if◌then◌else◌, List, [], ◌∷◌, length}
use Rattle.mdf_format.specs.Block.{link_at, links_at, body_at}
use Rattle.mdf_format.specs.declared.kind.Kind.TheVariants.{Cc}
use Rattle.mdf_block.specs.declared.note.Note.{Note}
use Rattle.mdf_block.specs.Block.{is_named}
use Rattle.mdf_block.specs.Text.{text_of, note_size}
use Rattle.mdf_conv.specs.declared.limits.Budget.{Budget}
use Rattle.mdf_conv.specs.declared.row.SourceInfo.{SourceInfo}
use Rattle.mdf_conv.specs.Left.{link_count}

-- how many bytes of texts and how many conversions are read, and how many links that name something are passed over
pub record Cost : Type 0 where
  pub text : ℕ
  pub conversions : ℕ
  pub dropped : ℕ

abbrev pub nothing : Cost
nothing = record { text = 0; conversions = 0; dropped = 0 }

-- the cost of one and of another
abbrev pub both : Cost → Cost → Cost
both one other = record {
  text = one.text + other.text;
  conversions = one.conversions + other.conversions;
  dropped = one.dropped + other.dropped;
}

-- the cost of all
abbrev pub total : List Cost → Cost
total [] = nothing
total (cost ∷ costs) = both cost (total costs)

abbrev pub bytes_of_texts : ℕ → Cost
bytes_of_texts count = record { text = count; conversions = 0; dropped = 0 }

abbrev pub dropped_links : ℕ → Cost
dropped_links count = record { text = 0; conversions = 0; dropped = count }

abbrev pub note_cost : Note → Cost
note_cost text = bytes_of_texts (note_size text)

-- a source costs its texts
abbrev pub source_cost : SourceInfo → Cost
source_cost source = bytes_of_texts (note_size source.name + note_size source.path + note_size source.comment)

-- how many bytes the text that a link names has, where one stands there
abbrev pub text_size : List ℕ → ℕ → ℕ
text_size file at = if nat_eq at 0 then 0 else length (text_of (body_at file at))

-- what a link of a conversion refers to: nothing, a conversion that costs what `inner` says, or a text
unfoldable pub ref_cost : (ℕ → Cost) → List ℕ → ℕ → Cost
ref_cost inner file at =
    if nat_eq at 0 then nothing else (if is_named file at Cc then inner at else bytes_of_texts (text_size file at))

-- what so many links from link k on refer to
unfoldable pub refs_cost : (ℕ → Cost) → List ℕ → ℕ → ℕ → ℕ → Cost
refs_cost inner file at k zero = nothing
refs_cost inner file at k (suc count) = both (ref_cost inner file (link_at file at k)) (refs_cost inner file at (k + 1) count)

-- a conversion alone: its name, its unit and its comment, itself, and the inverse conversion that its fourth link names
abbrev pub own_cost : List ℕ → ℕ → Cost
own_cost file at = record {
  text = text_size file (link_at file at 0) + text_size file (link_at file at 1) + text_size file (link_at file at 2);
  conversions = 1;
  dropped = link_count (link_at file at 3);
}

-- the conversion at an address with all that its links after the fourth refer to, where at most so many are open at once
unfoldable pub conv_cost : ℕ → List ℕ → ℕ → Cost
conv_cost zero file at = nothing
conv_cost (suc levels) file at =
    both (own_cost file at) (refs_cost (conv_cost levels file) file at 4 (links_at file at - 4))

-- the budget falls by the cost; the count of dropped links rises by it, and stays at the last u64
pub record Spends (left : Budget) (cost : Cost) (rest : Budget) : Type 0 where
  pub text : rest.text + cost.text ≡ left.text
  pub conversions : rest.conversions + cost.conversions ≡ left.conversions
  pub dropped : rest.dropped ≡ min (left.dropped + cost.dropped) (2 ^ 64 - 1)
