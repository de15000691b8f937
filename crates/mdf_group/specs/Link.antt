-- What the links of a group and of a channel lead to, and why the groups are refused.
use Rattle.std.specs.Prelude.{ℕ, zero, suc, ◌+◌, List, Option, Some, None, Ok}
use Rattle.mdf_format.specs.Block.{link_at}
use Rattle.mdf_block.specs.Refusal.{Refusal, Bad, TooMany, ChannelKind, ChannelType, Deep, Read, ◌>>=◌}
use Rattle.mdf_conv.specs.declared.limits.Budget.{Budget}
use Rattle.mdf_conv.specs.Left.{link_count}
use Rattle.mdf_conv.specs.Conv.{words}
use Rattle.mdf_conv.specs.Link.{source_of_link, conv_of_link}
use Rattle.mdf_group.specs.declared.room.Label.{Label}
use Rattle.mdf_group.specs.declared.room.ChannelOrigin.{ChannelOrigin}
use Rattle.mdf_group.specs.declared.room.ChannelTexts.{ChannelTexts}
use Rattle.mdf_group.specs.declared.room.ChannelLinks.{ChannelLinks}
use Rattle.mdf_group.specs.declared.room.GroupLinks.{GroupLinks}
use Rattle.mdf_group.specs.declared.fault.GroupFault.{GroupFault}
use Rattle.mdf_group.specs.declared.fault.GroupFault.TheVariants as faults

abbrev pub group_refusal : GroupFault → Option Refusal
group_refusal (faults.Bad at want) = Some (Bad at want)
group_refusal (faults.TooMany what at) = Some (TooMany what at)
group_refusal (faults.ChannelKind at kind) = Some (ChannelKind at kind)
group_refusal (faults.ChannelType at value) = Some (ChannelType at value)
group_refusal (faults.Deep at) = Some (Deep at)
group_refusal faults.Memory = None

-- the name and the source of the channel or of the channel group at an address: both have them in the same links
unfoldable pub label : List ℕ → ℕ → Budget → Read (Label × Budget)
label file at left = do
  name ← words file (link_at file at 2) left
  source ← source_of_link file (link_at file at 3) name.1
  Ok (record { name = name.0; source = source.0 }, source.1)

-- what the first links of the channel at an address lead to: its name, its source and its conversion
unfoldable pub channel_origin : List ℕ → ℕ → Budget → Read (ChannelOrigin × Budget)
channel_origin file at left = do
  first ← label file at left
  conv ← conv_of_link file (link_at file at 4) first.1
  Ok (record { name = first.0.name; source = first.0.source; conv = conv.0 }, conv.1)

-- what its last links lead to: its unit and its comment
unfoldable pub channel_texts : List ℕ → ℕ → Budget → Read (ChannelTexts × Budget)
channel_texts file at left = do
  unit ← words file (link_at file at 6) left
  comment ← words file (link_at file at 7) unit.1
  Ok (record { unit = unit.0; comment = comment.0 }, comment.1)

-- what all its links lead to, from what the first and the last of them do
abbrev pub links_of : ChannelOrigin → ChannelTexts → ChannelLinks
links_of origin texts = record {
  name = origin.name;
  source = origin.source;
  conv = origin.conv;
  unit = texts.unit;
  comment = texts.comment;
}

-- the same, read one after the other
unfoldable pub channel_links : List ℕ → ℕ → Budget → Read (ChannelLinks × Budget)
channel_links file at left = do
  origin ← channel_origin file at left
  texts ← channel_texts file at origin.1
  Ok (links_of origin.0 texts.0, texts.1)

-- what the links of the channel group at an address lead to: its name, its source and its comment
unfoldable pub group_links : List ℕ → ℕ → Budget → Read (GroupLinks × Budget)
group_links file at left = do
  first ← label file at left
  comment ← words file (link_at file at 5) first.1
  Ok (record { name = first.0.name; source = first.0.source; comment = comment.0 }, comment.1)

-- how many of so many links from link k on name something
unfoldable pub links_named : List ℕ → ℕ → ℕ → ℕ → ℕ
links_named file at k zero = 0
links_named file at k (suc count) = link_count (link_at file at k) + links_named file at (k + 1) count
