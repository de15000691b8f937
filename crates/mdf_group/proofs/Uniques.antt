-- The groups that stand in a file are the only ones that do.
use Rattle.std.proofs.Common.{◌≡◌, ◌-◌, ℕ, List, Option, Some, None, refl, sym, ◌∙◌, ap, subst}
use Rattle.mdf_format.specs.Block.{link_at, links_at, body_at, IsBlock}
use Rattle.mdf_format.specs.declared.kind.Kind.{Kind}
use Rattle.mdf_format.specs.declared.kind.Kind.TheVariants.{Dg, Cg, Cn}
use Rattle.mdf_block.specs.declared.note.Note.{Note}
use Rattle.mdf_block.specs.Text.{IsNote}
use Rattle.mdf_block.proofs.Uniques.{note_unique, chain_unique, items_unique}
use Rattle.mdf_conv.specs.declared.row.SourceInfo.{SourceInfo}
use Rattle.mdf_conv.specs.declared.row.Conversion.{Conversion}
use Rattle.mdf_conv.proofs.Uniques.{source_unique, conv_unique}
use Rattle.mdf_group.specs.declared.room.ChannelLinks.{ChannelLinks}
use Rattle.mdf_group.specs.declared.room.GroupLinks.{GroupLinks}
use Rattle.mdf_group.specs.declared.row.ChannelRow.{ChannelRow}
use Rattle.mdf_group.specs.declared.row.GroupRow.{GroupRow}
use Rattle.mdf_group.specs.declared.row.DataRow.{DataRow}
use Rattle.mdf_group.specs.Link.{links_named}
use Rattle.mdf_group.specs.Channel.{the_channel}
use Rattle.mdf_group.specs.Group.{the_group, the_data_group}
use Rattle.mdf_conv.specs.Standing.{IsConversionAt}
use Rattle.mdf_group.specs.Standing.{IsSourceLink, IsConvLinkBy, IsChannelBy, AreChannelsBy, IsGroupBy, AreGroupsBy, IsDataGroupBy, AreDataGroupsBy}
use Rattle.mdf_group.proofs.Stands.{AreChannelLinksBy, AreGroupLinks}

source_link_unique : (f : List ℕ) (at : ℕ) (a b : Option SourceInfo) → IsSourceLink f at a → IsSourceLink f at b → a ≡ b
source_link_unique f at None None is_a is_b = refl
source_link_unique f at None (Some y) is_a is_b = absurd (is_b.0 is_a)
source_link_unique f at (Some x) None is_a is_b = absurd (is_a.0 is_b)
source_link_unique f at (Some x) (Some y) is_a is_b = ap {B = Option SourceInfo} Some (source_unique f at x y is_a.1 is_b.1)

conv_link_unique : (f : List ℕ) (at : ℕ) (a b : Option Conversion) → IsConvLinkBy (IsConversionAt f) at a → IsConvLinkBy (IsConversionAt f) at b → a ≡ b
conv_link_unique f at None None is_a is_b = refl
conv_link_unique f at None (Some y) is_a is_b = absurd (is_b.0 is_a)
conv_link_unique f at (Some x) None is_a is_b = absurd (is_a.0 is_b)
conv_link_unique f at (Some x) (Some y) is_a is_b = ap {B = Option Conversion} Some (conv_unique is_a.1.0 is_b.1.0 f at x y is_a.1.1 is_b.1.1)

channel_links_unique : (f : List ℕ) (at : ℕ) (a b : ChannelLinks) → AreChannelLinksBy (IsConversionAt f) f at a → AreChannelLinksBy (IsConversionAt f) f at b → a ≡ b
channel_links_unique f at a b is_a is_b =
    ap (λ (n : Note). record a { name = n }) (note_unique f (link_at f at 2) a.name b.name is_a.name is_b.name)
    ∙ ap (λ (s : Option SourceInfo). record b { source = s; conv = a.conv; unit = a.unit; comment = a.comment })
    (source_link_unique f (link_at f at 3) a.source b.source is_a.source is_b.source)
    ∙ ap (λ (c : Option Conversion). record b { conv = c; unit = a.unit; comment = a.comment })
    (conv_link_unique f (link_at f at 4) a.conv b.conv is_a.conv is_b.conv)
    ∙ ap (λ (n : Note). record b { unit = n; comment = a.comment }) (note_unique f (link_at f at 6) a.unit b.unit is_a.unit is_b.unit)
    ∙ ap (λ (n : Note). record b { comment = n }) (note_unique f (link_at f at 7) a.comment b.comment is_a.comment is_b.comment)

-- a channel, from the file and its address
row_of : List ℕ → ℕ → ChannelLinks → ChannelRow
row_of f at links = the_channel at (body_at f at) links (link_at f at 5) (links_named f at 8 (links_at f at - 8))

channel_unique : (f : List ℕ) (x y : ChannelRow) → x.at ≡ y.at → IsChannelBy (IsConversionAt f) f x → IsChannelBy (IsConversionAt f) f y → x ≡ y
unfolding row_of
channel_unique f x y same is_x is_y =
    let of_x : AreChannelLinksBy (IsConversionAt f) f x.at is_x.links = record {
      name = is_x.name;
      source = is_x.source;
      conv = is_x.conv;
      unit = is_x.unit;
      comment = is_x.comment;
    } in
    let of_y : AreChannelLinksBy (IsConversionAt f) f y.at is_y.links = record {
      name = is_y.name;
      source = is_y.source;
      conv = is_y.conv;
      unit = is_y.unit;
      comment = is_y.comment;
    } in
    let links = channel_links_unique f y.at is_x.links is_y.links (subst (λ (at : ℕ). AreChannelLinksBy (IsConversionAt f) f at is_x.links) same of_x) of_y in
    let first : x ≡ row_of f x.at is_x.links = is_x.fields in
    let last : y ≡ row_of f y.at is_y.links = is_y.fields in
    first ∙ ap (λ (at : ℕ). row_of f at is_x.links) same ∙ ap (row_of f y.at) links ∙ sym last

pub channels_unique : (f : List ℕ) → ((kind : Kind) → IsBlock f 0 kind → ⊥) → (at : ℕ) (a b : List ChannelRow)
    → AreChannelsBy (IsConversionAt f) f at a → AreChannelsBy (IsConversionAt f) f at b → a ≡ b
channels_unique f none at a b is_a is_b =
    items_unique (λ (row : ChannelRow). row.at) (IsChannelBy (IsConversionAt f) f) (channel_unique f) a b
    (chain_unique f Cn (none Cn) at _ _ is_a.chain is_b.chain) is_a.each is_b.each

group_links_unique : (f : List ℕ) (at : ℕ) (a b : GroupLinks) → AreGroupLinks f at a → AreGroupLinks f at b → a ≡ b
group_links_unique f at a b is_a is_b =
    ap (λ (n : Note). record a { name = n }) (note_unique f (link_at f at 2) a.name b.name is_a.name is_b.name)
    ∙ ap (λ (s : Option SourceInfo). record b { source = s; comment = a.comment })
    (source_link_unique f (link_at f at 3) a.source b.source is_a.source is_b.source)
    ∙ ap (λ (n : Note). record b { comment = n }) (note_unique f (link_at f at 5) a.comment b.comment is_a.comment is_b.comment)

module _ (f : List ℕ) (none : (kind : Kind) → IsBlock f 0 kind → ⊥) where
  group_unique : (x y : GroupRow) → x.at ≡ y.at → IsGroupBy (IsConversionAt f) f x → IsGroupBy (IsConversionAt f) f y → x ≡ y
  group_unique x y same is_x is_y =
      let of_x : AreGroupLinks f x.at is_x.links = record { name = is_x.name; source = is_x.source; comment = is_x.comment } in
      let of_y : AreGroupLinks f y.at is_y.links = record { name = is_y.name; source = is_y.source; comment = is_y.comment } in
      let links = group_links_unique f y.at is_x.links is_y.links (subst (λ (at : ℕ). AreGroupLinks f at is_x.links) same of_x) of_y in
      let channels = channels_unique f none (link_at f y.at 1) x.channels y.channels
      (subst (λ (at : ℕ). AreChannelsBy (IsConversionAt f) f (link_at f at 1) x.channels) same is_x.channels) is_y.channels in
      is_x.fields
      ∙ ap (λ (at : ℕ). the_group at (body_at f at) is_x.links x.channels) same
      ∙ ap (λ (given : GroupLinks). the_group y.at (body_at f y.at) given x.channels) links
      ∙ ap (λ (rows : List ChannelRow). the_group y.at (body_at f y.at) is_y.links rows) channels
      ∙ sym is_y.fields

  pub groups_unique : (at : ℕ) (a b : List GroupRow) → AreGroupsBy (IsConversionAt f) f at a → AreGroupsBy (IsConversionAt f) f at b → a ≡ b
  groups_unique at a b is_a is_b =
      items_unique (λ (row : GroupRow). row.at) (IsGroupBy (IsConversionAt f) f) group_unique a b
      (chain_unique f Cg (none Cg) at _ _ is_a.chain is_b.chain) is_a.each is_b.each

  data_group_unique : (x y : DataRow) → x.at ≡ y.at → IsDataGroupBy (IsConversionAt f) f x → IsDataGroupBy (IsConversionAt f) f y → x ≡ y
  data_group_unique x y same is_x is_y =
      let comment = note_unique f (link_at f y.at 3) x.comment y.comment
      (subst (λ (at : ℕ). IsNote f (link_at f at 3) x.comment) same is_x.comment) is_y.comment in
      let groups = groups_unique (link_at f y.at 1) x.groups y.groups
      (subst (λ (at : ℕ). AreGroupsBy (IsConversionAt f) f (link_at f at 1) x.groups) same is_x.groups) is_y.groups in
      is_x.fields
      ∙ ap (λ (at : ℕ). the_data_group at (body_at f at) x.comment (link_at f at 2) x.groups) same
      ∙ ap (λ (n : Note). the_data_group y.at (body_at f y.at) n (link_at f y.at 2) x.groups) comment
      ∙ ap (λ (rows : List GroupRow). the_data_group y.at (body_at f y.at) y.comment (link_at f y.at 2) rows) groups
      ∙ sym is_y.fields

  -- a file has one tree of groups from an address on
  pub data_groups_unique : (at : ℕ) (a b : List DataRow) → AreDataGroupsBy (IsConversionAt f) f at a → AreDataGroupsBy (IsConversionAt f) f at b → a ≡ b
  data_groups_unique at a b is_a is_b =
      items_unique (λ (row : DataRow). row.at) (IsDataGroupBy (IsConversionAt f) f) data_group_unique a b
      (chain_unique f Dg (none Dg) at _ _ is_a.chain is_b.chain) is_a.each is_b.each
