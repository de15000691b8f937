-- The rows that are found stand in the file.
use Rattle.std.proofs.Common.{◌≡◌, ◌-◌, ◌≤◌, ℕ, false, List, Option, Some, None, Ok, Err, map, cond, get_or, refl, sym, ◌∙◌, ap, subst, inl, inr, arith}
use Rattle.std.specs.Prelude.{nat_eq, nat_lt}
use Rattle.std.specs.List.{AllByRecursion}
use Rattle.std.proofs.lemmas.Bool.{eqb-true, eqb-false, leb-false}
use Rattle.mdf_format.specs.Block.{link_at, IsBlock, IsChain}
use Rattle.mdf_format.specs.declared.kind.Kind.{Kind}
use Rattle.mdf_format.specs.declared.kind.Kind.TheVariants.{Dg, Cg, Cn}
use Rattle.mdf_block.specs.declared.what.What.{What}
use Rattle.mdf_block.specs.declared.what.What.TheVariants as whats
use Rattle.mdf_block.specs.declared.place.BlockAt.{BlockAt}
use Rattle.mdf_block.specs.Refusal.{ChannelKind, ChannelType, Read, ◌>>=◌}
use Rattle.mdf_block.specs.Block.{block, body_of, the_block}
use Rattle.mdf_block.specs.Text.{IsNote}
use Rattle.mdf_block.specs.Chain.{Step, chain, full}
use Rattle.mdf_block.proofs.Refusals.{bind_ok}
use Rattle.mdf_block.proofs.Wholes.{chosen, block_found}
use Rattle.mdf_block.proofs.Chains.{Follows, GoesAlong, goes_along, chain_found, chain_each, full_none}
use Rattle.mdf_conv.specs.declared.limits.Budget.{Budget}
use Rattle.mdf_conv.specs.declared.row.SourceInfo.{SourceInfo}
use Rattle.mdf_conv.specs.declared.row.Conversion.{Conversion}
use Rattle.mdf_conv.specs.Conv.{words, source, conversion}
use Rattle.mdf_conv.specs.Link.{source_of_link, conv_of_link}
use Rattle.mdf_conv.specs.Standing.{IsConversion}
use Rattle.mdf_conv.proofs.Founds.{ok_injective, words_found, source_found, conv_found}
use Rattle.mdf_group.specs.declared.room.Label.{Label}
use Rattle.mdf_group.specs.declared.room.ChannelOrigin.{ChannelOrigin}
use Rattle.mdf_group.specs.declared.room.ChannelTexts.{ChannelTexts}
use Rattle.mdf_group.specs.declared.room.ChannelLinks.{ChannelLinks}
use Rattle.mdf_group.specs.declared.room.GroupLinks.{GroupLinks}
use Rattle.mdf_group.specs.declared.room.GroupContents.{GroupContents}
use Rattle.mdf_group.specs.declared.room.DataContents.{DataContents}
use Rattle.mdf_group.specs.declared.room.Room.{Room}
use Rattle.mdf_group.specs.declared.room.DataRoom.{DataRoom}
use Rattle.mdf_group.specs.declared.row.ChannelRow.{ChannelRow}
use Rattle.mdf_group.specs.declared.row.GroupRow.{GroupRow}
use Rattle.mdf_group.specs.declared.row.DataRow.{DataRow}
use Rattle.mdf_group.specs.Link.{label, channel_origin, channel_texts, channel_links, group_links, links_named}
use Rattle.mdf_group.specs.Channel.{is_refused_kind, accepted, the_channel, channel_of_block, channel, channels_from}
use Rattle.mdf_group.specs.Group.{the_group, group_contents, group, groups_from, the_data_group, data_contents, data_group, data_groups_from, groups}
use Rattle.mdf_group.specs.Standing.{IsSourceLink, IsConvLinkBy, IsConvLink, AreDistinct, IsChannel, AreChannels, IsGroup, AreGroups, IsDataGroup, AreDataGroups}
use Rattle.mdf_group.proofs.Onces.{chain_once, chain_some}

-- a chain that is read, with what holds of each item
record AlongChain {A : Type 0} (f : List ℕ) (kind : Kind) (place : A → ℕ) (P : A → Type 0) (at : ℕ) (rows : List A) : Type 0 where
  chain : IsChain f at kind (map place rows)
  once : AreDistinct (map place rows)
  each : AllByRecursion P rows

-- what a step finds at an address
pub record FindsAt {A S : Type 0} (f : List ℕ) (kind : Kind) (place : A → ℕ) (P : A → Type 0) (step : Step A S) : Type 0 where
  pub there : (at : ℕ) (left : S) (found : A × ℕ × S) → step at left ≡ Ok found
      → (place found.0 ≡ at) × (IsBlock f at kind × ((found.1 ≡ link_at f at 0) × P found.0))

-- it goes on along the first link
finds_follow : {A S : Type 0} (f : List ℕ) (kind : Kind) (place : A → ℕ) (P : A → Type 0) (step : Step A S) → FindsAt f kind place P step
    → Follows f kind place step
finds_follow f kind place P step finds = record {
  there = λ at left x next rest is. let all = finds.there at left (x, next, rest) is in (all.0, all.1.0, all.1.1.0);
}

pub finds_go_along : {A S : Type 0} (f : List ℕ) (kind : Kind) (place : A → ℕ) (P : A → Type 0) (step : Step A S) → FindsAt f kind place P step
    → GoesAlong f kind step
finds_go_along f kind place P step finds = goes_along f kind place step (finds_follow f kind place P step finds)

along : {A S : Type 0} (f : List ℕ) (kind : Kind) (what : What) (place : A → ℕ) (P : A → Type 0) (step : Step A S) → FindsAt f kind place P step
    → (most at : ℕ) (left : S) (found : List A × ℕ × S) → chain step (full what kind f) most at left ≡ Ok found
    → AlongChain f kind place P at found.0
along {A} {S} f kind what place P step finds most at left found is =
    let none : (a : ℕ) (y : List A × ℕ × S) → full what kind f a ≡ Ok y → ⊥ = λ a y. full_none (List A × ℕ × S) what kind f a y in
    let follows = finds_follow f kind place P step finds in
    let stands = chain_found f kind place step (full what kind f) follows none most at left found is in
    record {
      chain = stands;
      once = chain_once f kind at (map place found.0) stands (chain_some f kind place step (full what kind f) follows none most at left found is);
      each = chain_each step (full what kind f) P
          (λ a rest x next after found_is. (finds.there a rest (x, next, after) found_is).1.1.1) none most at left found is;
    }

-- the source and the conversion of a link
source_link_found : (f : List ℕ) (at : ℕ) (left : Budget) (found : Option SourceInfo × Budget) → source_of_link f at left ≡ Ok found
    → IsSourceLink f at found.0
unfolding source_of_link
source_link_found f at left found is =
    let as_some : SourceInfo × Budget → Read (Option SourceInfo × Budget) = λ y. Ok (Some y.0, y.1) in
    elim (chosen (nat_eq at 0) (Ok (None, left)) (source f at left >>= λ y. Ok (Some y.0, y.1)) (Ok found) is) [
      | inl none ↦ subst (λ (y : Option SourceInfo × Budget). IsSourceLink f at y.0) (ok_injective (None, left) found none.1) (eqb-true at 0 none.0)
      | inr some ↦
          let parts = bind_ok (source f at left) (λ y. Ok (Some y.0, y.1)) found some.1 in
          subst (λ (y : Option SourceInfo × Budget). IsSourceLink f at y.0) (ok_injective (Some parts.0.0, parts.0.1) found parts.2)
          (eqb-false at 0 some.0, source_found f at left parts.0 parts.1)
    ]

conv_link_found : (f : List ℕ) (at : ℕ) (left : Budget) (found : Option Conversion × Budget) → conv_of_link f at left ≡ Ok found
    → IsConvLink f at found.0
unfolding conv_of_link
conv_link_found f at left found is =
    elim (chosen (nat_eq at 0) (Ok (None, left)) (conversion f at left >>= λ y. Ok (Some y.0, y.1)) (Ok found) is) [
      | inl none ↦ subst (λ (y : Option Conversion × Budget). IsConvLink f at y.0) (ok_injective (None, left) found none.1) (eqb-true at 0 none.0)
      | inr some ↦
          let parts = bind_ok (conversion f at left) (λ y. Ok (Some y.0, y.1)) found some.1 in
          subst (λ (y : Option Conversion × Budget). IsConvLink f at y.0) (ok_injective (Some parts.0.0, parts.0.1) found parts.2)
          (eqb-false at 0 some.0, conv_found 4 f at left parts.0 parts.1)
    ]

-- a name and a source
record AreLabels (f : List ℕ) (at : ℕ) (first : Label) : Type 0 where
  name : IsNote f (link_at f at 2) first.name
  source : IsSourceLink f (link_at f at 3) first.source

label_found : (f : List ℕ) (at : ℕ) (left : Budget) (found : Label × Budget) → label f at left ≡ Ok found → AreLabels f at found.0
unfolding label
label_found f at left found is =
    let name = bind_ok (words f (link_at f at 2) left) _ found is in
    let source = bind_ok (source_of_link f (link_at f at 3) name.0.1) _ found name.2 in
    let whole : AreLabels f at (record { name = name.0.0; source = source.0.0 }) = record {
      name = words_found f _ left name.0 name.1;
      source = source_link_found f _ name.0.1 source.0 source.1;
    } in
    subst (λ (y : Label × Budget). AreLabels f at y.0) (ok_injective _ _ source.2) whole

-- what the links of a channel lead to
pub record AreChannelLinksBy (IsConv : ℕ → Conversion → Type 0) (f : List ℕ) (at : ℕ) (links : ChannelLinks) : Type 0 where
  pub name : IsNote f (link_at f at 2) links.name
  pub source : IsSourceLink f (link_at f at 3) links.source
  pub conv : IsConvLinkBy IsConv (link_at f at 4) links.conv
  pub unit : IsNote f (link_at f at 6) links.unit
  pub comment : IsNote f (link_at f at 7) links.comment

abbrev pub AreChannelLinks : List ℕ → ℕ → ChannelLinks → Type 0
AreChannelLinks f = AreChannelLinksBy (IsConversion 4 f) f

-- the first of them
record AreOrigins (f : List ℕ) (at : ℕ) (origin : ChannelOrigin) : Type 0 where
  name : IsNote f (link_at f at 2) origin.name
  source : IsSourceLink f (link_at f at 3) origin.source
  conv : IsConvLink f (link_at f at 4) origin.conv

origin_found : (f : List ℕ) (at : ℕ) (left : Budget) (found : ChannelOrigin × Budget) → channel_origin f at left ≡ Ok found
    → AreOrigins f at found.0
unfolding channel_origin
origin_found f at left found is =
    let first = bind_ok (label f at left) _ found is in
    let there = label_found f at left first.0 first.1 in
    let conv = bind_ok (conv_of_link f (link_at f at 4) first.0.1) _ found first.2 in
    let whole : AreOrigins f at (record { name = first.0.0.name; source = first.0.0.source; conv = conv.0.0 }) = record {
      name = there.name;
      source = there.source;
      conv = conv_link_found f _ first.0.1 conv.0 conv.1;
    } in
    subst (λ (y : ChannelOrigin × Budget). AreOrigins f at y.0) (ok_injective _ _ conv.2) whole

-- and the last
record AreTexts (f : List ℕ) (at : ℕ) (texts : ChannelTexts) : Type 0 where
  unit : IsNote f (link_at f at 6) texts.unit
  comment : IsNote f (link_at f at 7) texts.comment

texts_found : (f : List ℕ) (at : ℕ) (left : Budget) (found : ChannelTexts × Budget) → channel_texts f at left ≡ Ok found
    → AreTexts f at found.0
unfolding channel_texts
texts_found f at left found is =
    let unit = bind_ok (words f (link_at f at 6) left) _ found is in
    let comment = bind_ok (words f (link_at f at 7) unit.0.1) _ found unit.2 in
    let whole : AreTexts f at (record { unit = unit.0.0; comment = comment.0.0 }) = record {
      unit = words_found f _ left unit.0 unit.1;
      comment = words_found f _ unit.0.1 comment.0 comment.1;
    } in
    subst (λ (y : ChannelTexts × Budget). AreTexts f at y.0) (ok_injective _ _ comment.2) whole

channel_links_found : (f : List ℕ) (at : ℕ) (left : Budget) (found : ChannelLinks × Budget) → channel_links f at left ≡ Ok found
    → AreChannelLinks f at found.0
unfolding channel_links
channel_links_found f at left found is =
    let origin = bind_ok (channel_origin f at left) _ found is in
    let there = origin_found f at left origin.0 origin.1 in
    let texts = bind_ok (channel_texts f at origin.0.1) _ found origin.2 in
    let last = texts_found f at origin.0.1 texts.0 texts.1 in
    let links : ChannelLinks = record {
      name = origin.0.0.name;
      source = origin.0.0.source;
      conv = origin.0.0.conv;
      unit = texts.0.0.unit;
      comment = texts.0.0.comment;
    } in
    let whole : AreChannelLinks f at links = record {
      name = there.name;
      source = there.source;
      conv = there.conv;
      unit = last.unit;
      comment = last.comment;
    } in
    subst (λ (y : ChannelLinks × Budget). AreChannelLinks f at y.0) (ok_injective _ _ texts.2) whole

-- and those of a channel group
pub record AreGroupLinks (f : List ℕ) (at : ℕ) (links : GroupLinks) : Type 0 where
  pub name : IsNote f (link_at f at 2) links.name
  pub source : IsSourceLink f (link_at f at 3) links.source
  pub comment : IsNote f (link_at f at 5) links.comment

group_links_found : (f : List ℕ) (at : ℕ) (left : Budget) (found : GroupLinks × Budget) → group_links f at left ≡ Ok found
    → AreGroupLinks f at found.0
unfolding group_links
group_links_found f at left found is =
    let first = bind_ok (label f at left) _ found is in
    let there = label_found f at left first.0 first.1 in
    let comment = bind_ok (words f (link_at f at 5) first.0.1) _ found first.2 in
    let whole : AreGroupLinks f at (record { name = first.0.0.name; source = first.0.0.source; comment = comment.0.0 }) = record {
      name = there.name;
      source = there.source;
      comment = words_found f _ first.0.1 comment.0 comment.1;
    } in
    subst (λ (y : GroupLinks × Budget). AreGroupLinks f at y.0) (ok_injective _ _ comment.2) whole

-- a kind and a data type that are read
accepted_found : (at kind data_type : ℕ) (found : Unit {0}) → accepted at kind data_type ≡ Ok found
    → (is_refused_kind kind ≡ false) × (data_type ≤ 14)
unfolding accepted
accepted_found at kind data_type found is =
    elim (chosen (is_refused_kind kind) (Err (ChannelKind at kind)) (cond (nat_lt 14 data_type) (Err (ChannelType at data_type)) (Ok tt)) (Ok found) is) [
      | inl refused ↦ let wrong : ◌≡◌ {A = Read (Unit {0})} (Err (ChannelKind at kind)) (Ok found) = refused.1 in cc
      | inr read ↦
          elim (chosen (nat_lt 14 data_type) (Err (ChannelType at data_type)) (Ok tt) (Ok found) read.1) [
            | inl over ↦ let wrong : ◌≡◌ {A = Read (Unit {0})} (Err (ChannelType at data_type)) (Ok found) = over.1 in cc
            | inr within ↦ (read.0, omega (arith, leb-false 15 data_type within.0))
          ]
    ]

-- a channel
pub channel_finds : (f : List ℕ) → FindsAt f Cn (λ (row : ChannelRow). row.at) (IsChannel f) (channel f)
unfolding channel channel_of_block
channel_finds f = record {
  there = λ at left found is.
      let first = bind_ok (block f at Cn) _ found is in
      let here = block_found f at Cn first.0 first.1 in
      let read = bind_ok (accepted first.0.at (get_or (body_of f first.0) 0 0) (get_or (body_of f first.0) 2 0)) _ found first.2 in
      let kinds = accepted_found first.0.at _ _ read.0 read.1 in
      let given = bind_ok (channel_links f first.0.at left) _ found read.2 in
      let links = channel_links_found f first.0.at left given.0 given.1 in
      let place : first.0.at ≡ at = ap (λ (b : BlockAt). b.at) here.1 in
      let row_of : BlockAt → ChannelRow =
      λ b. the_channel b.at (body_of f b) given.0.0 (link_at f b.at 5) (links_named f b.at 8 (b.links - 8)) in
      let row : row_of (the_block f at Cn) ≡ found.0 =
      ap row_of (sym here.1) ∙ ap (λ (y : ChannelRow × ℕ × Budget). y.0) (ok_injective _ _ given.2) in
      let next : link_at f at 0 ≡ found.1 =
      ap (λ (a : ℕ). link_at f a 0) (sym place) ∙ ap (λ (y : ChannelRow × ℕ × Budget). y.1) (ok_injective _ _ given.2) in
      let whole : IsChannel f (row_of (the_block f at Cn)) = record {
        links = given.0.0;
        fields = refl;
        kind = ap (λ (b : BlockAt). is_refused_kind (get_or (body_of f b) 0 0)) (sym here.1) ∙ kinds.0;
        data_type = subst (λ (b : BlockAt). get_or (body_of f b) 2 0 ≤ 14) here.1 kinds.1;
        name = subst (λ (a : ℕ). IsNote f (link_at f a 2) given.0.0.name) place links.name;
        source = subst (λ (a : ℕ). IsSourceLink f (link_at f a 3) given.0.0.source) place links.source;
        conv = subst (λ (a : ℕ). IsConvLink f (link_at f a 4) given.0.0.conv) place links.conv;
        unit = subst (λ (a : ℕ). IsNote f (link_at f a 6) given.0.0.unit) place links.unit;
        comment = subst (λ (a : ℕ). IsNote f (link_at f a 7) given.0.0.comment) place links.comment;
      } in
      (sym (ap (λ (r : ChannelRow). r.at) row), (here.0, (sym next, subst (IsChannel f) row whole)));
}

channels_found : (f : List ℕ) (most at : ℕ) (left : Budget) (found : List ChannelRow × ℕ × Budget) → channels_from f most at left ≡ Ok found
    → AreChannels f at found.0
channels_found f most at left found is =
    let all = along f Cn whats.Cn (λ (row : ChannelRow). row.at) (IsChannel f) (channel f) (channel_finds f) most at left found is in
    record { chain = all.chain; once = all.once; each = all.each }

-- what a channel group holds
record AreContents (f : List ℕ) (at : ℕ) (contents : GroupContents) : Type 0 where
  links : AreGroupLinks f at contents.links
  channels : AreChannels f (link_at f at 1) contents.rows

contents_found : (f : List ℕ) (b : BlockAt) (left : Room) (found : GroupContents × Room) → group_contents f b left ≡ Ok found
    → AreContents f b.at found.0
unfolding group_contents
contents_found f b left found is =
    let given = bind_ok (group_links f b.at left.budget) _ found is in
    let rows = bind_ok (channels_from f left.channels (link_at f b.at 1) given.0.1) _ found given.2 in
    let whole : AreContents f b.at (record { links = given.0.0; rows = rows.0.0 }) = record {
      links = group_links_found f b.at left.budget given.0 given.1;
      channels = channels_found f left.channels (link_at f b.at 1) given.0.1 rows.0 rows.1;
    } in
    subst (λ (y : GroupContents × Room). AreContents f b.at y.0) (ok_injective _ _ rows.2) whole

-- a channel group
pub group_finds : (f : List ℕ) → FindsAt f Cg (λ (row : GroupRow). row.at) (IsGroup f) (group f)
unfolding group
group_finds f = record {
  there = λ at left found is.
      let first = bind_ok (block f at Cg) _ found is in
      let here = block_found f at Cg first.0 first.1 in
      let contents = bind_ok (group_contents f first.0 left) _ found first.2 in
      let place : first.0.at ≡ at = ap (λ (b : BlockAt). b.at) here.1 in
      let inside : AreContents f at contents.0.0 =
      subst (λ (a : ℕ). AreContents f a contents.0.0) place (contents_found f first.0 left contents.0 contents.1) in
      let row_of : BlockAt → GroupRow = λ b. the_group b.at (body_of f b) contents.0.0.links contents.0.0.rows in
      let row : row_of (the_block f at Cg) ≡ found.0 =
      ap row_of (sym here.1) ∙ ap (λ (y : GroupRow × ℕ × Room). y.0) (ok_injective _ _ contents.2) in
      let next : link_at f at 0 ≡ found.1 =
      ap (λ (a : ℕ). link_at f a 0) (sym place) ∙ ap (λ (y : GroupRow × ℕ × Room). y.1) (ok_injective _ _ contents.2) in
      let whole : IsGroup f (row_of (the_block f at Cg)) = record {
        links = contents.0.0.links;
        fields = refl;
        name = inside.links.name;
        source = inside.links.source;
        comment = inside.links.comment;
        channels = inside.channels;
      } in
      (sym (ap (λ (r : GroupRow). r.at) row), (here.0, (sym next, subst (IsGroup f) row whole)));
}

groups_found : (f : List ℕ) (most at : ℕ) (left : Room) (found : List GroupRow × ℕ × Room) → groups_from f most at left ≡ Ok found
    → AreGroups f at found.0
groups_found f most at left found is =
    let all = along f Cg whats.Cg (λ (row : GroupRow). row.at) (IsGroup f) (group f) (group_finds f) most at left found is in
    record { chain = all.chain; once = all.once; each = all.each }

-- what a data group holds
record AreDataContents (f : List ℕ) (at : ℕ) (contents : DataContents) : Type 0 where
  comment : IsNote f (link_at f at 3) contents.comment
  groups : AreGroups f (link_at f at 1) contents.rows

data_contents_found : (f : List ℕ) (b : BlockAt) (left : DataRoom) (found : DataContents × DataRoom) → data_contents f b left ≡ Ok found
    → AreDataContents f b.at found.0
unfolding data_contents
data_contents_found f b left found is =
    let text = bind_ok (words f (link_at f b.at 3) left.room.budget) _ found is in
    let start : Room = record { channels = left.room.channels; budget = text.0.1 } in
    let rows = bind_ok (groups_from f left.groups (link_at f b.at 1) start) _ found text.2 in
    let whole : AreDataContents f b.at (record { comment = text.0.0; rows = rows.0.0 }) = record {
      comment = words_found f (link_at f b.at 3) left.room.budget text.0 text.1;
      groups = groups_found f left.groups (link_at f b.at 1) start rows.0 rows.1;
    } in
    subst (λ (y : DataContents × DataRoom). AreDataContents f b.at y.0) (ok_injective _ _ rows.2) whole

-- a data group
pub data_group_finds : (f : List ℕ) → FindsAt f Dg (λ (row : DataRow). row.at) (IsDataGroup f) (data_group f)
unfolding data_group
data_group_finds f = record {
  there = λ at left found is.
      let first = bind_ok (block f at Dg) _ found is in
      let here = block_found f at Dg first.0 first.1 in
      let contents = bind_ok (data_contents f first.0 left) _ found first.2 in
      let place : first.0.at ≡ at = ap (λ (b : BlockAt). b.at) here.1 in
      let inside : AreDataContents f at contents.0.0 =
      subst (λ (a : ℕ). AreDataContents f a contents.0.0) place (data_contents_found f first.0 left contents.0 contents.1) in
      let row_of : BlockAt → DataRow = λ b. the_data_group b.at (body_of f b) contents.0.0.comment (link_at f b.at 2) contents.0.0.rows in
      let row : row_of (the_block f at Dg) ≡ found.0 =
      ap row_of (sym here.1) ∙ ap (λ (y : DataRow × ℕ × DataRoom). y.0) (ok_injective _ _ contents.2) in
      let next : link_at f at 0 ≡ found.1 =
      ap (λ (a : ℕ). link_at f a 0) (sym place) ∙ ap (λ (y : DataRow × ℕ × DataRoom). y.1) (ok_injective _ _ contents.2) in
      let whole : IsDataGroup f (row_of (the_block f at Dg)) = record {
        fields = refl;
        comment = inside.comment;
        groups = inside.groups;
      } in
      (sym (ap (λ (r : DataRow). r.at) row), (here.0, (sym next, subst (IsDataGroup f) row whole)));
}

-- the data groups
pub all_found : (f : List ℕ) (at : ℕ) (left : Budget) (found : List DataRow × Budget) → groups f at left ≡ Ok found
    → AreDataGroups f at found.0
unfolding groups
all_found f at left found is =
    let start : DataRoom = record { groups = 65535; room = record { channels = 1048576; budget = left } } in
    let rows = bind_ok (data_groups_from f at left) _ found is in
    let all = along f Dg whats.Dg (λ (row : DataRow). row.at) (IsDataGroup f) (data_group f) (data_group_finds f) 65535 at start rows.0 rows.1 in
    let whole : AreDataGroups f at rows.0.0 = record { chain = all.chain; once = all.once; each = all.each } in
    subst (λ (y : List DataRow × Budget). AreDataGroups f at y.0) (ok_injective _ _ rows.2) whole
