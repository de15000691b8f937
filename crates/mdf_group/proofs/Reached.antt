-- The groups that stand in a file are found, where no source and no conversion is named and the limits hold.
use Rattle.std.proofs.Common.{◌≡◌, ◌+◌, ◌-◌, ◌≤◌, ℕ, false, List, [], ◌∷◌, length, Option, Some, None, Ok, refl, sym, ◌∙◌, ap, arith}
use Rattle.std.proofs.lemmas.Bool.{eq-eqb, lt-leb, cond-true, cond-false}
use Rattle.std.proofs.lemmas.List.Sums.{sum_by-cons}
use Rattle.std.specs.Prelude.{nat_eq, nat_lt, sum_by, slice_index}
use Rattle.std.specs.List.{AllByRecursion}
use Rattle.mdf_format.specs.Block.{link_at, links_at, body_at, IsBlock}
use Rattle.mdf_format.specs.declared.kind.Kind.TheVariants.{Dg, Cg, Cn}
use Rattle.mdf_block.specs.declared.what.What.TheVariants as whats
use Rattle.mdf_block.specs.Refusal.{Read, ◌>>=◌}
use Rattle.mdf_block.specs.Text.{note_size}
use Rattle.mdf_block.specs.Chain.{full}
use Rattle.mdf_block.proofs.Wholes.{block_some}
use Rattle.mdf_block.proofs.Reached.{chain_all_reached}
use Rattle.mdf_conv.specs.declared.limits.Budget.{Budget}
use Rattle.mdf_conv.specs.declared.row.SourceInfo.{SourceInfo}
use Rattle.mdf_conv.specs.declared.row.Conversion.{Conversion}
use Rattle.mdf_conv.specs.Left.{with_dropped, link_count}
use Rattle.mdf_conv.specs.Link.{source_of_link, conv_of_link}
use Rattle.mdf_conv.proofs.Reached.{less_text, words_reached}
use Rattle.mdf_group.specs.declared.room.ChannelLinks.{ChannelLinks}
use Rattle.mdf_group.specs.declared.room.Room.{Room}
use Rattle.mdf_group.specs.declared.room.DataRoom.{DataRoom}
use Rattle.mdf_group.specs.declared.row.ChannelRow.{ChannelRow}
use Rattle.mdf_group.specs.declared.row.GroupRow.{GroupRow}
use Rattle.mdf_group.specs.declared.row.DataRow.{DataRow}
use Rattle.mdf_group.specs.Link.{label, channel_origin, channel_texts, channel_links, group_links, links_named}
use Rattle.mdf_group.specs.Channel.{is_refused_kind, accepted, channel_of_block, channel, channels_from}
use Rattle.mdf_group.specs.Group.{group_contents, group, groups_from, unnamed_count, data_contents, data_group, groups}
use Rattle.mdf_group.specs.Standing.{IsSourceLink, IsConvLink, IsChannel, AreChannels, IsGroup, AreGroups, IsDataGroup, AreDataGroups}
use Rattle.mdf_group.proofs.Stands.{AreChannelLinks}

-- rows that name no source and no conversion, and how many bytes of texts they have
pub record IsPlainChannel (row : ChannelRow) : Type 0 where
  pub source : row.source ≡ None
  pub conv : row.conv ≡ None

pub record IsPlainGroup (row : GroupRow) : Type 0 where
  pub source : row.source ≡ None
  pub channels : AllByRecursion IsPlainChannel row.channels

abbrev pub IsPlainData : DataRow → Type 0
IsPlainData row = AllByRecursion IsPlainGroup row.groups

abbrev pub channel_text : ChannelRow → ℕ
channel_text row = note_size row.name + (note_size row.unit + note_size row.comment)

abbrev pub group_text : GroupRow → ℕ
group_text row = note_size row.name + (note_size row.comment + sum_by channel_text row.channels)

abbrev pub data_text : DataRow → ℕ
data_text row = note_size row.comment + sum_by group_text row.groups

-- how many channels they have
abbrev pub group_size : GroupRow → ℕ
group_size row = length row.channels

abbrev pub data_size : DataRow → ℕ
data_size row = sum_by group_size row.groups

-- a link that names no source or no conversion
source_link_reached : (f : List ℕ) (at : ℕ) (left : Budget) (found : Option SourceInfo) → found ≡ None → IsSourceLink f at found
    → source_of_link f at left ≡ Ok (found, left)
unfolding source_of_link
source_link_reached f at left None none is = cond-true (nat_eq at 0) _ _ (eq-eqb at 0 is)
source_link_reached f at left (Some source) none is = cc

conv_link_reached : (f : List ℕ) (at : ℕ) (left : Budget) (found : Option Conversion) → found ≡ None → IsConvLink f at found
    → conv_of_link f at left ≡ Ok (found, left)
unfolding conv_of_link
conv_link_reached f at left None none is = cond-true (nat_eq at 0) _ _ (eq-eqb at 0 is)
conv_link_reached f at left (Some conversion) none is = cc

-- what is left behind the texts of a channel
abbrev behind_links : ChannelLinks → Budget → Budget
behind_links links left = less_text (note_size links.comment) (less_text (note_size links.unit) (less_text (note_size links.name) left))

channel_links_reached : (f : List ℕ) (at : ℕ) (left : Budget) (links : ChannelLinks) → AreChannelLinks f at links
    → links.source ≡ None → links.conv ≡ None → note_size links.name + (note_size links.unit + note_size links.comment) ≤ left.text
    → channel_links f at left ≡ Ok (links, behind_links links left)
unfolding channel_links channel_texts channel_origin label
channel_links_reached f at left links are no_source no_conv short =
    let one = less_text (note_size links.name) left in
    let two = less_text (note_size links.unit) one in
    let first = words_reached f (link_at f at 2) left links.name are.name (omega (arith, short)) in
    let second = source_link_reached f (link_at f at 3) one links.source no_source are.source in
    let third = conv_link_reached f (link_at f at 4) one links.conv no_conv are.conv in
    let fourth = words_reached f (link_at f at 6) one links.unit are.unit (omega (arith, short)) in
    let fifth = words_reached f (link_at f at 7) two links.comment are.comment (omega (arith, short)) in
    rw (first, second, third, fourth, fifth) refl

pub accepted_reached : (at kind data_type : ℕ) → is_refused_kind kind ≡ false → data_type ≤ 14 → accepted at kind data_type ≡ Ok tt
unfolding accepted
accepted_reached at kind data_type read within =
    cond-false (is_refused_kind kind) _ _ read ∙ cond-false (nat_lt 14 data_type) _ _ (lt-leb 15 data_type (omega (arith, within)))

-- a channel, where so many bytes of texts are wanted behind it
channel_reached : (f : List ℕ) (after : ℕ) (row : ChannelRow) (left : Budget) → IsBlock f row.at Cn → IsChannel f row → IsPlainChannel row
    → channel_text row + after ≤ left.text
    → (rest : Budget) × (channel f row.at left ≡ Ok (row, link_at f row.at 0, rest)) × (after ≤ rest.text)
unfolding channel channel_of_block
channel_reached f after row left here is plain short =
    let links = is.links in
    let are : AreChannelLinks f row.at links = record {
      name = is.name;
      source = is.source;
      conv = is.conv;
      unit = is.unit;
      comment = is.comment;
    } in
    let name = ap (λ (r : ChannelRow). note_size r.name) is.fields in
    let unit = ap (λ (r : ChannelRow). note_size r.unit) is.fields in
    let comment = ap (λ (r : ChannelRow). note_size r.comment) is.fields in
    let no_source : links.source ≡ None = sym (ap (λ (r : ChannelRow). r.source) is.fields) ∙ plain.source in
    let no_conv : links.conv ≡ None = sym (ap (λ (r : ChannelRow). r.conv) is.fields) ∙ plain.conv in
    let extra = links_named f row.at 8 (links_at f row.at - 8) in
    let rest = with_dropped (link_count (link_at f row.at 1) + extra) (behind_links links left) in
    let first = block_some f row.at Cn refl here in
    let body = body_at f row.at in
    let second = accepted_reached row.at (slice_index body 0) (slice_index body 2) (sym (ap (λ (r : ChannelRow). is_refused_kind r.kind) is.fields) ∙ is.kind)
    (omega (arith, ap (λ (r : ChannelRow). r.data_type) is.fields, is.data_type)) in
    let third = channel_links_reached f row.at left links are no_source no_conv (omega (arith, name, unit, comment, short)) in (
      rest,
      rw (first, second, third) (ap (λ (r : ChannelRow). Ok (r, link_at f row.at 0, rest)) (sym is.fields)),
      omega (arith, name, unit, comment, short),
    )

-- channels along their links
abbrev EnoughText : ℕ → List ChannelRow → Budget → Type 0
EnoughText after rows left = sum_by channel_text rows + after ≤ left.text

record IsReadChannel (f : List ℕ) (row : ChannelRow) : Type 0 where
  is : IsChannel f row
  plain : IsPlainChannel row

-- two facts of each item
both : {A : Type 0} (P Q R : A → Type 0) → ((x : A) → P x → Q x → R x) → (xs : List A) → AllByRecursion P xs → AllByRecursion Q xs → AllByRecursion R xs
both P Q R join [] p q = tt
both P Q R join (x ∷ xs) p q = (join x p.0 q.0, both P Q R join xs p.1 q.1)

channels_reached : (f : List ℕ) (after most at : ℕ) (left : Budget) (rows : List ChannelRow) → (IsBlock f 0 Cn → ⊥) → AreChannels f at rows
    → AllByRecursion IsPlainChannel rows → length rows ≤ most → sum_by channel_text rows + after ≤ left.text
    → (rest : Budget) × (channels_from f most at left ≡ Ok (rows, most - length rows, rest)) × (after ≤ rest.text)
channels_reached f after most at left rows none are plain few short =
    let each = both (IsChannel f) IsPlainChannel (IsReadChannel f) (λ row is is_plain. record { is = is; plain = is_plain }) rows are.each plain in
    let all = chain_all_reached f Cn (λ (row : ChannelRow). row.at) (IsReadChannel f) (channel f) (EnoughText after) none
    (λ row behind rest here is enough.
    channel_reached f (sum_by channel_text behind + after) row rest here is.is is.plain
    (omega (arith, enough, sum_by-cons channel_text row behind)))
    (full whats.Cn Cn f) rows most at left few are.chain each short in
    let text : sum_by channel_text [] + after ≤ all.0.text = all.2 in (all.0, all.1, omega (arith, text))

-- a channel group, where so many channels and so many bytes of texts are wanted behind it
group_reached : (f : List ℕ) (channels after : ℕ) (row : GroupRow) (left : Room) → (IsBlock f 0 Cn → ⊥) → IsBlock f row.at Cg → IsGroup f row
    → IsPlainGroup row → group_size row + channels ≤ left.channels → group_text row + after ≤ left.budget.text
    → (rest : Room) × (group f row.at left ≡ Ok (row, link_at f row.at 0, rest)) × ((channels ≤ rest.channels) × (after ≤ rest.budget.text))
unfolding group group_contents group_links label
group_reached f channels after row left none here is plain few short =
    let links = is.links in
    let name = ap (λ (r : GroupRow). note_size r.name) is.fields in
    let comment = ap (λ (r : GroupRow). note_size r.comment) is.fields in
    let no_source : links.source ≡ None = sym (ap (λ (r : GroupRow). r.source) is.fields) ∙ plain.source in
    let one = less_text (note_size links.name) left.budget in
    let two = less_text (note_size links.comment) one in
    let first = block_some f row.at Cg refl here in
    let second = words_reached f (link_at f row.at 2) left.budget links.name is.name (omega (arith, name, short)) in
    let third = source_link_reached f (link_at f row.at 3) one links.source no_source is.source in
    let fourth = words_reached f (link_at f row.at 5) one links.comment is.comment (omega (arith, name, comment, short)) in
    let fifth = channels_reached f after left.channels (link_at f row.at 1) two row.channels none is.channels plain.channels
    (omega (arith, few)) (omega (arith, name, comment, short)) in
    let rest : Room = record {
      channels = left.channels - length row.channels;
      budget = with_dropped (link_count (link_at f row.at 4)) fifth.0;
    } in (
      rest,
      rw (first, second, third, fourth, fifth.1) (ap (λ (r : GroupRow). Ok (r, link_at f row.at 0, rest)) (sym is.fields)),
      (omega (arith, few), fifth.2),
    )

-- channel groups along their links
abbrev EnoughRoom : ℕ → ℕ → List GroupRow → Room → Type 0
EnoughRoom channels after rows left =
    (sum_by group_size rows + channels ≤ left.channels) × (sum_by group_text rows + after ≤ left.budget.text)

record IsReadGroup (f : List ℕ) (row : GroupRow) : Type 0 where
  is : IsGroup f row
  plain : IsPlainGroup row

groups_from_reached : (f : List ℕ) (channels after most at : ℕ) (left : Room) (rows : List GroupRow) → (IsBlock f 0 Cn → ⊥) → (IsBlock f 0 Cg → ⊥)
    → AreGroups f at rows → AllByRecursion IsPlainGroup rows → length rows ≤ most
    → sum_by group_size rows + channels ≤ left.channels → sum_by group_text rows + after ≤ left.budget.text
    → (rest : Room) × (groups_from f most at left ≡ Ok (rows, most - length rows, rest))
    × ((channels ≤ rest.channels) × (after ≤ rest.budget.text))
groups_from_reached f channels after most at left rows none_cn none_cg are plain few room short =
    let each = both (IsGroup f) IsPlainGroup (IsReadGroup f) (λ row is is_plain. record { is = is; plain = is_plain }) rows are.each plain in
    let all = chain_all_reached f Cg (λ (row : GroupRow). row.at) (IsReadGroup f) (group f) (EnoughRoom channels after) none_cg
    (λ row behind rest here is enough.
    group_reached f (sum_by group_size behind + channels) (sum_by group_text behind + after) row rest none_cn here is.is is.plain
    (omega (arith, enough.0, sum_by-cons group_size row behind)) (omega (arith, enough.1, sum_by-cons group_text row behind)))
    (full whats.Cg Cg f) rows most at left few are.chain each (room, short) in
    let places : sum_by group_size [] + channels ≤ all.0.channels = all.2.0 in
    let text : sum_by group_text [] + after ≤ all.0.budget.text = all.2.1 in
    (all.0, all.1, (omega (arith, places), omega (arith, text)))

-- a data group
record HasRoom (few several after : ℕ) (left : DataRoom) : Type 0 where
  groups : few ≤ left.groups
  channels : several ≤ left.room.channels
  text : after ≤ left.room.budget.text

data_group_reached : (f : List ℕ) (groups channels after : ℕ) (row : DataRow) (left : DataRoom) → (IsBlock f 0 Cn → ⊥) → (IsBlock f 0 Cg → ⊥)
    → IsBlock f row.at Dg → IsDataGroup f row → IsPlainData row
    → HasRoom (length row.groups + groups) (data_size row + channels) (data_text row + after) left
    → (rest : DataRoom) × (data_group f row.at left ≡ Ok (row, link_at f row.at 0, rest)) × HasRoom groups channels after rest
unfolding data_group data_contents
data_group_reached f groups channels after row left none_cn none_cg here is plain has =
    let one = less_text (note_size row.comment) left.room.budget in
    let start : Room = record { channels = left.room.channels; budget = one } in
    let first = block_some f row.at Dg refl here in
    let second = words_reached f (link_at f row.at 3) left.room.budget row.comment is.comment (omega (arith, has.text)) in
    let third = groups_from_reached f channels after left.groups (link_at f row.at 1) start row.groups none_cn none_cg is.groups plain
    (omega (arith, has.groups)) has.channels (omega (arith, has.text)) in
    let rest : DataRoom = record {
      groups = left.groups - length row.groups;
      room = record { channels = third.0.channels; budget = with_dropped (unnamed_count row.groups) third.0.budget };
    } in (
      rest,
      rw (first, second, third.1) (ap (λ (r : DataRow). Ok (r, link_at f row.at 0, rest)) (sym is.fields)),
      record { groups = omega (arith, has.groups); channels = third.2.0; text = third.2.1 },
    )

-- all data groups
abbrev EnoughData : List DataRow → DataRoom → Type 0
EnoughData rows left = HasRoom (sum_by (λ row. length row.groups) rows) (sum_by data_size rows) (sum_by data_text rows) left

record IsReadData (f : List ℕ) (row : DataRow) : Type 0 where
  is : IsDataGroup f row
  plain : IsPlainData row

pub groups_reached : (f : List ℕ) (at : ℕ) (left : Budget) (rows : List DataRow) → (IsBlock f 0 Cn → ⊥) → (IsBlock f 0 Cg → ⊥) → (IsBlock f 0 Dg → ⊥)
    → AreDataGroups f at rows → AllByRecursion IsPlainData rows → length rows ≤ 65535
    → sum_by (λ row. length row.groups) rows ≤ 65535 → sum_by data_size rows ≤ 1048576 → sum_by data_text rows ≤ left.text
    → (rest : Budget) × (groups f at left ≡ Ok (rows, rest))
unfolding groups
groups_reached f at left rows none_cn none_cg none_dg are plain few few_groups few_channels short =
    let each = both (IsDataGroup f) IsPlainData (IsReadData f) (λ row is is_plain. record { is = is; plain = is_plain }) rows are.each plain in
    let start : DataRoom = record { groups = 65535; room = record { channels = 1048576; budget = left } } in
    let all = chain_all_reached f Dg (λ (row : DataRow). row.at) (IsReadData f) (data_group f) EnoughData none_dg
    (λ row behind rest here is enough.
    data_group_reached f (sum_by (λ r. length r.groups) behind) (sum_by data_size behind) (sum_by data_text behind) row rest none_cn none_cg here is.is is.plain
    (record {
      groups = omega (arith, enough.groups, sum_by-cons (λ (r : DataRow). length r.groups) row behind);
      channels = omega (arith, enough.channels, sum_by-cons data_size row behind);
      text = omega (arith, enough.text, sum_by-cons data_text row behind);
    }))
    (full whats.Dg Dg f) rows 65535 at start few are.chain each
    (record { groups = few_groups; channels = few_channels; text = short }) in
    (all.0.room.budget, ap (λ (read : Read (List DataRow × ℕ × DataRoom)). read >>= λ found. Ok (found.0, found.2.room.budget)) all.1)
