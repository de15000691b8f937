-- The data groups that stand in a file are found, where they are few and what is left is enough for them.
use Rattle.std.proofs.Common.{◌≡◌, ◌+◌, ◌-◌, ◌≤◌, ℕ, false, List, [], ◌∷◌, length, map, Option, Some, None, Ok, refl, sym, ◌∙◌, ap, subst, arith}
use Rattle.std.proofs.lemmas.Bool.{eq-eqb, ne_eqb, lt-leb, cond-true, cond-false}
use Rattle.std.proofs.lemmas.List.Sums.{sum_by-cons}
use Rattle.std.specs.Prelude.{nat_eq, nat_lt, sum_by, slice_index}
use Rattle.mdf_format.specs.Block.{link_at, links_at, body_at, IsBlock}
use Rattle.mdf_format.specs.declared.kind.Kind.TheVariants.{Dg, Cg, Cn}
use Rattle.mdf_block.specs.declared.what.What.TheVariants as whats
use Rattle.mdf_block.specs.Refusal.{Read, ◌>>=◌}
use Rattle.mdf_block.specs.Text.{note_size}
use Rattle.mdf_block.specs.Chain.{full}
use Rattle.mdf_block.proofs.Wholes.{block_some}
use Rattle.mdf_block.proofs.Reached.{chain_all_reached}
use Rattle.mdf_conv.specs.declared.limits.Budget.{Budget}
use Rattle.mdf_conv.specs.declared.row.SourceInfo.{SourceInfo}
use Rattle.mdf_conv.specs.declared.row.Conversion.{Conversion}
use Rattle.mdf_conv.specs.Left.{with_dropped, link_count}
use Rattle.mdf_conv.specs.Conv.{source, conversion}
use Rattle.mdf_conv.specs.Link.{source_of_link, conv_of_link}
use Rattle.mdf_conv.specs.Cost.{Cost, total, conv_cost}
use Rattle.mdf_conv.proofs.Reached.{less_text, words_reached, IsEnough, source_reached, conv_reached}
use Rattle.mdf_group.specs.declared.room.ChannelLinks.{ChannelLinks}
use Rattle.mdf_group.specs.declared.room.Room.{Room}
use Rattle.mdf_group.specs.declared.room.DataRoom.{DataRoom}
use Rattle.mdf_group.specs.declared.row.ChannelRow.{ChannelRow}
use Rattle.mdf_group.specs.declared.row.GroupRow.{GroupRow}
use Rattle.mdf_group.specs.declared.row.DataRow.{DataRow}
use Rattle.mdf_group.specs.Link.{label, channel_origin, channel_texts, channel_links, group_links, links_named}
use Rattle.mdf_group.specs.Channel.{is_refused_kind, accepted, channel_of_block, channel, channels_from}
use Rattle.mdf_group.specs.Group.{group_contents, group, groups_from, unnamed_count, data_contents, data_group, groups}
use Rattle.mdf_group.specs.Cost.{source_link_cost, conv_link_cost, channel_cost, group_cost, data_cost, rows_cost, channels_of, AreFew}
use Rattle.mdf_group.specs.Standing.{IsSourceLink, IsConvLink, IsChannel, AreChannels, IsGroup, AreGroups, IsDataGroup, AreDataGroups}
use Rattle.mdf_group.proofs.Costs.{source_link_falls, conv_link_falls, links_cost, channel_falls, channel_count, group_takes, group_count, data_takes}
use Rattle.mdf_group.proofs.Stands.{AreChannelLinks}
use Rattle.mdf_group.proofs.Reached.{accepted_reached}

-- the source and the conversion of a link
source_link_there : (f : List ℕ) (at : ℕ) (left : Budget) (found : Option SourceInfo) → IsSourceLink f at found
    → IsEnough (source_link_cost found) left → (rest : Budget) × (source_of_link f at left ≡ Ok (found, rest))
unfolding source_of_link
source_link_there f at left None is enough = (left, cond-true (nat_eq at 0) _ _ (eq-eqb at 0 is))
source_link_there f at left (Some found) is enough =
    let read = source_reached f at left found is.1 enough in (
      read.0,
      cond-false (nat_eq at 0) _ _ (ne_eqb at 0 is.0)
          ∙ ap (λ (y : Read (SourceInfo × Budget)). y >>= λ given. Ok (Some given.0, given.1)) read.1,
    )

conv_link_there : (f : List ℕ) (at : ℕ) (left : Budget) (found : Option Conversion) → IsConvLink f at found
    → IsEnough (conv_link_cost f at) left → (rest : Budget) × (conv_of_link f at left ≡ Ok (found, rest))
unfolding conv_of_link conv_link_cost
conv_link_there f at left None is enough = (left, cond-true (nat_eq at 0) _ _ (eq-eqb at 0 is))
conv_link_there f at left (Some found) is enough =
    let some = ne_eqb at 0 is.0 in
    let cost_is : conv_link_cost f at ≡ conv_cost 4 f at = cond-false (nat_eq at 0) _ _ some in
    let read = conv_reached 4 f at left found is.1 (subst (λ (c : Cost). IsEnough c left) cost_is enough) in (
      read.0,
      cond-false (nat_eq at 0) _ _ some ∙ ap (λ (y : Read (Conversion × Budget)). y >>= λ given. Ok (Some given.0, given.1)) read.1,
    )

-- what the links of a channel lead to
links_there : (f : List ℕ) (at : ℕ) (left : Budget) (links : ChannelLinks) → AreChannelLinks f at links → IsEnough (links_cost f at links) left
    → (rest : Budget) × (channel_links f at left ≡ Ok (links, rest))
unfolding channel_links channel_texts channel_origin label
links_there f at left links are enough =
    let one = less_text (note_size links.name) left in
    let first = words_reached f (link_at f at 2) left links.name are.name (omega (arith, enough.text)) in
    let second = source_link_there f (link_at f at 3) one links.source are.source
    (record { text = omega (arith, enough.text); conversions = omega (arith, enough.conversions) }) in
    let two = source_link_falls f (link_at f at 3) one (links.source, second.0) second.1 in
    let third = conv_link_there f (link_at f at 4) second.0 links.conv are.conv
    (record { text = omega (arith, enough.text, two.text); conversions = omega (arith, enough.conversions, two.conversions) }) in
    let three = conv_link_falls f (link_at f at 4) second.0 (links.conv, third.0) third.1 in
    let fourth = words_reached f (link_at f at 6) third.0 links.unit are.unit (omega (arith, enough.text, two.text, three.text)) in
    let four = less_text (note_size links.unit) third.0 in
    let fifth = words_reached f (link_at f at 7) four links.comment are.comment (omega (arith, enough.text, two.text, three.text)) in
    (less_text (note_size links.comment) four, rw (first, second.1, third.1, fourth, fifth) refl)

-- a channel
channel_there : (f : List ℕ) (row : ChannelRow) (left : Budget) → IsBlock f row.at Cn → IsChannel f row → IsEnough (channel_cost f row) left
    → (rest : Budget) × (channel f row.at left ≡ Ok (row, link_at f row.at 0, rest))
unfolding channel channel_of_block
channel_there f row left here is enough =
    let links = is.links in
    let are : AreChannelLinks f row.at links = record {
      name = is.name;
      source = is.source;
      conv = is.conv;
      unit = is.unit;
      comment = is.comment;
    } in
    let cost_is : channel_cost f (record row { name = links.name; source = links.source; unit = links.unit; comment = links.comment }) ≡ channel_cost f row =
    ap (λ (r : ChannelRow). channel_cost f (record row { name = r.name; source = r.source; unit = r.unit; comment = r.comment })) (sym is.fields) in
    let cost = subst (λ (c : Cost). IsEnough c left) (sym cost_is) enough in
    let extra = links_named f row.at 8 (links_at f row.at - 8) in
    let first = block_some f row.at Cn refl here in
    let body = body_at f row.at in
    let second = accepted_reached row.at (slice_index body 0) (slice_index body 2) (sym (ap (λ (r : ChannelRow). is_refused_kind r.kind) is.fields) ∙ is.kind)
    (omega (arith, ap (λ (r : ChannelRow). r.data_type) is.fields, is.data_type)) in
    let third = links_there f row.at left links are (record { text = omega (arith, cost.text); conversions = omega (arith, cost.conversions) }) in
    let rest = with_dropped (link_count (link_at f row.at 1) + extra) third.0 in
    (rest, rw (first, second, third.1) (ap (λ (r : ChannelRow). Ok (r, link_at f row.at 0, rest)) (sym is.fields)))

-- channels along their links
abbrev EnoughFor : List ℕ → List ChannelRow → Budget → Type 0
EnoughFor f rows left = IsEnough (total (map (channel_cost f) rows)) left

channels_there : (f : List ℕ) (most at : ℕ) (left : Budget) (rows : List ChannelRow) → (IsBlock f 0 Cn → ⊥) → AreChannels f at rows
    → length rows ≤ most → EnoughFor f rows left → (rest : Budget) × (channels_from f most at left ≡ Ok (rows, most - length rows, rest))
channels_there f most at left rows none are few enough =
    let all = chain_all_reached f Cn (λ (row : ChannelRow). row.at) (IsChannel f) (channel f) (EnoughFor f) none
    (λ row behind before here is short.
    let read = channel_there f row before here is (record { text = omega (arith, short.text); conversions = omega (arith, short.conversions) }) in
    let falls = channel_falls f row.at before (row, link_at f row.at 0, read.0) read.1 in (
      read.0,
      read.1,
      record { text = omega (arith, short.text, falls.text); conversions = omega (arith, short.conversions, falls.conversions) },
    ))
    (full whats.Cn Cn f) rows most at left few are.chain are.each enough in
    (all.0, all.1)

-- a channel group
group_there : (f : List ℕ) (row : GroupRow) (left : Room) → (IsBlock f 0 Cn → ⊥) → IsBlock f row.at Cg → IsGroup f row
    → length row.channels ≤ left.channels → IsEnough (group_cost f row) left.budget
    → (rest : Room) × (group f row.at left ≡ Ok (row, link_at f row.at 0, rest))
unfolding group group_contents group_links label
group_there f row left none here is few enough =
    let links = is.links in
    let cost_is : group_cost f (record row { name = links.name; source = links.source; comment = links.comment }) ≡ group_cost f row =
    ap (λ (r : GroupRow). group_cost f (record row { name = r.name; source = r.source; comment = r.comment })) (sym is.fields) in
    let cost = subst (λ (c : Cost). IsEnough c left.budget) (sym cost_is) enough in
    let one = less_text (note_size links.name) left.budget in
    let first = block_some f row.at Cg refl here in
    let second = words_reached f (link_at f row.at 2) left.budget links.name is.name (omega (arith, cost.text)) in
    let third = source_link_there f (link_at f row.at 3) one links.source is.source
    (record { text = omega (arith, cost.text); conversions = omega (arith, cost.conversions) }) in
    let two = source_link_falls f (link_at f row.at 3) one (links.source, third.0) third.1 in
    let fourth = words_reached f (link_at f row.at 5) third.0 links.comment is.comment (omega (arith, cost.text, two.text)) in
    let three = less_text (note_size links.comment) third.0 in
    let fifth = channels_there f left.channels (link_at f row.at 1) three row.channels none is.channels few
    (record { text = omega (arith, cost.text, two.text); conversions = omega (arith, cost.conversions, two.conversions) }) in
    let rest : Room = record {
      channels = left.channels - length row.channels;
      budget = with_dropped (link_count (link_at f row.at 4)) fifth.0;
    } in
    (rest, rw (first, second, third.1, fourth, fifth.1) (ap (λ (r : GroupRow). Ok (r, link_at f row.at 0, rest)) (sym is.fields)))

-- channel groups along their links
record HasRoomFor (f : List ℕ) (rows : List GroupRow) (left : Room) : Type 0 where
  channels : sum_by channel_count rows ≤ left.channels
  cost : IsEnough (total (map (group_cost f) rows)) left.budget

groups_there : (f : List ℕ) (most at : ℕ) (left : Room) (rows : List GroupRow) → (IsBlock f 0 Cn → ⊥) → (IsBlock f 0 Cg → ⊥) → AreGroups f at rows
    → length rows ≤ most → HasRoomFor f rows left → (rest : Room) × (groups_from f most at left ≡ Ok (rows, most - length rows, rest))
groups_there f most at left rows none_cn none_cg are few enough =
    let all = chain_all_reached f Cg (λ (row : GroupRow). row.at) (IsGroup f) (group f) (HasRoomFor f) none_cg
    (λ row behind before here is short.
    let places : sum_by channel_count (row ∷ behind) ≡ channel_count row + sum_by channel_count behind = sum_by-cons channel_count row behind in
    let read = group_there f row before none_cn here is (omega (arith, short.channels, places))
    (record { text = omega (arith, short.cost.text); conversions = omega (arith, short.cost.conversions) }) in
    let takes = group_takes f row.at before (row, link_at f row.at 0, read.0) read.1 in (
      read.0,
      read.1,
      record {
        channels = omega (arith, short.channels, places, takes.channels);
        cost = record {
          text = omega (arith, short.cost.text, takes.budget.text);
          conversions = omega (arith, short.cost.conversions, takes.budget.conversions);
        };
      },
    ))
    (full whats.Cg Cg f) rows most at left few are.chain are.each enough in
    (all.0, all.1)

-- a data group
data_group_there : (f : List ℕ) (row : DataRow) (left : DataRoom) → (IsBlock f 0 Cn → ⊥) → (IsBlock f 0 Cg → ⊥) → IsBlock f row.at Dg → IsDataGroup f row
    → length row.groups ≤ left.groups → channels_of row ≤ left.room.channels → IsEnough (data_cost f row) left.room.budget
    → (rest : DataRoom) × (data_group f row.at left ≡ Ok (row, link_at f row.at 0, rest))
unfolding data_group data_contents
data_group_there f row left none_cn none_cg here is few several enough =
    let one = less_text (note_size row.comment) left.room.budget in
    let start : Room = record { channels = left.room.channels; budget = one } in
    let first = block_some f row.at Dg refl here in
    let second = words_reached f (link_at f row.at 3) left.room.budget row.comment is.comment (omega (arith, enough.text)) in
    let third = groups_there f left.groups (link_at f row.at 1) start row.groups none_cn none_cg is.groups few (record {
      channels = several;
      cost = record { text = omega (arith, enough.text); conversions = omega (arith, enough.conversions) };
    }) in
    let rest : DataRoom = record {
      groups = left.groups - length row.groups;
      room = record { channels = third.0.channels; budget = with_dropped (unnamed_count row.groups) third.0.budget };
    } in
    (rest, rw (first, second, third.1) (ap (λ (r : DataRow). Ok (r, link_at f row.at 0, rest)) (sym is.fields)))

-- all data groups
record HasDataRoomFor (f : List ℕ) (rows : List DataRow) (left : DataRoom) : Type 0 where
  groups : sum_by group_count rows ≤ left.groups
  channels : sum_by channels_of rows ≤ left.room.channels
  cost : IsEnough (rows_cost f rows) left.room.budget

pub rows_there : (f : List ℕ) (at : ℕ) (left : Budget) (rows : List DataRow) → (IsBlock f 0 Cn → ⊥) → (IsBlock f 0 Cg → ⊥) → (IsBlock f 0 Dg → ⊥)
    → AreDataGroups f at rows → AreFew rows → IsEnough (rows_cost f rows) left → (rest : Budget) × (groups f at left ≡ Ok (rows, rest))
unfolding groups
rows_there f at left rows none_cn none_cg none_dg are few enough =
    let start : DataRoom = record { groups = 65535; room = record { channels = 1048576; budget = left } } in
    let all = chain_all_reached f Dg (λ (row : DataRow). row.at) (IsDataGroup f) (data_group f) (HasDataRoomFor f) none_dg
    (λ row behind before here is short.
    let some : sum_by group_count (row ∷ behind) ≡ group_count row + sum_by group_count behind = sum_by-cons group_count row behind in
    let many : sum_by channels_of (row ∷ behind) ≡ channels_of row + sum_by channels_of behind = sum_by-cons channels_of row behind in
    let read = data_group_there f row before none_cn none_cg here is (omega (arith, short.groups, some)) (omega (arith, short.channels, many))
    (record { text = omega (arith, short.cost.text); conversions = omega (arith, short.cost.conversions) }) in
    let takes = data_takes f row.at before (row, link_at f row.at 0, read.0) read.1 in (
      read.0,
      read.1,
      record {
        groups = omega (arith, short.groups, some, takes.groups);
        channels = omega (arith, short.channels, many, takes.channels);
        cost = record {
          text = omega (arith, short.cost.text, takes.budget.text);
          conversions = omega (arith, short.cost.conversions, takes.budget.conversions);
        };
      },
    ))
    (full whats.Dg Dg f) rows 65535 at start few.data_groups are.chain are.each
    (record { groups = few.groups; channels = few.channels; cost = enough }) in
    (all.0.room.budget, ap (λ (read : Read (List DataRow × ℕ × DataRoom)). read >>= λ found. Ok (found.0, found.2.room.budget)) all.1)
