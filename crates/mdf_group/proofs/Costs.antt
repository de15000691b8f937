-- The rows that are read cost what the definitions say, and are few.
use Rattle.std.proofs.Common.{◌≡◌, ◌+◌, ℕ, zero, suc, List, [], ◌∷◌, length, map, Option, Some, None, Ok, get_or, refl, sym, subst, inl, inr, arith}
use Rattle.std.specs.Prelude.{nat_eq, sum_by}
use Rattle.std.proofs.lemmas.Bool.{cond-true, cond-false}
use Rattle.std.proofs.lemmas.List.Sums.{sum_by-cons}
use Rattle.mdf_format.specs.Block.{link_at}
use Rattle.mdf_format.specs.declared.kind.Kind.TheVariants.{Dg, Cg, Cn}
use Rattle.mdf_block.specs.declared.what.What.TheVariants as whats
use Rattle.mdf_block.specs.declared.place.BlockAt.{BlockAt}
use Rattle.mdf_block.specs.Refusal.{Read, ◌>>=◌}
use Rattle.mdf_block.specs.Block.{block, body_of}
use Rattle.mdf_block.specs.Chain.{Step, chain, full}
use Rattle.mdf_block.proofs.Refusals.{bind_ok}
use Rattle.mdf_block.proofs.Wholes.{chosen}
use Rattle.mdf_block.proofs.Chains.{full_none}
use Rattle.mdf_conv.specs.declared.limits.Budget.{Budget}
use Rattle.mdf_conv.specs.declared.row.SourceInfo.{SourceInfo}
use Rattle.mdf_conv.specs.declared.row.Conversion.{Conversion}
use Rattle.mdf_conv.specs.Left.{with_dropped, link_count}
use Rattle.mdf_conv.specs.Conv.{words, source, conversion}
use Rattle.mdf_conv.specs.Link.{source_of_link, conv_of_link}
use Rattle.mdf_conv.specs.Cost.{Cost, nothing, both, total, dropped_links, note_cost, conv_cost}
use Rattle.mdf_conv.proofs.Founds.{ok_injective}
use Rattle.mdf_conv.proofs.Costs.{Falls, falls_not, falls_both, falls_as, falls_dropped, words_falls, source_falls, conv_falls}
use Rattle.mdf_group.specs.declared.room.Label.{Label}
use Rattle.mdf_group.specs.declared.room.ChannelOrigin.{ChannelOrigin}
use Rattle.mdf_group.specs.declared.room.ChannelTexts.{ChannelTexts}
use Rattle.mdf_group.specs.declared.room.ChannelLinks.{ChannelLinks}
use Rattle.mdf_group.specs.declared.room.GroupLinks.{GroupLinks}
use Rattle.mdf_group.specs.declared.room.GroupContents.{GroupContents}
use Rattle.mdf_group.specs.declared.room.DataContents.{DataContents}
use Rattle.mdf_group.specs.declared.room.Room.{Room}
use Rattle.mdf_group.specs.declared.room.DataRoom.{DataRoom}
use Rattle.mdf_group.specs.declared.row.ChannelRow.{ChannelRow}
use Rattle.mdf_group.specs.declared.row.GroupRow.{GroupRow}
use Rattle.mdf_group.specs.declared.row.DataRow.{DataRow}
use Rattle.mdf_group.specs.Link.{label, channel_origin, channel_texts, channel_links, group_links}
use Rattle.mdf_group.specs.Channel.{accepted, passed_of, channel_of_block, channel, channels_from}
use Rattle.mdf_group.specs.Group.{unnamed_count, group_contents, group, groups_from, data_contents, data_group, data_groups_from}
use Rattle.mdf_group.specs.Cost.{source_link_cost, conv_link_cost, channel_cost, group_cost, data_cost, rows_cost, channels_of, AreFew}

-- what a chain holds, by its items one after another: the state before, the items, the state behind them, and how many
-- fewer may come
module _ {A S : Type 0} (step : Step A S) (full_at : ℕ → Read (List A × ℕ × S)) (none : (at : ℕ) (y : List A × ℕ × S) → full_at at ≡ Ok y → ⊥)
    (P : S → List A → S → Type 0) (base : (s : S) → P s [] s)
    (more : (at : ℕ) (left : S) (first : A × ℕ × S) (rest : List A) (last : S) → step at left ≡ Ok first → P first.2 rest last → P left (first.0 ∷ rest) last) where
  chain_holds : (room at : ℕ) (left : S) (found : List A × ℕ × S) → chain step full_at room at left ≡ Ok found
      → P left found.0 found.2 × (found.1 + length found.0 ≡ room)
  unfolding chain
  chain_holds zero at left found is =
      elim (chosen (nat_eq at 0) (Ok ([], zero, left)) (full_at at) (Ok found) is) [
        | inl last ↦ subst (λ (y : List A × ℕ × S). P left y.0 y.2 × (y.1 + length y.0 ≡ zero)) (ok_injective ([], zero, left) found last.1) (base left, refl)
        | inr past ↦ absurd (none at found past.1)
      ]
  chain_holds (suc room) at left found is =
      elim (chosen (nat_eq at 0) (Ok ([], suc room, left))
      (step at left >>= λ first. chain step full_at room first.1 first.2 >>= λ rest. Ok (first.0 ∷ rest.0, rest.1, rest.2)) (Ok found) is) [
        | inl last ↦ subst (λ (y : List A × ℕ × S). P left y.0 y.2 × (y.1 + length y.0 ≡ suc room)) (ok_injective ([], suc room, left) found last.1)
            (base left, omega arith)
        | inr goes ↦
            let first = bind_ok (step at left) (λ first. chain step full_at room first.1 first.2 >>= λ rest. Ok (first.0 ∷ rest.0, rest.1, rest.2)) found goes.1 in
            let rest = bind_ok (chain step full_at room first.0.1 first.0.2) (λ rest. Ok (first.0.0 ∷ rest.0, rest.1, rest.2)) found first.2 in
            let behind = chain_holds room first.0.1 first.0.2 rest.0 rest.1 in
            let count : rest.0.1 + length (first.0.0 ∷ rest.0.0) ≡ suc room = omega (arith, behind.1) in
            subst (λ (y : List A × ℕ × S). P left y.0 y.2 × (y.1 + length y.0 ≡ suc room)) (ok_injective _ _ rest.2)
            (more at left first.0 rest.0.0 rest.0.2 first.1 behind.0, count)
      ]

-- the source and the conversion of a link
pub source_link_falls : (f : List ℕ) (at : ℕ) (left : Budget) (found : Option SourceInfo × Budget) → source_of_link f at left ≡ Ok found
    → Falls left (source_link_cost found.0) found.1
unfolding source_of_link
source_link_falls f at left found is =
    elim (chosen (nat_eq at 0) (Ok (None, left)) (source f at left >>= λ y. Ok (Some y.0, y.1)) (Ok found) is) [
      | inl none ↦ subst (λ (y : Option SourceInfo × Budget). Falls left (source_link_cost y.0) y.1) (ok_injective (None, left) found none.1) (falls_not left)
      | inr some ↦
          let parts = bind_ok (source f at left) (λ y. Ok (Some y.0, y.1)) found some.1 in
          subst (λ (y : Option SourceInfo × Budget). Falls left (source_link_cost y.0) y.1) (ok_injective (Some parts.0.0, parts.0.1) found parts.2)
          (source_falls f at left parts.0 parts.1)
    ]

pub conv_link_falls : (f : List ℕ) (at : ℕ) (left : Budget) (found : Option Conversion × Budget) → conv_of_link f at left ≡ Ok found
    → Falls left (conv_link_cost f at) found.1
unfolding conv_of_link conv_link_cost
conv_link_falls f at left found is =
    elim (chosen (nat_eq at 0) (Ok (None, left)) (conversion f at left >>= λ y. Ok (Some y.0, y.1)) (Ok found) is) [
      | inl none ↦
          let whole : Falls left nothing found.1 =
          subst (λ (y : Option Conversion × Budget). Falls left nothing y.1) (ok_injective (None, left) found none.1) (falls_not left) in
          subst (λ (c : Cost). Falls left c found.1) (sym (cond-true (nat_eq at 0) nothing (conv_cost 4 f at) none.0)) whole
      | inr some ↦
          let parts = bind_ok (conversion f at left) (λ y. Ok (Some y.0, y.1)) found some.1 in
          let whole : Falls left (conv_cost 4 f at) found.1 =
          subst (λ (y : Option Conversion × Budget). Falls left (conv_cost 4 f at) y.1) (ok_injective (Some parts.0.0, parts.0.1) found parts.2)
          (conv_falls 4 f at left parts.0 parts.1) in
          subst (λ (c : Cost). Falls left c found.1) (sym (cond-false (nat_eq at 0) nothing (conv_cost 4 f at) some.0)) whole
    ]

-- three costs one after another
-- a name and a source
abbrev pub label_cost : Label → Cost
label_cost first = both (note_cost first.name) (source_link_cost first.source)

label_falls : (f : List ℕ) (at : ℕ) (left : Budget) (found : Label × Budget) → label f at left ≡ Ok found
    → Falls left (label_cost found.0) found.1
unfolding label
label_falls f at left found is =
    let name = bind_ok (words f (link_at f at 2) left) _ found is in
    let source = bind_ok (source_of_link f (link_at f at 3) name.0.1) _ found name.2 in
    subst (λ (y : Label × Budget). Falls left (label_cost y.0) y.1) (ok_injective _ _ source.2)
    (falls_both left _ name.0.1 _ source.0.1 (words_falls f _ left name.0 name.1) (source_link_falls f _ name.0.1 source.0 source.1))

-- what the links of a channel lead to
abbrev pub origin_cost : List ℕ → ℕ → ChannelOrigin → Cost
origin_cost f at origin = both (label_cost (record { name = origin.name; source = origin.source })) (conv_link_cost f (link_at f at 4))

origin_falls : (f : List ℕ) (at : ℕ) (left : Budget) (found : ChannelOrigin × Budget) → channel_origin f at left ≡ Ok found
    → Falls left (origin_cost f at found.0) found.1
unfolding channel_origin
origin_falls f at left found is =
    let first = bind_ok (label f at left) _ found is in
    let conv = bind_ok (conv_of_link f (link_at f at 4) first.0.1) _ found first.2 in
    subst (λ (y : ChannelOrigin × Budget). Falls left (origin_cost f at y.0) y.1) (ok_injective _ _ conv.2)
    (falls_both left _ first.0.1 _ conv.0.1 (label_falls f at left first.0 first.1) (conv_link_falls f _ first.0.1 conv.0 conv.1))

abbrev pub texts_cost : ChannelTexts → Cost
texts_cost texts = both (note_cost texts.unit) (note_cost texts.comment)

texts_fall : (f : List ℕ) (at : ℕ) (left : Budget) (found : ChannelTexts × Budget) → channel_texts f at left ≡ Ok found
    → Falls left (texts_cost found.0) found.1
unfolding channel_texts
texts_fall f at left found is =
    let unit = bind_ok (words f (link_at f at 6) left) _ found is in
    let comment = bind_ok (words f (link_at f at 7) unit.0.1) _ found unit.2 in
    subst (λ (y : ChannelTexts × Budget). Falls left (texts_cost y.0) y.1) (ok_injective _ _ comment.2)
    (falls_both left _ unit.0.1 _ comment.0.1 (words_falls f _ left unit.0 unit.1) (words_falls f _ unit.0.1 comment.0 comment.1))

abbrev pub links_cost : List ℕ → ℕ → ChannelLinks → Cost
links_cost f at links =
    both (origin_cost f at (record { name = links.name; source = links.source; conv = links.conv }))
    (texts_cost (record { unit = links.unit; comment = links.comment }))

links_fall : (f : List ℕ) (at : ℕ) (left : Budget) (found : ChannelLinks × Budget) → channel_links f at left ≡ Ok found
    → Falls left (links_cost f at found.0) found.1
unfolding channel_links
links_fall f at left found is =
    let origin = bind_ok (channel_origin f at left) _ found is in
    let texts = bind_ok (channel_texts f at origin.0.1) _ found origin.2 in
    subst (λ (y : ChannelLinks × Budget). Falls left (links_cost f at y.0) y.1) (ok_injective _ _ texts.2)
    (falls_both left _ origin.0.1 _ texts.0.1 (origin_falls f at left origin.0 origin.1) (texts_fall f at origin.0.1 texts.0 texts.1))

-- a channel
pub channel_falls : (f : List ℕ) (at : ℕ) (left : Budget) (found : ChannelRow × ℕ × Budget) → channel f at left ≡ Ok found
    → Falls left (channel_cost f found.0) found.2
unfolding channel channel_of_block
channel_falls f at left found is =
    let first = bind_ok (block f at Cn) _ found is in
    let read = bind_ok (accepted first.0.at (get_or (body_of f first.0) 0 0) (get_or (body_of f first.0) 2 0)) _ found first.2 in
    let links = bind_ok (channel_links f first.0.at left) _ found read.2 in
    let dropped = (passed_of f first.0).composed + (passed_of f first.0).extra in
    let all : Falls left (both (links_cost f first.0.at links.0.0) (dropped_links dropped)) (with_dropped dropped links.0.1) =
    falls_both left (links_cost f first.0.at links.0.0) links.0.1 (dropped_links dropped) (with_dropped dropped links.0.1)
    (links_fall f first.0.at left links.0 links.1) (falls_dropped links.0.1 dropped) in
    subst (λ (y : ChannelRow × ℕ × Budget). Falls left (channel_cost f y.0) y.2) (ok_injective _ _ links.2)
    (falls_as left _ _ _ all (omega arith) (omega arith) (omega arith))

-- the channels of a group
abbrev ChannelsTake : List ℕ → Budget → List ChannelRow → Budget → Type 0
ChannelsTake f left rows rest = Falls left (total (map (channel_cost f) rows)) rest

channels_take : (f : List ℕ) (most at : ℕ) (left : Budget) (found : List ChannelRow × ℕ × Budget) → channels_from f most at left ≡ Ok found
    → ChannelsTake f left found.0 found.2 × (found.1 + length found.0 ≡ most)
channels_take f most at left found is =
    chain_holds (channel f) (full whats.Cn Cn f) (λ a y. full_none (List ChannelRow × ℕ × Budget) whats.Cn Cn f a y)
    (ChannelsTake f) falls_not
    (λ a before first rest last step behind.
    falls_both before (channel_cost f first.0) first.2 (total (map (channel_cost f) rest)) last (channel_falls f a before first step) behind)
    most at left found is

-- what a channel group takes
pub record GroupTakes (cost : Cost) (count : ℕ) (left rest : Room) : Type 0 where
  pub budget : Falls left.budget cost rest.budget
  pub channels : rest.channels + count ≡ left.channels

abbrev group_links_cost : GroupLinks → Cost
group_links_cost links = both (label_cost (record { name = links.name; source = links.source })) (note_cost links.comment)

group_links_fall : (f : List ℕ) (at : ℕ) (left : Budget) (found : GroupLinks × Budget) → group_links f at left ≡ Ok found
    → Falls left (group_links_cost found.0) found.1
unfolding group_links
group_links_fall f at left found is =
    let first = bind_ok (label f at left) _ found is in
    let comment = bind_ok (words f (link_at f at 5) first.0.1) _ found first.2 in
    subst (λ (y : GroupLinks × Budget). Falls left (group_links_cost y.0) y.1) (ok_injective _ _ comment.2)
    (falls_both left _ first.0.1 _ comment.0.1 (label_falls f at left first.0 first.1) (words_falls f _ first.0.1 comment.0 comment.1))

contents_take : (f : List ℕ) (b : BlockAt) (left : Room) (found : GroupContents × Room) → group_contents f b left ≡ Ok found
    → GroupTakes (both (group_links_cost found.0.links) (total (map (channel_cost f) found.0.rows))) (length found.0.rows) left found.1
unfolding group_contents
contents_take f b left found is =
    let links = bind_ok (group_links f b.at left.budget) _ found is in
    let rows = bind_ok (channels_from f left.channels (link_at f b.at 1) links.0.1) _ found links.2 in
    let taken = channels_take f left.channels (link_at f b.at 1) links.0.1 rows.0 rows.1 in
    subst (λ (y : GroupContents × Room). GroupTakes (both (group_links_cost y.0.links) (total (map (channel_cost f) y.0.rows))) (length y.0.rows) left y.1)
    (ok_injective _ _ rows.2)
    (record {
      budget = falls_both left.budget _ links.0.1 _ rows.0.2 (group_links_fall f b.at left.budget links.0 links.1) taken.0;
      channels = taken.1;
    })

pub group_takes : (f : List ℕ) (at : ℕ) (left : Room) (found : GroupRow × ℕ × Room) → group f at left ≡ Ok found
    → GroupTakes (group_cost f found.0) (length found.0.channels) left found.2
unfolding group
group_takes f at left found is =
    let first = bind_ok (block f at Cg) _ found is in
    let contents = bind_ok (group_contents f first.0 left) _ found first.2 in
    let taken = contents_take f first.0 left contents.0 contents.1 in
    let dropped = link_count (link_at f first.0.at 4) in
    let all : Falls left.budget (both (both (group_links_cost contents.0.0.links) (total (map (channel_cost f) contents.0.0.rows))) (dropped_links dropped))
    (with_dropped dropped contents.0.1.budget) =
    falls_both left.budget _ contents.0.1.budget (dropped_links dropped) _ taken.budget (falls_dropped contents.0.1.budget dropped) in
    subst (λ (y : GroupRow × ℕ × Room). GroupTakes (group_cost f y.0) (length y.0.channels) left y.2) (ok_injective _ _ contents.2)
    (record { budget = falls_as left.budget _ _ _ all (omega arith) (omega arith) (omega arith); channels = taken.channels })

abbrev pub channel_count : GroupRow → ℕ
channel_count row = length row.channels

-- sums over one row more
sum_more : {X : Type 0} (g : X → ℕ) (x : X) (xs : List X) (before middle after : ℕ) → middle + g x ≡ before → after + sum_by g xs ≡ middle
    → after + sum_by g (x ∷ xs) ≡ before
sum_more g x xs before middle after first rest = omega (arith, sum_by-cons g x xs, first, rest)

-- the channel groups of a data group
abbrev GroupsTake : List ℕ → Room → List GroupRow → Room → Type 0
GroupsTake f left rows rest = GroupTakes (total (map (group_cost f) rows)) (sum_by channel_count rows) left rest

groups_take : (f : List ℕ) (most at : ℕ) (left : Room) (found : List GroupRow × ℕ × Room) → groups_from f most at left ≡ Ok found
    → GroupsTake f left found.0 found.2 × (found.1 + length found.0 ≡ most)
groups_take f most at left found is =
    chain_holds (group f) (full whats.Cg Cg f) (λ a y. full_none (List GroupRow × ℕ × Room) whats.Cg Cg f a y)
    (GroupsTake f) (λ s. record { budget = falls_not s.budget; channels = omega arith })
    (λ a before first rest last step behind.
    let here = group_takes f a before first step in
    record {
      budget = falls_both before.budget _ first.2.budget _ last.budget here.budget behind.budget;
      channels = sum_more channel_count first.0 rest before.channels first.2.channels last.channels here.channels behind.channels;
    })
    most at left found is

-- what a data group takes
pub record DataTakes (cost : Cost) (group_rows channel_rows : ℕ) (left rest : DataRoom) : Type 0 where
  pub budget : Falls left.room.budget cost rest.room.budget
  pub groups : rest.groups + group_rows ≡ left.groups
  pub channels : rest.room.channels + channel_rows ≡ left.room.channels

data_contents_take : (f : List ℕ) (b : BlockAt) (left : DataRoom) (found : DataContents × DataRoom) → data_contents f b left ≡ Ok found
    → DataTakes (both (note_cost found.0.comment) (total (map (group_cost f) found.0.rows))) (length found.0.rows)
    (sum_by channel_count found.0.rows) left found.1
unfolding data_contents
data_contents_take f b left found is =
    let text = bind_ok (words f (link_at f b.at 3) left.room.budget) _ found is in
    let start : Room = record { channels = left.room.channels; budget = text.0.1 } in
    let rows = bind_ok (groups_from f left.groups (link_at f b.at 1) start) _ found text.2 in
    let taken = groups_take f left.groups (link_at f b.at 1) start rows.0 rows.1 in
    subst (λ (y : DataContents × DataRoom). DataTakes (both (note_cost y.0.comment) (total (map (group_cost f) y.0.rows))) (length y.0.rows)
    (sum_by channel_count y.0.rows) left y.1) (ok_injective _ _ rows.2)
    (record {
      budget = falls_both left.room.budget _ text.0.1 _ rows.0.2.budget (words_falls f _ left.room.budget text.0 text.1) taken.0.budget;
      groups = taken.1;
      channels = taken.0.channels;
    })

pub data_takes : (f : List ℕ) (at : ℕ) (left : DataRoom) (found : DataRow × ℕ × DataRoom) → data_group f at left ≡ Ok found
    → DataTakes (data_cost f found.0) (length found.0.groups) (channels_of found.0) left found.2
unfolding data_group
data_takes f at left found is =
    let first = bind_ok (block f at Dg) _ found is in
    let contents = bind_ok (data_contents f first.0 left) _ found first.2 in
    let taken = data_contents_take f first.0 left contents.0 contents.1 in
    let dropped = unnamed_count contents.0.0.rows in
    let all : Falls left.room.budget (both (both (note_cost contents.0.0.comment) (total (map (group_cost f) contents.0.0.rows))) (dropped_links dropped))
    (with_dropped dropped contents.0.1.room.budget) =
    falls_both left.room.budget _ contents.0.1.room.budget (dropped_links dropped) _ taken.budget (falls_dropped contents.0.1.room.budget dropped) in
    subst (λ (y : DataRow × ℕ × DataRoom). DataTakes (data_cost f y.0) (length y.0.groups) (channels_of y.0) left y.2) (ok_injective _ _ contents.2)
    (record {
      budget = falls_as left.room.budget _ _ _ all (omega arith) (omega arith) (omega arith);
      groups = taken.groups;
      channels = taken.channels;
    })

abbrev pub group_count : DataRow → ℕ
group_count row = length row.groups

abbrev AllTake : List ℕ → DataRoom → List DataRow → DataRoom → Type 0
AllTake f left rows rest = DataTakes (rows_cost f rows) (sum_by group_count rows) (sum_by channels_of rows) left rest

all_take : (f : List ℕ) (most at : ℕ) (left : DataRoom) (found : List DataRow × ℕ × DataRoom)
    → chain (data_group f) (full whats.Dg Dg f) most at left ≡ Ok found → AllTake f left found.0 found.2 × (found.1 + length found.0 ≡ most)
all_take f most at left found is =
    chain_holds (data_group f) (full whats.Dg Dg f) (λ a y. full_none (List DataRow × ℕ × DataRoom) whats.Dg Dg f a y)
    (AllTake f) (λ s. record { budget = falls_not s.room.budget; groups = omega arith; channels = omega arith })
    (λ a before first rest last step behind.
    let here = data_takes f a before first step in
    record {
      budget = falls_both before.room.budget _ first.2.room.budget _ last.room.budget here.budget behind.budget;
      groups = sum_more group_count first.0 rest before.groups first.2.groups last.groups here.groups behind.groups;
      channels = sum_more channels_of first.0 rest before.room.channels first.2.room.channels last.room.channels here.channels behind.channels;
    })
    most at left found is

-- all rows
pub rows_take : (f : List ℕ) (at : ℕ) (left : Budget) (found : List DataRow × ℕ × DataRoom) → data_groups_from f at left ≡ Ok found
    → Falls left (rows_cost f found.0) found.2.room.budget × AreFew found.0
rows_take f at left found is =
    let start : DataRoom = record { groups = 65535; room = record { channels = 1048576; budget = left } } in
    let taken = all_take f 65535 at start found is in
    let few : AreFew found.0 = record {
      data_groups = omega (arith, taken.1);
      groups = omega (arith, taken.0.groups);
      channels = omega (arith, taken.0.channels);
    } in (taken.0.budget, few)
