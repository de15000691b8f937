-- What the reader of groups refuses is true of the file.
use Rattle.std.proofs.Common.{◌≡◌, ◌⊎◌, ℕ, Bool, true, false, List, [], ◌∷◌, length, Ok, get_or, refl, sym, subst, inl, inr}
use Rattle.std.specs.Prelude.{◌||◌, nat_eq, nat_lt}
use Rattle.std.proofs.lemmas.Bool.{leb-true, eqb-true}
use Rattle.mdf_format.specs.Block.{link_at, body_at, IsBlock}
use Rattle.mdf_format.specs.declared.kind.Kind.TheVariants.{Dg, Cg, Cn}
use Rattle.mdf_block.specs.declared.what.What.TheVariants as whats
use Rattle.mdf_block.specs.declared.place.BlockAt.{BlockAt}
use Rattle.mdf_block.specs.Refusal.{ChannelKind, ChannelType}
use Rattle.mdf_block.specs.Block.{block, body_of}
use Rattle.mdf_block.specs.Chain.{full}
use Rattle.mdf_block.specs.Limit.{HoldsMany, AreBefore}
use Rattle.mdf_block.specs.Truth.{IsTrueOf, IsOtherKind}
use Rattle.mdf_block.proofs.Wholes.{block_found}
use Rattle.mdf_block.proofs.Truths.{refusing_none, refusing_one, refusing_then, refusing_if, refusing_behind, refusing_past, block_true, full_true}
use Rattle.mdf_block.proofs.Limits.{FallsBy, Passes, falls_by_none, falls_by_more, passes_inside}
use Rattle.mdf_conv.specs.declared.limits.Budget.{Budget}
use Rattle.mdf_conv.specs.Conv.{words, source, conversion}
use Rattle.mdf_conv.specs.Link.{source_of_link, conv_of_link}
use Rattle.mdf_conv.proofs.Truths.{Honest, words_true, source_true, conv_true}
use Rattle.mdf_group.specs.declared.room.Room.{Room}
use Rattle.mdf_group.specs.declared.room.DataRoom.{DataRoom}
use Rattle.mdf_group.specs.declared.row.ChannelRow.{ChannelRow}
use Rattle.mdf_group.specs.declared.row.GroupRow.{GroupRow}
use Rattle.mdf_group.specs.declared.row.DataRow.{DataRow}
use Rattle.mdf_group.specs.Link.{label, channel_origin, channel_texts, channel_links, group_links}
use Rattle.mdf_group.specs.Channel.{is_refused_kind, accepted, channel_of_block, channel, channels_from}
use Rattle.mdf_group.specs.Group.{group_contents, group, groups_from, data_contents, data_group, data_groups_from, groups}
use Rattle.mdf_group.specs.Cost.{channels_of}
use Rattle.mdf_group.specs.Standing.{IsChannel, IsGroup, IsDataGroup}
use Rattle.mdf_group.proofs.Stands.{finds_go_along, channel_finds, group_finds, data_group_finds}
use Rattle.mdf_group.proofs.Costs.{group_takes, data_takes}
use Rattle.mdf_group.proofs.Held.{group_holds, data_holds_groups, data_holds_channels}

source_link_true : (f : List ℕ) (at : ℕ) (left : Budget) → Honest f (source_of_link f at left)
unfolding source_of_link
source_link_true f at left =
    refusing_if (IsTrueOf f) (nat_eq at 0) _ _ (λ _. refusing_none (IsTrueOf f) _)
    (λ _. refusing_then (IsTrueOf f) (source f at left) _ (source_true f at left) (λ found _. refusing_none (IsTrueOf f) _))

conv_link_true : (f : List ℕ) (at : ℕ) (left : Budget) → Honest f (conv_of_link f at left)
unfolding conv_of_link
conv_link_true f at left =
    refusing_if (IsTrueOf f) (nat_eq at 0) _ _ (λ _. refusing_none (IsTrueOf f) _)
    (λ _. refusing_then (IsTrueOf f) (conversion f at left) _ (conv_true f at left) (λ found _. refusing_none (IsTrueOf f) _))

label_true : (f : List ℕ) (at : ℕ) (left : Budget) → Honest f (label f at left)
unfolding label
label_true f at left =
    refusing_then (IsTrueOf f) (words f (link_at f at 2) left) _ (words_true f _ left) (λ name _.
    refusing_then (IsTrueOf f) (source_of_link f (link_at f at 3) name.1) _ (source_link_true f _ name.1) (λ source _.
    refusing_none (IsTrueOf f) _))

origin_true : (f : List ℕ) (at : ℕ) (left : Budget) → Honest f (channel_origin f at left)
unfolding channel_origin
origin_true f at left =
    refusing_then (IsTrueOf f) (label f at left) _ (label_true f at left) (λ first _.
    refusing_then (IsTrueOf f) (conv_of_link f (link_at f at 4) first.1) _ (conv_link_true f _ first.1) (λ conv _.
    refusing_none (IsTrueOf f) _))

texts_true : (f : List ℕ) (at : ℕ) (left : Budget) → Honest f (channel_texts f at left)
unfolding channel_texts
texts_true f at left =
    refusing_then (IsTrueOf f) (words f (link_at f at 6) left) _ (words_true f _ left) (λ unit _.
    refusing_then (IsTrueOf f) (words f (link_at f at 7) unit.1) _ (words_true f _ unit.1) (λ comment _.
    refusing_none (IsTrueOf f) _))

links_true : (f : List ℕ) (at : ℕ) (left : Budget) → Honest f (channel_links f at left)
unfolding channel_links
links_true f at left =
    refusing_then (IsTrueOf f) (channel_origin f at left) _ (origin_true f at left) (λ origin _.
    refusing_then (IsTrueOf f) (channel_texts f at origin.1) _ (texts_true f at origin.1) (λ texts _.
    refusing_none (IsTrueOf f) _))

either_true : (one other : Bool) → (one || other) ≡ true → (one ≡ true) ⊎ (other ≡ true)
either_true true other is = inl refl
either_true false other is = inr is

-- a kind and a data type that are refused are those of the channel
other_kind : (kind : ℕ) → is_refused_kind kind ≡ true → IsOtherKind kind
other_kind kind refused =
    elim (either_true (nat_eq kind 4 || nat_eq kind 5) (nat_lt 6 kind) refused) [
      | inl low ↦
          elim (either_true (nat_eq kind 4) (nat_eq kind 5) low) [
            | inl four ↦ inl (eqb-true kind 4 four)
            | inr five ↦ inr (inl (eqb-true kind 5 five))
          ]
      | inr over ↦ inr (inr (leb-true 7 kind over))
    ]

accepted_true : (f : List ℕ) (at : ℕ) → IsBlock f at Cn → Honest f (accepted at (get_or (body_at f at) 0 0) (get_or (body_at f at) 2 0))
unfolding accepted
accepted_true f at is =
    let kind = get_or (body_at f at) 0 0 in
    let data_type = get_or (body_at f at) 2 0 in
    refusing_if (IsTrueOf f) (is_refused_kind kind) _ _
    (λ refused. refusing_one (IsTrueOf f) (ChannelKind at kind) (is, refl, other_kind kind refused))
    (λ _. refusing_if (IsTrueOf f) (nat_lt 14 data_type) _ _
    (λ over. refusing_one (IsTrueOf f) (ChannelType at data_type) (is, refl, leb-true 15 data_type over))
    (λ _. refusing_none (IsTrueOf f) tt))

channel_of_block_true : (f : List ℕ) (b : BlockAt) (left : Budget) → Honest f (channel_of_block f b left)
unfolding channel_of_block
channel_of_block_true f b left =
    refusing_then (IsTrueOf f) (channel_links f b.at left) _ (links_true f b.at left) (λ links _. refusing_none (IsTrueOf f) _)

channel_true : (f : List ℕ) (at : ℕ) (left : Budget) → Honest f (channel f at left)
unfolding channel
channel_true f at left =
    refusing_then (IsTrueOf f) (block f at Cn) _ (block_true f at Cn (λ none. none)) (λ b found.
    let here = block_found f at Cn b found in
    refusing_then (IsTrueOf f) (accepted b.at (get_or (body_of f b) 0 0) (get_or (body_of f b) 2 0)) _
    (subst (λ (c : BlockAt). Honest f (accepted c.at (get_or (body_of f c) 0 0) (get_or (body_of f c) 2 0))) (sym here.1)
    (accepted_true f at here.0))
    (λ _ _. channel_of_block_true f b left))

channels_true : (f : List ℕ) (most at : ℕ) (left : Budget) → Passes f whats.Cn Cn [] at most → Honest f (channels_from f most at left)
channels_true f most at left passes =
    refusing_past (IsTrueOf f) f Cn (channel f) (full whats.Cn Cn f)
    (finds_go_along f Cn (λ (row : ChannelRow). row.at) (IsChannel f) (channel f) (channel_finds f)) (channel_true f) most at
    (λ a before. full_true whats.Cn f Cn a (λ none. none) (λ is. is) (passes a before)) left

group_links_true : (f : List ℕ) (at : ℕ) (left : Budget) → Honest f (group_links f at left)
unfolding group_links
group_links_true f at left =
    refusing_then (IsTrueOf f) (label f at left) _ (label_true f at left) (λ first _.
    refusing_then (IsTrueOf f) (words f (link_at f at 5) first.1) _ (words_true f _ first.1) (λ comment _.
    refusing_none (IsTrueOf f) _))

contents_true : (f : List ℕ) (b : BlockAt) (left : Room) → Passes f whats.Cn Cn [] (link_at f b.at 1) left.channels
    → Honest f (group_contents f b left)
unfolding group_contents
contents_true f b left passes =
    refusing_then (IsTrueOf f) (group_links f b.at left.budget) _ (group_links_true f b.at left.budget) (λ links _.
    refusing_then (IsTrueOf f) (channels_from f left.channels (link_at f b.at 1) links.1) _
    (channels_true f left.channels (link_at f b.at 1) links.1 passes) (λ rows _. refusing_none (IsTrueOf f) _))

group_true : (f : List ℕ) (at : ℕ) (left : Room) → (IsBlock f at Cg → Passes f whats.Cn Cn [] (link_at f at 1) left.channels)
    → Honest f (group f at left)
unfolding group
group_true f at left passes =
    refusing_then (IsTrueOf f) (block f at Cg) _ (block_true f at Cg (λ none. none)) (λ b found.
    let here = block_found f at Cg b found in
    let inside = subst (λ (c : BlockAt). Passes f whats.Cn Cn [] (link_at f c.at 1) left.channels) (sym here.1) (passes here.0) in
    refusing_then (IsTrueOf f) (group_contents f b left) _ (contents_true f b left inside) (λ contents _. refusing_none (IsTrueOf f) _))

-- fewer channels may come behind a channel group
abbrev ChannelsFall : List ℕ → Room → List ℕ → Room → Type 0
ChannelsFall f before places after = FallsBy f (Cn ∷ []) before.channels places after.channels

channels_fall : (f : List ℕ) (at : ℕ) (left : Room) (x : GroupRow) (next : ℕ) (rest : Room) (places : List ℕ) (last : Room)
    → group f at left ≡ Ok (x, next, rest) → ChannelsFall f rest places last → ChannelsFall f left (at ∷ places) last
channels_fall f at left x next rest places last is behind =
    let found = (group_finds f).there at left (x, next, rest) is in
    let taken = group_takes f at left (x, next, rest) is in
    falls_by_more f (Cn ∷ []) at (length x.channels) left.channels rest.channels last.channels places
    (subst (λ (a : ℕ). HoldsMany f (Cn ∷ []) a (length x.channels)) found.0 (group_holds f x found.1.1.1)) taken.channels behind

groups_true : (f : List ℕ) (most at : ℕ) (left : Room) → Passes f whats.Cg Cg [] at most → Passes f whats.Cn Cg (Cn ∷ []) at left.channels
    → Honest f (groups_from f most at left)
unfolding AreBefore
groups_true f most at left groups channels =
    refusing_behind (IsTrueOf f) f Cg (group f) (full whats.Cg Cg f)
    (finds_go_along f Cg (λ (row : GroupRow). row.at) (IsGroup f) (group f) (group_finds f)) (ChannelsFall f)
    (λ room. falls_by_none f (Cn ∷ []) room.channels) (channels_fall f) most at left
    (λ places a rest along falls. group_true f a rest
    (passes_inside f whats.Cn Cg Cn [] at left.channels rest.channels a places channels along falls))
    (λ places a rest along falls many. full_true whats.Cg f Cg a (λ none. none) (λ is. is) (groups a (places, along, many)))

data_contents_true : (f : List ℕ) (b : BlockAt) (left : DataRoom) → Passes f whats.Cg Cg [] (link_at f b.at 1) left.groups
    → Passes f whats.Cn Cg (Cn ∷ []) (link_at f b.at 1) left.room.channels → Honest f (data_contents f b left)
unfolding data_contents
data_contents_true f b left groups channels =
    refusing_then (IsTrueOf f) (words f (link_at f b.at 3) left.room.budget) _ (words_true f _ left.room.budget) (λ comment _.
    refusing_then (IsTrueOf f) (groups_from f left.groups (link_at f b.at 1) (record left.room { budget = comment.1 })) _
    (groups_true f left.groups (link_at f b.at 1) (record left.room { budget = comment.1 }) groups channels)
    (λ rows _. refusing_none (IsTrueOf f) _))

data_group_true : (f : List ℕ) (at : ℕ) (left : DataRoom) → (IsBlock f at Dg → Passes f whats.Cg Cg [] (link_at f at 1) left.groups)
    → (IsBlock f at Dg → Passes f whats.Cn Cg (Cn ∷ []) (link_at f at 1) left.room.channels) → Honest f (data_group f at left)
unfolding data_group
data_group_true f at left groups channels =
    refusing_then (IsTrueOf f) (block f at Dg) _ (block_true f at Dg (λ none. none)) (λ b found.
    let here = block_found f at Dg b found in
    let groups_inside = subst (λ (c : BlockAt). Passes f whats.Cg Cg [] (link_at f c.at 1) left.groups) (sym here.1) (groups here.0) in
    let channels_inside =
    subst (λ (c : BlockAt). Passes f whats.Cn Cg (Cn ∷ []) (link_at f c.at 1) left.room.channels) (sym here.1) (channels here.0) in
    refusing_then (IsTrueOf f) (data_contents f b left) _ (data_contents_true f b left groups_inside channels_inside)
    (λ contents _. refusing_none (IsTrueOf f) _))

-- fewer channel groups and channels may come behind a data group
abbrev DataFalls : List ℕ → DataRoom → List ℕ → DataRoom → Type 0
DataFalls f before places after =
    FallsBy f (Cg ∷ []) before.groups places after.groups × FallsBy f (Cg ∷ Cn ∷ []) before.room.channels places after.room.channels

data_falls : (f : List ℕ) (at : ℕ) (left : DataRoom) (x : DataRow) (next : ℕ) (rest : DataRoom) (places : List ℕ) (last : DataRoom)
    → data_group f at left ≡ Ok (x, next, rest) → DataFalls f rest places last → DataFalls f left (at ∷ places) last
data_falls f at left x next rest places last is behind =
    let found = (data_group_finds f).there at left (x, next, rest) is in
    let taken = data_takes f at left (x, next, rest) is in (
      falls_by_more f (Cg ∷ []) at (length x.groups) left.groups rest.groups last.groups places
          (subst (λ (a : ℕ). HoldsMany f (Cg ∷ []) a (length x.groups)) found.0 (data_holds_groups f x found.1.1.1)) taken.groups behind.0,
      falls_by_more f (Cg ∷ Cn ∷ []) at (channels_of x) left.room.channels rest.room.channels last.room.channels places
          (subst (λ (a : ℕ). HoldsMany f (Cg ∷ Cn ∷ []) a (channels_of x)) found.0 (data_holds_channels f x found.1.1.1)) taken.channels behind.1,
    )

pub rows_true : (f : List ℕ) (at : ℕ) (left : Budget) → Honest f (groups f at left)
unfolding groups AreBefore
rows_true f at left =
    let start : DataRoom = record { groups = 65535; room = record { channels = 1048576; budget = left } } in
    refusing_then (IsTrueOf f) (data_groups_from f at left) _
    (refusing_behind (IsTrueOf f) f Dg (data_group f) (full whats.Dg Dg f)
    (finds_go_along f Dg (λ (row : DataRow). row.at) (IsDataGroup f) (data_group f) (data_group_finds f)) (DataFalls f)
    (λ room. (falls_by_none f (Cg ∷ []) room.groups, falls_by_none f (Cg ∷ Cn ∷ []) room.room.channels)) (data_falls f) 65535 at start
    (λ places a rest along falls. data_group_true f a rest
    (passes_inside f whats.Cg Dg Cg [] at 65535 rest.groups a places (λ b stand. (at, stand)) along falls.0)
    (passes_inside f whats.Cn Dg Cg (Cn ∷ []) at 1048576 rest.room.channels a places (λ b stand. (at, stand)) along falls.1))
    (λ places a rest along falls many. full_true whats.Dg f Dg a (λ none. none) (λ is. is) (at, (places, along, many))))
    (λ rows _. refusing_none (IsTrueOf f) _)
