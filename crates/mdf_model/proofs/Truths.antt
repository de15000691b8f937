-- What is refused of a data group is true of it.
use Rattle.std.proofs.Common.{◌≡◌, ◌≢◌, ◌+◌, ◌<◌, ◌≤◌, ◌⊎◌, ℕ, zero, suc, List, [], ◌∷◌, length, drop, map, Option, Some, None, Ok, Err, refl, sym, ◌∙◌, ap, subst, inl, inr, arith}
use Rattle.std.specs.Prelude.{true, false, nat_eq, nat_lt, slice_get}
use Rattle.std.proofs.lemmas.Bool.{eqb-true, eqb-false, ltb-true, cond-true, cond-false, both_ways}
use Rattle.mdf_format.specs.declared.kind.Kind.{Kind}
use Rattle.mdf_format.specs.declared.kind.Kind.TheVariants.{Dt, Sd}
use Rattle.mdf_block.specs.declared.what.What.TheVariants as whats
use Rattle.mdf_block.specs.Refusal as refusals
use Rattle.mdf_block.specs.Refusal.{Refusal, Bad, Compressed, TooMany, UnknownId, Cut, Cycles, Offset, ◌>>=◌}
use Rattle.mdf_block.specs.Truth.{IsTrueOf}
use Rattle.mdf_block.proofs.Wholes.{chosen}
use Rattle.mdf_block.proofs.Truths.{Refusing, refusing_none, refusing_one, refusing_then, refusing_if}
use Rattle.mdf_stream.specs.declared.part.Part.{Part}
use Rattle.mdf_stream.specs.Parts.{stream_of}
use Rattle.mdf_stream.specs.Link.{data_parts}
use Rattle.mdf_stream.specs.Truth.{IsTrueOfLink}
use Rattle.mdf_stream.proofs.Streams.{stream_found}
use Rattle.mdf_stream.proofs.Truths.{parts_true, data_true}
use Rattle.mdf_data.specs.declared.known.Known.{Known}
use Rattle.mdf_data.specs.Places.{places, pieces}
use Rattle.mdf_data.specs.Split.{Record, IsRecordSplit, IsRefusedAt}
use Rattle.mdf_data.proofs.Pieces.{records_refused}
use Rattle.mdf_group.specs.declared.row.ChannelRow.{ChannelRow}
use Rattle.mdf_group.specs.declared.row.GroupRow.{GroupRow}
use Rattle.mdf_group.specs.declared.row.DataRow.{DataRow}
use Rattle.mdf_group.specs.Group.{is_variable}
use Rattle.mdf_group.specs.Recordable.{is_of_values}
use Rattle.mdf_layout.specs.Layout.{Layout}
use Rattle.mdf_layout.specs.Rule.{breaks_row_rule}
use Rattle.mdf_layout.proofs.Rules.{breaks_law}
use Rattle.mdf_content.specs.Layouts.{field_of, placed_channels, layout_of, first_unplaced, layout_unless, layout, laid_group, has_id_size, layouts}
use Rattle.mdf_content.specs.Records.{known_of, has_empty_records, empties_of, places_of_one, places_without_ids, places_of}
use Rattle.mdf_block.specs.Every.{every}
use Rattle.mdf_content.specs.Values.{values_group}
use Rattle.mdf_model.specs.Contents.{empties_in}
use Rattle.mdf_model.specs.Truth.{IsRestAt, IsSampleGroup, IsUnknownAt, IsTrueOfData}
use Rattle.mdf_model.proofs.Alone.{id_size_from}
use Rattle.mdf_block.proofs.Picks.{all_there}
use Rattle.mdf_block.proofs.Walks.{refusing_every}
use Rattle.mdf_data.proofs.Stops.{refused_place, IsStop, IsUnknown, IsShort, piece_stop, some_left}
use Rattle.mdf_block.proofs.Cases.{some_injective, two_ways}
use Rattle.std.specs.List.{AllByRecursion}
use Rattle.mdf_data.specs.Record.{group_of}

some_none : {A : Type 0} (x : A) → ◌≡◌ {A = Option A} (Some x) None → ⊥
some_none x is = cc

-- no group has an id that is not found
unknown_is : (groups : List GroupRow) (id from : ℕ) → group_of (map known_of groups) id from ≡ None
    → AllByRecursion (λ (group : GroupRow). group.id ≢ id) groups
unfolding group_of
unknown_is [] id from none = tt
unknown_is (group ∷ groups) id from none =
    elim (chosen (nat_eq group.id id) _ (group_of (map known_of groups) id (from + 1)) None none) [
      | inl here ↦ absurd (some_none _ here.1)
      | inr other ↦ (eqb-false group.id id other.0, unknown_is groups id (from + 1) other.1)
    ]

-- where there are ids, none is told of empty records
split_any : (stream : List ℕ) (id_size : ℕ) (known : List Known) (empties : ℕ) (records : List Record) (rest : List ℕ) → 1 ≤ id_size
    → IsRecordSplit stream id_size known 0 records rest → IsRecordSplit stream id_size known empties records rest
split_any stream zero known empties records rest some split = absurd (omega (arith, some))
split_any stream (suc n) known empties records rest some split = split

some_ids : (n : ℕ) → n ≢ 0 → 1 ≤ n
some_ids n some = grind (arith, some)

-- as many empty records as may be
many_empties : (group : GroupRow) → 268435456 < empties_of group.cycles group → (has_empty_records group ≡ true) × (268435456 < group.cycles)
many_empties group many =
    elim (two_ways (has_empty_records group)) [
      | inl empty ↦ (empty, subst (λ (n : ℕ). 268435456 < n) (cond-true (has_empty_records group) group.cycles 0 empty) many)
      | inr full ↦
          let none : 268435456 < 0 = subst (λ (n : ℕ). 268435456 < n) (cond-false (has_empty_records group) group.cycles 0 full) many in
          absurd (omega (arith, none))
    ]

-- what is refused of a data group apart from its links to data
abbrev pub IsOfData : Refusal → Type 0
IsOfData (refusals.Layout at) = Unit {0}
IsOfData (UnknownId id at) = Unit {0}
IsOfData (Cut at) = Unit {0}
IsOfData (Cycles number said found) = Unit {0}
IsOfData (Offset c i offset) = Unit {0}
IsOfData (TooMany whats.Sample at) = Unit {0}
IsOfData _ = ⊥

-- a channel's own link to data was refused
pub record IsRefusedLink (f : List ℕ) (row : DataRow) (refusal : Refusal) : Type 0 where
  pub k : ℕ
  pub group : GroupRow
  pub is_group : IsSampleGroup row k group
  pub c : ℕ
  pub channel : ChannelRow
  pub is_channel : slice_get group.channels c ≡ Some channel
  pub kind : is_of_values channel ≡ true
  pub none : values_group row.groups channel.values 0 ≡ None
  pub refused : data_parts f Sd channel.values ≡ Err refusal

module _ (f : List ℕ) (row : DataRow) (before : ℕ) where
  -- where it comes from: the data group itself, its own link to data, or one of a channel
  abbrev pub Comes : Refusal → Type 0
  Comes refusal = IsOfData refusal ⊎ ((data_parts f Dt row.content ≡ Err refusal) ⊎ IsRefusedLink f row refusal)

  -- it is true, and comes from there
  abbrev pub IsTrue : Refusal → Type 0
  IsTrue refusal = IsTrueOfData f row before refusal × Comes refusal

  pub own_true : (refusal : Refusal) → IsOfData refusal → IsTrueOfData f row before refusal → IsTrue refusal
  own_true refusal kind is = (is, inl kind)

  -- a data link
  link_turned : (want : Kind) (at : ℕ) (refusal : Refusal) → IsTrueOfLink f want at refusal → IsTrueOf f refusal → IsTrueOfData f row before refusal
  link_turned want link (Bad at kind) named is = is
  link_turned want link (Compressed at) named is = is
  link_turned want link (TooMany whats.Block at) named is = is
  link_turned want link _ named is = absurd named

  pub link_true : (want : Kind) → (want ≡ Dt) ⊎ (want ≡ Sd) → (at : ℕ) → ((refusal : Refusal) → data_parts f want at ≡ Err refusal → Comes refusal)
      → Refusing IsTrue (data_parts f want at)
  link_true want data_kind at comes = record {
    tells = λ refusal is.
        (link_turned want at refusal ((parts_true f want at).tells refusal is) ((data_true f want data_kind at).tells refusal is), comes refusal is);
  }

  -- layouts
  first_bad : (layout : Layout) (k : ℕ) (channels : List ChannelRow) (channel : ChannelRow) → first_unplaced layout k channels ≡ Some channel
      → (c : ℕ) × (slice_get channels c ≡ Some channel) × (breaks_row_rule layout.data_bytes layout.inval_bytes layout.rows (k + c) (field_of channel) ≡ true)
  unfolding first_unplaced
  first_bad layout k [] channel is = let wrong : ◌≡◌ {A = Option ChannelRow} None (Some channel) = is in cc
  first_bad layout k (first ∷ channels) channel is =
      let test = breaks_row_rule layout.data_bytes layout.inval_bytes layout.rows k (field_of first) in
      let here : k ≡ k + 0 = omega arith in
      elim (chosen test (Some first) (first_unplaced layout (k + 1) channels) (Some channel) is) [
        | inl breaks ↦ (
          zero,
          breaks.1,
          subst (λ (n : ℕ). breaks_row_rule layout.data_bytes layout.inval_bytes layout.rows n (field_of channel) ≡ true) here
              (subst (λ (c : ChannelRow). breaks_row_rule layout.data_bytes layout.inval_bytes layout.rows k (field_of c) ≡ true)
              (some_injective first channel breaks.1) breaks.0),
        )
        | inr keeps ↦
            let rest = first_bad layout (k + 1) channels channel keeps.1 in
            let next : k + 1 + rest.0 ≡ k + suc rest.0 = omega arith in (
              suc rest.0,
              rest.1,
              subst (λ (n : ℕ). breaks_row_rule layout.data_bytes layout.inval_bytes layout.rows n (field_of channel) ≡ true) next rest.2,
            )
      ]

  of_samples : (group : GroupRow) (c : ℕ) (channel : ChannelRow) → slice_get (placed_channels group) c ≡ Some channel
      → (is_variable group ≡ false) × (slice_get group.channels c ≡ Some channel)
  of_samples group c channel is =
      elim (two_ways (is_variable group)) [
        | inl values ↦
            let wrong : ◌≡◌ {A = Option ChannelRow} None (Some channel) =
            sym (ap (λ (cs : List ChannelRow). slice_get cs c) (cond-true (is_variable group) [] group.channels values)) ∙ is in cc
        | inr samples ↦ (samples, sym (ap (λ (cs : List ChannelRow). slice_get cs c) (cond-false (is_variable group) [] group.channels samples)) ∙ is)
      ]

  unless_true : (k : ℕ) (group : GroupRow) (first : Option ChannelRow) → slice_get row.groups k ≡ Some group
      → first_unplaced (layout_of group) 0 (placed_channels group) ≡ first → Refusing IsTrue (layout_unless group first)
  unless_true k group None there is = refusing_none IsTrue (layout_of group)
  unless_true k group (Some channel) there is =
      let bad = first_bad (layout_of group) 0 (placed_channels group) channel is in
      let place = of_samples group bad.0 channel bad.1 in
      let from_zero : 0 + bad.0 ≡ bad.0 = omega arith in
      let test = subst (λ (n : ℕ). breaks_row_rule group.data_bytes group.inval_bytes (layout_of group).rows n (field_of channel) ≡ true) from_zero bad.2 in
      refusing_one IsTrue (refusals.Layout channel.at) (own_true (refusals.Layout channel.at) tt (inr (record {
        k = k;
        group = group;
        is_group = record { there = there; samples = place.0 };
        c = bad.0;
        channel = channel;
        is_channel = place.1;
        named = refl;
        breaks = (breaks_law group.data_bytes group.inval_bytes (layout_of group).rows bad.0 (field_of channel)).to test;
      })))

  pub layout_true : (k : ℕ) (group : GroupRow) → slice_get row.groups k ≡ Some group → Refusing IsTrue (layout group)
  unfolding layout
  layout_true k group there = unless_true k group (first_unplaced (layout_of group) 0 (placed_channels group)) there refl

  abbrev pub IsThere : ℕ → GroupRow → Type 0
  IsThere k group = slice_get row.groups k ≡ Some group

  laid_true : (k : ℕ) (group : GroupRow) (left : Unit {0}) → IsThere k group → Unit {0} → Refusing IsTrue (laid_group k group left)
  laid_true k group left there nothing = refusing_then IsTrue (layout group) (λ _. Ok (None, left)) (layout_true k group there) (λ shape _. refusing_none IsTrue (None, left))

  pub layouts_true : Refusing IsTrue (layouts row)
  unfolding layouts
  layouts_true =
      refusing_if IsTrue (has_id_size row) (every laid_group 0 row.groups tt >>= λ _. Ok tt) (Err (refusals.Layout row.at))
      (λ _. refusing_then IsTrue (every laid_group 0 row.groups tt) (λ _. Ok tt)
      (refusing_every IsTrue laid_group IsThere (λ k left. Unit {0}) laid_true (λ k group left found there nothing is. tt) 0 row.groups tt (all_there row.groups) tt)
      (λ found _. refusing_none IsTrue tt))
      (λ none. refusing_one IsTrue (refusals.Layout row.at) (own_true (refusals.Layout row.at) tt (inl (refl, λ has. both_ways (has_id_size row) none (id_size_from row has)))))

  -- records
  module _ (parts : List Part) (is_parts : data_parts f Dt row.content ≡ Ok parts) where
    abbrev stream : List ℕ
    stream = stream_of f parts

    abbrev known : List Known
    known = map known_of row.groups

    abbrev rest_at : 1 ≤ row.id_size → (place other : ℕ) → place < length stream → place ≡ other → (records : List Record)
        → IsRecordSplit stream row.id_size known 0 records (drop other stream) → IsRestAt f row place
    rest_at some place other within same records split = record {
      ids = λ none. omega (arith, some, none);
      stream = stream;
      is_stream = stream_found f Dt row.content parts is_parts;
      some = within;
      records = records;
      split = split_any stream row.id_size known (empties_in row.groups) records (drop place stream) some
          (subst (λ (n : ℕ). IsRecordSplit stream row.id_size known 0 records (drop n stream)) (sym same) split);
    }

    stop_true : 1 ≤ row.id_size → (place : ℕ) (refusal : Refusal) → place < length stream
        → (other : ℕ) (records : List Record) → IsRefusedAt refusal other → IsRecordSplit stream row.id_size known 0 records (drop other stream)
        → IsStop stream row.id_size known place refusal → IsTrue refusal
    stop_true some place refusal within other records refused split (IsShort is) =
        let same : place ≡ other = subst (λ (r : Refusal). IsRefusedAt r other) is refused in
        subst IsTrue (sym is) (own_true (Cut place) tt (rest_at some place other within same records split))
    stop_true some place refusal within other records refused split (IsUnknown id is whole is_id none) =
        let same : place ≡ other = subst (λ (r : Refusal). IsRefusedAt r other) is refused in
        let unknown : IsUnknownAt f row id place = record {
          rest = rest_at some place other within same records split;
          whole = omega (arith, whole, within);
          is_id = is_id;
          unknown = unknown_is row.groups id 0 none;
        } in
        subst IsTrue (sym is) (own_true (UnknownId id place) tt unknown)

    pieces_true : 1 ≤ row.id_size → (refusal : Refusal) → pieces stream (length stream) row.id_size known ≡ Err refusal → IsTrue refusal
    pieces_true some refusal is =
        let place = (refused_place stream (length stream) row.id_size known (length stream + 1) 0).tells refusal is in
        let rest = records_refused stream row.id_size known refusal some is in
        stop_true some place.0 refusal (some_left stream row.id_size known place.0 refusal place.1) rest.0 rest.1 rest.2 rest.3
        ((piece_stop stream row.id_size known place.0).tells refusal place.1)

    with_ids : 1 ≤ row.id_size → Refusing IsTrue (places stream (length stream) row.id_size known)
    unfolding places
    with_ids some =
        refusing_then IsTrue (pieces stream (length stream) row.id_size known) _ (record { tells = pieces_true some })
        (λ found _. refusing_none IsTrue _)

    one_true : (group : GroupRow) → IsThere 0 group → row.id_size ≡ 0 → Refusing IsTrue (places_of_one (length stream) group.cycles group)
    one_true group there none =
        refusing_if IsTrue (nat_lt 268435456 (empties_of group.cycles group)) (Err (TooMany whats.Sample group.at)) _
        (λ many.
        let found = many_empties group (ltb-true 268435456 (empties_of group.cycles group) many) in
        refusing_one IsTrue (TooMany whats.Sample group.at) (own_true (TooMany whats.Sample group.at) tt (record {
          group = group;
          there = there;
          named = refl;
          no_ids = none;
          empty = found.0;
          many = found.1;
        })))
        (λ few. refusing_none IsTrue _)

    without_ids : (groups : List GroupRow) → ((group : GroupRow) → slice_get groups 0 ≡ Some group → IsThere 0 group) → row.id_size ≡ 0
        → Refusing IsTrue (places_without_ids (length stream) true groups)
    without_ids [] there none = refusing_none IsTrue []
    without_ids (group ∷ groups) there none =
        refusing_then IsTrue (places_of_one (length stream) group.cycles group) (λ found. Ok (found ∷ [])) (one_true group (there group refl) none)
        (λ found _. refusing_none IsTrue (found ∷ []))

    pub places_true : Refusing IsTrue (places_of stream (length stream) true row)
    unfolding places_of
    places_true =
        refusing_if IsTrue (nat_eq row.id_size 0) (places_without_ids (length stream) true row.groups) (places stream (length stream) row.id_size known)
        (λ none. without_ids row.groups (λ group there. there) (eqb-true row.id_size 0 none))
        (λ some. with_ids (some_ids row.id_size (eqb-false row.id_size 0 some)))
