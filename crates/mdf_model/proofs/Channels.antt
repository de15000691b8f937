-- The streams of the channels of variable length that are found, with the values in them.
use Rattle.std.proofs.Common.{◌≡◌, ◌+◌, ℕ, zero, suc, List, [], ◌∷◌, ◌++◌, length, get_or, take, drop, Ok, refl, sym, ◌∙◌, ap, subst, inl, inr, arith}
use Rattle.std.specs.Prelude.{true, min, nat_eq, ◌&&◌, filter, slice_get, Option, Some, None}
use Rattle.std.specs.List.{AllByRecursion, AllZip}
use Rattle.std.proofs.lemmas.Bool.{and_parts, cond-true}
use Rattle.std.proofs.lemmas.List.{take-take}
use Rattle.std.proofs.lemmas.List.Concat.{flat_map-append}
use Rattle.mdf_format.specs.Number.{bytes_at}
use Rattle.mdf_format.specs.Field.{field_number}
use Rattle.mdf_format.specs.Value.{IsValueAt}
use Rattle.mdf_format.specs.declared.kind.Kind.TheVariants.{Sd}
use Rattle.mdf_block.specs.Refusal.{Read, ◌>>=◌}
use Rattle.mdf_block.proofs.Refusals.{bind_ok}
use Rattle.mdf_block.proofs.Wholes.{chosen}
use Rattle.mdf_data.specs.declared.known.Size.{Size}
use Rattle.mdf_data.specs.declared.known.Size.TheVariants as sizes
use Rattle.mdf_stream.specs.declared.part.Part.{Part}
use Rattle.mdf_stream.specs.Parts.{part_bytes, stream_of, stream_size, ArePartsInside}
use Rattle.mdf_stream.specs.Range.{parts_between}
use Rattle.mdf_data.specs.Split.{Record}
use Rattle.mdf_stream.proofs.Joins.{length-stream}
use Rattle.mdf_stream.proofs.Ranges.{range_bytes}
use Rattle.mdf_stream.proofs.Streams.{stream_found}
use Rattle.mdf_group.specs.declared.row.ChannelRow.{ChannelRow}
use Rattle.mdf_group.specs.declared.row.GroupRow.{GroupRow}
use Rattle.mdf_group.specs.declared.row.DataRow.{DataRow}
use Rattle.mdf_group.specs.Group.{is_variable}
use Rattle.mdf_group.specs.Recordable.{is_of_values}
use Rattle.mdf_layout.specs.Rule.{spot_in}
use Rattle.mdf_content.specs.Layouts.{field_of}
use Rattle.mdf_content.specs.Records.{size_of}
use Rattle.mdf_block.specs.Every.{every}
use Rattle.mdf_content.specs.Values.{has_value, offsets_met, DataStream, values_group, value_size, values_at, values_in, channel_values, GroupRecords, offset_in, channel_stream, channel_item, streams}
use Rattle.mdf_content.proofs.Samples.{all_met, value_found, value_stands}
use Rattle.mdf_data.specs.Bodies.{bodies, joined}
use Rattle.mdf_model.specs.Contents.{IsValuesOf, MeetsValue, IsChannelStream}
use Rattle.mdf_stream.proofs.Insides.{data_inside, values_inside}
use Rattle.mdf_data.proofs.Bodies.{HasRoom, bodies_at}
use Rattle.mdf_block.proofs.Picks.{IsPicked, all_read, picked, keyed_own}
use Rattle.mdf_block.proofs.Cases.{ok_injective, some_injective}
use Rattle.mdf_block.proofs.Items.{all_taken}

pub take_less : (m n : ℕ) (xs : List ℕ) → take m (take (m + n) xs) ≡ take m xs
take_less m n xs = take-take m (m + n) xs (omega arith)

offsets_stand : (held stream : List ℕ) (channel : ChannelRow) (data_bytes inval_bytes cycles c : ℕ) (places : List ℕ) (u : Unit {0})
    → offsets_met (has_value stream)
    (offset_in held (record { data_bytes = data_bytes; places = places; count = min cycles (length places) }) channel) c 0 (min cycles (length places)) ≡ Ok u
    → AllByRecursion (MeetsValue stream data_bytes channel) (take cycles (bodies_at held (sizes.Fixed (data_bytes + inval_bytes)) places))
offsets_stand held stream channel data_bytes inval_bytes cycles c places u is =
    let records : GroupRecords = record { data_bytes = data_bytes; places = places; count = min cycles (length places) } in
    all_taken (MeetsValue stream data_bytes channel) (bytes_at (data_bytes + inval_bytes) held) cycles places (λ j below.
    let from_zero : 0 + j ≡ j = omega arith in
    let met = subst (λ (n : ℕ). has_value stream (offset_in held records channel n) ≡ true) from_zero
    (all_met (has_value stream) (offset_in held records channel) c 0 (min cycles (length places)) u is j below) in
    let at = offset_in held records channel j in
    let found = value_found stream at met in
    let same : bytes_at data_bytes held (get_or places j 0) ≡ take data_bytes (bytes_at (data_bytes + inval_bytes) held (get_or places j 0)) =
    sym (take_less data_bytes inval_bytes (drop (get_or places j 0) held)) in
    subst (λ (bytes : List ℕ). (value : List ℕ) × IsValueAt stream (field_number (spot_in (field_of channel)) bytes) value) same
    (found.0, value_stands stream at found.0 found.1))

-- the group of values at an address

abbrev IsValuesGroup : List GroupRow → ℕ → Type 0
IsValuesGroup groups k = (group : GroupRow) × (slice_get groups k ≡ Some group) × (is_variable group ≡ true)

group_from : (groups : List GroupRow) (at from k : ℕ) → values_group groups at from ≡ Some k → (j : ℕ) × (k ≡ from + j) × IsValuesGroup groups j
unfolding values_group
group_from [] at from k is = let wrong : ◌≡◌ {A = Option ℕ} None (Some k) = is in cc
group_from (group ∷ groups) at from k is =
    elim (chosen (is_variable group && nat_eq group.at at) (Some from) (values_group groups at (from + 1)) (Some k) is) [
      | inl here ↦
          let same : from ≡ k = some_injective from k here.1 in
          (zero, omega (arith, same), (group, refl, (and_parts (is_variable group) (nat_eq group.at at) here.0).0))
      | inr there ↦
          let rest = group_from groups at (from + 1) k there.1 in
          (suc rest.0, omega (arith, rest.1), rest.2)
    ]

group_there : (groups : List GroupRow) (at k : ℕ) → values_group groups at 0 ≡ Some k → IsValuesGroup groups k
group_there groups at k is =
    let found = group_from groups at 0 k is in
    let same : found.0 ≡ k = omega (arith, found.1) in
    subst (IsValuesGroup groups) same found.2

-- the values in records, one behind the other
values_bytes : (f : List ℕ) (parts : List Part) (places : List ℕ) → ArePartsInside (length f) parts
    → stream_of f (values_at f parts places) ≡ joined (bodies_at (stream_of f parts) sizes.Variable places)
values_bytes f parts [] inside = refl
values_bytes f parts (place ∷ places) inside =
    let stream = stream_of f parts in
    let long : length stream ≡ stream_size parts = length-stream f parts inside in
    let here : value_size stream (stream_size parts) place ≡ value_size stream (length stream) place =
    ap (λ (n : ℕ). value_size stream n place) (sym long) in
    flat_map-append (part_bytes f) (parts_between parts place (value_size stream (stream_size parts) place)) (values_at f parts places)
    ∙ ap (λ (xs : List ℕ). xs ++ stream_of f (values_at f parts places))
    (range_bytes f parts place (value_size stream (stream_size parts) place) inside ∙ ap (λ (n : ℕ). bytes_at n stream place) here)
    ∙ ap (λ (xs : List ℕ). bytes_at (value_size stream (length stream) place) stream place ++ xs) (values_bytes f parts places inside)

-- the records of each group have room at its places in a stream
abbrev pub HaveRooms : List ℕ → DataRow → List (List ℕ) → Type 0
HaveRooms stream row lists = (k : ℕ) (group : GroupRow) → slice_get row.groups k ≡ Some group
    → AllByRecursion (HasRoom stream (size_of group)) (get_or lists k [])

-- the records of each group stand at its places in a stream
abbrev pub HoldBodies : List ℕ → DataRow → List (List ℕ) → List Record → Type 0
HoldBodies stream row lists records = (k : ℕ) (group : GroupRow) → slice_get row.groups k ≡ Some group
    → bodies_at stream (size_of group) (get_or lists k []) ≡ bodies row.id_size records k

abbrev pub held_by : List Part → DataRow → List (List ℕ) → DataStream
held_by parts row lists = record { parts = parts; groups = row.groups; lists = lists }

module _ (f : List ℕ) (row : DataRow) (parts : List Part) (lists : List (List ℕ)) (records : List Record)
    (inside : ArePartsInside (length f) parts) (hold : HoldBodies (stream_of f parts) row lists records) where
  -- where the values of a channel are
  pub values_of : (link : ℕ) (group : Option ℕ) (found : List Part) → values_group row.groups link 0 ≡ group
      → values_in f (held_by parts row lists) link group ≡ Ok found
      → IsValuesOf f row records link group (stream_of f found) × ArePartsInside (length f) found
  values_of link None found is_group is = (stream_found f Sd link found is, data_inside f Sd link found is)
  values_of link (Some k) found is_group is =
      let places = get_or lists k [] in
      let same : values_at f parts places ≡ found = ok_injective (values_at f parts places) found is in
      let group = group_there row.groups link k is_group in
      let variable : size_of group.0 ≡ sizes.Variable =
      cond-true (is_variable group.0) sizes.Variable (sizes.Fixed (group.0.data_bytes + group.0.inval_bytes)) group.2 in
      let bytes : stream_of f found ≡ joined (bodies row.id_size records k) =
      ap (stream_of f) (sym same)
      ∙ values_bytes f parts places inside
      ∙ ap (λ (size : Size). joined (bodies_at (stream_of f parts) size places)) (sym variable)
      ∙ ap joined (hold k group.0 group.1) in
      (bytes, subst (ArePartsInside (length f)) same (values_inside (length f) parts (value_size (stream_of f parts) (stream_size parts)) places inside))

  -- a channel of variable length
  channel_found : (group : GroupRow) (places : List ℕ) (own : List (List ℕ)) (channel : ChannelRow) (c : ℕ) (stream : List ℕ)
      → own ≡ take group.cycles (bodies_at (stream_of f parts) (sizes.Fixed (group.data_bytes + group.inval_bytes)) places)
      → channel_stream f (held_by parts row lists)
      (record { data_bytes = group.data_bytes; places = places; count = min group.cycles (length places) }) channel c ≡ Ok stream
      → IsChannelStream f row records group.data_bytes own channel stream
  unfolding channel_stream channel_values
  channel_found group places own channel c stream own_is is =
      let held = held_by parts row lists in
      let records_at : GroupRecords = record { data_bytes = group.data_bytes; places = places; count = min group.cycles (length places) } in
      let tests : List Part → Read (Unit {0}) = λ found. offsets_met (has_value (stream_of f found))
      (offset_in (stream_of f parts) records_at channel) c 0 (min group.cycles (length places)) in
      let first = bind_ok (values_in f held channel.values (values_group row.groups channel.values 0)) (λ found. tests found >>= λ _. Ok (stream_of f found)) stream is in
      let second = bind_ok (tests first.0) (λ _. Ok (stream_of f first.0)) stream first.2 in
      let same : stream_of f first.0 ≡ stream = ok_injective (stream_of f first.0) stream second.2 in
      let values = values_of channel.values (values_group row.groups channel.values 0) first.0 refl first.1 in
      let whole : IsChannelStream f row records group.data_bytes own channel (stream_of f first.0) = record {
        values = values.0;
        met = subst (AllByRecursion (MeetsValue (stream_of f first.0) group.data_bytes channel)) (sym own_is)
            (offsets_stand (stream_of f parts) (stream_of f first.0) channel group.data_bytes group.inval_bytes group.cycles c places second.0 second.1);
      } in
      subst (IsChannelStream f row records group.data_bytes own channel) same whole

  abbrev IsRead : GroupRow → List (List ℕ) → ℕ → ChannelRow → Option (List ℕ) → Type 0
  IsRead group own k channel read = IsPicked is_of_values (IsChannelStream f row records group.data_bytes own) channel read

  item_found : (group : GroupRow) (places : List ℕ) (own : List (List ℕ)) (c : ℕ) (channel : ChannelRow) (left : Unit {0}) (found : Option (List ℕ) × Unit {0})
      → own ≡ take group.cycles (bodies_at (stream_of f parts) (sizes.Fixed (group.data_bytes + group.inval_bytes)) places)
      → channel_item f (held_by parts row lists)
      (record { data_bytes = group.data_bytes; places = places; count = min group.cycles (length places) }) c channel left ≡ Ok found
      → IsRead group own c channel found.0
  unfolding channel_item
  item_found group places own c channel left found own_is is =
      let records_at : GroupRecords = record { data_bytes = group.data_bytes; places = places; count = min group.cycles (length places) } in
      let item = channel_stream f (held_by parts row lists) records_at channel c in
      elim (chosen (nat_eq channel.kind 1) (item >>= λ stream. Ok (Some stream, left)) (Ok (None, left)) (Ok found) is) [
        | inl here ↦
            let first = bind_ok item (λ stream. Ok (Some stream, left)) found here.1 in
            subst (λ (y : Option (List ℕ) × Unit {0}). IsRead group own c channel y.0) (ok_injective (Some first.0, left) found first.2)
            (here.0, channel_found group places own channel c first.0 own_is first.1)
        | inr other ↦
            subst (λ (y : Option (List ℕ) × Unit {0}). IsRead group own c channel y.0) (ok_injective (None, left) found other.1) other.0
      ]

  pub streams_found : (group : GroupRow) (places : List ℕ) (own : List (List ℕ)) (found : List (List ℕ))
      → own ≡ take group.cycles (bodies_at (stream_of f parts) (sizes.Fixed (group.data_bytes + group.inval_bytes)) places)
      → streams f (held_by parts row lists)
      (record { data_bytes = group.data_bytes; places = places; count = min group.cycles (length places) }) group.channels ≡ Ok found
      → AllZip (IsChannelStream f row records group.data_bytes own) (filter is_of_values group.channels) found
  unfolding streams
  streams_found group places own found own_is is =
      let records_at : GroupRecords = record { data_bytes = group.data_bytes; places = places; count = min group.cycles (length places) } in
      let item = channel_item f (held_by parts row lists) records_at in
      let first = bind_ok (every item 0 group.channels tt) (λ found. Ok found.0) found is in
      let read = all_read item (IsRead group own) (λ k channel left y. item_found group places own k channel left y own_is) 0 group.channels tt first.0 first.1 in
      subst (λ (ys : List (List ℕ)). AllZip (IsChannelStream f row records group.data_bytes own) (filter is_of_values group.channels) ys)
      (ok_injective first.0.0 found first.2)
      (subst (λ (xs : List ChannelRow). AllZip (IsChannelStream f row records group.data_bytes own) (filter is_of_values xs) first.0.0)
      (keyed_own 0 group.channels)
      (picked (λ k channel. channel) is_of_values (IsChannelStream f row records group.data_bytes own) 0 group.channels first.0.0 read))
