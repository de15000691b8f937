-- What is refused of the counts and of the values of a data group is true of it.
use Rattle.std.proofs.Common.{◌≡◌, ◌+◌, ◌<◌, ℕ, zero, suc, List, [], ◌∷◌, ◌++◌, length, get_or, take, drop, map, Option, Some, None, Ok, Err, refl, sym, ◌∙◌, ap, subst, inr, arith}
use Rattle.std.specs.Prelude.{Bool, true, false, cond, min, nat_eq, nat_le, nat_lt, filter, slice_get}
use Rattle.std.specs.Option.{option_to_list}
use Rattle.std.proofs.lemmas.Bool.{ltb-true, and_from, le-leb, cond-false, both_ways}
use Rattle.std.proofs.lemmas.List.Filters.{length-filter_more}
use Rattle.std.proofs.lemmas.Option.{slice_get_within, get_or_from_slice_get}
use Rattle.mdf_format.specs.Number.{le_number, bytes_at}
use Rattle.mdf_format.specs.Field.{field_number}
use Rattle.mdf_format.specs.Value.{IsValueAt}
use Rattle.mdf_format.specs.declared.kind.Kind.TheVariants.{Sd}
use Rattle.mdf_block.specs.Refusal.{Refusal, Cycles, Offset, ◌>>=◌}
use Rattle.mdf_block.proofs.Refusals.{bind_ok}
use Rattle.mdf_block.proofs.Truths.{Refusing, refusing_none, refusing_one, refusing_then, refusing_if}
use Rattle.mdf_stream.specs.declared.part.Part.{Part}
use Rattle.mdf_stream.specs.Parts.{stream_of, ArePartsInside}
use Rattle.mdf_data.specs.declared.known.Size.{Size}
use Rattle.mdf_data.specs.declared.known.Size.TheVariants as sizes
use Rattle.mdf_data.specs.Split.{Record}
use Rattle.mdf_group.specs.declared.row.ChannelRow.{ChannelRow}
use Rattle.mdf_group.specs.declared.row.GroupRow.{GroupRow}
use Rattle.mdf_group.specs.declared.row.DataRow.{DataRow}
use Rattle.mdf_group.specs.Group.{is_variable}
use Rattle.mdf_group.specs.Recordable.{is_of_values}
use Rattle.mdf_layout.specs.Rule.{spot_in}
use Rattle.mdf_content.specs.Layouts.{field_of, layout}
use Rattle.mdf_content.specs.Records.{size_of, counted_group, counted}
use Rattle.mdf_block.specs.Every.{every}
use Rattle.mdf_content.specs.Values.{has_value, offset_met, offsets_met, values_group, values_in, channel_values, GroupRecords, offset_in}
use Rattle.mdf_content.specs.Found.{channel_found, channel_place, data_at, group_found, group_place, groups_found, values_found}
use Rattle.mdf_model.specs.Measurement.{holds_samples}
use Rattle.mdf_data.specs.Bodies.{bodies}
use Rattle.mdf_model.specs.Contents.{IsDataSplit, IsValuesOf, own_records}
use Rattle.mdf_model.specs.Truth.{MissesValue}
use Rattle.mdf_data.proofs.Bodies.{bodies_at, places_long}
use Rattle.mdf_model.proofs.Channels.{HoldBodies, held_by, values_of, take_less}
use Rattle.mdf_model.proofs.Founds.{count_found}
use Rattle.mdf_block.proofs.Picks.{all_there}
use Rattle.mdf_block.proofs.Walks.{refusing_every}
use Rattle.mdf_model.proofs.Truths.{IsTrue, link_true, layout_true, own_true}
use Rattle.mdf_block.proofs.Cases.{ok_injective}
use Rattle.mdf_block.proofs.Items.{record_at}

-- a value that stands passes the test
value_is : (stream : List ℕ) (offset : ℕ) (value : List ℕ) → IsValueAt stream offset value → has_value stream offset ≡ true
value_is stream offset value is =
    let size = le_number (bytes_at 4 stream offset) in
    and_from (nat_le (offset + 4) (length stream)) (nat_le (offset + 4 + size) (length stream))
    (le-leb (offset + 4) (length stream) (omega (arith, is.whole)))
    (le-leb (offset + 4 + size) (length stream) (omega (arith, is.whole, is.length_is)))

-- the offsets of a channel
row_on : (row : ℕ) → row ≡ row + 0
row_on row = omega arith

one_on : (row j : ℕ) → row + 1 + j ≡ row + suc j
one_on row j = omega arith

offsets_true : (P : Refusal → Type 0) (meets : ℕ → Bool) (offset : ℕ → ℕ) (c row left : ℕ)
    → ((j : ℕ) → j < left → meets (offset (row + j)) ≡ false → P (Offset c (row + j) (offset (row + j))))
    → Refusing P (offsets_met meets offset c row left)
unfolding offsets_met
offsets_true P meets offset c row zero each = refusing_none P tt
offsets_true P meets offset c row (suc left) each =
    refusing_then P (offset_met meets offset c row) (λ _. offsets_met meets offset c (row + 1) left)
    (refusing_if P (meets (offset row)) (Ok tt) (Err (Offset c row (offset row))) (λ _. refusing_none P tt)
    (λ missed. refusing_one P (Offset c row (offset row))
    (subst (λ (n : ℕ). P (Offset c n (offset n))) (sym (row_on row))
    (each zero (omega arith) (subst (λ (n : ℕ). meets (offset n) ≡ false) (row_on row) missed)))))
    (λ met _. offsets_true P meets offset c (row + 1) left (λ j below missed.
    subst (λ (n : ℕ). P (Offset c n (offset n))) (sym (one_on row j))
    (each (suc j) (omega (arith, below)) (subst (λ (n : ℕ). meets (offset n) ≡ false) (one_on row j) missed))))

-- how many groups come before the next one

sample_more : (groups : List GroupRow) (k : ℕ) (group : GroupRow) → slice_get groups k ≡ Some group
    → length (filter holds_samples (take (k + 1) groups)) ≡ length (filter holds_samples (take k groups)) + cond (holds_samples group) 1 0
sample_more groups k group there =
    length-filter_more holds_samples groups k group (slice_get_within groups k group there)
    ∙ ap (λ (g : GroupRow). length (filter holds_samples (take k groups)) + cond (holds_samples g) 1 0) (get_or_from_slice_get groups k group group there)

-- how many groups were counted behind some
one_more : (b : Bool) (group : GroupRow) (rest : List GroupRow) → length (cond b (group ∷ rest) rest) ≡ cond b 1 0 + length rest
one_more true group rest = omega arith
one_more false group rest = omega arith

all_next : (lists : List (List ℕ)) (k : ℕ) (groups : List GroupRow) (number : ℕ) (found : List (Unit {0}) × ℕ)
    → every (counted_group lists) k groups number ≡ Ok found → found.1 ≡ number + length (filter holds_samples groups)
unfolding every
all_next lists k [] number found is =
    let same : number ≡ found.1 = ap (λ (y : List (Unit {0}) × ℕ). y.1) (ok_injective ([], number) found is) in omega (arith, same)
all_next lists k (group ∷ groups) number found is =
    let first = bind_ok (counted_group lists k group number)
    (λ found. every (counted_group lists) (k + 1) groups found.1 >>= λ rest. Ok (option_to_list found.0 ++ rest.0, rest.1)) found is in
    let second = bind_ok (every (counted_group lists) (k + 1) groups first.0.1) (λ rest. Ok (option_to_list first.0.0 ++ rest.0, rest.1)) found first.2 in
    let same : second.0.1 ≡ found.1 =
    ap (λ (y : List (Unit {0}) × ℕ). y.1) (ok_injective (option_to_list first.0.0 ++ second.0.0, second.0.1) found second.2) in
    let here = (count_found lists k group number first.0 first.1).1 in
    let rest = all_next lists (k + 1) groups first.0.1 second.0 second.1 in
    omega (arith, same, here, rest, one_more (holds_samples group) group (filter holds_samples groups))

pub next_is : (lists : List (List ℕ)) (groups : List GroupRow) (number next : ℕ) → counted lists groups number ≡ Ok next
    → next ≡ number + length (filter holds_samples groups)
unfolding counted
next_is lists groups number next is =
    let first = bind_ok (every (counted_group lists) 0 groups number) (λ found. Ok found.1) next is in
    sym (ok_injective first.0.1 next first.2) ∙ all_next lists 0 groups number first.0 first.1

module _ (f : List ℕ) (row : DataRow) (before : ℕ) (parts : List Part) (lists : List (List ℕ)) (records : List Record) (rest : List ℕ)
    (split : IsDataSplit f row records rest) (inside : ArePartsInside (length f) parts) (hold : HoldBodies (stream_of f parts) row lists records) where
  abbrev Holds : Refusal → Type 0
  Holds refusal = IsTrue f row before refusal

  -- counts
  abbrev Numbers : ℕ → ℕ → Type 0
  Numbers k number = number ≡ before + length (filter holds_samples (take k row.groups))

  count_true : (k : ℕ) (group : GroupRow) (number : ℕ) → slice_get row.groups k ≡ Some group → Numbers k number
      → Refusing Holds (counted_group lists k group number)
  count_true k group number there is_number =
      let found = length (get_or lists k []) in
      refusing_if Holds (is_variable group) (Ok (None, number)) _ (λ _. refusing_none Holds (None, number))
      (λ samples. refusing_if Holds (nat_lt found group.cycles) (Err (Cycles number group.cycles found)) (Ok (None, number + 1))
      (λ few. refusing_one Holds (Cycles number group.cycles found) (own_true f row before (Cycles number group.cycles found) tt (record {
        records = records;
        rest = rest;
        split = split;
        k = k;
        group = group;
        is_group = record { there = there; samples = samples };
        is_number = is_number;
        is_said = refl;
        is_found = places_long (stream_of f parts) (size_of group) (get_or lists k []) (bodies row.id_size records k) (hold k group there);
        more = ltb-true found group.cycles few;
      })))
      (λ _. refusing_none Holds (None, number + 1)))

  count_next : (k : ℕ) (group : GroupRow) (number : ℕ) (found : Option (Unit {0}) × ℕ) → slice_get row.groups k ≡ Some group → Numbers k number
      → counted_group lists k group number ≡ Ok found → Numbers (k + 1) found.1
  count_next k group number found there is_number is =
      omega (arith, is_number, sample_more row.groups k group there, (count_found lists k group number found is).1)

  none_before : before ≡ before + 0
  none_before = omega arith

  pub counts_true : Refusing Holds (counted lists row.groups before)
  unfolding counted
  counts_true =
      refusing_then Holds (every (counted_group lists) 0 row.groups before) (λ found. Ok found.1)
      (refusing_every Holds (counted_group lists) (λ k group. slice_get row.groups k ≡ Some group) Numbers count_true count_next
      0 row.groups before (all_there row.groups) none_before)
      (λ found _. refusing_none Holds found.1)

  -- values
  module _ (k : ℕ) (group : GroupRow) (there : slice_get row.groups k ≡ Some group) (samples : is_variable group ≡ false) where
    abbrev places : List ℕ
    places = get_or lists k []

    abbrev count : ℕ
    count = min group.cycles (length places)

    abbrev own : GroupRecords
    own = record { data_bytes = group.data_bytes; places = places; count = count }

    abbrev size : ℕ
    size = group.data_bytes + group.inval_bytes

    own_is : own_records row records k group ≡ take group.cycles (map (λ (place : ℕ). bytes_at size (stream_of f parts) place) places)
    own_is =
        let fixed : size_of group ≡ sizes.Fixed size = cond-false (is_variable group) sizes.Variable (sizes.Fixed size) samples in
        ap (take group.cycles) (sym (hold k group there)
        ∙ ap (λ (s : Size). bodies_at (stream_of f parts) s places) fixed)

    missed_true : (c : ℕ) (channel : ChannelRow) → slice_get group.channels c ≡ Some channel → is_of_values channel ≡ true
        → (found : List Part) → IsValuesOf f row records channel.values (values_group row.groups channel.values 0) (stream_of f found)
        → (i : ℕ) → i < count → has_value (stream_of f found) (offset_in (stream_of f parts) own channel i) ≡ false
        → MissesValue f row c i (offset_in (stream_of f parts) own channel i)
    missed_true c channel is_channel kind found values i below missed =
        let stream = stream_of f parts in
        let body = bytes_at size stream (get_or places i 0) in record {
          records = records;
          rest = rest;
          split = split;
          k = k;
          group = group;
          is_group = record { there = there; samples = samples };
          channel = channel;
          is_channel = is_channel;
          kind = kind;
          stream = stream_of f found;
          values = values;
          body = body;
          is_body = ap (λ (xs : List (List ℕ)). slice_get xs i) own_is ∙ record_at (λ (place : ℕ). bytes_at size stream place) group.cycles places i below;
          is_offset = ap (field_number (spot_in (field_of channel))) (sym (take_less group.data_bytes group.inval_bytes (drop (get_or places i 0) stream)));
          none = λ value is. both_ways _ missed (value_is (stream_of f found) (offset_in stream own channel i) value is);
        }

    -- the values that a channel names are there, or its link to data is refused
    values_true : (c : ℕ) (channel : ChannelRow) → slice_get group.channels c ≡ Some channel → is_of_values channel ≡ true → (where_from : Option ℕ)
        → values_group row.groups channel.values 0 ≡ where_from → Refusing Holds (values_in f (held_by parts row lists) channel.values where_from)
    values_true c channel is_channel kind (Some k) from = refusing_none Holds _
    values_true c channel is_channel kind None from =
        link_true f row before Sd (inr refl) channel.values (λ refusal refused. inr (inr (record {
          k = k;
          group = group;
          is_group = record { there = there; samples = samples };
          c = c;
          channel = channel;
          is_channel = is_channel;
          kind = kind;
          none = from;
          refused = refused;
        })))

    channel_true : (c : ℕ) (channel : ChannelRow) → slice_get group.channels c ≡ Some channel → is_of_values channel ≡ true
        → Refusing Holds (channel_found f (held_by parts row lists) own channel c)
    unfolding channel_found channel_values
    channel_true c channel is_channel kind =
        let held = held_by parts row lists in
        refusing_then Holds (values_in f held channel.values (values_group row.groups channel.values 0)) _
        (values_true c channel is_channel kind (values_group row.groups channel.values 0) refl)
        (λ found is.
        let values = (values_of f row parts lists records inside hold channel.values (values_group row.groups channel.values 0) found refl is).0 in
        refusing_then Holds (offsets_met (has_value (stream_of f found)) (offset_in (stream_of f parts) own channel) c 0 count) _
        (offsets_true Holds (has_value (stream_of f found)) (offset_in (stream_of f parts) own channel) c 0 count
        (λ j below missed.
        let from_zero : j ≡ 0 + j = omega arith in
        own_true f row before (Offset c (0 + j) (offset_in (stream_of f parts) own channel (0 + j))) tt
        (subst (λ (n : ℕ). MissesValue f row c n (offset_in (stream_of f parts) own channel n)) from_zero
        (missed_true c channel is_channel kind found values j below
        (subst (λ (n : ℕ). has_value (stream_of f found) (offset_in (stream_of f parts) own channel n) ≡ false) (sym from_zero) missed)))))
        (λ met _. refusing_none Holds found))

    item_true : (c : ℕ) (channel : ChannelRow) (left : Unit {0}) → slice_get group.channels c ≡ Some channel → Unit {0}
        → Refusing Holds (channel_place f (held_by parts row lists) own c channel left)
    unfolding channel_place
    item_true c channel left is_channel nothing =
        refusing_if Holds (nat_eq channel.kind 1) _ (Ok (None, left))
        (λ kind. refusing_then Holds (channel_found f (held_by parts row lists) own channel c) (λ values. Ok (Some values, left))
        (channel_true c channel is_channel kind) (λ values _. refusing_none Holds (Some values, left)))
        (λ _. refusing_none Holds (None, left))

    group_found_true : Refusing Holds (group_found f (held_by parts row lists) k group places)
    unfolding group_found values_found
    group_found_true =
        refusing_then Holds (layout group) _ (layout_true f row before k group there)
        (λ shape _. refusing_then Holds (values_found f (held_by parts row lists) own group.channels) _
        (refusing_then Holds (every (channel_place f (held_by parts row lists) own) 0 group.channels tt) (λ found. Ok found.0)
        (refusing_every Holds (channel_place f (held_by parts row lists) own)
        (λ c channel. slice_get group.channels c ≡ Some channel) (λ c left. Unit {0}) item_true (λ c channel left found there nothing is. tt)
        0 group.channels tt (all_there group.channels) tt)
        (λ found _. refusing_none Holds found.0))
        (λ found _. refusing_none Holds _))

  group_true : (k : ℕ) (group : GroupRow) (left : Unit {0}) → slice_get row.groups k ≡ Some group → Unit {0}
      → Refusing Holds (group_place f (held_by parts row lists) k group left)
  unfolding group_place
  group_true k group left there nothing =
      refusing_if Holds (is_variable group) (Ok (None, left)) _ (λ _. refusing_none Holds (None, left))
      (λ samples. refusing_then Holds (group_found f (held_by parts row lists) k group (get_or lists k [])) (λ found. Ok (Some found, left))
      (group_found_true k group there samples) (λ found _. refusing_none Holds (Some found, left)))

  pub all_true : Refusing Holds (data_at f parts row lists)
  unfolding data_at groups_found
  all_true =
      refusing_then Holds (groups_found f (held_by parts row lists)) _
      (refusing_then Holds (every (group_place f (held_by parts row lists)) 0 row.groups tt) (λ found. Ok found.0)
      (refusing_every Holds (group_place f (held_by parts row lists))
      (λ k group. slice_get row.groups k ≡ Some group) (λ k left. Unit {0}) group_true (λ k group left found there nothing is. tt)
      0 row.groups tt (all_there row.groups) tt)
      (λ found _. refusing_none Holds found.0))
      (λ found _. refusing_none Holds _)
