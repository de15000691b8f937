-- What the data group of a recording holds is found by a reader.
use Rattle.std.proofs.Common.{◌≡◌, ◌+◌, ◌<◌, ℕ, zero, suc, true, false, List, [], ◌∷◌, length, get_or, take, drop, map, Ok, Err, refl, sym, ◌∙◌, ap, subst, inl, inr, arith}
use Rattle.std.proofs.lemmas.Bool.{le-leb, and_from, cond-true, cond-false}
use Rattle.std.proofs.lemmas.List.{length-map, get_or-map}
use Rattle.std.proofs.lemmas.Option.{same_Some}
use Rattle.std.specs.Prelude.{Bool, nat_eq, nat_le, filter, slice_get, slice_index_or, Option, Some, None}
use Rattle.std.specs.List.{AllByRecursion, AllZip}
use Rattle.mdf_format.specs.Number.{le_number, bytes_at}
use Rattle.mdf_format.specs.Field.{field_number}
use Rattle.mdf_format.specs.Value.{IsValueAt}
use Rattle.mdf_block.specs.Refusal.{Offset, Read, ◌>>=◌}
use Rattle.mdf_stream.specs.declared.part.Part.{Part}
use Rattle.mdf_stream.specs.Parts.{stream_of, ArePartsInside}
use Rattle.mdf_data.specs.declared.known.Size.{Size}
use Rattle.mdf_data.specs.declared.known.Size.TheVariants as sizes
use Rattle.mdf_data.specs.Split.{Record}
use Rattle.mdf_group.specs.declared.row.ChannelRow.{ChannelRow}
use Rattle.mdf_group.specs.declared.row.GroupRow.{GroupRow}
use Rattle.mdf_group.specs.declared.row.DataRow.{DataRow}
use Rattle.mdf_group.specs.Group.{is_variable}
use Rattle.mdf_group.specs.Recordable.{is_of_values}
use Rattle.mdf_layout.specs.Rule.{spot_in}
use Rattle.mdf_layout.specs.Layout.{Layout}
use Rattle.mdf_content.specs.Layouts.{field_of, layout_of, layout}
use Rattle.mdf_content.specs.Records.{record_size, size_of}
use Rattle.mdf_content.specs.Contents.{records_at}
use Rattle.mdf_content.specs.Values.{has_value, offsets_met, DataStream, values_group, values_in, GroupRecords, offset_in, channel_values, channel_stream, channel_item, streams}
use Rattle.mdf_block.proofs.Items.{one_of}
use Rattle.mdf_session.specs.Counted.{group_streams, all_streams}
use Rattle.mdf_session.specs.Counted as counted
use Rattle.mdf_data.specs.Bodies.{bodies}
use Rattle.mdf_model.specs.Contents.{MeetsValue, IsChannelStream}
use Rattle.mdf_data.proofs.Bodies.{bodies_at}
use Rattle.mdf_model.proofs.Channels.{HoldBodies, held_by, values_of, take_less}
use Rattle.mdf_block.proofs.Cases.{two_ways}
use Rattle.mdf_model.proofs.Onces.{values_unique}
use Rattle.mdf_carried.proofs.Laid.{every_found}

-- an offset that meets a value passes the test
value_has : (stream : List ℕ) (offset : ℕ) (value : List ℕ) → IsValueAt stream offset value → has_value stream offset ≡ true
value_has stream offset value is =
    and_from (nat_le (offset + 4) (length stream)) (nat_le (offset + 4 + le_number (bytes_at 4 stream offset)) (length stream))
    (le-leb (offset + 4) (length stream) (omega (arith, is.whole)))
    (le-leb (offset + 4 + le_number (bytes_at 4 stream offset)) (length stream) (omega (arith, is.whole, is.length_is)))

zero_on : (n : ℕ) → n ≡ 0 + n
zero_on n = omega arith

from_here : (n : ℕ) → n + 0 ≡ n
from_here n = omega arith

one_on : (n k : ℕ) → n + suc k ≡ n + 1 + k
one_on n k = omega arith

-- offsets that all meet values
all_meet : (meets : ℕ → Bool) (offset : ℕ → ℕ) (channel row left : ℕ) → ((j : ℕ) → j < left → meets (offset (row + j)) ≡ true)
    → offsets_met meets offset channel row left ≡ Ok tt
unfolding offsets_met
all_meet meets offset channel row zero each = refl
all_meet meets offset channel row (suc left) each =
    let here : meets (offset row) ≡ true = ap (λ (n : ℕ). meets (offset n)) (sym (from_here row)) ∙ each 0 (omega arith) in
    ap (λ (read : Read (Unit {0})). read >>= λ _. offsets_met meets offset channel (row + 1) left)
    (cond-true (meets (offset row)) (Ok tt) (Err (Offset channel row (offset row))) here)
    ∙ all_meet meets offset channel (row + 1) left
    (λ j below. ap (λ (n : ℕ). meets (offset n)) (sym (one_on row j)) ∙ each (suc j) (omega (arith, below)))

-- of lists that fit where a test passes, what fits an item that passes
pub fitting : {A B : Type 0} (test : A → Bool) (R : A → B → Type 0) (xs : List A) (ys : List B) → AllZip R (filter test xs) ys
    → (j : ℕ) (x : A) → slice_get xs j ≡ Some x → test x ≡ true → (y : B) × R x y
fitting {A} test R [] ys fit j x there is = let wrong : ◌≡◌ {A = Option A} None (Some x) = there in cc
fitting {A} test R (first ∷ xs) [] fit zero x there is =
    let same : first ≡ x = same_Some first x there in
    absurd (subst (λ (zs : List A). AllZip R zs []) (cond-true (test first) (first ∷ filter test xs) (filter test xs) (ap test same ∙ is)) fit)
fitting {A} test R (first ∷ xs) (y ∷ ys) fit zero x there is =
    let same : first ≡ x = same_Some first x there in
    let all = subst (λ (zs : List A). AllZip R zs (y ∷ ys)) (cond-true (test first) (first ∷ filter test xs) (filter test xs) (ap test same ∙ is)) fit in
    (y, subst (λ (z : A). R z y) same all.0)
fitting {A} test R (first ∷ xs) [] fit (suc j) x there is =
    let more = filter test xs in
    elim (two_ways (test first)) [
      | inl passes ↦ absurd (subst (λ (zs : List A). AllZip R zs []) (cond-true (test first) (first ∷ more) more passes) fit)
      | inr drops ↦ fitting test R xs [] (subst (λ (zs : List A). AllZip R zs []) (cond-false (test first) (first ∷ more) more drops) fit) j x there is
    ]
fitting {A} test R (first ∷ xs) (y ∷ ys) fit (suc j) x there is =
    let more = filter test xs in
    elim (two_ways (test first)) [
      | inl passes ↦
          fitting test R xs ys (subst (λ (zs : List A). AllZip R zs (y ∷ ys)) (cond-true (test first) (first ∷ more) more passes) fit).1 j x there is
      | inr drops ↦
          fitting test R xs (y ∷ ys) (subst (λ (zs : List A). AllZip R zs (y ∷ ys)) (cond-false (test first) (first ∷ more) more drops) fit) j x there is
    ]

module _ (file : List ℕ) (row : DataRow) (parts : List Part) (lists : List (List ℕ)) (records : List Record)
    (inside : ArePartsInside (length file) parts) (hold : HoldBodies (stream_of file parts) row lists records) where
  abbrev held : DataStream
  held = held_by parts row lists

  abbrev places_in : ℕ → List ℕ
  places_in k = slice_index_or lists k []

  abbrev of_group : ℕ → GroupRow → GroupRecords
  of_group k group = records_at false group (places_in k)

  -- where the values of a channel are
  abbrev pub ValuesOf : ChannelRow → Read (List Part)
  ValuesOf channel = values_in file held channel.values (values_group row.groups channel.values 0)

  -- a channel whose values are found, and whose offsets meet them
  channel_read : (k : ℕ) (group : GroupRow) (c : ℕ) (channel : ChannelRow) (stream : List ℕ) (values : List Part) → slice_get row.groups k ≡ Some group
      → is_variable group ≡ false → ValuesOf channel ≡ Ok values
      → IsChannelStream file row records group.data_bytes (bodies row.id_size records k) channel stream
      → (s : List ℕ) × (channel_stream file held (of_group k group) channel c ≡ Ok s)
  unfolding channel_stream channel_values
  channel_read k group c channel stream values there samples found is =
      let whole = stream_of file parts in
      let places = places_in k in
      let records_are = of_group k group in
      let own = bodies row.id_size records k in
      let size = record_size group in
      let sized : size_of group ≡ sizes.Fixed size = cond-false (is_variable group) sizes.Variable (sizes.Fixed size) samples in
      let there_own : map (λ (place : ℕ). bytes_at size whole place) places ≡ own =
      ap (λ (s : Size). bodies_at whole s places) (sym sized) ∙ hold k group there in
      let link = channel.values in
      let named = values_group row.groups link 0 in
      let same : stream ≡ stream_of file values = values_unique file row records link named stream (stream_of file values) is.values
      (values_of file row parts lists records inside hold link named values refl found).0 in
      let met : AllByRecursion (MeetsValue (stream_of file values) group.data_bytes channel) own =
      subst (λ (s : List ℕ). AllByRecursion (MeetsValue s group.data_bytes channel) own) same is.met in
      let tests = offsets_met (has_value (stream_of file values)) (offset_in whole records_are channel) c 0 (length places) in
      let passes : tests ≡ Ok tt =
      all_meet (has_value (stream_of file values)) (offset_in whole records_are channel) c 0 (length places) (λ j below.
      let place = get_or places j 0 in
      let long : j < length own = omega (arith, below, ap length there_own, length-map places (λ (p : ℕ). bytes_at size whole p)) in
      let body : get_or own j [] ≡ bytes_at size whole place =
      ap (λ (xs : List (List ℕ)). get_or xs j []) (sym there_own) ∙ get_or-map (λ (p : ℕ). bytes_at size whole p) places j 0 [] below in
      let front : take group.data_bytes (get_or own j []) ≡ bytes_at group.data_bytes whole place =
      ap (take group.data_bytes) body ∙ take_less group.data_bytes group.inval_bytes (drop place whole) in
      let one = one_of (MeetsValue (stream_of file values) group.data_bytes channel) own j [] met long in
      let offset_is : field_number (spot_in (field_of channel)) (take group.data_bytes (get_or own j [])) ≡ offset_in whole records_are channel (0 + j) =
      ap (field_number (spot_in (field_of channel))) front
      ∙ ap (λ (n : ℕ). offset_in whole records_are channel n) (zero_on j) in
      value_has (stream_of file values) (offset_in whole records_are channel (0 + j)) one.0
      (subst (λ (n : ℕ). IsValueAt (stream_of file values) n one.0) offset_is one.1)) in
      let behind : List Part → Read (List ℕ) = λ ps.
      offsets_met (has_value (stream_of file ps)) (offset_in whole records_are channel) c 0 (length places) >>= λ _. Ok (stream_of file ps) in (
        stream_of file values,
        ap (λ (read : Read (List Part)). read >>= behind) found
            ∙ ap (λ (read : Read (Unit {0})). read >>= λ _. Ok (stream_of file values)) passes,
      )

  -- all channels of a group, where those of variable length are such
  abbrev pub IsSuch : ℕ → GroupRow → ChannelRow → Type 0
  IsSuch k group channel = (values : List Part) × (ValuesOf channel ≡ Ok values)
      × ((stream : List ℕ) × IsChannelStream file row records group.data_bytes (bodies row.id_size records k) channel stream)

  channels_read : (k : ℕ) (group : GroupRow) → slice_get row.groups k ≡ Some group → is_variable group ≡ false
      → ((j : ℕ) (channel : ChannelRow) → slice_get group.channels j ≡ Some channel → is_of_values channel ≡ true → IsSuch k group channel)
      → (found : List (List ℕ)) × (streams file held (of_group k group) group.channels ≡ Ok found)
  unfolding streams channel_item
  channels_read k group there samples such =
      let item = channel_item file held (of_group k group) in
      let all = every_found item 0 group.channels (λ j channel known.
      elim (two_ways (nat_eq channel.kind 1)) [
        | inl variable ↦
            let is = such j channel known variable in
            let one = channel_read k group (0 + j) channel is.2.0 is.0 there samples is.1 is.2.1 in (
              Some one.0,
              cond-true (nat_eq channel.kind 1) (channel_stream file held (of_group k group) channel (0 + j) >>= λ s. Ok (Some s, tt)) (Ok (None, tt)) variable
                  ∙ ap (λ (read : Read (List ℕ)). read >>= λ s. Ok (Some s, tt)) one.1,
            )
        | inr other ↦ (
          None,
          cond-false (nat_eq channel.kind 1) (channel_stream file held (of_group k group) channel (0 + j) >>= λ s. Ok (Some s, tt)) (Ok (None, tt)) other,
        )
      ]) in
      (all.0, ap (λ (read : Read (List (List ℕ) × Unit {0})). read >>= λ found. Ok found.0) all.1)

  -- all groups
  pub streams_read : ((k : ℕ) (group : GroupRow) → slice_get row.groups k ≡ Some group → layout group ≡ Ok (layout_of group))
      → ((k : ℕ) (group : GroupRow) → slice_get row.groups k ≡ Some group → is_variable group ≡ false
      → (j : ℕ) (channel : ChannelRow) → slice_get group.channels j ≡ Some channel → is_of_values channel ≡ true → IsSuch k group channel)
      → (found : List (List ℕ)) × (all_streams file held ≡ Ok found)
  unfolding all_streams group_streams
  streams_read laid such =
      let item = group_streams file held in
      let all = every_found item 0 row.groups (λ k group there.
      let place : slice_get row.groups k ≡ Some group = there in
      elim (two_ways (is_variable group)) [
        | inl variable ↦ (
          None,
          cond-true (is_variable group) (Ok (None, tt))
              (layout group >>= λ _. streams file held (of_group (0 + k) group) group.channels >>= λ found. Ok (Some found, tt)) variable,
        )
        | inr other ↦
            let one = channels_read k group there other (such k group there other) in
            let here : streams file held (of_group (0 + k) group) group.channels ≡ Ok one.0 =
            ap (λ (n : ℕ). streams file held (of_group n group) group.channels) (sym (zero_on k)) ∙ one.1 in (
              Some one.0,
              cond-false (is_variable group) (Ok (None, tt))
                  (layout group >>= λ _. streams file held (of_group (0 + k) group) group.channels >>= λ found. Ok (Some found, tt)) other
                  ∙ ap (λ (read : Read Layout). read >>= λ _. streams file held (of_group (0 + k) group) group.channels >>= λ found. Ok (Some found, tt)) (laid k group there)
                  ∙ ap (λ (read : Read (List (List ℕ))). read >>= λ found. Ok (Some found, tt)) here,
            )
      ]) in
      (counted.joined all.0, ap (λ (read : Read (List (List (List ℕ)) × Unit {0})). read >>= λ found. Ok (counted.joined found.0)) all.1)
