-- Where the offsets of a group's channels meet values, each of its records has a sample.
use Rattle.std.proofs.Common.{◌≡◌, ◌+◌, ◌-◌, ◌*◌, ◌<◌, ◌≤◌, ℕ, zero, suc, Bool, true, false, List, [], ◌∷◌, ◌++◌, length, get_or, map, take, drop, Option, Some, None, Ok, Err, refl, sym, ◌∙◌, ap, subst, arith, length-append, inl, inr}
use Rattle.std.proofs.lemmas.Bool.{cond-true, cond-false, eqb-true, and_parts, leb-true}
use Rattle.std.proofs.lemmas.List.{get_or-take, length-take-le, take_at, take-take, length-drop}
use Rattle.std.specs.List.{AllByRecursion}
use Rattle.std.specs.Option.{option_to_list, option_map, option_and_then}
use Rattle.std.specs.Prelude.{filter, slice_index_or, if◌then◌else◌, nat_eq, nat_lt, ◌||◌, nat_le, ◌&&◌}
use Rattle.mdf_format.specs.Number.{bytes_at}
use Rattle.mdf_format.specs.Field.{Spot, field_number}
use Rattle.mdf_format.specs.Row as forms
use Rattle.mdf_format.specs.Row.{form_of}
use Rattle.mdf_format.specs.Value.{IsValueAt}
use Rattle.mdf_block.specs.Refusal.{Offset, Read, ◌>>=◌}
use Rattle.mdf_block.proofs.Refusals.{bind_ok}
use Rattle.mdf_block.proofs.Wholes.{chosen}
use Rattle.mdf_stream.specs.Parts.{stream_of}
use Rattle.mdf_stream.proofs.Joins.{bytes_at-second}
use Rattle.mdf_data.proofs.Pieces.{length-bytes}
use Rattle.mdf_group.specs.declared.row.ChannelRow.{ChannelRow}
use Rattle.mdf_group.specs.declared.row.GroupRow.{GroupRow}
use Rattle.mdf_group.specs.Group as groups
use Rattle.mdf_group.specs.Recordable.{numbers_of}
use Rattle.mdf_vlsd.specs.Value.{value_at, size_there}
use Rattle.mdf_layout.specs.Layout.{Layout}
use Rattle.mdf_layout.specs.Row.{kind_in}
use Rattle.mdf_layout.specs.Rule.{spot_in, is_variable, is_variable_kind}
use Rattle.mdf_layout.specs.Values.{Finder, value_in, is_valid, entry_of, first_finder, finders_behind, sample_by}
use Rattle.mdf_layout.specs.declared.field.FieldRow.{FieldRow}
use Rattle.mdf_layout.specs.declared.field.FieldKind.{FieldKind}
use Rattle.mdf_layout.specs.declared.field.FieldKind.TheVariants.{Unsigned, Signed, Fixed, Variable, Virtual}
use Rattle.mdf_layout.specs.declared.sample.Value.{Value}
use Rattle.mdf_layout.specs.declared.sample.Value.TheVariants as value
use Rattle.mdf_layout.specs.declared.sample.Entry.{Entry}
use Rattle.mdf_block.specs.Every.{every}
use Rattle.mdf_content.specs.Layouts.{field_of, layout}
use Rattle.mdf_content.specs.Values.{DataStream, GroupRecords, has_value, offset_met, offsets_met, offset_in, channel_values, channel_stream, channel_item, streams}
use Rattle.mdf_content.specs.Records as bodies
use Rattle.mdf_content.specs.Contents.{content_of}
use Rattle.mdf_content.specs.Samples.{record_at, AreSamples}
use Rattle.mdf_content.proofs.Laid.{laid_shape}
use Rattle.mdf_block.proofs.Cases.{ok_injective}

abbrev pub HaveRoom : ℕ → ℕ → List ℕ → Type 0
HaveRoom total size places = AllByRecursion (λ (place : ℕ). place + size ≤ total) places

-- records one behind the other
none_long : (size : ℕ) → 0 ≡ 0 * size
none_long size = omega arith

one_longer : (n size : ℕ) → size + n * size ≡ suc n * size
one_longer n size = grind arith

pub length-content : (stream : List ℕ) (size : ℕ) (places : List ℕ) → HaveRoom (length stream) size places
    → length (content_of stream size places) ≡ length places * size
length-content stream size [] room = none_long size
length-content stream size (place ∷ places) room =
    length-append (bytes_at size stream place) (content_of stream size places)
    ∙ ap (λ (n : ℕ). n + length (content_of stream size places)) (length-bytes size place stream room.0)
    ∙ ap (λ (n : ℕ). size + n) (length-content stream size places room.1)
    ∙ one_longer (length places) size

-- and each of them is what stands at its place
one_size : (i size n : ℕ) → n ≡ size → n ≤ suc i * size
one_size i size n same = omega (arith, same, one_longer i size)

one_size_less : (i size n : ℕ) → n ≡ size → suc i * size - n ≡ i * size
one_size_less i size n same = omega (arith, same, one_longer i size)

pub content_at : (stream : List ℕ) (size : ℕ) (places : List ℕ) (i d : ℕ) → HaveRoom (length stream) size places → i < length places
    → bytes_at size (content_of stream size places) (i * size) ≡ bytes_at size stream (get_or places i d)
content_at stream size [] i d room below = absurd (omega (arith, below))
content_at stream size (place ∷ places) zero d room below =
    ap (bytes_at size (content_of stream size (place ∷ places))) (sym (none_long size))
    ∙ take_at (bytes_at size stream place) (content_of stream size places) size (length-bytes size place stream room.0)
content_at stream size (place ∷ places) (suc i) d room below =
    let first = bytes_at size stream place in
    let long : length first ≡ size = length-bytes size place stream room.0 in
    bytes_at-second size (suc i * size) first (content_of stream size places) (one_size i size (length first) long)
    ∙ ap (bytes_at size (content_of stream size places)) (one_size_less i size (length first) long)
    ∙ content_at stream size places i d room.1 (omega (arith, below))

pub front_room : (total size n : ℕ) (places : List ℕ) → HaveRoom total size places → HaveRoom total size (take n places)
front_room total size zero places room = tt
front_room total size (suc n) [] room = tt
front_room total size (suc n) (place ∷ places) room = (room.0, front_room total size n places room.1)

-- the offsets that were looked at meet values
none_here : (k : ℕ) → k ≡ k + 0
none_here k = omega arith

one_more : (k j : ℕ) → k + 1 + j ≡ k + suc j
one_more k j = omega arith

one_met : (meets : ℕ → Bool) (offset : ℕ → ℕ) (channel row : ℕ) (u : Unit {0}) → offset_met meets offset channel row ≡ Ok u → meets (offset row) ≡ true
one_met meets offset channel row u is =
    elim (chosen (meets (offset row)) (Ok tt) (Err (Offset channel row (offset row))) (Ok u) is) [
      | inl met ↦ met.0
      | inr missed ↦ let wrong : ◌≡◌ {A = Read (Unit {0})} (Err (Offset channel row (offset row))) (Ok u) = missed.1 in cc
    ]

pub all_met : (meets : ℕ → Bool) (offset : ℕ → ℕ) (channel from left : ℕ) (u : Unit {0}) → offsets_met meets offset channel from left ≡ Ok u
    → (k : ℕ) → k < left → meets (offset (from + k)) ≡ true
unfolding offsets_met
all_met meets offset channel from zero u is k below = absurd (omega (arith, below))
all_met meets offset channel from (suc left) u is zero below =
    let both = bind_ok (offset_met meets offset channel from) (λ _. offsets_met meets offset channel (from + 1) left) u is in
    subst (λ (row : ℕ). meets (offset row) ≡ true) (none_here from) (one_met meets offset channel from both.0 both.1)
all_met meets offset channel from (suc left) u is (suc k) below =
    let both = bind_ok (offset_met meets offset channel from) (λ _. offsets_met meets offset channel (from + 1) left) u is in
    subst (λ (row : ℕ). meets (offset row) ≡ true) (one_more from k)
    (all_met meets offset channel (from + 1) left u both.2 k (omega (arith, below)))

from_none : (k : ℕ) → 0 + k ≡ k
from_none k = omega arith

channel_met : (f : List ℕ) (held : DataStream) (records : GroupRecords) (channel : ChannelRow) (c : ℕ) (stream : List ℕ)
    → channel_stream f held records channel c ≡ Ok stream → (row : ℕ) → row < records.count
    → has_value stream (offset_in (stream_of f held.parts) records channel row) ≡ true
unfolding channel_stream
channel_met f held records channel c stream is row below =
    let offset = offset_in (stream_of f held.parts) records channel in
    let first = bind_ok (channel_values f held channel.values)
    (λ parts. offsets_met (has_value (stream_of f parts)) offset c 0 records.count >>= λ _. Ok (stream_of f parts)) stream is in
    let second = bind_ok (offsets_met (has_value (stream_of f first.0)) offset c 0 records.count) (λ _. Ok (stream_of f first.0)) stream first.2 in
    let same : stream_of f first.0 ≡ stream = ok_injective _ _ second.2 in
    let met = all_met (has_value (stream_of f first.0)) offset c 0 records.count second.0 second.1 row below in
    subst (λ (s : List ℕ). has_value s (offset row) ≡ true) same
    (subst (λ (k : ℕ). has_value (stream_of f first.0) (offset k) ≡ true) (from_none row) met)

pub value_found : (stream : List ℕ) (offset : ℕ) → has_value stream offset ≡ true → (v : List ℕ) × (value_at stream offset ≡ Some v)
value_found stream offset has =
    let v = bytes_at (size_there stream offset) stream (offset + 4) in
    (v, cond-true (has_value stream offset) (Some v) None has)

-- a value that is found stands
stands_by : (stream : List ℕ) (offset : ℕ) (both : Bool) (value : List ℕ)
    → (nat_le (offset + 4) (length stream) && nat_le (offset + 4 + size_there stream offset) (length stream)) ≡ both
    → (if both then Some (bytes_at (size_there stream offset) stream (offset + 4)) else None) ≡ Some value → IsValueAt stream offset value
stands_by stream offset false value has is = let wrong : ◌≡◌ {A = Option (List ℕ)} None (Some value) = is in cc
stands_by stream offset true value has is =
    let size = size_there stream offset in
    let parts = and_parts (nat_le (offset + 4) (length stream)) (nat_le (offset + 4 + size) (length stream)) has in
    let whole : offset + 4 + size ≤ length stream = leb-true _ _ parts.1 in
    let same : bytes_at size stream (offset + 4) ≡ value = (let e : ◌≡◌ {A = Option (List ℕ)} (Some (bytes_at size stream (offset + 4))) (Some value) = is in cc) in
    let long : length (bytes_at size stream (offset + 4)) ≡ size =
    length-take-le size (drop (offset + 4) stream) (omega (arith, whole, length-drop (offset + 4) stream)) in
    subst (IsValueAt stream offset) same (record {
      length_is = sym long;
      whole = omega (arith, whole, long);
      bytes = ap (λ (n : ℕ). bytes_at n stream (offset + 4)) long;
    })

pub value_stands : (stream : List ℕ) (offset : ℕ) (value : List ℕ) → value_at stream offset ≡ Some value → IsValueAt stream offset value
value_stands stream offset value is = stands_by stream offset _ value refl is

-- a channel has an entry, where the offset of one of variable length meets a value
value_there : (kind : FieldKind) (spot : Spot) (bytes : List ℕ) (find : Finder) (index : ℕ)
    → (is_variable_kind kind ≡ true → (v : List ℕ) × (find (field_number spot bytes) ≡ Some v))
    → (v : Value) × (value_in kind spot bytes find index ≡ Some v)
value_there Unsigned spot bytes find index met = (_, refl)
value_there Signed spot bytes find index met = (_, refl)
value_there Fixed spot bytes find index met = (_, refl)
value_there Variable spot bytes find index met = let one = met refl in (value.Bytes one.0, ap (option_map value.Bytes) one.1)
value_there Virtual spot bytes find index met = (_, refl)

entry_there : (row : FieldRow) (bytes inval : List ℕ) (find : Finder) (index : ℕ)
    → (is_variable row ≡ true → (v : List ℕ) × (find (field_number (spot_in row) bytes) ≡ Some v))
    → (entry : Entry) × (entry_of row bytes inval find index ≡ Some entry)
entry_there row bytes inval find index met =
    let one = value_there row.kind (spot_in row) bytes find index met in (
      record { value = one.0; valid = is_valid row inval },
      ap (option_map (λ (v : Value). record { value = v; valid = is_valid row inval })) one.1,
    )

entries_there : (row : FieldRow) (rows : List FieldRow) (bytes inval : List ℕ) (finders : List Finder) (index : ℕ) (entry : Entry) (entries : List Entry)
    → entry_of row bytes inval (first_finder finders) index ≡ Some entry
    → sample_by rows bytes inval (finders_behind row finders) index ≡ Some entries
    → sample_by (row ∷ rows) bytes inval finders index ≡ Some (entry ∷ entries)
unfolding sample_by
entries_there row rows bytes inval finders index entry entries one rest =
    ap (λ (found : Option Entry). option_and_then
    (λ entry. option_map (λ entries. entry ∷ entries) (sample_by rows bytes inval (finders_behind row finders) index)) found) one
    ∙ ap (option_map (λ (entries : List Entry). entry ∷ entries)) rest

-- the field of a channel is an offset exactly where the channel is one of variable length
other_kind : (virtual signed unsigned : Bool) → is_variable_kind (kind_in (if virtual then forms.Virtual
    else (if false then forms.Variable else (if signed then forms.Signed else (if unsigned then forms.Unsigned else forms.Fixed))))) ≡ false
other_kind true signed unsigned = refl
other_kind false true unsigned = refl
other_kind false false true = refl
other_kind false false false = refl

pub variable_field : (channel : ChannelRow) → nat_eq channel.kind 1 ≡ true → is_variable (field_of channel) ≡ true
variable_field channel is =
    ap (λ (k : ℕ). is_variable_kind (kind_in (form_of (record (numbers_of channel) { kind = k })))) (eqb-true channel.kind 1 is)

pub other_field : (channel : ChannelRow) → nat_eq channel.kind 1 ≡ false → is_variable (field_of channel) ≡ false
other_field channel is =
    ap (λ (b : Bool). is_variable_kind (kind_in (if nat_eq channel.kind 3 || nat_eq channel.kind 6 then forms.Virtual
    else (if b then forms.Variable
    else (if nat_eq channel.data_type 2 || nat_eq channel.data_type 3 then forms.Signed
    else (if nat_lt channel.data_type 6 then forms.Unsigned else forms.Fixed)))))) is
    ∙ other_kind (nat_eq channel.kind 3 || nat_eq channel.kind 6) (nat_eq channel.data_type 2 || nat_eq channel.data_type 3)
    (nat_lt channel.data_type 6)

-- what is read for one channel
record IsOne (f : List ℕ) (held : DataStream) (records : GroupRecords) (channel : ChannelRow) (stream : List ℕ) : Type 0 where
  variable : is_variable (field_of channel) ≡ true
  met : (row : ℕ) → row < records.count → has_value stream (offset_in (stream_of f held.parts) records channel row) ≡ true

abbrev IsRead : List ℕ → DataStream → GroupRecords → ChannelRow → Option (List ℕ) → Type 0
IsRead f held records channel None = is_variable (field_of channel) ≡ false
IsRead f held records channel (Some stream) = IsOne f held records channel stream

channel_read : (f : List ℕ) (held : DataStream) (records : GroupRecords) (c : ℕ) (channel : ChannelRow) (left : Unit {0}) (found : Option (List ℕ) × Unit {0})
    → channel_item f held records c channel left ≡ Ok found → IsRead f held records channel found.0
unfolding channel_item
channel_read f held records c channel left found is =
    elim (chosen (nat_eq channel.kind 1) (channel_stream f held records channel c >>= λ stream. Ok (Some stream, left)) (Ok (None, left)) (Ok found) is) [
      | inl variable ↦
          let one = bind_ok (channel_stream f held records channel c) (λ stream. Ok (Some stream, left)) found variable.1 in
          let same : (Some one.0, left) ≡ found = ok_injective _ _ one.2 in
          subst (λ (y : Option (List ℕ) × Unit {0}). IsRead f held records channel y.0) same
          (record { variable = variable_field channel variable.0; met = channel_met f held records channel c one.0 one.1 })
      | inr other ↦
          let same : (None, left) ≡ found = ok_injective _ _ other.1 in
          subst (λ (y : Option (List ℕ) × Unit {0}). IsRead f held records channel y.0) same (other_field channel other.0)
    ]

-- the streams of channels, and the entries of the channels in each record
abbrev Sampled : List ℕ → DataStream → GroupRecords → List ChannelRow → List (List ℕ) → Type 0
Sampled f held records channels found =
    (length found ≡ length (filter is_variable (map field_of channels)))
    × ((row : ℕ) (inval : List ℕ) (index : ℕ) → row < records.count → (entries : List Entry)
    × (sample_by (map field_of channels) (bytes_at records.data_bytes (stream_of f held.parts) (slice_index_or records.places row 0)) inval
    (map value_at found) index ≡ Some entries))

sampled_more : (f : List ℕ) (held : DataStream) (records : GroupRecords) (channel : ChannelRow) (channels : List ChannelRow)
    (one : Option (List ℕ)) (found : List (List ℕ)) → IsRead f held records channel one → Sampled f held records channels found
    → Sampled f held records (channel ∷ channels) (option_to_list one ++ found)
sampled_more f held records channel channels None found is rest =
    let rows = map field_of channels in (
      rest.0 ∙ ap (λ (b : Bool). length (if b then field_of channel ∷ filter is_variable rows else filter is_variable rows)) (sym is),
      λ row inval index below.
          let bytes = bytes_at records.data_bytes (stream_of f held.parts) (slice_index_or records.places row 0) in
          let finders = map value_at found in
          let entry = entry_there (field_of channel) bytes inval (first_finder finders) index
          (λ variable. let wrong : false ≡ true = sym is ∙ variable in cc) in
          let behind : finders_behind (field_of channel) finders ≡ finders = cond-false (is_variable (field_of channel)) (drop 1 finders) finders is in
          let more = rest.1 row inval index below in (
            entry.0 ∷ more.0,
            entries_there (field_of channel) rows bytes inval finders index entry.0 more.0 entry.1
                (ap (λ (all : List Finder). sample_by rows bytes inval all index) behind ∙ more.1),
          ),
    )
sampled_more f held records channel channels (Some stream) found is rest =
    let rows = map field_of channels in (
      ap suc rest.0 ∙ ap (λ (b : Bool). length (if b then field_of channel ∷ filter is_variable rows else filter is_variable rows)) (sym is.variable),
      λ row inval index below.
          let bytes = bytes_at records.data_bytes (stream_of f held.parts) (slice_index_or records.places row 0) in
          let finders = map value_at found in
          let entry = entry_there (field_of channel) bytes inval (value_at stream) index
          (λ variable. value_found stream (offset_in (stream_of f held.parts) records channel row) (is.met row below)) in
          let behind : finders_behind (field_of channel) (value_at stream ∷ finders) ≡ finders =
          cond-true (is_variable (field_of channel)) finders (value_at stream ∷ finders) is.variable in
          let more = rest.1 row inval index below in (
            entry.0 ∷ more.0,
            entries_there (field_of channel) rows bytes inval (value_at stream ∷ finders) index entry.0 more.0 entry.1
                (ap (λ (all : List Finder). sample_by rows bytes inval all index) behind ∙ more.1),
          ),
    )

sampled : (f : List ℕ) (held : DataStream) (records : GroupRecords) (channels : List ChannelRow) (c : ℕ) (left : Unit {0}) (found : List (List ℕ) × Unit {0})
    → every (channel_item f held records) c channels left ≡ Ok found → Sampled f held records channels found.0
unfolding every sample_by
sampled f held records [] c left found is =
    let same : ([], left) ≡ found = ok_injective _ _ is in
    subst (λ (y : List (List ℕ) × Unit {0}). Sampled f held records [] y.0) same (refl, λ row inval index below. ([], refl))
sampled f held records (channel ∷ channels) c left found is =
    let first = bind_ok (channel_item f held records c channel left)
    (λ one. every (channel_item f held records) (c + 1) channels one.1 >>= λ rest. Ok (option_to_list one.0 ++ rest.0, rest.1)) found is in
    let second = bind_ok (every (channel_item f held records) (c + 1) channels first.0.1)
    (λ rest. Ok (option_to_list first.0.0 ++ rest.0, rest.1)) found first.2 in
    let same : (option_to_list first.0.0 ++ second.0.0, second.0.1) ≡ found = ok_injective _ _ second.2 in
    subst (λ (y : List (List ℕ) × Unit {0}). Sampled f held records (channel ∷ channels) y.0) same
    (sampled_more f held records channel channels first.0.0 second.0.0 (channel_read f held records c channel left first.0 first.1)
    (sampled f held records channels (c + 1) first.0.1 second.0 second.1))

-- the records of a group, with the streams of its channels
module _ (f : List ℕ) (held : DataStream) (records : GroupRecords) (channels : List ChannelRow) (inval_bytes : ℕ) where
  abbrev rows : Layout
  rows = record { rows = map field_of channels; data_bytes = records.data_bytes; inval_bytes = inval_bytes }

  abbrev stream : List ℕ
  stream = stream_of f held.parts

  abbrev content : List ℕ
  content = content_of stream (records.data_bytes + inval_bytes) (take records.count records.places)

  -- the bytes of a record are those at its place
  record_there : HaveRoom (length stream) (records.data_bytes + inval_bytes) records.places → records.count ≤ length records.places
      → (i : ℕ) → i < records.count
      → take records.data_bytes (record_at rows content i) ≡ bytes_at records.data_bytes stream (slice_index_or records.places i 0)
  record_there room few i below =
      let size = records.data_bytes + inval_bytes in
      let front = take records.count records.places in
      let long : length front ≡ records.count = length-take-le records.count records.places few in
      let here : record_at rows content i ≡ bytes_at size stream (slice_index_or records.places i 0) =
      content_at stream size front i 0 (front_room (length stream) size records.count records.places room) (omega (arith, below, long))
      ∙ ap (bytes_at size stream) (get_or-take records.count records.places i 0 below) in
      ap (take records.data_bytes) here
      ∙ take-take records.data_bytes size (drop (slice_index_or records.places i 0) stream) (omega arith)

  pub samples_there : (found : List (List ℕ)) → HaveRoom (length stream) (records.data_bytes + inval_bytes) records.places
      → records.count ≤ length records.places → streams f held records channels ≡ Ok found → AreSamples rows records.count content found
  unfolding streams
  samples_there found room few is =
      let size = records.data_bytes + inval_bytes in
      let front = take records.count records.places in
      let long : length front ≡ records.count = length-take-le records.count records.places few in
      let all = bind_ok (every (channel_item f held records) 0 channels tt) (λ found. Ok found.0) found is in
      let same : all.0.0 ≡ found = ok_injective _ _ all.2 in
      let each = subst (Sampled f held records channels) same (sampled f held records channels 0 tt all.0 all.1) in
      record {
        long =
            length-content stream size front (front_room (length stream) size records.count records.places room)
            ∙ ap (λ (n : ℕ). n * size) long;
        each_stream = each.0;
        each_sample = λ i below.
            let record_bytes = record_at rows content i in
            let one = each.1 i (drop records.data_bytes record_bytes) i below in (
              one.0,
              ap (λ (bytes : List ℕ). sample_by (map field_of channels) bytes (drop records.data_bytes record_bytes) (map value_at found) i)
                  (record_there room few i below)
                  ∙ one.1,
            );
      }

-- so it is of a group that holds no values
pub group_samples : (f : List ℕ) (held : DataStream) (group : GroupRow) (places : List ℕ) (count : ℕ) (shape : Layout) (channels : List ChannelRow)
    (content : List ℕ) (found : List (List ℕ)) → groups.is_variable group ≡ false → layout group ≡ Ok shape → channels ≡ group.channels
    → HaveRoom (length (stream_of f held.parts)) (bodies.record_size group) places → count ≤ length places
    → streams f held (record { data_bytes = group.data_bytes; places = places; count = count }) channels ≡ Ok found
    → content ≡ content_of (stream_of f held.parts) (bodies.record_size group) (take count places) → AreSamples shape count content found
group_samples f held group places count shape channels content found other laid channels_are room few is content_is =
    let layout_with : List ChannelRow → Layout =
    λ all. record { rows = map field_of all; data_bytes = group.data_bytes; inval_bytes = group.inval_bytes } in
    let same : layout_with channels ≡ shape =
    ap layout_with (channels_are ∙ sym (cond-false (groups.is_variable group) [] group.channels other)) ∙ laid_shape group shape laid in
    let records : GroupRecords = record { data_bytes = group.data_bytes; places = places; count = count } in
    let base = samples_there f held records channels group.inval_bytes found room few is in
    subst (λ (l : Layout). AreSamples l count content found) same
    (subst (λ (bytes : List ℕ). AreSamples (layout_with channels) count bytes found) (sym content_is) base)
