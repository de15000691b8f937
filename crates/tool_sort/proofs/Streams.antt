-- The streams of channels of variable length in a sorted file: each channel names the block of its values, and the offset in each
-- record meets a value there, since each record has a sample.
use Rattle.std.proofs.Common.{◌≡◌, ◌+◌, ◌<◌, ℕ, suc, Bool, true, false, List, [], ◌∷◌, length, take, drop, map, Option, Some, None, refl, sym, ◌∙◌, ap, subst, arith}
use Rattle.std.proofs.lemmas.Bool.{eqb-true, cond-true, cond-false}
use Rattle.std.specs.Prelude.{nat_eq, filter, if◌then◌else◌}
use Rattle.std.specs.List.{AllByRecursion, AllZip}
use Rattle.std.specs.Option.{option_map}
use Rattle.mdf_format.specs.Field.{field_number}
use Rattle.mdf_format.specs.Value.{IsValueAt}
use Rattle.mdf_format.specs.Row.{form_of}
use Rattle.mdf_block.specs.declared.link.Link.TheVariants as links
use Rattle.mdf_block.specs.Draft.{Placed, address_of}
use Rattle.mdf_stream.specs.Stream.{IsOne}
use Rattle.mdf_data.specs.Split.{Record}
use Rattle.mdf_group.specs.declared.row.ChannelRow.{ChannelRow}
use Rattle.mdf_group.specs.declared.row.DataRow.{DataRow}
use Rattle.mdf_group.specs.Recordable.{is_of_values, numbers_of}
use Rattle.mdf_tree.specs.Group.{past_channel, placed_channel, placed_channels}
use Rattle.mdf_tree.proofs.Has.{address_some}
use Rattle.mdf_spell.specs.Recording.{block_links}
use Rattle.mdf_spell.specs.Standing.{HoldStreams}
use Rattle.mdf_vlsd.specs.Value.{value_at}
use Rattle.mdf_layout.specs.Row.{kind_in}
use Rattle.mdf_layout.specs.Rule as rules
use Rattle.mdf_layout.specs.Rule.{is_variable_kind, spot_in}
use Rattle.mdf_layout.specs.Values.{Finder, value_in, is_valid, entry_of, first_finder, finders_behind, sample_by}
use Rattle.mdf_layout.specs.declared.field.FieldKind.{FieldKind}
use Rattle.mdf_layout.specs.declared.field.FieldKind.TheVariants.{Variable}
use Rattle.mdf_layout.specs.declared.field.FieldRow.{FieldRow}
use Rattle.mdf_layout.specs.declared.sample.Value.{Value}
use Rattle.mdf_layout.specs.declared.sample.Value.TheVariants as value
use Rattle.mdf_layout.specs.declared.sample.Entry.{Entry}
use Rattle.mdf_layout.proofs.Entered.{parts_of_entries}
use Rattle.mdf_content.specs.Layouts.{field_of}
use Rattle.mdf_content.specs.Values.{values_group}
use Rattle.mdf_content.proofs.Samples.{value_stands, other_field}
use Rattle.mdf_model.specs.Contents.{IsValuesOf, MeetsValue, IsChannelStream}
use Rattle.tool_sort.proofs.Fields.{field_same}

-- the field of a channel is an offset exactly where the channel is one of variable length
kind_is : (channel : ChannelRow) → nat_eq channel.kind 1 ≡ true → (field_of channel).kind ≡ Variable
kind_is channel is = ap (λ (k : ℕ). kind_in (form_of (record (numbers_of channel) { kind = k }))) (eqb-true channel.kind 1 is)

-- as many channels of variable length as there are offsets
count_same : (b : Bool) (channel : ChannelRow) (channels : List ChannelRow) → nat_eq channel.kind 1 ≡ b
    → length (filter rules.is_variable (map field_of channels)) ≡ length (filter is_of_values channels)
    → length (filter rules.is_variable (map field_of (channel ∷ channels))) ≡ length (filter is_of_values (channel ∷ channels))
count_same true channel channels is rest =
    let fields = map field_of channels in
    let field : rules.is_variable (field_of channel) ≡ true = ap is_variable_kind (kind_is channel is) in
    ap (λ (b : Bool). length (if b then field_of channel ∷ filter rules.is_variable fields else filter rules.is_variable fields)) field
    ∙ ap suc rest
    ∙ sym (ap (λ (b : Bool). length (if b then channel ∷ filter is_of_values channels else filter is_of_values channels)) is)
count_same false channel channels is rest =
    let fields = map field_of channels in
    ap (λ (b : Bool). length (if b then field_of channel ∷ filter rules.is_variable fields else filter rules.is_variable fields)) (other_field channel is)
    ∙ rest
    ∙ sym (ap (λ (b : Bool). length (if b then channel ∷ filter is_of_values channels else filter is_of_values channels)) is)

pub variable_count : (channels : List ChannelRow)
    → length (filter rules.is_variable (map field_of channels)) ≡ length (filter is_of_values channels)
variable_count [] = refl
variable_count (channel ∷ channels) = count_same (nat_eq channel.kind 1) channel channels refl (variable_count channels)

-- a sample has an entry of its first channel, and those of the others
sample_parts : (row : FieldRow) (rows : List FieldRow) (bytes inval : List ℕ) (finders : List Finder) (index : ℕ) (entries : List Entry)
    → sample_by (row ∷ rows) bytes inval finders index ≡ Some entries
    → (entry : Entry) × (behind : List Entry) × (entry_of row bytes inval (first_finder finders) index ≡ Some entry)
    × (sample_by rows bytes inval (finders_behind row finders) index ≡ Some behind)
unfolding sample_by
sample_parts row rows bytes inval finders index entries is =
    let found = parts_of_entries (entry_of row bytes inval (first_finder finders) index) (sample_by rows bytes inval (finders_behind row finders) index) entries is in
    (found.0, found.1, found.2, found.3)

-- a channel of variable length has an entry only where its offset finds a value
found_of : (found : Option (List ℕ)) (valid : Bool) (entry : Entry)
    → option_map (λ (v : Value). record { value = v; valid = valid }) (option_map value.Bytes found) ≡ Some entry → (bytes : List ℕ) × (found ≡ Some bytes)
found_of None valid entry is = let wrong : ◌≡◌ {A = Option Entry} None (Some entry) = is in cc
found_of (Some bytes) valid entry is = (bytes, refl)

entry_found : (row : FieldRow) (bytes inval : List ℕ) (find : Finder) (index : ℕ) (entry : Entry) → row.kind ≡ Variable
    → entry_of row bytes inval find index ≡ Some entry → (value : List ℕ) × (find (field_number (spot_in row) bytes) ≡ Some value)
entry_found row bytes inval find index entry kind is =
    let g = option_map (λ (v : Value). record { value = v; valid = is_valid row inval }) in
    found_of (find (field_number (spot_in row) bytes)) (is_valid row inval) entry
    (sym (ap (λ (k : FieldKind). g (value_in k (spot_in row) bytes find index)) kind) ∙ is)

module _ (file : List ℕ) (blocks : List Placed) (row : DataRow) (records : List Record) (data_bytes count : ℕ) (own : List (List ℕ))
    (body : ℕ → List ℕ) (each : (P : List ℕ → Type 0) → ((i : ℕ) → i < count → P (body i)) → AllByRecursion P own)
    (alone : (at : ℕ) → values_group row.groups at 0 ≡ None) where
  -- each record has a sample of these channels
  abbrev Sampled : List ChannelRow → List (List ℕ) → Type 0
  Sampled channels streams = (i : ℕ) → i < count
      → (entries : List Entry)
      × (sample_by (map field_of channels) (take data_bytes (body i)) (drop data_bytes (body i)) (map value_at streams) i ≡ Some entries)

  -- the samples of the channels behind the first
  sampled_other : (channel : ChannelRow) (channels : List ChannelRow) (streams : List (List ℕ)) → nat_eq channel.kind 1 ≡ false
      → Sampled (channel ∷ channels) streams → Sampled channels streams
  sampled_other channel channels streams is sampled i below =
      let one = sampled i below in
      let split = sample_parts (field_of channel) (map field_of channels) (take data_bytes (body i)) (drop data_bytes (body i)) (map value_at streams) i one.0 one.1 in
      let behind : finders_behind (field_of channel) (map value_at streams) ≡ map value_at streams =
      cond-false (rules.is_variable (field_of channel)) (drop 1 (map value_at streams)) (map value_at streams) (other_field channel is) in (
        split.1,
        sym (ap (λ (finders : List Finder). sample_by (map field_of channels) (take data_bytes (body i)) (drop data_bytes (body i)) finders i) behind) ∙ split.3,
      )

  sampled_rest : (channel : ChannelRow) (channels : List ChannelRow) (stream : List ℕ) (streams : List (List ℕ)) → nat_eq channel.kind 1 ≡ true
      → Sampled (channel ∷ channels) (stream ∷ streams) → Sampled channels streams
  sampled_rest channel channels stream streams is sampled i below =
      let one = sampled i below in
      let finders = value_at stream ∷ map value_at streams in
      let split = sample_parts (field_of channel) (map field_of channels) (take data_bytes (body i)) (drop data_bytes (body i)) finders i one.0 one.1 in
      let behind : finders_behind (field_of channel) finders ≡ map value_at streams =
      cond-true (rules.is_variable (field_of channel)) (map value_at streams) finders (ap is_variable_kind (kind_is channel is)) in (
        split.1,
        sym (ap (λ (given : List Finder). sample_by (map field_of channels) (take data_bytes (body i)) (drop data_bytes (body i)) given i) behind) ∙ split.3,
      )

  -- the offset of the first meets a value
  first_met : (channel : ChannelRow) (channels : List ChannelRow) (stream : List ℕ) (streams : List (List ℕ)) → nat_eq channel.kind 1 ≡ true
      → Sampled (channel ∷ channels) (stream ∷ streams) → (i : ℕ) → i < count → MeetsValue stream data_bytes channel (body i)
  first_met channel channels stream streams is sampled i below =
      let one = sampled i below in
      let finders = value_at stream ∷ map value_at streams in
      let bytes = take data_bytes (body i) in
      let split = sample_parts (field_of channel) (map field_of channels) bytes (drop data_bytes (body i)) finders i one.0 one.1 in
      let found = entry_found (field_of channel) bytes (drop data_bytes (body i)) (value_at stream) i split.0 (kind_is channel is) split.2 in
      (found.0, value_stands stream (field_number (spot_in (field_of channel)) bytes) found.0 found.1)

  -- the stream of a channel that names a block of values
  stream_held : (channel : ChannelRow) (n k : ℕ) (stream : List ℕ) → HoldStreams file blocks k (stream ∷ [])
      → ((i : ℕ) → i < count → MeetsValue stream data_bytes channel (body i))
      → IsChannelStream file row records data_bytes own (placed_channel blocks n (links.Block k) channel) stream
  stream_held channel n k stream held met =
      let placed = placed_channel blocks n (links.Block k) channel in
      let at = address_of blocks k in record {
        values = subst (λ (found : Option ℕ). IsValuesOf file row records at found stream) (sym (alone at)) (IsOne (address_some blocks k) held.0.0 (sym held.0.1));
        met = each (MeetsValue stream data_bytes placed) (λ i below.
            subst (λ (field : FieldRow). (value : List ℕ) × IsValueAt stream (field_number (spot_in field) (take data_bytes (body i))) value)
            (sym (field_same blocks n (links.Block k) channel)) (met i below));
      }

  -- the streams of all of them, which name one block behind the other
  abbrev pub AreKept : List ChannelRow → Type 0
  AreKept channels = (n k : ℕ) (streams : List (List ℕ)) → length streams ≡ length (filter is_of_values channels)
      → HoldStreams file blocks k streams → Sampled channels streams
      → AllZip (IsChannelStream file row records data_bytes own)
      (filter is_of_values (placed_channels blocks n (block_links k (length streams)) channels)) streams

  kept_more : (b : Bool) (n k : ℕ) (channel : ChannelRow) (channels : List ChannelRow) (streams : List (List ℕ)) → AreKept channels
      → nat_eq channel.kind 1 ≡ b → length streams ≡ length (filter is_of_values (channel ∷ channels)) → HoldStreams file blocks k streams
      → Sampled (channel ∷ channels) streams
      → AllZip (IsChannelStream file row records data_bytes own)
      (filter is_of_values (placed_channels blocks n (block_links k (length streams)) (channel ∷ channels))) streams
  unfolding placed_channels block_links
  kept_more false n k channel channels streams rest is many held sampled =
      rw is (rest (past_channel n channel) k streams (rw is at many) held (sampled_other channel channels streams is sampled))
  kept_more true n k channel channels [] rest is many held sampled =
      let some : length (filter is_of_values (channel ∷ channels)) ≡ suc (length (filter is_of_values channels)) = rw is refl in
      absurd (omega (arith, many, some))
  kept_more true n k channel channels (stream ∷ streams) rest is many held sampled =
      let some : length (filter is_of_values (channel ∷ channels)) ≡ suc (length (filter is_of_values channels)) = rw is refl in
      rw is (
        stream_held channel n k stream (held.0, tt) (first_met channel channels stream streams is sampled),
        rest (past_channel n channel) (k + 1) streams (omega (arith, many, some)) held.1 (sampled_rest channel channels stream streams is sampled),
      )

  pub streams_kept : (channels : List ChannelRow) → AreKept channels
  unfolding placed_channels
  streams_kept [] n k [] many held sampled = tt
  streams_kept [] n k (stream ∷ streams) many held sampled = absurd (omega (arith, many))
  streams_kept (channel ∷ channels) n k streams many held sampled =
      kept_more (nat_eq channel.kind 1) n k channel channels streams (streams_kept channels) refl many held sampled
