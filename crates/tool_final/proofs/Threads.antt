-- The channels of variable length of a finalized file find the values that they had.
use Rattle.std.proofs.Common.{◌≡◌, ◌+◌, ◌≤◌, ℕ, List, [], ◌∷◌, ◌++◌, length, take, map, Option, None, refl, sym, ◌∙◌, ap, subst, inl, inr, arith}
use Rattle.std.specs.Prelude.{Bool, true, false, not, cond, nat_eq, filter}
use Rattle.std.specs.List.{flat_map, AllByRecursion, AllZip, enumerate_from}
use Rattle.std.proofs.lemmas.Bool.{cond-true, cond-false}
use Rattle.std.proofs.lemmas.List.{map-append}
use Rattle.mdf_format.specs.Block.{IsBlock}
use Rattle.mdf_format.specs.Field.{field_number}
use Rattle.mdf_format.specs.Value.{IsValueAt}
use Rattle.mdf_format.specs.declared.kind.Kind.{Kind}
use Rattle.mdf_format.specs.declared.kind.Kind.TheVariants.{Cg, Sd}
use Rattle.mdf_block.specs.declared.link.Link.{Link}
use Rattle.mdf_block.specs.declared.link.Link.TheVariants as links
use Rattle.mdf_block.specs.Draft.{Placed, address_of, link_number}
use Rattle.mdf_stream.specs.Stream.{IsStream, IsOne}
use Rattle.mdf_data.specs.Split.{Record}
use Rattle.mdf_group.specs.declared.row.ChannelRow.{ChannelRow}
use Rattle.mdf_group.specs.declared.row.GroupRow.{GroupRow}
use Rattle.mdf_group.specs.declared.row.DataRow.{DataRow}
use Rattle.mdf_group.specs.Group.{is_variable}
use Rattle.mdf_group.specs.Recordable.{is_of_values}
use Rattle.mdf_layout.specs.Layout.{Layout}
use Rattle.mdf_layout.specs.Rule.{spot_in}
use Rattle.mdf_layout.specs.declared.field.FieldRow.{FieldRow}
use Rattle.mdf_content.specs.declared.contents.Contents.{Contents}
use Rattle.mdf_content.specs.Layouts.{field_of, layout_of}
use Rattle.mdf_content.specs.Values.{values_group}
use Rattle.mdf_data.specs.Bodies.{bodies, joined}
use Rattle.mdf_model.specs.Contents.{KeepsRules, IsValuesOf, MeetsValue, IsChannelStream, own_records, IsContents, is_of_samples}
use Rattle.mdf_carried.specs.Recovered.{IsGroupContents}
use Rattle.mdf_tree.specs.Group.{past_channel, placed_channel, placed_channels, values_past, first_or_none, behind_first, group_channels, past_group, placed_groups}
use Rattle.mdf_spell.specs.Counts.{counted_group, counted_groups}
use Rattle.mdf_spell.specs.Standing.{HoldsData, HoldStreams}
use Rattle.mdf_spell.specs.Values.{stream_link, stream_behind, with_streams, own_stream, own_streams, own_channels}
use Rattle.mdf_spell.specs.Values as spelled
use Rattle.tool_final.proofs.Fields.{field_same, layout_same, anew, AreCounted}
use Rattle.tool_final.proofs.Names.{IsNamed, none_named}

-- the data group of a recording and of a finalized file; the blocks of groups are numbered, and links name them
module _ (f file : List ℕ) (row after : DataRow) (records : List Record) (blocks : List Placed) (numbers : List ℕ)
    (same_size : row.id_size ≡ after.id_size) (first_free : (kind : Kind) → IsBlock file 0 kind → ⊥)
    (stand : AllByRecursion (λ place. IsBlock file place Cg) (map (λ (group : GroupRow). group.at) after.groups))
    (names_are : (at : ℕ) → IsNamed blocks after.groups 0 (spelled.values_group row.groups numbers at) (values_group row.groups at 0)) where
  abbrev name_of : ChannelRow → Link
  name_of channel = spelled.values_group row.groups numbers channel.values

  abbrev Holds : ℕ → List (List ℕ) → Type 0
  Holds m streams = HoldStreams file blocks m streams

  -- a block of values is a stream
  own_block : (at : ℕ) (stream : List ℕ) → HoldsData file at Sd stream → IsStream file at Sd stream
  own_block at stream held =
      IsOne (λ none. first_free Sd (subst (λ (n : ℕ). IsBlock file n Sd) none held.0)) held.0 (sym held.1)

  -- the values of a channel, and the blocks of values that are left for those behind it
  record IsThreaded (m : ℕ) (name : Link) (stream : List ℕ) (left : List (List ℕ)) : Type 0 where
    values : IsValuesOf file after records (link_number blocks (stream_link m name))
        (values_group after.groups (link_number blocks (stream_link m name)) 0) stream
    rest : Holds (stream_behind m name) left

  own_values : (m : ℕ) (at : ℕ) (group : Option ℕ) (name : Link) (stream : List ℕ) (left : List (List ℕ)) → IsValuesOf f row records at group stream
      → IsNamed blocks after.groups 0 name group → Holds m (own_stream name stream ++ left) → IsThreaded m name stream left
  own_values m at group name stream left is (inl none) held =
      let both : Holds m (stream ∷ left) = subst (λ (link : Link). Holds m (own_stream link stream ++ left)) none.0 held in
      let here = address_of blocks m in
      let alone : values_group after.groups here 0 ≡ None = none_named file after.groups here 0 stand both.0.0 in
      let values : IsValuesOf file after records here (values_group after.groups here 0) stream =
      subst (λ (k : Option ℕ). IsValuesOf file after records here k stream) (sym alone) (own_block here stream both.0) in
      subst (λ (link : Link). IsThreaded m link stream left) (sym none.0) (record { values = values; rest = both.1 })
  own_values m at group name stream left is (inr (n, k, named, found, there)) held =
      let rest : Holds m left = subst (λ (link : Link). Holds m (own_stream link stream ++ left)) named held in
      let old : stream ≡ joined (bodies row.id_size records k) = subst (λ (g : Option ℕ). IsValuesOf f row records at g stream) found is in
      let values : IsValuesOf file after records (address_of blocks n) (values_group after.groups (address_of blocks n) 0) stream =
      subst (λ (g : Option ℕ). IsValuesOf file after records (address_of blocks n) g stream) (sym there)
      (old ∙ ap (λ (size : ℕ). joined (bodies size records k)) same_size) in
      subst (λ (link : Link). IsThreaded m link stream left) (sym named) (record { values = values; rest = rest })

  module _ (data_bytes : ℕ) (own : List (List ℕ)) where
    abbrev Old : ChannelRow → List ℕ → Type 0
    Old channel stream = IsChannelStream f row records data_bytes own channel stream

    abbrev New : ChannelRow → List ℕ → Type 0
    New channel stream = IsChannelStream file after records data_bytes own channel stream

    met_same : (stream : List ℕ) (one other : ChannelRow) → field_of one ≡ field_of other → (bodies_own : List (List ℕ))
        → AllByRecursion (MeetsValue stream data_bytes one) bodies_own → AllByRecursion (MeetsValue stream data_bytes other) bodies_own
    met_same stream one other same [] met = tt
    met_same stream one other same (body ∷ rest) met = (
      subst (λ (field : FieldRow). (value : List ℕ) × IsValueAt stream (field_number (spot_in field) (take data_bytes body)) value) same met.0,
      met_same stream one other same rest met.1,
    )

    -- channels are threaded: the streams of those of variable length are found, and the links that are left go on
    abbrev Threads : List ChannelRow → (List Link → List ChannelRow) → (List Link → List Link) → Type 0
    Threads picked placed past =
        (m : ℕ) (streams left : List (List ℕ)) (more : List Link) → AllZip Old picked streams
        → Holds m (own_streams (map name_of picked ++ more) (streams ++ left))
        → AllZip New (filter is_of_values (placed (with_streams m (map name_of picked ++ more)))) streams
        × ((next : ℕ) × (past (with_streams m (map name_of picked ++ more)) ≡ with_streams next more) × Holds next (own_streams more left))

    step : (b : Bool) (n : ℕ) (channel : ChannelRow) (picked : List ChannelRow) (placed : List Link → List ChannelRow) (past : List Link → List Link)
        → nat_eq channel.kind 1 ≡ b → Threads picked placed past
        → Threads (cond b (channel ∷ picked) picked)
        (λ values. placed_channel blocks n (cond b (first_or_none values) links.Nothing) channel ∷ placed (cond b (behind_first values) values))
        (λ values. past (cond b (behind_first values) values))
    unfolding with_streams own_streams
    step false n channel picked placed past is threads m streams left more all held =
        let rest = threads m streams left more all held in
        let values = with_streams m (map name_of picked ++ more) in
        let one = placed_channel blocks n links.Nothing channel in (
          subst (λ (xs : List ChannelRow). AllZip New xs streams)
              (sym (cond-false (nat_eq channel.kind 1) (one ∷ filter is_of_values (placed values)) (filter is_of_values (placed values)) is)) rest.0,
          rest.1,
        )
    step true n channel picked placed past is threads m [] left more all held = absurd all
    step true n channel picked placed past is threads m (stream ∷ streams) left more all held =
        let name = name_of channel in
        let names = map name_of picked ++ more in
        let after_own = own_streams names (streams ++ left) in
        let first = own_values m channel.values (values_group row.groups channel.values 0) name stream after_own all.0.values (names_are channel.values) held in
        let next = stream_behind m name in
        let rest = threads next streams left more all.1 first.rest in
        let one = placed_channel blocks n (stream_link m name) channel in
        let values = with_streams next names in
        let new : New one stream = record {
          values = first.values;
          met = met_same stream channel one (sym (field_same blocks n (stream_link m name) channel)) own all.0.met;
        } in (
          subst (λ (xs : List ChannelRow). AllZip New xs (stream ∷ streams))
              (sym (cond-true (nat_eq channel.kind 1) (one ∷ filter is_of_values (placed values)) (filter is_of_values (placed values)) is)) (new, rest.0),
          rest.1,
        )

    no_channels : Threads [] (λ values. []) (λ values. values)
    no_channels m [] left more all held = (tt, (m, refl, held))
    no_channels m (stream ∷ streams) left more all held = absurd all

    thread : (channels : List ChannelRow) (n : ℕ)
        → Threads (filter is_of_values channels) (λ values. placed_channels blocks n values channels) (λ values. values_past values channels)
    unfolding placed_channels values_past
    thread [] n = no_channels
    thread (channel ∷ channels) n =
        step (nat_eq channel.kind 1) n channel (filter is_of_values channels) (λ values. placed_channels blocks (past_channel n channel) values channels)
        (λ values. values_past values channels) refl (thread channels (past_channel n channel))

  -- the groups whose records are samples
  abbrev OldGroup : ℕ × GroupRow → Contents → Type 0
  OldGroup group contents = IsGroupContents f row records group contents

  abbrev NewGroup : ℕ × GroupRow → Contents → Type 0
  NewGroup group contents = IsContents file after records group.0 group.1 contents

  abbrev streams_in : Contents → List (List ℕ)
  streams_in contents = contents.streams

  -- all records of group k
  abbrev all_own : ℕ → List (List ℕ)
  all_own k = take (length (bodies row.id_size records k)) (bodies row.id_size records k)

  -- the streams of its channels stand
  abbrev HasChannels : ℕ → ℕ → GroupRow → List Link → Contents → Type 0
  HasChannels k n group values contents = AllZip (New group.data_bytes (all_own k))
      (filter is_of_values (placed_channels blocks (group_channels n group) values group.channels)) contents.streams

  -- what a group held it holds
  group_same : (k n count total : ℕ) (group : GroupRow) (values : List Link) (contents : Contents) → is_variable group ≡ false
      → count ≡ length (bodies row.id_size records k) → OldGroup (k, group) contents → HasChannels k n group values contents
      → NewGroup (k, anew blocks n values count total group) contents
  group_same k n count total group values contents is count_is old channels =
      let one = anew blocks n values count total group in
      let shape : layout_of one ≡ layout_of group = layout_same blocks n values count total group is in
      let size : ◌≡◌ {A = List (List ℕ)} (bodies row.id_size records k) (bodies after.id_size records k) =
      ap (λ (m : ℕ). bodies m records k) same_size in
      let bytes : one.data_bytes ≡ group.data_bytes = ap (λ (layout : Layout). layout.data_bytes) shape in
      let own_is : all_own k ≡ own_records after records k one =
      ap (λ (m : ℕ). take m (bodies row.id_size records k)) (sym count_is) ∙ ap (take count) size in
      record {
        ruled = subst KeepsRules (sym shape) old.ruled;
        shape = old.shape ∙ sym shape;
        enough = subst (λ (m : ℕ). count ≤ m) (ap length size) (omega (arith, count_is));
        count = old.count ∙ sym count_is;
        content = old.content ∙ ap joined own_is;
        streams =
            subst (λ (d : ℕ). AllZip (New d (own_records after records k one)) (filter is_of_values one.channels) contents.streams) (sym bytes)
            (subst (λ (own : List (List ℕ)). AllZip (New group.data_bytes own) (filter is_of_values one.channels) contents.streams) own_is
            (subst (λ (vs : List Link). AllZip (New group.data_bytes (all_own k))
            (filter is_of_values (placed_channels blocks (group_channels n group) vs group.channels)) contents.streams)
            (sym (cond-false (is_variable group) [] values is)) channels));
        samples = old.samples;
      }

  -- groups are threaded
  abbrev ThreadsAll : List (ℕ × GroupRow) → List ChannelRow → (List Link → List (ℕ × GroupRow)) → Type 0
  ThreadsAll picked own placed =
      (m : ℕ) (found : List Contents) → AllZip OldGroup picked found → Holds m (own_streams (map name_of own) (flat_map streams_in found))
      → AllZip NewGroup (placed (with_streams m (map name_of own))) found

  step_group : (b : Bool) (k n : ℕ) (group : GroupRow) (picked : List (ℕ × GroupRow)) (own : List ChannelRow) (placed : List Link → List (ℕ × GroupRow))
      (one : List Link → GroupRow)
      → ((values : List Link) (contents : Contents) → b ≡ false → OldGroup (k, group) contents → HasChannels k n group values contents
      → NewGroup (k, one values) contents)
      → ThreadsAll picked own placed
      → ThreadsAll (cond (not b) ((k, group) ∷ picked) picked) (cond b [] (filter is_of_values group.channels) ++ own)
      (λ values. cond (not b) ((k, one values) ∷ placed (cond b values (values_past values group.channels))) (placed (cond b values (values_past values group.channels))))
  step_group true k n group picked own placed one same threads m found all held = threads m found all held
  step_group false k n group picked own placed one same threads m [] all held = absurd all
  step_group false k n group picked own placed one same threads m (contents ∷ found) all held =
      let channels = filter is_of_values group.channels in
      let left = flat_map streams_in found in
      let split : map name_of (channels ++ own) ≡ map name_of channels ++ map name_of own = map-append name_of channels own in
      let names = map name_of channels ++ map name_of own in
      let values = with_streams m names in
      let held_first : Holds m (own_streams names (contents.streams ++ left)) =
      subst (λ (ns : List Link). Holds m (own_streams ns (contents.streams ++ left))) split held in
      let first = thread group.data_bytes (all_own k) group.channels (group_channels n group) m contents.streams left (map name_of own) all.0.streams held_first in
      let rest : AllZip NewGroup (placed (values_past values group.channels)) found =
      subst (λ (vs : List Link). AllZip NewGroup (placed vs) found) (sym first.1.1) (threads first.1.0 found all.1 first.1.2) in
      subst (λ (ns : List Link). AllZip NewGroup ((k, one (with_streams m ns)) ∷ placed (values_past (with_streams m ns) group.channels)) (contents ∷ found)) (sym split)
      (same values contents refl all.0 first.0, rest)

  no_groups : ThreadsAll [] [] (λ values. [])
  no_groups m [] all held = tt
  no_groups m (contents ∷ found) all held = absurd all

  pub thread_groups : (groups : List GroupRow) (k n : ℕ) (counts totals : List ℕ) → AreCounted row.id_size records k groups counts totals
      → ThreadsAll (filter is_of_samples (enumerate_from k groups)) (flat_map own_channels groups)
      (λ values. filter is_of_samples (enumerate_from k (placed_groups blocks n values (counted_groups counts totals groups))))
  unfolding placed_groups counted_groups
  thread_groups [] k n counts totals are = no_groups
  thread_groups (group ∷ groups) k n [] totals are = absurd are
  thread_groups (group ∷ groups) k n (count ∷ counts) [] are = absurd are
  thread_groups (group ∷ groups) k n (count ∷ counts) (total ∷ totals) are =
      let one = counted_group count total group in
      step_group (is_variable group) k n group (filter is_of_samples (enumerate_from (k + 1) groups)) (flat_map own_channels groups)
      (λ values. filter is_of_samples (enumerate_from (k + 1) (placed_groups blocks (past_group n one) values (counted_groups counts totals groups))))
      (λ values. anew blocks n values count total group)
      (λ values contents is old channels. group_same k n count total group values contents is are.0 old channels)
      (thread_groups groups (k + 1) (past_group n group) counts totals are.1)
