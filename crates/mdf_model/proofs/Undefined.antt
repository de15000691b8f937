-- Where layouts, records, counts or values are refused, the file has no measurement.
use Rattle.std.proofs.Common.{◌≡◌, ◌+◌, ℕ, List, [], length, drop, take, Some, Err, sym, ◌∙◌, ap, subst, inl, inr, arith}
use Rattle.std.specs.Prelude.{not, filter, slice_get}
use Rattle.std.specs.Option.{option_map}
use Rattle.std.specs.List.{AllZip}
use Rattle.std.proofs.lemmas.Bool.{cond-false}
use Rattle.std.proofs.lemmas.List.{length-drop}
use Rattle.std.proofs.lemmas.Option.{slice_get-map}
use Rattle.mdf_format.specs.Field.{field_number}
use Rattle.mdf_format.specs.Value.{IsValueAt}
use Rattle.mdf_block.specs.Refusal.{Refusal, Layout, UnknownId, Cut, Cycles, Offset}
use Rattle.mdf_block.specs.Truth.{IsTrueOf}
use Rattle.mdf_data.specs.Split.{Record}
use Rattle.mdf_head.specs.declared.entry.Head.{Head}
use Rattle.mdf_head.specs.declared.entry.History.{History}
use Rattle.mdf_group.specs.declared.row.ChannelRow.{ChannelRow}
use Rattle.mdf_group.specs.declared.row.GroupRow.{GroupRow}
use Rattle.mdf_group.specs.declared.row.DataRow.{DataRow}
use Rattle.mdf_group.specs.Group.{is_variable}
use Rattle.mdf_group.specs.Recordable.{is_of_values}
use Rattle.mdf_group.specs.Standing.{StandDataGroups}
use Rattle.mdf_group.proofs.Uniques.{data_groups_unique}
use Rattle.mdf_group.proofs.Nested.{without_limit}
use Rattle.mdf_layout.specs.Rule.{spot_in, BreaksRule}
use Rattle.mdf_layout.specs.declared.field.FieldRow.{FieldRow}
use Rattle.mdf_content.specs.declared.contents.Contents.{Contents}
use Rattle.mdf_content.specs.Layouts.{field_of, placed_channels, layout_of}
use Rattle.mdf_content.specs.Values.{values_group}
use Rattle.mdf_model.specs.declared.part.Measure.{Measure}
use Rattle.mdf_model.specs.Measurement.{measurement}
use Rattle.mdf_data.specs.Bodies.{bodies}
use Rattle.mdf_model.specs.Contents.{IsDataSplit, IsValuesOf, MeetsValue, IsChannelStream, own_records, IsContents, is_of_samples, IsDataContents}
use Rattle.mdf_model.specs.InWords.{IsMeasurement}
use Rattle.mdf_model.specs.Truth.{IsSampleGroup, BreaksLayout, LacksLayout, IsRestAt, SaysMore, MissesValue, IsTrueOfOne, IsAboutData}
use Rattle.mdf_block.proofs.Picks.{keyed_own, keyed_numbered, numbered_get, picked_get}
use Rattle.mdf_model.proofs.Onces.{head_unique, split_unique, values_unique}
use Rattle.mdf_block.proofs.Names.{none_first}
use Rattle.mdf_model.proofs.Files.{refusal_true}
use Rattle.mdf_block.proofs.Items.{all_get, zip_get}

from_zero : (k : ℕ) → 0 + k ≡ k
from_zero k = omega arith

-- what a group of samples holds
pub group_get : (f : List ℕ) (row : DataRow) (found : List Contents) (is : IsDataContents f row found) (k : ℕ) (group : GroupRow) → IsSampleGroup row k group
    → (y : Contents) × IsContents f row is.records k group y
group_get f row found is k group stands =
    let R : ℕ × GroupRow → Contents → Type 0 = λ g y. IsContents f row is.records g.0 g.1 y in
    let all = subst (λ (gs : List (ℕ × GroupRow)). AllZip R (filter is_of_samples gs) found) (sym (keyed_numbered 0 row.groups)) is.groups in
    let one = picked_get {C = ℕ × GroupRow} (λ n g. (n, g)) is_of_samples R 0 row.groups found k group stands.there (ap not stands.samples) all in
    (one.0, subst (λ (n : ℕ). IsContents f row is.records n group one.0) (from_zero k) one.1)

module _ (f : List ℕ) (row : DataRow) (found : List Contents) (is : IsDataContents f row found) where
  -- layouts
  no_break : (at : ℕ) → BreaksLayout row at → ⊥
  no_break at b =
      let group = b.group in
      let contents = group_get f row found is b.k group b.is_group in
      let placed : placed_channels group ≡ group.channels = cond-false (is_variable group) [] group.channels b.is_group.samples in
      let there : slice_get (layout_of group).rows b.c ≡ Some (field_of b.channel) =
      slice_get-map field_of (placed_channels group) b.c
      ∙ ap (λ (cs : List ChannelRow). option_map field_of (slice_get cs b.c)) placed
      ∙ ap (option_map field_of) b.is_channel in
      let Keeps : ℕ → FieldRow → Type 0 = λ n field. ¬ BreaksRule group.data_bytes group.inval_bytes (layout_of group).rows n field in
      let keeps = numbered_get Keeps 0 (layout_of group).rows b.c (field_of b.channel) there contents.1.ruled in
      subst (λ (n : ℕ). Keeps n (field_of b.channel)) (from_zero b.c) keeps b.breaks

  pub no_lack : (at : ℕ) → LacksLayout row at → ⊥
  no_lack at (inl none) = none.1 is.id_size
  no_lack at (inr breaks) = no_break at breaks

  -- records
  pub no_rest : (place : ℕ) → IsRestAt f row place → ⊥
  no_rest place r =
      let split : IsDataSplit f row r.records (drop place r.stream) = record { stream = r.stream; is_stream = r.is_stream; split = r.split } in
      let same = split_unique f row r.records is.records (drop place r.stream) is.rest split is.split in
      let none : length (drop place r.stream) ≡ 0 = ap length (same.1 ∙ is.whole r.ids) in
      omega (arith, none, length-drop place r.stream, r.some)

  -- counts
  pub no_more : (before number said count : ℕ) → SaysMore f row before number said count → ⊥
  no_more before number said count s =
      let same = split_unique f row s.records is.records s.rest is.rest s.split is.split in
      let contents = group_get f row found is s.k s.group s.is_group in
      let counted : count ≡ length (bodies row.id_size is.records s.k) =
      s.is_found ∙ ap (λ (rs : List Record). length (bodies row.id_size rs s.k)) same.0 in
      omega (arith, counted, s.is_said, s.more, contents.1.enough)

  -- values
  pub no_miss : (c i offset : ℕ) → MissesValue f row c i offset → ⊥
  no_miss c i offset m =
      let same = split_unique f row m.records is.records m.rest is.rest m.split is.split in
      let contents = group_get f row found is m.k m.group m.is_group in
      let own = own_records row is.records m.k m.group in
      let R : ChannelRow → List ℕ → Type 0 = IsChannelStream f row is.records m.group.data_bytes own in
      let all = subst (λ (cs : List ChannelRow). AllZip R (filter is_of_values cs) contents.0.streams) (sym (keyed_own 0 m.group.channels)) contents.1.streams in
      let one = picked_get {C = ChannelRow} (λ n channel. channel) is_of_values R 0 m.group.channels contents.0.streams c m.channel m.is_channel m.kind all in
      let values = values_unique f row is.records m.channel.values (values_group row.groups m.channel.values 0) one.0 m.stream one.1.values
      (subst (λ (rs : List Record). IsValuesOf f row rs m.channel.values (values_group row.groups m.channel.values 0) m.stream) same.0 m.values) in
      let body : slice_get own i ≡ Some m.body =
      ap (λ (rs : List Record). slice_get (own_records row rs m.k m.group) i) (sym same.0) ∙ m.is_body in
      let met = all_get (MeetsValue one.0 m.group.data_bytes m.channel) own i m.body body one.1.met in
      m.none met.0 (subst (λ (n : ℕ). IsValueAt m.stream n met.0) (sym m.is_offset)
      (subst (λ (stream : List ℕ). IsValueAt stream (field_number (spot_in (field_of m.channel)) (take m.group.data_bytes m.body)) met.0) values met.1))

one_undefined : (f : List ℕ) (refusal : Refusal) → IsAboutData refusal → (one : IsTrueOfOne f refusal) (found : List Contents) → IsDataContents f one.row found → ⊥
one_undefined f (Layout at) about one found is = no_lack f one.row found is at one.holds
one_undefined f (UnknownId id at) about one found is = no_rest f one.row found is at one.holds.rest
one_undefined f (Cut at) about one found is = no_rest f one.row found is at one.holds
one_undefined f (Cycles number said count) about one found is = no_more f one.row found is _ number said count one.holds
one_undefined f (Offset c i offset) about one found is = no_miss f one.row found is c i offset one.holds
one_undefined f _ about one found is = absurd about

no_block : (f : List ℕ) (refusal : Refusal) → IsAboutData refusal → IsTrueOf f refusal → ⊥
no_block f (Layout at) about is = is
no_block f (UnknownId id at) about is = is
no_block f (Cut at) about is = is
no_block f (Cycles number said count) about is = is
no_block f (Offset c i offset) about is = is
no_block f _ about is = absurd about

pub undefined_is : (f : List ℕ) (refusal : Refusal) (head : Head) (history : List History) (groups : List Measure)
    → measurement f ≡ Err refusal → IsAboutData refusal → IsMeasurement f head history groups → ⊥
undefined_is f refusal head history groups is about m =
    elim (refusal_true f refusal is) [
      | inl block ↦ no_block f refusal about block
      | inr one ↦
          let heads = head_unique f one.head head one.history history one.stands m.stands in
          let rows = data_groups_unique f (none_first f m.ident.finalized) head.first_dg one.rows m.rows
          (subst (λ (h : Head). StandDataGroups f h.first_dg one.rows) heads (without_limit f one.head.first_dg one.rows one.tree)) m.tree in
          let there : slice_get m.rows one.n ≡ Some one.row = ap (λ (rs : List DataRow). slice_get rs one.n) (sym rows) ∙ one.there in
          let contents = zip_get (IsDataContents f) m.rows m.contents one.n one.row there m.hold in
          one_undefined f refusal about one contents.0 contents.1
    ]
