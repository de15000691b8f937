-- What each group of a recording holds, whose records are samples.
use Rattle.std.proofs.Common.{◌≡◌, ◌+◌, ◌<◌, ◌≤◌, ℕ, zero, suc, true, List, [], ◌∷◌, ◌++◌, length, get_or, take, map, refl, sym, ◌∙◌, ap, subst, inl, inr, arith, append-nil}
use Rattle.std.proofs.lemmas.Bool.{cond-true, cond-false}
use Rattle.std.proofs.lemmas.List.{take_all, length-map}
use Rattle.std.proofs.lemmas.List.Sums.{sum_by-cons}
use Rattle.std.proofs.lemmas.Option.{same_Some, slice_get_within, slice_get-get_or}
use Rattle.std.specs.Prelude.{not, filter, slice_get, Option, Some, None}
use Rattle.std.specs.List.{AllByRecursion, AllZip, enumerate_from}
use Rattle.mdf_data.specs.Split.{Record}
use Rattle.mdf_group.specs.declared.row.ChannelRow.{ChannelRow}
use Rattle.mdf_group.specs.declared.row.GroupRow.{GroupRow}
use Rattle.mdf_group.specs.declared.row.DataRow.{DataRow}
use Rattle.mdf_group.specs.Group.{is_variable}
use Rattle.mdf_group.specs.Recordable.{is_of_values}
use Rattle.mdf_layout.specs.Layout.{Layout, record_size}
use Rattle.mdf_layout.specs.Rule as rules_
use Rattle.mdf_layout.specs.Behind.{variables, first_id}
use Rattle.mdf_layout.specs.Read.{Piece, IsPiece, stream_of, streams_from, samples_from}
use Rattle.mdf_layout.specs.declared.field.FieldRow.{FieldRow}
use Rattle.mdf_layout.specs.declared.sample.Sample.{Sample}
use Rattle.mdf_content.specs.declared.contents.Contents.{Contents}
use Rattle.mdf_content.specs.Layouts.{field_of}
use Rattle.mdf_content.specs.Samples.{record_at, AreSamples}
use Rattle.mdf_content.specs.Values.{values_group}
use Rattle.mdf_data.specs.Bodies.{bodies, joined}
use Rattle.mdf_model.specs.Contents.{IsValuesOf, IsChannelStream, is_of_samples, sample_groups}
use Rattle.mdf_block.specs.declared.note.Note.TheVariants as notes
use Rattle.mdf_layout.proofs.Bridge.{length-streams}
use Rattle.mdf_content.proofs.Samples.{variable_field, other_field}
use Rattle.mdf_block.proofs.Cases.{two_ways}
use Rattle.mdf_carried.specs.Recovered.{IsGroupContents}
use Rattle.mdf_carried.proofs.Lists.{zip_along, length-joined, joined_at}
use Rattle.mdf_carried.proofs.Rows.{NameFrom, values_in, all_values, AreFronts, AreBacks, IsRecorded, fronts_many, front_at, back_at, found_at}
use Rattle.mdf_carried.proofs.Records.{record_of, own, own_bodies, value_bodies, own_long, groups_many, back_get, no_layout}
use Rattle.mdf_carried.proofs.Entries.{entries_in, entries_at, entries_have, AreMet, all_met}

-- the field of a channel is an offset exactly where the channel is one of variable length
pub variable_fields : (channels : List ChannelRow) → variables (map field_of channels) ≡ map field_of (filter is_of_values channels)
variable_fields [] = refl
variable_fields (channel ∷ channels) =
    let rest = variable_fields channels in
    let fields = variables (map field_of channels) in
    let mine = filter is_of_values channels in
    elim (two_ways (is_of_values channel)) [
      | inl is ↦
          cond-true (rules_.is_variable (field_of channel)) (field_of channel ∷ fields) fields (variable_field channel is)
          ∙ ap (λ (fs : List FieldRow). field_of channel ∷ fs) rest
          ∙ ap (map field_of) (sym (cond-true (is_of_values channel) (channel ∷ mine) mine is))
      | inr other ↦
          cond-false (rules_.is_variable (field_of channel)) (field_of channel ∷ fields) fields (other_field channel other)
          ∙ rest
          ∙ ap (map field_of) (sym (cond-false (is_of_values channel) (channel ∷ mine) mine other))
    ]

-- what a group of these pieces holds
abbrev pub contents_at : List Layout → List Piece → ℕ → Layout → Contents
contents_at layouts pieces k layout = record {
  shape = layout;
  count = length (own k pieces);
  content = joined (own k pieces);
  streams = streams_from pieces (first_id layouts k) (variables layout.rows);
}

abbrev pub contents_from : List Layout → List Piece → ℕ → List Layout → List Contents
contents_from layouts pieces k [] = []
contents_from layouts pieces k (layout ∷ rest) = contents_at layouts pieces k layout ∷ contents_from layouts pieces (k + 1) rest

from_here : (n : ℕ) → n ≡ n + 0
from_here n = omega arith

one_on : (n k : ℕ) → n + 1 + k ≡ n + suc k
one_on n k = omega arith

pub contents_there : (layouts : List Layout) (pieces : List Piece) (k j : ℕ) (rest : List Layout) (layout : Layout) → slice_get rest j ≡ Some layout
    → slice_get (contents_from layouts pieces k rest) j ≡ Some (contents_at layouts pieces (k + j) layout)
contents_there layouts pieces k j [] layout laid = let wrong : ◌≡◌ {A = Option Layout} None (Some layout) = laid in cc
contents_there layouts pieces k zero (first ∷ rest) layout laid =
    ap (λ (n : ℕ). Some (contents_at layouts pieces n first)) (from_here k)
    ∙ ap (λ (l : Layout). Some (contents_at layouts pieces (k + 0) l)) (same_Some first layout laid)
contents_there layouts pieces k (suc j) (first ∷ rest) layout laid =
    contents_there layouts pieces (k + 1) j rest layout laid ∙ ap (λ (n : ℕ). Some (contents_at layouts pieces n layout)) (one_on k j)

pub contents_many : (layouts : List Layout) (pieces : List Piece) (k : ℕ) (rest : List Layout) → length (contents_from layouts pieces k rest) ≡ length rest
contents_many layouts pieces k [] = refl
contents_many layouts pieces k (first ∷ rest) = ap suc (contents_many layouts pieces (k + 1) rest)

zero_on : (n : ℕ) → 0 + n ≡ n
zero_on n = omega arith

-- what stands for a group past the end
pub no_group : GroupRow
no_group = record {
  at = 0;
  id = 0;
  cycles = 0;
  flags = 0;
  separator = 0;
  data_bytes = 0;
  inval_bytes = 0;
  name = notes.Nothing;
  source = None;
  comment = notes.Nothing;
  channels = [];
}

-- a channel of variable length has its values at one of the addresses
name_of : (at : ℕ → ℕ) (n : ℕ) (xs : List ChannelRow) → NameFrom at n (filter is_of_values xs)
    → (j : ℕ) (x : ChannelRow) → slice_get xs j ≡ Some x → is_of_values x ≡ true
    → (m : ℕ) × (x.values ≡ at m) × (m < n + length (filter is_of_values xs))
name_of at n [] named j x there is = let wrong : ◌≡◌ {A = Option ChannelRow} None (Some x) = there in cc
name_of at n (first ∷ xs) named zero x there is =
    let same : first ≡ x = same_Some first x there in
    let all = cond-true (is_of_values first) (first ∷ filter is_of_values xs) (filter is_of_values xs) (ap is_of_values same ∙ is) in
    let here = subst (NameFrom at n) all named in
    (n, ap (λ (c : ChannelRow). c.values) (sym same) ∙ here.0, omega (arith, ap length all))
name_of at n (first ∷ xs) named (suc j) x there is =
    let more = filter is_of_values xs in
    elim (two_ways (is_of_values first)) [
      | inl passes ↦
          let all = cond-true (is_of_values first) (first ∷ more) more passes in
          let rest = name_of at (n + 1) xs (subst (NameFrom at n) all named).1 j x there is in
          (rest.0, rest.1, omega (arith, rest.2, ap length all))
      | inr drops ↦
          let all = cond-false (is_of_values first) (first ∷ more) more drops in
          let rest = name_of at n xs (subst (NameFrom at n) all named) j x there is in
          (rest.0, rest.1, omega (arith, rest.2, ap length all))
    ]

module _ (file : List ℕ) (layouts : List Layout) (row : DataRow) (is : IsRecorded layouts row) (pieces : List Piece)
    (each : AllByRecursion (IsPiece layouts) pieces) (samples : List Sample) (read : samples_from layouts pieces [] pieces ≡ Some samples) where
  abbrev records : List Record
  records = map (record_of (length layouts)) pieces

  -- channel of variable length number n names the group of values with this number
  names_found : (n : ℕ) (channel : ChannelRow) → channel.values ≡ is.at n → n < length is.back
      → values_group row.groups channel.values 0 ≡ Some (length layouts + n)
  names_found n channel named below =
      let count = length layouts in
      let many = fronts_many is.at 0 is.front layouts is.fronts in
      let k = count + n in
      let here = back_at is.at 0 n is.back no_group is.backs below in
      let same : get_or row.groups k no_group ≡ get_or is.back n no_group =
      ap (λ (gs : List GroupRow). get_or gs k no_group) is.groups_are
      ∙ back_get is.front is.back k no_group (omega (arith, many))
      ∙ ap (λ (m : ℕ). get_or is.back m no_group) (omega (arith, many)) in
      let at_n : is.at (0 + n) ≡ channel.values = ap is.at (zero_on n) ∙ sym named in
      found_at row.groups channel.values 0 k no_group (omega (arith, groups_many layouts row is, is.many, below))
      (ap (λ (g : GroupRow). g.at) same ∙ here.0 ∙ at_n) (ap is_variable same ∙ here.1) is.apart
      ∙ ap Some (zero_on k)

  -- the records of that group are its values
  values_are : (n : ℕ) (channel : ChannelRow) → channel.values ≡ is.at n → n < length is.back
      → IsValuesOf file row records channel.values (values_group row.groups channel.values 0) (stream_of pieces (length layouts + 1 + n))
  values_are n channel named below =
      let count = length layouts in
      let k = count + n in
      let id : k + 1 ≡ count + 1 + n = omega arith in
      subst (λ (group : Option ℕ). IsValuesOf file row records channel.values group (stream_of pieces (count + 1 + n))) (sym (names_found n channel named below))
      (ap (stream_of pieces) (sym id)
      ∙ sym (value_bodies layouts k pieces (omega arith) each)
      ∙ ap (λ (m : ℕ). joined (bodies m records k)) (sym is.id_size))

  -- the streams of a group's channels
  abbrev StreamOf : ℕ → List (List ℕ) → ChannelRow → List ℕ → Type 0
  StreamOf data_bytes contents channel stream = IsChannelStream file row records data_bytes contents channel stream

  streams_hold : (layout : Layout) (contents : List (List ℕ)) (n id : ℕ) (channels : List ChannelRow) → id ≡ length layouts + 1 + n
      → NameFrom is.at n channels → n + length channels ≤ length is.back
      → AllZip (AreMet layout contents) (map field_of channels) (streams_from pieces id (map field_of channels))
      → AllZip (StreamOf layout.data_bytes contents) channels (streams_from pieces id (map field_of channels))
  streams_hold layout contents n id [] id_is named few met = tt
  streams_hold layout contents n id (channel ∷ channels) id_is named few met = (
    record {
      values = subst (λ (m : ℕ). IsValuesOf file row records channel.values (values_group row.groups channel.values 0) (stream_of pieces m)) (sym id_is)
          (values_are n channel named.0 (omega (arith, few)));
      met = met.0;
    },
    streams_hold layout contents (n + 1) (id + 1) channels (omega (arith, id_is)) named.1 (omega (arith, few)) met.1,
  )

  -- what group k holds
  abbrev contents : ℕ → Layout → Contents
  contents k layout = contents_at layouts pieces k layout

  samples_hold : (k : ℕ) (layout : Layout) → slice_get layouts k ≡ Some layout
      → AreSamples layout (length (own k pieces)) (joined (own k pieces)) (streams_from pieces (first_id layouts k) (variables layout.rows))
  samples_hold k layout laid =
      let mine = own k pieces in
      let streams = streams_from pieces (first_id layouts k) (variables layout.rows) in
      let long = own_long layouts k layout pieces laid each in
      let have = entries_have layouts pieces k layout laid [] samples pieces read each in
      record {
        long = length-joined (record_size layout) mine long;
        each_stream = length-streams pieces (first_id layouts k) (variables layout.rows);
        each_sample = λ i below.
            let one = entries_at layout streams 0 i mine have below in
            let body : record_at layout (joined mine) i ≡ get_or mine i [] = joined_at (record_size layout) i mine long below in (
              one.0,
              ap (entries_in layout streams i) body ∙ ap (λ (m : ℕ). entries_in layout streams m (get_or mine i [])) (sym (zero_on i)) ∙ one.1,
            );
      }

  values_before : (k : ℕ) (layout : Layout) (rest : List Layout) → slice_get rest k ≡ Some layout → all_values (take k rest) + values_in layout ≤ all_values rest
  values_before k layout [] laid = let wrong : ◌≡◌ {A = Option Layout} None (Some layout) = laid in cc
  values_before zero layout (first ∷ rest) laid = omega (arith, sum_by-cons values_in first rest, ap values_in (same_Some first layout laid))
  values_before (suc k) layout (first ∷ rest) laid =
      omega (arith, sum_by-cons values_in first rest, sum_by-cons values_in first (take k rest), values_before k layout rest laid)

  pub group_holds : (k : ℕ) (group : GroupRow) (layout : Layout) → slice_get is.front k ≡ Some group → slice_get layouts k ≡ Some layout
      → IsGroupContents file row records (k, group) (contents k layout)
  group_holds k group layout there laid =
      let here = front_at is.at 0 k is.front layouts group layout is.fronts there laid in
      let mine = own k pieces in
      let below = slice_get_within layouts k layout laid in
      let bodies_are : bodies row.id_size records k ≡ mine =
      ap (λ (m : ℕ). bodies m records k) is.id_size ∙ own_bodies layouts k pieces below each in
      let all : take (length (bodies row.id_size records k)) (bodies row.id_size records k) ≡ mine =
      take_all (length (bodies row.id_size records k)) (bodies row.id_size records k) (omega arith) ∙ bodies_are in
      let n = 0 + all_values (take k layouts) in
      let channels = filter is_of_values group.channels in
      let fields : variables layout.rows ≡ map field_of channels =
      ap (λ (l : Layout). variables l.rows) (sym here.layout_is)
      ∙ ap (λ (cs : List ChannelRow). variables (map field_of cs)) (cond-false (is_variable group) [] group.channels here.samples)
      ∙ variable_fields group.channels in
      let streams = streams_from pieces (first_id layouts k) (variables layout.rows) in
      let have = entries_have layouts pieces k layout laid [] samples pieces read each in
      let met = all_met layout streams 0 mine (length-streams pieces (first_id layouts k) (variables layout.rows)) have in
      let counted : length channels ≡ values_in layout = sym (ap length fields ∙ length-map channels field_of) in
      let few : n + length channels ≤ length is.back = omega (arith, counted, is.many, values_before k layout layouts laid) in
      let hold : AllZip (StreamOf layout.data_bytes mine) channels (streams_from pieces (first_id layouts k) (map field_of channels)) =
      streams_hold layout mine n (first_id layouts k) channels (omega arith) here.named few
      (subst (λ (fs : List FieldRow). AllZip (AreMet layout mine) fs (streams_from pieces (first_id layouts k) fs)) fields met) in
      let hold_fields : AllZip (StreamOf layout.data_bytes mine) channels streams =
      subst (λ (fs : List FieldRow). AllZip (StreamOf layout.data_bytes mine) channels (streams_from pieces (first_id layouts k) fs)) (sym fields) hold in
      let data_bytes : layout.data_bytes ≡ group.data_bytes = ap (λ (l : Layout). l.data_bytes) (sym here.layout_is) in
      record {
        ruled = here.ruled;
        shape = sym here.layout_is;
        enough = omega arith;
        count = ap length (sym bodies_are);
        content = ap joined (sym all);
        streams =
            subst (λ (xs : List (List ℕ)). AllZip (StreamOf group.data_bytes xs) channels streams) (sym all)
            (subst (λ (d : ℕ). AllZip (StreamOf d mine) channels streams) data_bytes hold_fields);
        samples = samples_hold k layout laid;
      }

  -- the groups whose records are samples are the first ones
  fronts_pass : (at : ℕ → ℕ) (n k : ℕ) (front : List GroupRow) (rest : List Layout) (back : List GroupRow) → AreFronts at n front rest
      → filter is_of_samples (enumerate_from k (front ++ back)) ≡ enumerate_from k front ++ filter is_of_samples (enumerate_from (k + length front) back)
  fronts_pass at n k [] rest back are = ap (λ (m : ℕ). filter is_of_samples (enumerate_from m back)) (from_here k)
  fronts_pass at n k (group ∷ front) [] back are = absurd are
  fronts_pass at n k (group ∷ front) (layout ∷ rest) back are =
      let more = filter is_of_samples (enumerate_from (k + 1) (front ++ back)) in
      cond-true (not (is_variable group)) ((k, group) ∷ more) more (ap not are.0.samples)
      ∙ ap (λ (gs : List (ℕ × GroupRow)). (k, group) ∷ gs) (fronts_pass at (n + values_in layout) (k + 1) front rest back are.1)
      ∙ ap (λ (m : ℕ). (k, group) ∷ (enumerate_from (k + 1) front ++ filter is_of_samples (enumerate_from m back))) (one_on k (length front))

  backs_pass : (at : ℕ → ℕ) (n k : ℕ) (back : List GroupRow) → AreBacks at n back → filter is_of_samples (enumerate_from k back) ≡ []
  backs_pass at n k [] are = refl
  backs_pass at n k (group ∷ back) are =
      let more = filter is_of_samples (enumerate_from (k + 1) back) in
      cond-false (not (is_variable group)) ((k, group) ∷ more) more (ap not are.0.1) ∙ backs_pass at (n + 1) (k + 1) back are.1

  fronts_are : sample_groups row ≡ enumerate_from 0 is.front
  fronts_are =
      ap (λ (gs : List GroupRow). filter is_of_samples (enumerate_from 0 gs)) is.groups_are
      ∙ fronts_pass is.at 0 0 is.front layouts is.back is.fronts
      ∙ ap (λ (gs : List (ℕ × GroupRow)). enumerate_from 0 is.front ++ gs) (backs_pass is.at 0 (0 + length is.front) is.back is.backs)
      ∙ append-nil (enumerate_from 0 is.front)

  pub groups_hold : AllZip (IsGroupContents file row records) (sample_groups row) (contents_from layouts pieces 0 layouts)
  groups_hold =
      subst (λ (gs : List (ℕ × GroupRow)). AllZip (IsGroupContents file row records) gs (contents_from layouts pieces 0 layouts)) (sym fronts_are)
      (zip_along (IsGroupContents file row records) 0 is.front (contents_from layouts pieces 0 layouts)
      (fronts_many is.at 0 is.front layouts is.fronts ∙ sym (contents_many layouts pieces 0 layouts))
      (λ k group found there is_found.
      let below : k < length layouts = subst (λ (n : ℕ). k < n) (fronts_many is.at 0 is.front layouts is.fronts) (slice_get_within is.front k group there) in
      let layout = get_or layouts k no_layout in
      let laid = slice_get-get_or layouts k no_layout below in
      let same : contents_at layouts pieces (0 + k) layout ≡ found =
      same_Some (contents_at layouts pieces (0 + k) layout) found (sym (contents_there layouts pieces 0 k layouts layout laid) ∙ is_found) in
      let place : k ≡ 0 + k = sym (zero_on k) in
      subst (λ (c : Contents). IsGroupContents file row records (0 + k, group) c) same
      (subst (λ (n : ℕ). IsGroupContents file row records (n, group) (contents_at layouts pieces n layout)) place (group_holds k group layout there laid))))

  -- each channel of variable length of a group names a group of values
  pub named_in : (k : ℕ) (group : GroupRow) (layout : Layout) → slice_get is.front k ≡ Some group → slice_get layouts k ≡ Some layout
      → (j : ℕ) (channel : ChannelRow) → slice_get group.channels j ≡ Some channel → is_of_values channel ≡ true
      → (named : ℕ) × (values_group row.groups channel.values 0 ≡ Some named)
  named_in k group layout there laid j channel known variable =
      let here = front_at is.at 0 k is.front layouts group layout is.fronts there laid in
      let channels = filter is_of_values group.channels in
      let fields : length channels ≡ values_in layout =
      sym (length-map channels field_of)
      ∙ ap length (sym (variable_fields group.channels))
      ∙ ap (λ (cs : List ChannelRow). length (variables (map field_of cs))) (sym (cond-false (is_variable group) [] group.channels here.samples))
      ∙ ap values_in here.layout_is in
      let one = name_of is.at (0 + all_values (take k layouts)) group.channels here.named j channel known variable in
      (length layouts + one.0, names_found one.0 channel one.1 (omega (arith, one.2, fields, is.many, values_before k layout layouts laid)))
