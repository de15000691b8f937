-- Each data group of a sorted file holds the group of which it was made, and is as the standard has it.
use Rattle.std.proofs.Common.{◌≡◌, ◌*◌, ◌<◌, ℕ, Bool, false, not, List, [], ◌∷◌, ◌++◌, length, take, drop, map, Some, None, refl, sym, ◌∙◌, ap, subst, inr, arith}
use Rattle.std.proofs.Math.Seq.{take-length}
use Rattle.std.specs.Prelude.{◌&&◌, nat_eq, filter, zip, if◌then◌else◌}
use Rattle.std.specs.List.{flat_map, AllByRecursion, AllZip}
use Rattle.mdf_format.specs.Number.{bytes_at}
use Rattle.mdf_block.specs.Draft.{Placed}
use Rattle.mdf_stream.specs.Stream.{IsOne}
use Rattle.mdf_data.specs.Split.{Record}
use Rattle.mdf_group.specs.declared.row.ChannelRow.{ChannelRow}
use Rattle.mdf_group.specs.declared.row.GroupRow.{GroupRow}
use Rattle.mdf_group.specs.declared.row.DataRow.{DataRow}
use Rattle.mdf_group.specs.Group.{is_variable}
use Rattle.mdf_group.specs.Recordable.{is_of_values}
use Rattle.mdf_group.specs.Standing.{AreDistinct}
use Rattle.mdf_tree.specs.Group.{group_channels, placed_channels}
use Rattle.mdf_tree.proofs.Has.{address_some}
use Rattle.mdf_vlsd.specs.Value.{value_at}
use Rattle.mdf_layout.specs.Layout.{Layout}
use Rattle.mdf_layout.specs.Layout as layouts
use Rattle.mdf_layout.specs.Rule as rules
use Rattle.mdf_layout.specs.Values.{sample_by}
use Rattle.mdf_layout.specs.declared.sample.Entry.{Entry}
use Rattle.mdf_content.specs.declared.contents.Contents.{Contents}
use Rattle.mdf_content.specs.Layouts.{field_of, layout_of}
use Rattle.mdf_content.specs.Records.{record_size}
use Rattle.mdf_content.specs.Samples.{sample_at}
use Rattle.mdf_content.specs.Values.{values_group}
use Rattle.mdf_model.specs.declared.part.Measure.{Measure}
use Rattle.mdf_model.specs.Measurement.{paired, contents_of}
use Rattle.mdf_data.specs.Bodies.{bodies, joined}
use Rattle.mdf_model.specs.Contents.{KeepsRules, IsDataSplit, IsChannelStream, own_records, IsContents, IsDataContents}
use Rattle.mdf_model.specs.InWords.{row_measures, IsValidData}
use Rattle.tool_sort.specs.Kept.{IsMeasureIn}
use Rattle.tool_sort.specs.Sorted.{sorted_group, group_number, records_number, values_number, past_part, values_links}
use Rattle.tool_sort.proofs.Fields.{layout_same}
use Rattle.tool_sort.proofs.Records.{chunks, records_of, length-chunks, chunks_joined, all_chunks, bodies_are, group_split}
use Rattle.tool_sort.proofs.Streams.{variable_count, streams_kept}
use Rattle.tool_sort.proofs.Standing.{placed_one, placed_row, placed_rows, PartStands, AllPartsStand}

abbrev pub all_contents : List Measure → List (List Contents)
all_contents [] = []
all_contents (m ∷ rest) = (contents_of m ∷ []) ∷ all_contents rest

-- the groups as they stand then
abbrev pub placed_measure : List Placed → ℕ → Measure → Measure
placed_measure blocks n m = record m { part = record m.part { row = placed_one blocks n m.part m.count } }

abbrev pub placed_measures : List Placed → ℕ → List Measure → List Measure
placed_measures blocks n [] = []
placed_measures blocks n (m ∷ rest) = placed_measure blocks n m ∷ placed_measures blocks (past_part n m.part) rest

-- a group that holds no values is not named as one that does
alone_is : (group : GroupRow) → is_variable group ≡ false → (at : ℕ) → values_group (group ∷ []) at 0 ≡ None
unfolding values_group
alone_is group samples at = ap (λ (b : Bool). if b && nat_eq group.at at then Some 0 else None) samples

module _ (source file : List ℕ) (blocks : List Placed) (n : ℕ) (m : Measure) (is : IsMeasureIn source m)
    (stands : PartStands file blocks n m.part m.count) where
  abbrev group : GroupRow
  group = placed_one blocks n m.part m.count

  abbrev row : DataRow
  row = placed_row blocks n m.part m.count

  abbrev size : ℕ
  size = record_size group

  abbrev lists : List (List ℕ)
  lists = chunks size m.count m.part.content

  abbrev records : List Record
  records = records_of lists

  abbrev own : List (List ℕ)
  own = own_records row records 0 group

  abbrev channels : List ChannelRow
  channels = m.part.row.channels

  layout : layout_of group ≡ layout_of m.part.row
  layout = layout_same blocks (group_number n m.part) (values_links n m.part) (sorted_group m.part m.count)

  long : length m.part.content ≡ m.count * size
  long = is.samples.long ∙ ap (λ (l : Layout). m.count * layouts.record_size l) is.shape

  split : IsDataSplit file row records []
  split = record {
    stream = m.part.content;
    is_stream = IsOne (address_some blocks (records_number n m.part)) stands.records.0 (sym stands.records.1);
    split = group_split group m.part.content is.no_values long;
  }

  counted : length (bodies 0 records 0) ≡ m.count
  counted = ap length (bodies_are lists) ∙ length-chunks size m.count m.part.content

  own_is : own ≡ lists
  own_is =
      ap (take m.count) (bodies_are lists)
      ∙ ap (λ (k : ℕ). take k lists) (sym (length-chunks size m.count m.part.content))
      ∙ take-length lists

  -- what holds of each record
  each_own : (P : List ℕ → Type 0) → ((i : ℕ) → i < m.count → P (bytes_at size m.part.content (i * size))) → AllByRecursion P own
  each_own P each = subst (AllByRecursion P) (sym own_is) (all_chunks P size m.count m.part.content each)

  -- the samples, by the channels of the group
  sampled : (i : ℕ) → i < m.count
      → (entries : List Entry)
      × (sample_by (map field_of channels) (take group.data_bytes (bytes_at size m.part.content (i * size)))
      (drop group.data_bytes (bytes_at size m.part.content (i * size))) (map value_at m.part.streams) i ≡ Some entries)
  sampled i below =
      let body = bytes_at size m.part.content (i * size) in
      let one = subst (λ (l : Layout). (entries : List Entry) × (sample_at l m.part.content m.part.streams i ≡ Some entries)) is.shape
      (is.samples.each_sample i below) in
      subst (λ (b : Bool). (entries : List Entry)
      × (sample_by (map field_of (if b then [] else channels)) (take group.data_bytes body) (drop group.data_bytes body) (map value_at m.part.streams) i
      ≡ Some entries)) is.no_values one

  many : length m.part.streams ≡ length (filter is_of_values channels)
  many =
      is.samples.each_stream
      ∙ ap (λ (l : Layout). length (filter rules.is_variable l.rows)) is.shape
      ∙ ap (λ (b : Bool). length (filter rules.is_variable (map field_of (if b then [] else channels)))) is.no_values
      ∙ variable_count channels

  streams : AllZip (IsChannelStream file row records group.data_bytes own) (filter is_of_values group.channels) m.part.streams
  streams =
      let first = group_channels (group_number n m.part) (sorted_group m.part m.count) in
      subst (λ (b : Bool). AllZip (IsChannelStream file row records group.data_bytes own)
      (filter is_of_values (placed_channels blocks first (if b then [] else values_links n m.part) channels)) m.part.streams) (sym is.no_values)
      (streams_kept file blocks row records group.data_bytes m.count own (λ i. bytes_at size m.part.content (i * size)) each_own
      (alone_is group is.no_values) channels first (values_number n m.part) m.part.streams many stands.streams sampled)

  contents : IsContents file row records 0 group (contents_of m)
  contents = record {
    ruled = subst KeepsRules (sym layout) is.ruled;
    shape = is.shape ∙ sym layout;
    enough = omega (arith, counted);
    count = refl;
    content = sym (ap joined own_is ∙ chunks_joined size m.count m.part.content long);
    streams = streams;
    samples = is.samples;
  }

  pub data_holds : IsDataContents file row (contents_of m ∷ [])
  data_holds = record {
    id_size = inr (refl, omega arith);
    records = records;
    rest = [];
    split = split;
    whole = λ some. refl;
    groups = subst (λ (b : Bool). AllZip (λ (one : ℕ × GroupRow) (found : Contents). IsContents file row records one.0 one.1 found)
        (if not b then (0, group) ∷ [] else []) (contents_of m ∷ [])) (sym is.no_values) (contents, tt);
  }

  pub data_valid : IsValidData file row
  unfolding AreDistinct
  data_valid = record { records = records; split = split; said = (sym counted, tt); ids = (tt, tt) }

-- all of them
pub all_hold : (source file : List ℕ) (blocks : List Placed) (n : ℕ) (groups : List Measure) → AllByRecursion (IsMeasureIn source) groups
    → AllPartsStand file blocks n groups
    → AllZip (IsDataContents file) (placed_rows blocks n groups) (all_contents groups) × AllByRecursion (IsValidData file) (placed_rows blocks n groups)
all_hold source file blocks n [] are stand = (tt, tt)
all_hold source file blocks n (m ∷ rest) are stand =
    let more = all_hold source file blocks (past_part n m.part) rest are.1 stand.1 in (
      (data_holds source file blocks n m are.0 stand.0, more.0),
      (data_valid source file blocks n m are.0 stand.0, more.1),
    )

-- the groups of these data groups
pub groups_are : (source : List ℕ) (blocks : List Placed) (n : ℕ) (groups : List Measure) → AllByRecursion (IsMeasureIn source) groups
    → placed_measures blocks n groups ≡ flat_map row_measures (zip (placed_rows blocks n groups) (all_contents groups))
groups_are source blocks n [] are = refl
groups_are source blocks n (m ∷ rest) are =
    let more = flat_map row_measures (zip (placed_rows blocks (past_part n m.part) rest) (all_contents rest)) in
    let group = placed_one blocks n m.part m.count in
    subst (λ (b : Bool). placed_measures blocks n (m ∷ rest)
    ≡ paired m.part.comment (if not b then group ∷ [] else []) (contents_of m ∷ []) ++ more) (sym are.0.no_values)
    (ap (λ (xs : List Measure). placed_measure blocks n m ∷ xs) (groups_are source blocks (past_part n m.part) rest are.1))
