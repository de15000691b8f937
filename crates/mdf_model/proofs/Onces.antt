-- A file has one measurement.
use Rattle.std.proofs.Common.{◌≡◌, ℕ, List, map, Option, Some, None, refl, sym, ◌∙◌, ap, subst, inl, inr}
use Rattle.std.specs.Prelude.{filter, zip}
use Rattle.std.specs.List.{flat_map, AllZip}
use Rattle.mdf_format.specs.Block.{link_at, body_at, IsBlock}
use Rattle.mdf_format.specs.declared.kind.Kind.{Kind}
use Rattle.mdf_format.specs.declared.kind.Kind.TheVariants as kinds
use Rattle.mdf_block.specs.declared.note.Note.{Note}
use Rattle.mdf_block.specs.Text.{IsNote}
use Rattle.mdf_block.proofs.Uniques.{note_unique, chain_unique, items_unique}
use Rattle.mdf_data.specs.Split.{Record, IsRecordSplit}
use Rattle.mdf_stream.proofs.Streams.{streams_agree}
use Rattle.mdf_data.proofs.Splits.{record_splits_agree}
use Rattle.mdf_head.specs.declared.entry.Head.{Head}
use Rattle.mdf_head.specs.declared.entry.History.{History}
use Rattle.mdf_head.specs.Head.{the_head, the_history, IsHistory, IsHead}
use Rattle.mdf_group.specs.declared.row.ChannelRow.{ChannelRow}
use Rattle.mdf_group.specs.declared.row.GroupRow.{GroupRow}
use Rattle.mdf_group.specs.declared.row.DataRow.{DataRow}
use Rattle.mdf_group.specs.Recordable.{is_of_values}
use Rattle.mdf_group.specs.Standing.{StandDataGroups}
use Rattle.mdf_group.proofs.Uniques.{data_groups_unique}
use Rattle.mdf_layout.specs.Layout.{Layout}
use Rattle.mdf_content.specs.declared.contents.Contents.{Contents}
use Rattle.mdf_content.specs.Records.{known_of}
use Rattle.mdf_content.specs.Values.{values_group}
use Rattle.mdf_model.specs.declared.part.Measure.{Measure}
use Rattle.mdf_model.specs.Contents.{empties_in, IsDataSplit, IsValuesOf, IsChannelStream, own_records, IsContents, sample_groups, IsDataContents}
use Rattle.mdf_model.specs.InWords.{row_measures, IsMeasurement}
use Rattle.mdf_block.proofs.Items.{zip_unique}
use Rattle.mdf_block.proofs.Names.{none_first}

-- the header and the history
pub head_unique : (f : List ℕ) (a b : Head) (xs ys : List History) → IsHead f a xs → IsHead f b ys → a ≡ b
head_unique f a b xs ys is_a is_b =
    is_a.fields
    ∙ ap (λ (n : Note). the_head (body_at f 64) n (link_at f 64 0)) (note_unique f (link_at f 64 5) a.comment b.comment is_a.comment is_b.comment)
    ∙ sym is_b.fields

entry_unique : (f : List ℕ) (x y : History) → x.at ≡ y.at → IsHistory f x → IsHistory f y → x ≡ y
entry_unique f x y same is_x is_y =
    let comment = note_unique f (link_at f y.at 1) x.comment y.comment
    (subst (λ (at : ℕ). IsNote f (link_at f at 1) x.comment) same is_x.comment) is_y.comment in
    is_x.fields
    ∙ ap (λ (at : ℕ). the_history at (body_at f at) x.comment) same
    ∙ ap (λ (n : Note). the_history y.at (body_at f y.at) n) comment
    ∙ sym is_y.fields

pub history_unique : (f : List ℕ) → ((kind : Kind) → IsBlock f 0 kind → ⊥) → (a b : Head) (xs ys : List History)
    → IsHead f a xs → IsHead f b ys → xs ≡ ys
history_unique f none a b xs ys is_a is_b =
    items_unique (λ (entry : History). entry.at) (IsHistory f) (entry_unique f) xs ys
    (chain_unique f kinds.Fh (none kinds.Fh) (link_at f 64 1) _ _ is_a.chain is_b.chain) is_a.entries is_b.entries

-- the records of a data group
pub split_unique : (f : List ℕ) (row : DataRow) (xs ys : List Record) (a b : List ℕ) → IsDataSplit f row xs a → IsDataSplit f row ys b
    → (xs ≡ ys) × (a ≡ b)
split_unique f row xs ys a b is_x is_y =
    let streams = streams_agree f row.content kinds.Dt is_x.stream is_y.stream (inl refl) is_x.is_stream is_y.is_stream in
    record_splits_agree is_y.stream row.id_size (map known_of row.groups) (empties_in row.groups) xs ys a b
    (subst (λ (stream : List ℕ). IsRecordSplit stream row.id_size (map known_of row.groups) (empties_in row.groups) xs a) streams is_x.split)
    is_y.split

-- the values of a channel
pub values_unique : (f : List ℕ) (row : DataRow) (records : List Record) (link : ℕ) (group : Option ℕ) (xs ys : List ℕ)
    → IsValuesOf f row records link group xs → IsValuesOf f row records link group ys → xs ≡ ys
values_unique f row records link (Some k) xs ys is_x is_y = is_x ∙ sym is_y
values_unique f row records link None xs ys is_x is_y = streams_agree f link kinds.Sd xs ys (inr refl) is_x is_y

channel_unique : (f : List ℕ) (row : DataRow) (records : List Record) (data_bytes : ℕ) (own : List (List ℕ)) (channel : ChannelRow) (xs ys : List ℕ)
    → IsChannelStream f row records data_bytes own channel xs → IsChannelStream f row records data_bytes own channel ys → xs ≡ ys
channel_unique f row records data_bytes own channel xs ys is_x is_y =
    values_unique f row records channel.values (values_group row.groups channel.values 0) xs ys is_x.values is_y.values

-- what a group holds, by its parts
made : Layout → ℕ → List ℕ → List (List ℕ) → Contents
made shape count content streams = record { shape = shape; count = count; content = content; streams = streams }

pub contents_unique : (f : List ℕ) (row : DataRow) (records : List Record) (group : ℕ × GroupRow) (x y : Contents)
    → IsContents f row records group.0 group.1 x → IsContents f row records group.0 group.1 y → x ≡ y
unfolding made
contents_unique f row records group x y is_x is_y =
    let own = own_records row records group.0 group.1 in
    let streams : x.streams ≡ y.streams =
    zip_unique (IsChannelStream f row records group.1.data_bytes own) (channel_unique f row records group.1.data_bytes own)
    (filter is_of_values group.1.channels) x.streams y.streams is_x.streams is_y.streams in
    let first : x ≡ made x.shape x.count x.content x.streams = refl in
    let last : y ≡ made y.shape y.count y.content y.streams = refl in
    first
    ∙ ap (λ (shape : Layout). made shape x.count x.content x.streams) (is_x.shape ∙ sym is_y.shape)
    ∙ ap (λ (count : ℕ). made y.shape count x.content x.streams) (is_x.count ∙ sym is_y.count)
    ∙ ap (λ (content : List ℕ). made y.shape y.count content x.streams) (is_x.content ∙ sym is_y.content)
    ∙ ap (λ (found : List (List ℕ)). made y.shape y.count y.content found) streams
    ∙ sym last

data_unique : (f : List ℕ) (row : DataRow) (xs ys : List Contents) → IsDataContents f row xs → IsDataContents f row ys → xs ≡ ys
data_unique f row xs ys is_x is_y =
    let records = (split_unique f row is_x.records is_y.records is_x.rest is_y.rest is_x.split is_y.split).0 in
    zip_unique (λ (group : ℕ × GroupRow) (found : Contents). IsContents f row is_y.records group.0 group.1 found)
    (contents_unique f row is_y.records) (sample_groups row) xs ys
    (subst (λ (rs : List Record). AllZip (λ (group : ℕ × GroupRow) (found : Contents). IsContents f row rs group.0 group.1 found) (sample_groups row) xs)
    records is_x.groups) is_y.groups

-- the data groups of the two measurements
pub rows_unique : (f : List ℕ) (a b : Head) (xs ys : List History) (ms ns : List Measure) (is_a : IsMeasurement f a xs ms) (is_b : IsMeasurement f b ys ns)
    → is_a.rows ≡ is_b.rows
rows_unique f a b xs ys ms ns is_a is_b =
    let heads = head_unique f a b xs ys is_a.stands is_b.stands in
    data_groups_unique f (none_first f is_b.ident.finalized) b.first_dg is_a.rows is_b.rows
    (subst (λ (h : Head). StandDataGroups f h.first_dg is_a.rows) heads is_a.tree) is_b.tree

pub measurements_agree : (f : List ℕ) (a b : Head) (xs ys : List History) (ms ns : List Measure) → IsMeasurement f a xs ms → IsMeasurement f b ys ns
    → (a ≡ b) × (xs ≡ ys) × (ms ≡ ns)
measurements_agree f a b xs ys ms ns is_a is_b =
    let rows = rows_unique f a b xs ys ms ns is_a is_b in
    let contents = zip_unique (IsDataContents f) (data_unique f) is_b.rows is_a.contents is_b.contents
    (subst (λ (rs : List DataRow). AllZip (IsDataContents f) rs is_a.contents) rows is_a.hold) is_b.hold in (
      head_unique f a b xs ys is_a.stands is_b.stands,
      history_unique f (none_first f is_b.ident.finalized) a b xs ys is_a.stands is_b.stands,
      is_a.groups_are
          ∙ ap (λ (rs : List DataRow). flat_map row_measures (zip rs is_a.contents)) rows
          ∙ ap (λ (cs : List (List Contents)). flat_map row_measures (zip is_b.rows cs)) contents
          ∙ sym is_b.groups_are,
    )
