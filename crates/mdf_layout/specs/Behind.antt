-- The records of samples behind a history of samples. A sample is written as a record for each value of variable length,
-- in the order of the channels, and then the record of its group: the group's id, its data bytes and its invalidation
-- bytes. The ids of the groups are their numbers and 1; behind them come the ids of the channels of variable length, in
-- the order of groups and channels. A value's offset is the sum of 4 and the length over the earlier values of its
-- channel.
use Rattle.std.specs.Prelude.{ℕ, ◌≡◌, ◌+◌, ◌<◌, ◌^◌, if◌then◌else◌, List, [], ◌∷◌, ◌++◌, length, map, filter, take, sum_by, slice_get, All, Some}
use Rattle.std.specs.Option.{option_map_or}
use Rattle.mdf_format.specs.Field.{bit_of, field_number}
use Rattle.mdf_vlsd.specs.Value.{value_bytes}
use Rattle.mdf_layout.specs.History.{group_samples}
use Rattle.mdf_layout.specs.Layout.{Layout}
use Rattle.mdf_layout.specs.Rule.{spot_in, is_variable}
use Rattle.mdf_layout.specs.Values.{Finder, bytes_in, sample_by}
use Rattle.mdf_layout.specs.Written.{IsFree, IsFreePosition}
use Rattle.mdf_layout.specs.declared.field.FieldRow.{FieldRow}
use Rattle.mdf_layout.specs.declared.sample.Sample.{Sample}

-- the channels of variable length
abbrev pub variables : List FieldRow → List FieldRow
variables rows = filter is_variable rows

-- the id of a group's first channel of variable length
abbrev pub first_id : List Layout → ℕ → ℕ
first_id layouts group = length layouts + 1 + sum_by (λ layout. length (variables layout.rows)) (take group layouts)

-- the records of values, with ids from this one on
unfoldable pub value_records : ℕ → List (List ℕ) → List ℕ
value_records id [] = []
value_records id (v ∷ vs) = id ∷ (value_bytes v ++ value_records (id + 1) vs)

-- how much a sample's value of channel k adds to the channel's offsets
abbrev pub value_size : ℕ → Sample → ℕ
value_size k sample = option_map_or (λ entry. 4 + length (bytes_in entry.value)) (slice_get sample.values k) 0

-- the offsets of the next values of the channels of variable length, from channel k on, behind these samples of the group
unfoldable pub offsets_from : ℕ → List FieldRow → List Sample → List ℕ
offsets_from k [] samples = []
offsets_from k (row ∷ rows) samples =
    if is_variable row then sum_by (value_size k) samples ∷ offsets_from (k + 1) rows samples else offsets_from (k + 1) rows samples

abbrev pub offsets_behind : List FieldRow → List Sample → List ℕ
offsets_behind rows samples = offsets_from 0 rows samples

-- what finds this value whatever the offset is
abbrev pub always : List ℕ → Finder
always v = λ offset. Some v

-- these bytes are the records of the sample, which comes behind those before
pub record IsRecordBehind (layouts : List Layout) (before : List Sample) (bytes : List ℕ) (sample : Sample) : Type 0 where
  pub layout : Layout
  pub known : slice_get layouts sample.group ≡ Some layout
  pub values : List (List ℕ)
  pub data_bytes : List ℕ
  pub inval_bytes : List ℕ
  pub bytes_are : bytes ≡ value_records (first_id layouts sample.group) values ++ (sample.group + 1) ∷ (data_bytes ++ inval_bytes)
  pub count : length values ≡ length (variables layout.rows)
  pub short : All (λ v. length v < 2 ^ 32) values
  pub data_long : length data_bytes ≡ layout.data_bytes
  pub inval_long : length inval_bytes ≡ layout.inval_bytes
  pub offsets : map (λ row. field_number (spot_in row) data_bytes) (variables layout.rows) ≡ offsets_behind layout.rows (group_samples before sample.group)
  pub entries : sample_by layout.rows data_bytes inval_bytes (map always values) (length (group_samples before sample.group)) ≡ Some sample.values

-- and the bits of no channel are 0
pub record IsEncodingBehind (layouts : List Layout) (before : List Sample) (bytes : List ℕ) (sample : Sample) : Type 0 where
  pub is : IsRecordBehind layouts before bytes sample
  pub unused : (p : ℕ) → IsFree is.layout.rows p → bit_of is.data_bytes p ≡ 0
  pub unused_positions : (p : ℕ) → IsFreePosition is.layout.rows p → bit_of is.inval_bytes p ≡ 0

-- these bytes are the records of the samples, one sample behind the other, behind those before
unfoldable pub AreEncodingsBehind : List Layout → List Sample → List ℕ → List Sample → Type 0
AreEncodingsBehind layouts before bytes [] = bytes ≡ []
AreEncodingsBehind layouts before bytes (sample ∷ samples) = (first rest : List ℕ) × (bytes ≡ first ++ rest)
    × IsEncodingBehind layouts before first sample × AreEncodingsBehind layouts (before ++ sample ∷ []) rest samples
