-- Offsets that their fields do not hold once they are moved.
use Rattle.std.specs.Prelude.{ℕ, ◌+◌, ◌<◌, ◌≤◌, ◌^◌, List, length, take, slice_index_or}
use Rattle.mdf_content.specs.Samples.{record_at}
use Rattle.mdf_layout.specs.Layout.{Layout}
use Rattle.mdf_layout.specs.declared.field.FieldRow.{FieldRow}
use Rattle.mdf_model.specs.declared.part.Measure.{Measure}
use Rattle.tool_concat.specs.Moved.{IsVariableAt, offset_in, shift_of}

-- the data bytes of record i
abbrev pub data_at : Layout → List ℕ → ℕ → List ℕ
data_at layout content i = take layout.data_bytes (record_at layout content i)

-- of so many records one has an offset that is past the bits of its channel once it has risen by so much
pub record HasPast (layout : Layout) (content : List ℕ) (count : ℕ) (row : FieldRow) (shift : ℕ) : Type 0 where
  pub i : ℕ
  pub within : i < count
  pub past : 2 ^ row.bits ≤ offset_in row (data_at layout content i) + shift

-- channel k has such an offset in a group that comes behind one with these streams
pub record IsWide (layout : Layout) (content : List ℕ) (count : ℕ) (streams : List (List ℕ)) (k : ℕ) : Type 0 where
  pub row : FieldRow
  pub variable : IsVariableAt layout.rows k row
  pub past : HasPast layout content count row (shift_of layout.rows streams k)

-- channel k is the first that has one
pub record IsFirstWideAt (layout : Layout) (content : List ℕ) (count : ℕ) (streams : List (List ℕ)) (k : ℕ) : Type 0 where
  pub wide : IsWide layout content count streams k
  pub earlier : (j : ℕ) → j < k → ¬ IsWide layout content count streams j

abbrev pub IsFirstWideIn : Measure → Measure → ℕ → Type 0
IsFirstWideIn first second k = IsFirstWideAt second.shape second.part.content second.count first.part.streams k

abbrev pub IsWideIn : Measure → Measure → ℕ → Type 0
IsWideIn first second k = IsWide second.shape second.part.content second.count first.part.streams k

-- no channel of the group has one
abbrev pub IsNoneWide : Measure → Measure → Type 0
IsNoneWide first second = (k : ℕ) → ¬ IsWideIn first second k

-- nor one of any group below n
abbrev pub NoneWideTo : List Measure → List Measure → ℕ → Type 0
NoneWideTo groups others n = (g : ℕ) (d : Measure) → g < n → IsNoneWide (slice_index_or groups g d) (slice_index_or others g d)

-- the first group with such a channel, and its first one
pub record IsFirstWide (groups others : List Measure) (group channel : ℕ) : Type 0 where
  pub there : group < length groups
  pub first : (d : Measure) → IsFirstWideIn (slice_index_or groups group d) (slice_index_or others group d) channel
  pub earlier : NoneWideTo groups others group
