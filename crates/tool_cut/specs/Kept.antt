-- The measurement with those records alone whose master lies in a range.
use Rattle.std.specs.Prelude.{ℕ, zero, suc, ◌+◌, Bool, if◌then◌else◌, ℤ, List, [], ◌++◌, map, take, Option, Some, None}
use Rattle.mdf_content.specs.Samples.{record_at}
use Rattle.mdf_layout.specs.Layout.{Layout}
use Rattle.mdf_layout.specs.declared.field.FieldRow.{FieldRow}
use Rattle.mdf_model.specs.declared.part.Measure.{Measure}
use Rattle.mdf_model.specs.Measurement.{Measured, with_content}
use Rattle.tool_cut.specs.Master.{lies_between, master_field}

-- how many of the first so many records pass a test
unfoldable pub kept_count : (ℕ → Bool) → ℕ → ℕ
kept_count keeps zero = 0
kept_count keeps (suc n) = kept_count keeps n + (if keeps n then 1 else 0)

-- and their bytes, one record behind the other
unfoldable pub kept_bytes : (ℕ → Bool) → (ℕ → List ℕ) → ℕ → List ℕ
kept_bytes keeps record_of zero = []
kept_bytes keeps record_of (suc n) = kept_bytes keeps record_of n ++ (if keeps n then record_of n else [])

-- whether the number of a field in record i lies in a range
abbrev pub is_kept : ℤ → ℤ → Layout → FieldRow → List ℕ → ℕ → Bool
is_kept from to layout field content i = lies_between from to field (take layout.data_bytes (record_at layout content i))

-- a group with those of its records alone in which this field lies in the range; its streams stay
abbrev pub cut_by : ℤ → ℤ → Measure → FieldRow → Measure
cut_by from to m field = with_content m
    (kept_count (is_kept from to m.shape field m.part.content) m.count)
    (kept_bytes (is_kept from to m.shape field m.part.content) (record_at m.shape m.part.content) m.count)
    m.part.streams

-- a group without a master stays whole
abbrev pub cut_at : ℤ → ℤ → Measure → Option FieldRow → Measure
cut_at from to m None = m
cut_at from to m (Some field) = cut_by from to m field

unfoldable pub cut_measure : ℤ → ℤ → Measure → Measure
cut_measure from to m = cut_at from to m (master_field m)

-- all groups so, and all else as it is
abbrev pub cut_of : ℤ → ℤ → Measured → Measured
cut_of from to m = record m { groups = map (cut_measure from to) m.groups }
