use Rattle.std.proofs.Common.{◌<◌, ℕ}
use Rattle.std.specs.List.{slice_index_or}
use Rattle.mdf_layout.specs.Written.{IsApart}
use Rattle.mdf_layout.specs.declared.field.FieldRow.{FieldRow}
use Rattle.mdf_layout.proofs.fitting.is_apart_from.Given as goal

-- the others so far lie apart from the channel
abbrev pub invariant-loop-other : goal.invariant-loop-other
invariant-loop-other l = (k : ℕ) (d : FieldRow) → k < l.other-index → IsApart l.row (slice_index_or l.others k d)
