use Rattle.std.proofs.Common.{ℕ, ◌<◌, length}
use Rattle.std.specs.List.{slice_index_or}
use Rattle.mdf_layout.specs.Written.{IsApart}
use Rattle.mdf_layout.specs.declared.field.FieldRow.{FieldRow}
use Rattle.mdf_layout.proofs.fitting.are_apart.Given as goal

-- each of the rows so far lies apart from the later ones
abbrev pub invariant-loop-i : goal.invariant-loop-i
invariant-loop-i l = (i j : ℕ) (d : FieldRow) → i < l.i → i < j → j < length l.rows
    → IsApart (slice_index_or l.rows i d) (slice_index_or l.rows j d)
