use Rattle.std.proofs.Common.{◌<◌, ℕ}
use Rattle.std.specs.List.{slice_index_or}
use Rattle.mdf_layout.specs.Written.{IsEntryOf}
use Rattle.mdf_layout.specs.declared.field.FieldRow.{FieldRow}
use Rattle.mdf_layout.specs.declared.sample.Entry.{Entry}
use Rattle.mdf_layout.proofs.fitting.entries_fit.Given as goal

-- the entries so far fit
abbrev pub invariant-loop-i : goal.invariant-loop-i
invariant-loop-i l = (k : ℕ) (row : FieldRow) (entry : Entry) → k < l.i
    → IsEntryOf (slice_index_or l.rows k row) (slice_index_or l.entries k entry)
