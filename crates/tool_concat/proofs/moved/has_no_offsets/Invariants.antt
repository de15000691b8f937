use Rattle.std.proofs.Common.{◌<◌, ℕ}
use Rattle.mdf_layout.specs.declared.field.FieldRow.{FieldRow}
use Rattle.tool_concat.specs.Moved.{IsVariableAt}
use Rattle.tool_concat.proofs.moved.has_no_offsets.Given as goal

-- none so far is of variable length
abbrev pub invariant-loop-row : goal.invariant-loop-row
invariant-loop-row l = (k : ℕ) (row : FieldRow) → k < l.row-index → ¬ IsVariableAt l.rows k row
