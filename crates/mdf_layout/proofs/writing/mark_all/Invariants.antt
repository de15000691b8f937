use Rattle.std.proofs.Common.{◌≡◌, ◌<◌, ℕ, get_or, Some}
use Rattle.mdf_format.specs.Field.{bit_of}
use Rattle.mdf_layout.specs.Written.{HoldMarks}
use Rattle.mdf_layout.specs.declared.field.FieldRow.{FieldRow}
use Rattle.mdf_layout.proofs.writing.mark_all.Given as goal

-- the channels so far are marked, and each other bit is 0
abbrev pub invariant-loop-channel : goal.invariant-loop-channel
invariant-loop-channel l = record {
  marks : HoldMarks l.rows l.values l.channel l.inval;
  others : (p : ℕ) → ((k : ℕ) (d : FieldRow) → k < l.channel → ¬ ((get_or l.rows k d).inval ≡ Some p)) → bit_of l.inval p ≡ 0;
}
