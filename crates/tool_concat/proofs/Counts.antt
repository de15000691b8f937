-- How many streams belong to the channels before one.
use Rattle.std.proofs.Common.{◌≡◌, ◌+◌, ℕ, Bool, true, false, List, ◌∙◌, ap, arith, Some}
use Rattle.std.specs.Prelude.{slice_get, if◌then◌else◌}
use Rattle.mdf_layout.specs.Rule.{is_variable}
use Rattle.mdf_layout.specs.Values.{streams_before}
use Rattle.mdf_layout.specs.declared.field.FieldRow.{FieldRow}
use Rattle.mdf_layout.proofs.Entered.{streams_more}

pub streams_one : (rows : List FieldRow) (k : ℕ) (row : FieldRow) → slice_get rows k ≡ Some row → is_variable row ≡ true
    → streams_before rows (k + 1) ≡ streams_before rows k + 1
streams_one rows k row there is = streams_more rows k row there ∙ ap (λ (b : Bool). streams_before rows k + (if b then 1 else 0)) is

pub streams_none : (rows : List FieldRow) (k : ℕ) (row : FieldRow) → slice_get rows k ≡ Some row → is_variable row ≡ false
    → streams_before rows (k + 1) ≡ streams_before rows k
streams_none rows k row there is = omega (arith, streams_more rows k row there ∙ ap (λ (b : Bool). streams_before rows k + (if b then 1 else 0)) is)
