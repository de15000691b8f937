-- A layout of which no channel breaks a rule.
use Rattle.std.proofs.Common.{◌≡◌, ◌∙◌, ℕ, List, [], ◌∷◌, length, sym, subst, true, false, arith}
use Rattle.mdf_layout.specs.Layout.{Layout, IsRuled}
use Rattle.mdf_layout.specs.Rule.{AreRuled, IsFirstBad}
use Rattle.mdf_layout.specs.declared.field.FieldRow.{FieldRow}

true_false : true ≡ false → ⊥
true_false e = cc

never : (size inval : ℕ) (rows : List FieldRow) (channel : ℕ) → AreRuled size inval rows (length rows) → IsFirstBad size inval rows channel → ⊥
never size inval [] channel ruled bad = absurd (omega (arith, bad.there))
never size inval (row ∷ rows) channel ruled bad = true_false (sym (bad.breaks row) ∙ ruled channel row bad.there)

pub never_bad : (layout : Layout) (size inval : ℕ) (rows : List FieldRow) (channel : ℕ) → size ≡ layout.data_bytes → inval ≡ layout.inval_bytes → rows ≡ layout.rows
    → IsRuled layout → IsFirstBad size inval rows channel → ⊥
never_bad layout size inval rows channel same_data same_inval same_rows ruled bad =
    never layout.data_bytes layout.inval_bytes layout.rows channel ruled.ruled
    (subst (λ n. IsFirstBad n layout.inval_bytes layout.rows channel) same_data
    (subst (λ n. IsFirstBad size n layout.rows channel) same_inval
    (subst (λ rs. IsFirstBad size inval rs channel) same_rows bad)))
