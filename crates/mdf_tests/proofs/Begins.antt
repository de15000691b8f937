-- What a book of one group begins with.
use Rattle.std.proofs.Common.{◌≡◌, sym, subst, ℕ, zero, suc, ◌≤◌, List, [], ◌∷◌, All, length, arith}
use Rattle.std.proofs.lemmas.List.Sums.{sum_by-cons}
use Rattle.mdf_layout.specs.Layout.{Layout}
use Rattle.mdf_layout.specs.Written.{AreApart}
use Rattle.mdf_layout.specs.Behind.{variables}
use Rattle.mdf_layout.specs.Stored.{IsStored}
use Rattle.mdf_layout.proofs.Sizes.{few_variables}
use Rattle.book_owned.specs.Begun.{IsAdmissible}

only_one : {A : Type 0} (P : A → Type 0) (x : A) → P x → All P (x ∷ [])
only_one P x here zero d below = here
only_one P x here (suc k) d below = absurd (omega arith)

pub one_group : (shapes : List Layout) (shape : Layout) (block session : ℕ) → shapes ≡ shape ∷ [] → length shape.rows ≤ 128 → AreApart shape.rows
    → All IsStored shape.rows → 1 ≤ block → block ≤ 16777216 → session ≤ 268435456 → IsAdmissible shapes block session
one_group shapes shape block session is few disjoint stored some most within = subst (λ s. IsAdmissible s block session) (sym is) (record {
  groups = omega arith;
  fields = omega (arith, few, sum_by-cons (λ layout. length layout.rows) shape []);
  variable = omega (arith, few, few_variables shape.rows, sum_by-cons (λ layout. length (variables layout.rows)) shape []);
  disjoint = only_one (λ layout. AreApart layout.rows) shape disjoint;
  stored = only_one (λ layout. All IsStored layout.rows) shape stored;
  some = some;
  block = most;
  session = within;
})
