-- What a book of two groups begins with.
use Rattle.std.proofs.Common.{sym, subst, ℕ, zero, suc, List, [], ◌∷◌, All, length, arith}
use Rattle.std.proofs.lemmas.List.Sums.{sum_by-cons}
use Rattle.mdf_layout.specs.Layout.{Layout}
use Rattle.mdf_layout.specs.Written.{AreApart}
use Rattle.mdf_layout.specs.Behind.{variables}
use Rattle.mdf_layout.specs.Stored.{IsStored}
use Rattle.mdf_layout.proofs.Sizes.{few_variables}
use Rattle.book_owned.specs.Begun.{IsAdmissible}
use Rattle.book_shared_tests.specs.Words.{AreGroups}

both : {A : Type 0} (P : A → Type 0) (x : A) → P x → All P (x ∷ x ∷ [])
both P x here zero d below = here
both P x here (suc zero) d below = here
both P x here (suc (suc k)) d below = absurd (omega arith)

pub two_groups : (shapes : List Layout) → AreGroups shapes → IsAdmissible shapes 9 4096
two_groups shapes are =
    let rows = are.layout.rows in
    let fields : Layout → ℕ = λ layout. length layout.rows in
    let behind : Layout → ℕ = λ layout. length (variables layout.rows) in
    subst (λ s. IsAdmissible s 9 4096) (sym are.layouts_are) (record {
      groups = omega arith;
      fields = omega (arith, are.few, sum_by-cons fields are.layout (are.layout ∷ []), sum_by-cons fields are.layout []);
      variable = omega (arith, are.few, few_variables rows, sum_by-cons behind are.layout (are.layout ∷ []), sum_by-cons behind are.layout []);
      disjoint = both (λ layout. AreApart layout.rows) are.layout are.apart;
      stored = both (λ layout. All IsStored layout.rows) are.layout are.stored;
      some = omega arith;
      block = omega arith;
      session = omega arith;
    })
