use Rattle.std.proofs.Common.{◌≡◌, ℕ, List, [], ◌∷◌, ◌++◌, replicate, ◌∙◌, ap, arith}
use Rattle.std.proofs.lemmas.List.{replicate_more}
use Rattle.mdf_data.proofs.spread.empties.Goals as goal

pub loop-k-preserved : goal.loop-k-preserved
loop-k-preserved c =
    c.in_ok-push.ensures.items
    ∙ ap (λ (places : List ℕ). c.loop-k.lists.items ++ places ∷ []) c.empty.ensures
    ∙ ap (λ (lists : List (List ℕ)). lists ++ [] ∷ []) c.loop-k.invariant
    ∙ replicate_more {X = List ℕ} c.loop-k._k []

pub returns : goal.returns
returns c =
    let count : c.loop-k._k ≡ c.args.count = omega (arith, c.loop-k-test.false, c.loop-k.auto._k-end) in
    c.loop-k.invariant ∙ ap (λ (n : ℕ). replicate {A = List ℕ} n []) count
