use Rattle.std.proofs.Common.{◌≡◌, ◌∙◌, ◌<◌, ◌≤◌, List, [], ◌∷◌, length, get_or, sym, ap, arith}
use Rattle.std.specs.Prelude.{codes}
use Rattle.mdf_rotate.proofs.words.output_in.Goals as goal

two_items : {X : Type 0} (xs : List X) (first second : X) → 2 ≤ length xs → length xs < 3 → first ≡ get_or xs 0 first → second ≡ get_or xs 1 second → xs ≡ first ∷ second ∷ []
two_items [] first second up below first_is second_is = absurd (omega (arith, up))
two_items (x ∷ []) first second up below first_is second_is = absurd (omega (arith, up))
two_items (x ∷ y ∷ []) first second up below first_is second_is = cc
two_items (x ∷ y ∷ z ∷ xs) first second up below first_is second_is = absurd (omega (arith, below))

pub returns-in-len2 : goal.returns-in-len2
returns-in-len2 c =
    let name : c.name-item.result ≡ codes "rotate" = sym c.as_slice-then-this-lt3.ensures ∙ c.is.ensures.0 c.if-is.true in
    sym c.as_slice.ensures
    ∙ two_items c.as_slice.result.now c.name-item.result c.output-item.result (omega (arith, c.in-len2.len_at_least)) (omega (arith, c.in-len2.len_below)) c.name-item.is c.output-item.is
    ∙ ap (λ word. word ∷ c.output-item.result ∷ []) name
