-- Items that are taken from the end of a list, one after another, and turned.
use Rattle.std.proofs.Common.{◌≡◌, List, [], ◌∷◌, ◌++◌, map, reverse, sym, ◌∙◌, ap, subst, append_assoc}
use Rattle.std.proofs.lemmas.List.{reverse-append}
use Rattle.std.specs.List.{AllByRecursion}

-- what holds of each item of a list holds of those before its end
front_all : {B : Type 0} (Q : B → Type 0) (front behind : List B) → AllByRecursion Q (front ++ behind) → AllByRecursion Q front
front_all Q [] behind all = tt
front_all Q (x ∷ front) behind all = (all.0, front_all Q front behind all.1)

pub rest_all : {B : Type 0} (Q : B → Type 0) (items rest : List B) (last : B) → items ≡ rest ++ last ∷ [] → AllByRecursion Q items → AllByRecursion Q rest
rest_all Q items rest last is all = front_all Q rest (last ∷ []) (subst (AllByRecursion Q) is all)

-- one more is turned
pub one_popped : {B C : Type 0} (turn : B → C) (items rest : List B) (last : B) (all next whole : List C) (made : C) → items ≡ rest ++ last ∷ []
    → made ≡ turn last → next ≡ all ++ made ∷ [] → all ++ map turn (reverse items) ≡ whole → next ++ map turn (reverse rest) ≡ whole
one_popped turn items rest last all next whole made is made_is added so_far =
    ap (λ (front : List _). front ++ map turn (reverse rest)) (added ∙ ap (λ (one : _). all ++ one ∷ []) made_is)
    ∙ append_assoc all (turn last ∷ []) (map turn (reverse rest))
    ∙ ap (λ (order : List _). all ++ map turn order) (sym (ap reverse is ∙ reverse-append rest (last ∷ [])))
    ∙ so_far
