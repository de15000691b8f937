-- Streams that are joined one after another.
use Rattle.std.proofs.Common.{◌≡◌, ◌+◌, ◌<◌, ℕ, zero, suc, List, [], ◌∷◌, ◌++◌, length, take, get_or, refl, ◌∙◌, ap, arith, add-one}
use Rattle.tool_concat.specs.Joined.{joined_streams}

joined_next : (streams others : List (List ℕ)) (k : ℕ) (d e : List ℕ) → k < length streams → k < length others
    → joined_streams (take (suc k) streams) (take (suc k) others)
    ≡ joined_streams (take k streams) (take k others) ++ (get_or streams k d ++ get_or others k e) ∷ []
joined_next [] others k d e below within = absurd (omega (arith, below))
joined_next (stream ∷ streams) [] k d e below within = absurd (omega (arith, within))
joined_next (stream ∷ streams) (other ∷ others) zero d e below within = refl
joined_next (stream ∷ streams) (other ∷ others) (suc k) d e below within =
    ap (λ (rest : List (List ℕ)). (stream ++ other) ∷ rest) (joined_next streams others k d e (omega (arith, below)) (omega (arith, within)))

pub joined_more : (streams others : List (List ℕ)) (k : ℕ) (d e : List ℕ) → k < length streams → k < length others
    → joined_streams (take (k + 1) streams) (take (k + 1) others)
    ≡ joined_streams (take k streams) (take k others) ++ (get_or streams k d ++ get_or others k e) ∷ []
joined_more streams others k d e below within =
    ap (λ (n : ℕ). joined_streams (take n streams) (take n others)) (add-one k) ∙ joined_next streams others k d e below within
