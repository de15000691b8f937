-- How many calls of a disk a file under a seal takes.
use Rattle.std.proofs.Common.{◌≡◌, ℕ, ◌+◌, ◌-◌, ◌≤◌, List, [], ◌∷◌, ◌++◌, length, Option, Some, None, refl, arith, length-append}
use Rattle.std.specs.Prelude.{IfSome, is_some, slice_get}

-- a piece takes one call, but an empty one none, and the very first byte none
one_more : (given piece : List ℕ) (first : Option ℕ) (old mid new : ℕ) → first ≡ slice_get given 0 → mid ≤ old + (length given - 1) → new ≤ mid + 1
    → (piece ≡ [] → new ≡ mid) → (first ≡ None → length piece ≤ 1 → new ≡ mid) → new ≤ old + (length (given ++ piece) - 1)
one_more given [] first old mid new is before once none held = omega (arith, length-append given [], before, none refl)
one_more [] (byte ∷ []) first old mid new is before once none held = omega (arith, before, held is (omega arith))
one_more [] (byte ∷ next ∷ piece) first old mid new is before once none held = omega (arith, before, once)
one_more (byte ∷ given) (next ∷ piece) first old mid new is before once none held =
    omega (arith, length-append (byte ∷ given) (next ∷ piece), before, once)

pub calls_more : {S : Type 0} (told mid_told : Option S) (given piece : List ℕ) (first : Option ℕ) (old mid new : ℕ) → is_some mid_told ≡ is_some told
    → first ≡ slice_get given 0 → IfSome told (λ _. mid ≤ old + (length given - 1)) → IfSome mid_told (λ _. new ≤ mid + 1)
    → (piece ≡ [] → new ≡ mid) → (first ≡ None → length piece ≤ 1 → new ≡ mid) → IfSome told (λ _. new ≤ old + (length (given ++ piece) - 1))
calls_more None mid_told given piece first old mid new same is before once none held = tt
calls_more (Some s) None given piece first old mid new same is before once none held = absurd (cc same)
calls_more (Some s) (Some t) given piece first old mid new same is before once none held = one_more given piece first old mid new is before once none held

-- a bound within another
pub calls_most : {S : Type 0} (told : Option S) (old new n most : ℕ) → IfSome told (λ _. new ≤ old + n) → n ≤ most → IfSome told (λ _. new ≤ old + most)
calls_most None old new n most few fits = tt
calls_most (Some s) old new n most few fits = omega (arith, few, fits)
