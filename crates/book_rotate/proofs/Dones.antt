-- When no task is left.
use Rattle.std.proofs.Common.{◌≡◌, ◌+◌, ◌<◌, Global, ℕ, zero, suc, List, [], ◌∷◌, ◌++◌, length, map, take, get_or, true, false, refl, ◌∙◌, ap, subst, arith}
use Rattle.std.proofs.Math.Seq.{take-suc}
use Rattle.std.proofs.lemmas.List.{map-append}
use Rattle.std.specs.declared.collections.VecDeque.{VecDeque}
use Rattle.acq_script.specs.declared.script.Task.{Task}
use Rattle.book_rotate.specs.Part.{is_done}

-- the tasks of a list from which they are taken
abbrev pub items_of : VecDeque Task Global → List Task
items_of list = list.items

pub nothing_in : (tasks : List Task) → length tasks ≡ 0 → tasks ≡ []
nothing_in [] none = refl
nothing_in (next ∷ tasks) none = absurd (omega (arith, none))

done_behind : (lists : List (List Task)) (tasks : List Task) → is_done lists ≡ true → tasks ≡ [] → is_done (lists ++ tasks ∷ []) ≡ true
done_behind [] tasks done none = ap (λ ts. is_done (ts ∷ [])) none
done_behind ([] ∷ lists) tasks done none = done_behind lists tasks done none
done_behind ((next ∷ rest) ∷ lists) tasks done none = done

pub done_more : {X : Type 0} (f : X → List Task) (xs : List X) (i : ℕ) (d : X) → i < length xs → is_done (map f (take i xs)) ≡ true → f (get_or xs i d) ≡ []
    → is_done (map f (take (i + 1) xs)) ≡ true
done_more f xs i d within done none =
    let next : suc i ≡ i + 1 = omega arith in
    subst (λ n. is_done (map f (take n xs)) ≡ true) next
    (ap (λ ys. is_done (map f ys)) (take-suc xs i d within) ∙ ap is_done (map-append f (take i xs) (get_or xs i d ∷ []))
    ∙ done_behind (map f (take i xs)) (f (get_or xs i d)) done none)

open_first : (tasks : List Task) (lists : List (List Task)) → 0 < length tasks → is_done (tasks ∷ lists) ≡ false
open_first [] lists some = absurd (omega (arith, some))
open_first (next ∷ tasks) lists some = refl

open_later : (tasks : List Task) (lists : List (List Task)) → is_done lists ≡ false → is_done (tasks ∷ lists) ≡ false
open_later [] lists later = later
open_later (next ∷ tasks) lists later = refl

-- a list that is not empty
pub not_done : {X : Type 0} (f : X → List Task) (xs : List X) (i : ℕ) (d : X) → i < length xs → 0 < length (f (get_or xs i d)) → is_done (map f xs) ≡ false
not_done f [] i d within some = absurd (omega (arith, within))
not_done f (x ∷ xs) zero d within some = open_first (f x) (map f xs) some
not_done f (x ∷ xs) (suc i) d within some = open_later (f x) (map f xs) (not_done f xs i d (omega (arith, within)) some)
