-- Lists that grow behind, and what is taken from the front of others meanwhile.
use Rattle.std.proofs.Common.{◌≡◌, ◌<◌, List, [], ◌∷◌, ◌++◌, length, map, sym, ◌∙◌, ap, arith, append_assoc, append-nil, length-append}
use Rattle.std.proofs.lemmas.List.{length-map, map-append}

-- what is one of each, with one more
pub pushed : {A B : Type 0} (f : A → B) (xs : List A) (x : A) (ys zs : List B) → ys ≡ map f xs → zs ≡ ys ++ f x ∷ [] → zs ≡ map f (xs ++ x ∷ [])
pushed f xs x ys zs are is = is ∙ ap (λ l. l ++ f x ∷ []) are ∙ sym (map-append f xs (x ∷ []))

-- the first of what was left was taken
pub took_next : {A : Type 0} (done left rest all : List A) (x : A) → done ++ left ≡ all → left ≡ x ∷ rest → (done ++ x ∷ []) ++ rest ≡ all
took_next done left rest all x parts is = append_assoc done (x ∷ []) rest ∙ ap (λ l. done ++ l) (sym is) ∙ parts

-- there was room for it
pub fewer_done : {A B : Type 0} (f : A → B) (ys : List B) (done left rest all : List A) (x : A) → ys ≡ map f done → done ++ left ≡ all → left ≡ x ∷ rest
    → length ys < length all
fewer_done f ys done left rest all x are parts is = omega (arith, ap length are, length-map done f, ap length parts, length-append done left, ap length is)

-- nothing is left
pub done_of_all : {A B : Type 0} (f : A → B) (ys : List B) (done left all : List A) → ys ≡ map f done → done ++ left ≡ all → length left ≡ 0 → ys ≡ map f all
done_of_all f ys done [] all are parts none = are ∙ ap (map f) (sym (append-nil done) ∙ parts)
done_of_all f ys done (x ∷ left) all are parts none = absurd (omega (arith, none))

-- the first of what was left came behind what was made of those before
pub moved : {A B : Type 0} (f : A → B) (xs more : List A) (x : A) (left rest all : List B) → map f xs ++ left ≡ all → left ≡ f x ∷ rest → more ≡ xs ++ x ∷ []
    → map f more ++ rest ≡ all
moved f xs more x left rest all are is grown =
    ap (λ l. map f l ++ rest) grown ∙ ap (λ l. l ++ rest) (map-append f xs (x ∷ [])) ∙ append_assoc (map f xs) (f x ∷ []) rest
    ∙ ap (λ l. map f xs ++ l) (sym is) ∙ are

pub fewer_made : {A B : Type 0} (f : A → B) (xs : List A) (left rest all : List B) (y : B) → map f xs ++ left ≡ all → left ≡ y ∷ rest → length xs < length all
fewer_made f xs left rest all y are is = omega (arith, length-map xs f, ap length are, length-append (map f xs) left, ap length is)

pub made_of_all : {A B : Type 0} (f : A → B) (xs : List A) (left all : List B) → map f xs ++ left ≡ all → length all ≡ length xs → map f xs ≡ all
made_of_all f xs [] all are long = sym (append-nil (map f xs)) ∙ are
made_of_all f xs (y ∷ left) all are long = absurd (omega (arith, length-map xs f, ap length are, length-append (map f xs) (y ∷ left), long))

pub all_made : {A B : Type 0} (f : A → B) (xs : List A) (left all : List B) → map f xs ++ left ≡ all → length left ≡ 0 → length all ≡ length xs
all_made f xs left all are none = omega (arith, length-map xs f, ap length are, length-append (map f xs) left, none)
