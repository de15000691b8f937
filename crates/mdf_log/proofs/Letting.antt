-- How the sources of a log begin, and how they are let go, each by its place.
use Rattle.std.proofs.Common.{◌≡◌, ◌<◌, ◌+◌, ◌⊎◌, ◌∙◌, ℕ, zero, suc, List, [], ◌∷◌, ◌++◌, length, get_or, Result, Ok, Err, refl, sym, ap, subst, inl, inr, ⊎_elim, arith, append-nil, append_assoc, length-append}
use Rattle.std.proofs.Math.Seq.{get_or-append_seam}
use Rattle.mdf_port.specs.State.{SinkState}
use Rattle.mdf_command.specs.Texts.{Gives, Prints, status_after}
use Rattle.mdf_command.proofs.Pieces.{gives_behind}

-- what was given behind something that was given
pub gives_on : {E : Type 0} (xs ys : List ℕ) (old mid new : SinkState) (first result : Result Unit E) (done : Unit {0}) → first ≡ Ok done → Gives xs old mid first → Gives ys mid new result
    → Gives (xs ++ ys) old new result
gives_on xs ys old mid new first result done is gives more =
    let given = subst (Gives xs old mid) is gives in gives_behind xs ys old mid new result given.ok given.cause.later more

-- a text that was given, or not, behind which a command ends
pub printed : {E : Type 0} (text : List ℕ) (status : ℕ) (old new : SinkState) (given : Result Unit E) → Gives text old new given → Prints text status old new (status_after given status)
printed text status old new (Ok done) gives = inl (gives.ok, refl)
printed text status old new (Err failed) gives = inr (gives.err, gives.cause.failed, refl)

-- the first of what was left was taken
pub next_taken : {A : Type 0} (done left rest all : List A) (x : A) → done ++ left ≡ all → left ≡ x ∷ rest → (done ++ x ∷ []) ++ rest ≡ all
next_taken done left rest all x parts is = append_assoc done (x ∷ []) rest ∙ ap (λ l. done ++ l) (sym is) ∙ parts

-- so there are fewer before it than in all
pub fewer : {A : Type 0} (done left rest all : List A) (x : A) → done ++ left ≡ all → left ≡ x ∷ rest → length done < length all
fewer done left rest all x parts is = omega (arith, ap length parts, length-append done left, ap length is)

-- nothing is left
pub all_done : {A : Type 0} (done left all : List A) → done ++ left ≡ all → length left ≡ 0 → done ≡ all
all_done done [] all parts none = sym (append-nil done) ∙ parts
all_done done (x ∷ left) all parts none = absurd (omega (arith, none))

-- what stands at a place before one more, and at its own
get_front : {A : Type 0} (xs ys : List A) (k : ℕ) (d : A) → k < length xs → get_or (xs ++ ys) k d ≡ get_or xs k d
get_front [] ys k d less = absurd (omega (arith, less))
get_front (x ∷ xs) ys zero d less = refl
get_front (x ∷ xs) ys (suc k) d less = get_front xs ys k d (omega (arith, less))

get_last : {A : Type 0} (xs : List A) (x : A) (k : ℕ) (d : A) → k ≡ length xs → get_or (xs ++ x ∷ []) k d ≡ x
get_last xs x k d is = ap (λ n. get_or (xs ++ x ∷ []) n d) is ∙ get_or-append_seam xs x [] d

-- before one more, or at it
place_of : (k n : ℕ) → k < n + 1 → (k < n) ⊎ (k ≡ n)
place_of zero zero less = inr refl
place_of zero (suc n) less = inl (omega arith)
place_of (suc k) zero less = absurd (omega (arith, less))
place_of (suc k) (suc n) less = ⊎_elim (λ front. inl (omega (arith, front))) (λ last. inr (ap suc last)) (place_of k n (omega (arith, less)))

-- What holds at each place of two lists holds where each has one more of which it holds.
pub pair_more : {A B : Type 0} (P : ℕ → A → B → Type 0) (xs : List A) (ys more : List B) (x : A) (y : B) → length ys ≡ length xs → more ≡ ys ++ y ∷ []
    → ((k : ℕ) (d : A) (e : B) → k < length xs → P k (get_or xs k d) (get_or ys k e)) → P (length xs) x y
    → (k : ℕ) (d : A) (e : B) → k < length (xs ++ x ∷ []) → P k (get_or (xs ++ x ∷ []) k d) (get_or more k e)
pair_more P xs ys more x y same grown all one k d e less = ⊎_elim
    (λ front. subst (λ b. P k (get_or (xs ++ x ∷ []) k d) b) (sym (ap (λ l. get_or l k e) grown ∙ get_front ys (y ∷ []) k e (omega (arith, front, same))))
    (subst (λ a. P k a (get_or ys k e)) (sym (get_front xs (x ∷ []) k d front)) (all k d e front)))
    (λ last. subst (λ b. P k (get_or (xs ++ x ∷ []) k d) b) (sym (ap (λ l. get_or l k e) grown ∙ get_last ys y k e (last ∙ sym same)))
    (subst (λ a. P k a y) (sym (get_last xs x k d last)) (subst (λ n. P n x y) (sym last) one)))
    (place_of k (length xs) (omega (arith, less, length-append xs (x ∷ []))))

-- and so of three
pub three_more : {A B C : Type 0} (P : ℕ → A → B → C → Type 0) (xs : List A) (ys ys' : List B) (zs zs' : List C) (x : A) (y : B) (z : C) → length ys ≡ length xs → length zs ≡ length xs
    → ys' ≡ ys ++ y ∷ [] → zs' ≡ zs ++ z ∷ []
    → ((k : ℕ) (d : A) (e : B) (f : C) → k < length xs → P k (get_or xs k d) (get_or ys k e) (get_or zs k f)) → P (length xs) x y z
    → (k : ℕ) (d : A) (e : B) (f : C) → k < length (xs ++ x ∷ []) → P k (get_or (xs ++ x ∷ []) k d) (get_or ys' k e) (get_or zs' k f)
three_more P xs ys ys' zs zs' x y z same other grown more all one k d e f less = ⊎_elim
    (λ front. subst (λ c. P k (get_or (xs ++ x ∷ []) k d) (get_or ys' k e) c) (sym (ap (λ l. get_or l k f) more ∙ get_front zs (z ∷ []) k f (omega (arith, front, other))))
    (subst (λ b. P k (get_or (xs ++ x ∷ []) k d) b (get_or zs k f)) (sym (ap (λ l. get_or l k e) grown ∙ get_front ys (y ∷ []) k e (omega (arith, front, same))))
    (subst (λ a. P k a (get_or ys k e) (get_or zs k f)) (sym (get_front xs (x ∷ []) k d front)) (all k d e f front))))
    (λ last. subst (λ c. P k (get_or (xs ++ x ∷ []) k d) (get_or ys' k e) c) (sym (ap (λ l. get_or l k f) more ∙ get_last zs z k f (last ∙ sym other)))
    (subst (λ b. P k (get_or (xs ++ x ∷ []) k d) b z) (sym (ap (λ l. get_or l k e) grown ∙ get_last ys y k e (last ∙ sym same)))
    (subst (λ a. P k a y z) (sym (get_last xs x k d last)) (subst (λ n. P n x y z) (sym last) one))))
    (place_of k (length xs) (omega (arith, less, length-append xs (x ∷ []))))

-- what stands at a place of a list, whatever stands behind it
pub get_any : {A : Type 0} (xs : List A) (k : ℕ) (d e : A) → k < length xs → get_or xs k d ≡ get_or xs k e
get_any [] k d e less = absurd (omega (arith, less))
get_any (x ∷ xs) zero d e less = refl
get_any (x ∷ xs) (suc k) d e less = get_any xs k d e (omega (arith, less))
