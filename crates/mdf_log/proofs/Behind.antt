-- One part more behind those of a log so far.
use Rattle.std.proofs.Common.{◌≡◌, ◌+◌, ◌∙◌, ℕ, zero, suc, List, [], ◌∷◌, ◌++◌, length, map, All, Some, refl, sym, ap, subst, inl, inr, ⊎_elim, arith, append-nil, append_assoc}
use Rattle.std.specs.Prelude.{◌⊎◌, slice_get}
use Rattle.std.proofs.lemmas.List.{map-append}
use Rattle.std.proofs.lemmas.List.Elements.{All-append}
use Rattle.book_owned.specs.Marks.{durable}
use Rattle.acq_script.specs.declared.script.Plan.{Plan}
use Rattle.mdf_command.specs.Texts.{numbered}
use Rattle.mdf_disk.specs.Served.{Served, handed_out, taken_back}
use Rattle.mdf_rotate.specs.Rotate.{recorded_in}
use Rattle.mdf_rotate.specs.Text.{Recording, part_line}
use Rattle.mdf_log.specs.Parts.{AreParts, IsPart, Part, durable_count, recordings_of, sample_count, served_by, served_of}

-- what stands at a place of a list with one more at its end
at_end : {A : Type 0} (xs : List A) (x : A) (k : ℕ) (y : A) → slice_get (xs ++ x ∷ []) k ≡ Some y → (slice_get xs k ≡ Some y) ⊎ ((k ≡ length xs) × (x ≡ y))
at_end [] x zero y is = let same : x ≡ y = cc in inr (refl, same)
at_end [] x (suc k) y is = absurd (cc)
at_end (z ∷ xs) x zero y is = inl is
at_end (z ∷ xs) x (suc k) y is = ⊎_elim (λ there. inl there) (λ last. inr (ap suc last.0, last.1)) (at_end xs x k y is)

pub parts_behind : (plan : Plan) (output : List ℕ) (now : ℕ) (parts : List Part) (part : Part) (number : ℕ) → number ≡ length parts → AreParts plan output now parts
    → IsPart plan output now number part → AreParts plan output now (parts ++ part ∷ [])
parts_behind plan output now parts part number place each one k other is = ⊎_elim
    (λ there. each k other there)
    (λ last. subst (λ (p : Part). IsPart plan output now k p) last.1 (subst (λ (n : ℕ). IsPart plan output now n part) (place ∙ sym last.0) one))
    (at_end parts part k other is)

-- what was done with the disks
pub served_behind : (parts : List Part) (part : Part) → served_by (parts ++ part ∷ []) ≡ served_by parts ++ served_of part
served_behind [] part = refl
served_behind (first ∷ parts) part = ap (λ (rest : List Served). handed_out first.disk ∷ taken_back first.left.disk ∷ rest) (served_behind parts part)

pub map_behind : {A B : Type 0} (f : A → B) (xs : List A) (x : A) → map f (xs ++ x ∷ []) ≡ map f xs ++ f x ∷ []
map_behind f xs x = map-append f xs (x ∷ [])

pub numbered_behind : {A : Type 0} (text : ℕ → A → List ℕ) (from : ℕ) (xs : List A) (x : A) → numbered text from (xs ++ x ∷ []) ≡ numbered text from xs ++ text (from + length xs) x
numbered_behind text from [] x = let none : from ≡ from + 0 = omega arith in append-nil (text from x) ∙ ap (λ (k : ℕ). text k x) none
numbered_behind text from (y ∷ xs) x =
    let next : from + 1 + length xs ≡ from + length (y ∷ xs) = omega arith in
    ap (λ (rest : List ℕ). text from y ++ rest) (numbered_behind text (from + 1) xs x ∙ ap (λ (k : ℕ). numbered text (from + 1) xs ++ text k x) next)
    ∙ sym (append_assoc (text from y) (numbered text (from + 1) xs) (text (from + length (y ∷ xs)) x))

-- the lines of the parts
pub lines_behind : (parts : List Part) (part : Part) (number : ℕ) → number ≡ length parts
    → numbered part_line 0 (recordings_of parts) ++ part_line number (recorded_in part.left) ≡ numbered part_line 0 (recordings_of (parts ++ part ∷ []))
lines_behind parts part number place =
    let at : number ≡ 0 + length (recordings_of parts) = omega (arith, place, long parts) in
    ap (λ (k : ℕ). numbered part_line 0 (recordings_of parts) ++ part_line k (recorded_in part.left)) at
    ∙ sym (numbered_behind part_line 0 (recordings_of parts) (recorded_in part.left))
    ∙ ap (numbered part_line 0) (sym (recordings_behind parts)) where
      long : (some : List Part) → length (recordings_of some) ≡ length some
      long [] = refl
      long (one ∷ some) = ap suc (long some)

      recordings_behind : (some : List Part) → recordings_of (some ++ part ∷ []) ≡ recordings_of some ++ recorded_in part.left ∷ []
      recordings_behind [] = refl
      recordings_behind (one ∷ some) = ap (λ (rest : List Recording). recorded_in one.left ∷ rest) (recordings_behind some)

-- how many samples they have
pub samples_behind : (parts : List Part) (part : Part) → sample_count (parts ++ part ∷ []) ≡ sample_count parts + length part.left.history
samples_behind [] part = omega arith
samples_behind (one ∷ parts) part = omega (arith, samples_behind parts part)

pub durable_behind : (parts : List Part) (part : Part) → durable_count (parts ++ part ∷ []) ≡ durable_count parts + durable part.left.marks
durable_behind [] part = omega arith
durable_behind (one ∷ parts) part = omega (arith, durable_behind parts part)

only_one : {A : Type 0} (P : A → Type 0) (x : A) → P x → All P (x ∷ [])
only_one P x is zero d within = is
only_one P x is (suc k) d within = absurd (omega (arith, within))

pub all_behind : {A : Type 0} (P : A → Type 0) (xs : List A) (x : A) → All P xs → P x → All P (xs ++ x ∷ [])
all_behind P xs x all one = All-append P xs (x ∷ []) all (only_one P x one)
