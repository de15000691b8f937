-- What of a script is cut off as its next part, and what is left.
use Rattle.std.proofs.Common.{◌≡◌, ℕ, zero, suc, List, [], ◌∷◌, ◌++◌, length, All, Some, true, false, refl, sym, ◌∙◌, ap, subst, arith}
use Rattle.std.specs.Prelude.{slice_get}
use Rattle.std.specs.List.{Contains}
use Rattle.std.proofs.lemmas.List.Elements.{All-head, All-tail}
use Rattle.mdf_layout.specs.declared.sample.Sample.{Sample}
use Rattle.acq_script.specs.Tasks.{samples_of}
use Rattle.acq_script.specs.declared.script.Script.{Script}
use Rattle.acq_script.specs.declared.script.Task.{Task}
use Rattle.acq_script.specs.declared.script.Task.TheVariants as task
use Rattle.book_rotate.specs.Part.{IsNextOrNone, IsPart, behind, is_done}

-- the tasks of a source: those of the part, and those that are left
pub record IsCutAt (parts rests : List (List Task)) (source : ℕ) (tasks : List Task) : Type 0 where
  pub part : List Task
  pub rest : List Task
  pub part_at : slice_get parts source ≡ Some part
  pub rest_at : slice_get rests source ≡ Some rest
  pub tasks_are : tasks ≡ part ++ rest

cut_behind : (parts rests : List (List Task)) → length parts ≡ length rests → (source : ℕ) (tasks : List Task) → slice_get (behind parts rests) source ≡ Some tasks
    → IsCutAt parts rests source tasks
cut_behind [] rests same source tasks there = let no : ⊥ = cc in absurd no
cut_behind (p ∷ parts) [] same source tasks there = let no : ⊥ = cc in absurd no
cut_behind (p ∷ parts) (r ∷ rests) same zero tasks there = record { part = p; rest = r; part_at = refl; rest_at = refl; tasks_are = cc }
cut_behind (p ∷ parts) (r ∷ rests) same (suc source) tasks there =
    let later = cut_behind parts rests (omega (arith, same)) source tasks there in
    record { part = later.part; rest = later.rest; part_at = later.part_at; rest_at = later.rest_at; tasks_are = later.tasks_are }

pub cut_of : (script part rest : Script) → IsPart script part rest → (source : ℕ) (tasks : List Task) → slice_get script.lists source ≡ Some tasks
    → IsCutAt part.lists rest.lists source tasks
cut_of script part rest is source tasks there =
    cut_behind part.lists rest.lists (is.count ∙ sym is.same_count) source tasks (ap (λ lists. slice_get lists source) is.cut ∙ there)

-- so from what is left of a source
pub record IsLeftOf (parts lists : List (List Task)) (source : ℕ) (rest : List Task) : Type 0 where
  pub part : List Task
  pub there : slice_get lists source ≡ Some (part ++ rest)

left_behind : (parts rests : List (List Task)) → length parts ≡ length rests → (source : ℕ) (rest : List Task) → slice_get rests source ≡ Some rest
    → IsLeftOf parts (behind parts rests) source rest
left_behind [] [] same source rest there = let no : ⊥ = cc in absurd no
left_behind [] (r ∷ rests) same source rest there = absurd (omega (arith, same))
left_behind (p ∷ parts) [] same source rest there = let no : ⊥ = cc in absurd no
left_behind (p ∷ parts) (r ∷ rests) same zero rest there = record { part = p; there = ap (λ t. Some (p ++ t)) (let e : r ≡ rest = cc in e) }
left_behind (p ∷ parts) (r ∷ rests) same (suc source) rest there =
    let later = left_behind parts rests (omega (arith, same)) source rest there in
    record { part = later.part; there = later.there }

pub left_of : (script part rest : Script) → IsPart script part rest → (source : ℕ) (tasks : List Task) → slice_get rest.lists source ≡ Some tasks
    → IsLeftOf part.lists script.lists source tasks
left_of script part rest is source tasks there =
    subst (λ lists. IsLeftOf part.lists lists source tasks) is.cut (left_behind part.lists rest.lists (is.count ∙ sym is.same_count) source tasks there)

-- where all is done, no source has a task left
pub none_left : (lists : List (List Task)) → is_done lists ≡ true → (source : ℕ) (tasks : List Task) → slice_get lists source ≡ Some tasks → tasks ≡ []
none_left [] done source tasks there = let no : ⊥ = cc in absurd no
none_left ([] ∷ lists) done zero tasks there = cc
none_left ([] ∷ lists) done (suc source) tasks there = none_left lists done source tasks there
none_left ((next ∷ later) ∷ lists) done source tasks there = let no : ⊥ = cc in absurd no

-- where not all is done, a source has a next sample
pub record HasNext (P : Sample → Type 0) (lists : List (List Task)) : Type 0 where
  pub source : ℕ
  pub tasks : List Task
  pub there : slice_get lists source ≡ Some tasks
  pub sample : Sample
  pub among : Contains (samples_of tasks) sample
  pub holds : P sample

pub next_of : (P : Sample → Type 0) (lists : List (List Task)) → is_done lists ≡ false → All (IsNextOrNone P) lists → HasNext P lists
next_of P [] unfinished all = let no : ⊥ = cc in absurd no
next_of P ([] ∷ lists) unfinished all =
    let later = next_of P lists unfinished (All-tail (IsNextOrNone P) [] lists all) in
    record { source = suc later.source; tasks = later.tasks; there = later.there; sample = later.sample; among = later.among; holds = later.holds }
next_of P ((task.Sample sample ∷ tasks) ∷ lists) unfinished all = record {
  source = 0;
  tasks = task.Sample sample ∷ tasks;
  there = refl;
  sample = sample;
  among = (0, omega arith, refl);
  holds = All-head (IsNextOrNone P) (task.Sample sample ∷ tasks) lists all;
}
next_of P ((task.Flush ∷ tasks) ∷ lists) unfinished all = absurd (All-head (IsNextOrNone P) (task.Flush ∷ tasks) lists all)
