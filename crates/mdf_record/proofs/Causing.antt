-- What the marks of a recording were made for.
use Rattle.std.proofs.Common.{◌≡◌, ◌+◌, ℕ, suc, List, [], ◌∷◌, ◌++◌, length, map, take, get_or, refl, sym, ◌∙◌, ap, subst, inl, inr, ⊎_elim, ◌⊎◌, arith}
use Rattle.std.specs.Prelude.{slice_get, Some}
use Rattle.mdf_gate.proofs.Carrying.{prefix_self}
use Rattle.mdf_layout.specs.History.{source_samples}
use Rattle.mdf_layout.specs.declared.sample.Sample.{Sample}
use Rattle.book_owned.specs.declared.mark.Mark.{Mark}
use Rattle.book_shared.specs.Causes.{AnyOf, IsAmong, MarksCaused}
use Rattle.book_shared.proofs.Causing.{caused_later, caused_more}
use Rattle.acq_run.specs.Ran.{AskedFor, DueFor}
use Rattle.acq_run.specs.Feeds.{samples_of as samples_fed}
use Rattle.acq_run.specs.Works.{IsFlushed}
use Rattle.acq_run.specs.declared.feed.Fed.{Fed}
use Rattle.acq_run.specs.declared.feed.Fed.TheVariants as fed
use Rattle.acq_script.specs.Tasks.{samples_of}
use Rattle.acq_script.specs.declared.script.Script.{Script}
use Rattle.acq_script.specs.declared.script.Task.{Task}
use Rattle.acq_script.specs.declared.script.Task.TheVariants as task
use Rattle.mdf_record.specs.Causes.{HaveCauses, IsFlushLine, IsLineSample}
use Rattle.mdf_record.specs.Sources.{feds_of}
use Rattle.mdf_record.proofs.Feeding.{cut, same_samples}

-- of what is handed in for tasks the first is a flush just where that of the tasks is
abbrev IsFlush : Fed → Type 0
IsFlush (fed.Sample sample) = ⊥
IsFlush fed.Flush = Unit {0}
IsFlush fed.End = ⊥

next_flush : (tasks : List Task) (later : List Fed) → fed.Flush ∷ later ≡ feds_of tasks → (behind : List Task) × (tasks ≡ task.Flush ∷ behind)
next_flush [] later is = absurd (omega (arith, ap length is))
next_flush (task.Sample sample ∷ tasks) later is = absurd (subst IsFlush (ap (λ (fs : List Fed). get_or fs 0 fed.Flush) is) tt)
next_flush (task.Flush ∷ tasks) later is = (tasks, refl)

-- a flush of a feed is one of the tasks
record IsLineOf (owners : List ℕ) (source : ℕ) (history : List Sample) (tasks : List Task) (through : ℕ) : Type 0 where
  first : List Task
  later : List Task
  tasks_are : tasks ≡ first ++ task.Flush ∷ later
  own_is : source_samples owners (take through history) source ≡ samples_of first

line_of : (owners : List ℕ) (source : ℕ) (history : List Sample) (tasks : List Task) (n : ℕ) → IsFlushed owners source history [] (feds_of tasks) n
    → IsLineOf owners source history tasks n
line_of owners source history tasks n flushed =
    let parts = cut flushed.first (fed.Flush ∷ flushed.later) tasks (sym flushed.feds_are) in
    let next = next_flush parts.back flushed.later parts.rest_is in
    record {
      first = parts.front;
      later = next.0;
      tasks_are = sym parts.parts ∙ ap (λ back. parts.front ++ back) next.1;
      own_is = flushed.own_is ∙ ap samples_fed parts.done_is ∙ same_samples parts.front;
    }

-- so one of the lists has it
asked_at : (owners : List ℕ) (source : ℕ) (lists : List (List Task)) (history : List Sample) (n : ℕ) → AskedFor owners source (map feds_of lists) history n
    → (s : ℕ) × (tasks : List Task) × (slice_get lists s ≡ Some tasks) × IsLineOf owners (source + s) history tasks n
asked_at owners source [] history n asked = absurd asked
asked_at owners source (tasks ∷ lists) history n asked = ⊎_elim
    (λ here.
    let none : source ≡ source + 0 = omega arith in
    (0, tasks, refl, subst (λ k. IsLineOf owners k history tasks n) none (line_of owners source history tasks n here)))
    (λ later.
    let at = asked_at owners (suc source) lists history n later in
    let same : suc source + at.0 ≡ source + suc at.0 = omega arith in
    (suc at.0, at.1, at.2, subst (λ k. IsLineOf owners k history at.1 n) same at.3))
    asked

pub asked_line : (script : Script) (history : List Sample) (n : ℕ) → AskedFor script.plan.owners 0 (map feds_of script.lists) history n → IsFlushLine script history n
asked_line script history n asked =
    let at = asked_at script.plan.owners 0 script.lists history n asked in
    let same : 0 + at.0 ≡ at.0 = omega arith in
    let line = subst (λ k. IsLineOf script.plan.owners k history at.1 n) same at.3 in
    record { source = at.0; tasks = at.1; there = at.2; first = line.first; later = line.later; tasks_are = line.tasks_are; own_is = line.own_is }

-- a sample of one of the feeds is one of the lists
line_sample : (lists : List (List Task)) (sample : Sample) → DueFor (map feds_of lists) sample → AnyOf (λ tasks. IsAmong (samples_of tasks) sample) lists
line_sample [] sample due = absurd due
line_sample (tasks ∷ lists) sample due = ⊎_elim
    (λ here. inl (subst (λ samples. IsAmong samples sample) (same_samples tasks) here))
    (λ later. inr (line_sample lists sample later)) due

-- The sources worked at a book that began with one mark, and it was flushed a last time.
pub have_causes : (script : Script) (first : Mark) (begun marks marks' : List Mark) (history history' : List Sample) → begun ≡ first ∷ [] → first.through ≡ 0
    → MarksCaused (AskedFor script.plan.owners 0 (map feds_of script.lists) history) (DueFor (map feds_of script.lists)) script.plan.shapes script.plan.block history begun marks → history' ≡ history
    → (marks' ≡ marks) ⊎ ((mark : Mark) × (marks' ≡ marks ++ mark ∷ []) × (mark.through ≡ length history)) → HaveCauses script history' marks'
have_causes script first begun marks marks' history history' begun_is none worked same last =
    let asked : ℕ → Type 0 = λ n. IsFlushLine script history n ⊎ (n ≡ length history) in
    let due = IsLineSample script in
    let worked' = caused_later (AskedFor script.plan.owners 0 (map feds_of script.lists) history) asked (DueFor (map feds_of script.lists)) due script.plan.shapes script.plan.block history history
    (λ n is. inl (asked_line script history n is)) (line_sample script.lists) (prefix_self history) (first ∷ []) marks
    (subst (λ ms. MarksCaused (AskedFor script.plan.owners 0 (map feds_of script.lists) history) (DueFor (map feds_of script.lists)) script.plan.shapes script.plan.block history ms marks) begun_is worked) in
    subst (λ h. HaveCauses script h marks') (sym same) (record {
      first = first;
      none = none;
      caused = ⊎_elim
          (λ is. subst (MarksCaused asked due script.plan.shapes script.plan.block history (first ∷ [])) (sym is) worked')
          (λ made. subst (MarksCaused asked due script.plan.shapes script.plan.block history (first ∷ [])) (sym made.1)
          (caused_more asked due script.plan.shapes script.plan.block history (first ∷ []) marks made.0 worked' (inl (inr made.2)))) last;
    })

-- and one at which no source worked
pub have_none : (script : Script) (first : Mark) (marks : List Mark) (history : List Sample) → marks ≡ first ∷ [] → first.through ≡ 0 → HaveCauses script history marks
have_none script first marks history is none = record { first = first; none = none; caused = record { more = []; marks_are = is; caused = tt } }
