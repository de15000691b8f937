-- The tasks of a source, and what it hands in for them.
use Rattle.std.proofs.Common.{◌≡◌, ◌+◌, ℕ, List, [], ◌∷◌, ◌++◌, length, drop, get_or, refl, sym, ◌∙◌, ap, subst, arith}
use Rattle.mdf_layout.specs.declared.sample.Sample.{Sample}
use Rattle.book_owned.specs.Account.{Terms}
use Rattle.book_owned.specs.declared.mark.Mark.{Mark}
use Rattle.acq_run.specs.Feeds.{samples_of as samples_fed}
use Rattle.acq_run.specs.Tasks.{MayFeed}
use Rattle.acq_run.specs.Works.{AreMarked, IsNext}
use Rattle.acq_run.specs.declared.feed.Fed.{Fed}
use Rattle.acq_run.specs.declared.feed.Fed.TheVariants as fed
use Rattle.acq_script.specs.Plan.{IsTaskOf, TaskFits}
use Rattle.acq_script.specs.Tasks.{samples_of}
use Rattle.acq_script.specs.declared.script.Plan.{Plan}
use Rattle.acq_script.specs.declared.script.Task.{Task}
use Rattle.acq_script.specs.declared.script.Task.TheVariants as task
use Rattle.mdf_record.specs.Sources.{AreOwnMarked, fed_of, feds_of}

pub samples_of-append : (xs ys : List Task) → samples_of (xs ++ ys) ≡ samples_of xs ++ samples_of ys
samples_of-append [] ys = refl
samples_of-append (task.Sample sample ∷ xs) ys = ap (λ s. sample ∷ s) (samples_of-append xs ys)
samples_of-append (task.Flush ∷ xs) ys = samples_of-append xs ys

pub same_samples : (tasks : List Task) → samples_fed (feds_of tasks) ≡ samples_of tasks
same_samples [] = refl
same_samples (task.Sample sample ∷ tasks) = ap (λ s. sample ∷ s) (same_samples tasks)
same_samples (task.Flush ∷ tasks) = same_samples tasks

-- what was handed in, and what is left, as tasks
pub record IsCut (done rest : List Fed) (tasks : List Task) : Type 0 where
  pub front : List Task
  pub back : List Task
  pub done_is : done ≡ feds_of front
  pub rest_is : rest ≡ feds_of back
  pub parts : front ++ back ≡ tasks

pub cut : (done rest : List Fed) (tasks : List Task) → done ++ rest ≡ feds_of tasks → IsCut done rest tasks
cut [] rest tasks is = record { front = []; back = tasks; done_is = refl; rest_is = is; parts = refl }
cut (first ∷ done) rest [] is = absurd (omega (arith, ap length is))
cut (first ∷ done) rest (t ∷ tasks) is =
    let later = cut done rest tasks (ap (λ (fs : List Fed). drop 1 fs) is) in
    let same : first ≡ fed_of t = ap (λ (fs : List Fed). get_or fs 0 first) is in
    record {
      front = t ∷ later.front;
      back = later.back;
      done_is = ap (λ (f : Fed). f ∷ done) same ∙ ap (λ ds. fed_of t ∷ ds) later.done_is;
      rest_is = later.rest_is;
      parts = ap (λ ts. t ∷ ts) later.parts;
    }

pub none_fed : (tasks : List Task) → feds_of tasks ≡ [] → tasks ≡ []
none_fed [] is = refl
none_fed (t ∷ tasks) is = absurd (omega (arith, ap length is))

-- the next sample
abbrev sample_in : Sample → Fed → Sample
sample_in other (fed.Sample sample) = sample
sample_in other fed.Flush = other
sample_in other fed.End = other

abbrev IsSample : Fed → Type 0
IsSample (fed.Sample sample) = Unit {0}
IsSample fed.Flush = ⊥
IsSample fed.End = ⊥

pub next_task : (tasks : List Task) (sample : Sample) → IsNext (feds_of tasks) sample → (later : List Task) × (tasks ≡ task.Sample sample ∷ later)
next_task [] sample next = absurd (omega (arith, ap length next.rest_is))
next_task (task.Sample one ∷ tasks) sample next =
    (tasks, ap (λ (s : Sample). task.Sample s ∷ tasks) (ap (λ (fs : List Fed). sample_in one (get_or fs 0 fed.Flush)) next.rest_is))
next_task (task.Flush ∷ tasks) sample next = absurd (subst IsSample (sym (ap (λ (fs : List Fed). get_or fs 0 fed.Flush) next.rest_is)) tt)

-- a source's flushes have their marks
pub own_marked : (owners : List ℕ) (source : ℕ) (history : List Sample) (marks : List Mark) (counts : ℕ → Type 0) (before : List Sample) (tasks : List Task)
    → AreMarked owners source history marks before (feds_of tasks) → AreOwnMarked owners source history marks counts before tasks
own_marked owners source history marks counts before [] are = tt
own_marked owners source history marks counts before (task.Sample sample ∷ tasks) are = own_marked owners source history marks counts (before ++ sample ∷ []) tasks are
own_marked owners source history marks counts before (task.Flush ∷ tasks) are = (λ c. are.0, own_marked owners source history marks counts before tasks are.1)

-- what the sources may hand in
pub may_fed : (plan : Plan) (terms : Terms) (source : ℕ) (t : Task) → terms.layouts ≡ plan.shapes → terms.block_limit ≡ plan.block → IsTaskOf plan source t → TaskFits plan t
    → MayFeed plan.owners terms source (fed_of t)
may_fed plan terms source (task.Sample sample) layouts block own fits = record {
  owned = own;
  fits = rw layouts fits.0;
  size = rw (layouts, block) fits.1;
}
may_fed plan terms source task.Flush layouts block own fits = tt

pub feds-length : (tasks : List Task) → length (feds_of tasks) ≡ length tasks
feds-length [] = refl
feds-length (t ∷ tasks) = omega (arith, feds-length tasks)
