-- What feeds can hand in that are ready for a plan, as tasks of a script.
use Rattle.std.proofs.Common.{◌≡◌, ◌+◌, ◌<◌, ℕ, zero, suc, List, [], ◌∷◌, length, map, All, refl, sym, ◌∙◌, ap, subst, arith}
use Rattle.std.specs.List.{slice_index_or}
use Rattle.std.proofs.lemmas.List.{length-map}
use Rattle.std.proofs.lemmas.List.Elements.{All-cons, All-head, All-nil, All-tail, All-weaker}
use Rattle.book_owned.specs.Account.{Terms}
use Rattle.acq_run.specs.declared.feed.Fed.{Fed}
use Rattle.acq_run.specs.Tasks.{MayFeed}
use Rattle.acq_run.specs.Ran.{AllHanded, AllMayHand}
use Rattle.acq_run.proofs.Groups.{handed_count}
use Rattle.acq_script.specs.Plan.{IsPlan, IsTaskOf, TaskFits}
use Rattle.acq_script.specs.Stage.{IsScript}
use Rattle.acq_script.specs.declared.script.Plan.{Plan}
use Rattle.acq_script.specs.declared.script.Task.{Task}
use Rattle.mdf_record.specs.Feeds.{AllMayRecord, IsFedOf}
use Rattle.mdf_record.specs.Sources.{feds_of}
use Rattle.mdf_record.proofs.Feeding.{may_fed}

-- its source may hand it in
may_be_fed : (plan : Plan) (terms : Terms) (source : ℕ) → terms.layouts ≡ plan.shapes → terms.block_limit ≡ plan.block → (one : Fed) → IsFedOf plan source one
    → MayFeed plan.owners terms source one
may_be_fed plan terms source layouts block one is = subst (MayFeed plan.owners terms source) (sym is.fed_is) (may_fed plan terms source is.task layouts block is.own is.fits)

pub may_hand : {F : Type 0} (hands : F → List Fed → F → Type 0) (plan : Plan) (terms : Terms) → terms.layouts ≡ plan.shapes → terms.block_limit ≡ plan.block
    → (source : ℕ) (feeds : List F) → AllMayRecord hands plan source feeds → AllMayHand hands plan.owners terms source feeds
may_hand hands plan terms layouts block source [] may = tt
may_hand hands plan terms layouts block source (feed ∷ feeds) may = (
  λ feds can. (
    All-weaker (IsFedOf plan source) (MayFeed plan.owners terms source) (may_be_fed plan terms source layouts block) feds (may.0 feds can).0,
    (may.0 feds can).1,
  ),
  may_hand hands plan terms layouts block (suc source) feeds may.1,
)

-- the tasks that these are
record AreTasks (plan : Plan) (source : ℕ) (feds : List Fed) : Type 0 where
  tasks : List Task
  feds_are : feds_of tasks ≡ feds
  fit : All (TaskFits plan) tasks
  own : All (IsTaskOf plan source) tasks

are_tasks : (plan : Plan) (source : ℕ) (feds : List Fed) → All (IsFedOf plan source) feds → AreTasks plan source feds
are_tasks plan source [] are = record { tasks = []; feds_are = refl; fit = All-nil (TaskFits plan); own = All-nil (IsTaskOf plan source) }
are_tasks plan source (one ∷ feds) are =
    let first = All-head (IsFedOf plan source) one feds are in
    let rest = are_tasks plan source feds (All-tail (IsFedOf plan source) one feds are) in
    record {
      tasks = first.task ∷ rest.tasks;
      feds_are = ap (λ (f : Fed). f ∷ feds_of rest.tasks) (sym first.fed_is) ∙ ap (λ (fs : List Fed). one ∷ fs) rest.feds_are;
      fit = All-cons (TaskFits plan) first.task rest.tasks first.fits rest.fit;
      own = All-cons (IsTaskOf plan source) first.task rest.tasks first.own rest.own;
    }

own_cons : (plan : Plan) (source : ℕ) (tasks : List Task) (lists : List (List Task)) → All (IsTaskOf plan source) tasks
    → ((s : ℕ) (d : List Task) → s < length lists → All (IsTaskOf plan (suc source + s)) (slice_index_or lists s d))
    → (s : ℕ) (d : List Task) → s < length (tasks ∷ lists) → All (IsTaskOf plan (source + s)) (slice_index_or (tasks ∷ lists) s d)
own_cons plan source tasks lists one more zero d less = subst (λ n. All (IsTaskOf plan n) tasks) (omega arith) one
own_cons plan source tasks lists one more (suc s) d less =
    subst (λ n. All (IsTaskOf plan n) (slice_index_or lists s d)) (omega arith) (more s d (omega (arith, less)))

-- the lists of tasks that the feeds have handed in
record AreLists (plan : Plan) (source : ℕ) (handed : List (List Fed)) : Type 0 where
  lists : List (List Task)
  feds_are : map feds_of lists ≡ handed
  fit : All (All (TaskFits plan)) lists
  own : (s : ℕ) (d : List Task) → s < length lists → All (IsTaskOf plan (source + s)) (slice_index_or lists s d)

module _ {F : Type 0} (hands : F → List Fed → F → Type 0) (plan : Plan) where
  are_lists : (source : ℕ) (feeds rest : List F) (handed : List (List Fed)) → AllHanded hands feeds handed rest → AllMayRecord hands plan source feeds → AreLists plan source handed
  are_lists source [] [] [] fed may =
      record { lists = []; feds_are = refl; fit = All-nil (All (TaskFits plan)); own = λ s d less. absurd (omega (arith, less)) }
  are_lists source [] [] (feds ∷ handed) fed may = absurd fed
  are_lists source [] (left ∷ rest) [] fed may = absurd fed
  are_lists source [] (left ∷ rest) (feds ∷ handed) fed may = absurd fed
  are_lists source (feed ∷ feeds) [] [] fed may = absurd fed
  are_lists source (feed ∷ feeds) [] (feds ∷ handed) fed may = absurd fed
  are_lists source (feed ∷ feeds) (left ∷ rest) [] fed may = absurd fed
  are_lists source (feed ∷ feeds) (left ∷ rest) (feds ∷ handed) fed may =
      let first = are_tasks plan source feds (may.0 feds (left, fed.0)).0 in
      let behind = are_lists (suc source) feeds rest handed fed.1 may.1 in
      record {
        lists = first.tasks ∷ behind.lists;
        feds_are = ap (λ (fs : List Fed). fs ∷ map feds_of behind.lists) first.feds_are ∙ ap (λ (fs : List (List Fed)). feds ∷ fs) behind.feds_are;
        fit = All-cons (All (TaskFits plan)) first.tasks behind.lists first.fit behind.fit;
        own = own_cons plan source first.tasks behind.lists first.own behind.own;
      }

  -- the script of what the feeds have handed in
  pub record IsHanded (handed : List (List Fed)) : Type 0 where
    pub lists : List (List Task)
    pub feds_are : map feds_of lists ≡ handed
    pub is_script : IsScript (record { plan = plan; lists = lists })

  pub is_handed : IsPlan plan → (feeds rest : List F) (handed : List (List Fed)) → length feeds ≡ plan.sources → AllHanded hands feeds handed rest → AllMayRecord hands plan 0 feeds
      → IsHanded handed
  is_handed is_plan feeds rest handed count fed may =
      let are = are_lists 0 feeds rest handed fed may in
      record {
        lists = are.lists;
        feds_are = are.feds_are;
        is_script = record {
          plan = is_plan;
          lists = omega (arith, count, handed_count hands feeds rest handed fed, ap length are.feds_are, length-map are.lists feds_of);
          fit = are.fit;
          own = λ s d less. subst (λ n. All (IsTaskOf plan n) (slice_index_or are.lists s d)) (omega arith) (are.own s d less);
        };
      }
