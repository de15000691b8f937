-- What was done of what the sources handed in was done of all lists that go on from there, but behind those that have done all.
use Rattle.std.proofs.Common.{◌≡◌, ◌+◌, ◌<◌, ⊎_elim, inl, inr, ℕ, suc, List, [], ◌∷◌, ◌++◌, length, map, drop, get_or, All, refl, sym, ◌∙◌, ap, subst, arith, append_assoc, length-append}
use Rattle.std.specs.List.{slice_index_or}
use Rattle.std.proofs.lemmas.List.{get_or_append_left, length-map}
use Rattle.std.proofs.lemmas.List.Elements.{All-cons, All-head, All-nil, All-tail}
use mathlib.Core.List.{IsPrefix}
use Rattle.mdf_gate.proofs.Carrying.{prefix_self}
use Rattle.mdf_layout.specs.Layout.{Layout}
use Rattle.mdf_layout.specs.declared.sample.Sample.{Sample}
use Rattle.book_owned.specs.Account.{Account}
use Rattle.book_owned.specs.declared.mark.Mark.{Mark}
use Rattle.book_shared.specs.Causes.{IsAmong, MarksCaused}
use Rattle.book_shared.proofs.Causing.{caused_later}
use Rattle.acq_run.specs.Feeds.{samples_of}
use Rattle.acq_run.specs.declared.feed.Fed.{Fed}
use Rattle.acq_run.specs.declared.feed.Fed.TheVariants as fed
use Rattle.acq_run.specs.Works.{IsFlushed, IsNext}
use Rattle.acq_run.specs.Ran.{AllEnded, AllHanded, AllRan, AskedFor, DueFor, EndsIn, Ran}
use Rattle.acq_run.specs.declared.work.Driven.{Driven}
use Rattle.acq_run.specs.declared.work.Ended.{Ended}
use Rattle.acq_run.specs.declared.work.Ended.TheVariants.{Running, Done, SessionFull, Stopped, DiskFault, Memory}
use Rattle.acq_run.proofs.Doing.{flushed_later, front_among}
use Rattle.acq_script.specs.Plan.{IsTaskOf, TaskFits}
use Rattle.acq_script.specs.Stage.{IsScript}
use Rattle.acq_script.specs.declared.script.Plan.{Plan}
use Rattle.acq_script.specs.declared.script.Script.{Script}
use Rattle.acq_script.specs.declared.script.Task.{Task}
use Rattle.mdf_record.specs.Feeding.{HandsTasks, HasNone, fed_by, left_in}
use Rattle.mdf_record.specs.Feeds.{AllMayRecord, GoOn, IsFedOf}
use Rattle.mdf_record.specs.Sources.{fed_of, feds_of}
use Rattle.mdf_record.specs.declared.sources.TaskFeed.{TaskFeed}
use Rattle.mdf_record.proofs.Feeding.{feds-length}

-- the next stays the next when more stands behind
next_longer : (rest more : List Fed) (sample : Sample) → IsNext rest sample → IsNext (rest ++ more) sample
next_longer rest more sample next = record { later = next.later ++ more; rest_is = ap (λ f. f ++ more) next.rest_is }

ends_longer : {D V : Type 0} (book : Account D V) (seen : List Sample) (rest more : List Fed) (how : Ended) → (how ≡ Done → more ≡ []) → EndsIn book seen rest how
    → EndsIn book seen (rest ++ more) how
ends_longer book seen rest more Running none ends = absurd ends
ends_longer book seen rest more Done none ends = ap (λ r. r ++ more) ends ∙ none refl
ends_longer book seen rest more (SessionFull held size limit) none ends = record {
  sample = ends.sample;
  next = next_longer rest more ends.sample ends.next;
  held_is = ends.held_is;
  size_is = ends.size_is;
  limit_is = ends.limit_is;
  over = ends.over;
}
ends_longer book seen rest more (Stopped mark) none ends = ends
ends_longer book seen rest more (DiskFault before after) none ends = ends
ends_longer book seen rest more Memory none ends = record { sample = ends.sample; next = next_longer rest more ends.sample ends.next; room = ends.room }

-- what a source did with what was handed in is what it did with all that its feed had
ran_longer : {D V : Type 0} (owners : List ℕ) (book : Account D V) (source : ℕ) (seen : List Sample) (handed more : List Fed) (driven : Driven)
    → (driven.ended ≡ Done → more ≡ []) → Ran owners book source seen handed driven → Ran owners book source seen (handed ++ more) driven
ran_longer owners book source seen handed more driven none ran = record {
  done = ran.done;
  rest = ran.rest ++ more;
  parts = sym (append_assoc ran.done ran.rest more) ∙ ap (λ f. f ++ more) ran.parts;
  own = ran.own;
  counted = ran.counted;
  begins = ran.begins;
  all_own = ran.all_own;
  marked = ran.marked;
  ends = ends_longer book seen ran.rest more driven.ended none ran.ends;
}

-- a list begins with what was handed in
begins_with : (feds whole : List Fed) (handed wholes : List (List Fed)) (all : List Driven) → GoOn (feds ∷ handed) all (whole ∷ wholes) → IsPrefix feds whole
begins_with feds whole handed wholes [] on = on.0
begins_with feds whole handed wholes (driven ∷ all) on = (on.0.0, on.0.1)

-- and the others go on from there
abbrev rest_all : List Driven → List Driven
rest_all [] = []
rest_all (driven ∷ all) = all

rest_on : (feds whole : List Fed) (handed wholes : List (List Fed)) (all : List Driven) → GoOn (feds ∷ handed) all (whole ∷ wholes) → GoOn handed (rest_all all) wholes
rest_on feds whole handed wholes [] on = on.1
rest_on feds whole handed wholes (driven ∷ all) on = on.1

no_wholes : (feds : List Fed) (handed : List (List Fed)) (all : List Driven) → GoOn (feds ∷ handed) all [] → ⊥
no_wholes feds handed [] on = absurd on
no_wholes feds handed (driven ∷ all) on = absurd on

module _ {D V : Type 0} (owners : List ℕ) (book : Account D V) (seen : List (List Sample)) where
  pub all_longer : (source : ℕ) (handed wholes : List (List Fed)) (all : List Driven) → GoOn handed all wholes → AllRan owners book seen source handed all
      → AllRan owners book seen source wholes all
  all_longer source [] [] [] on ran = tt
  all_longer source [] [] (driven ∷ all) on ran = absurd ran
  all_longer source [] (whole ∷ wholes) all on ran = absurd on
  all_longer source (feds ∷ handed) wholes [] on ran = absurd ran
  all_longer source (feds ∷ handed) [] (driven ∷ all) on ran = absurd on
  all_longer source (feds ∷ handed) (whole ∷ wholes) (driven ∷ all) on ran = (
    subst (λ fs. Ran owners book source (slice_index_or seen source []) fs driven) on.0.1
        (ran_longer owners book source (slice_index_or seen source []) feds on.0.0 driven on.0.2 ran.0),
    all_longer (suc source) handed wholes all on.1 ran.1,
  )

module _ (owners : List ℕ) (history : List Sample) where
  asked_longer : (source : ℕ) (handed wholes : List (List Fed)) (all : List Driven) → GoOn handed all wholes → (n : ℕ) → AskedFor owners source handed history n
      → AskedFor owners source wholes history n
  asked_longer source [] wholes all on n there = absurd there
  asked_longer source (feds ∷ handed) [] all on n there = absurd (no_wholes feds handed all on)
  asked_longer source (feds ∷ handed) (whole ∷ wholes) all on n there =
      let begins = begins_with feds whole handed wholes all on in
      ⊎_elim
      (λ here. inl (subst (λ fs. IsFlushed owners source history [] fs n) begins.1
      (flushed_later owners source history history [] feds begins.0 n (prefix_self history) here)))
      (λ later. inr (asked_longer (suc source) handed wholes (rest_all all) (rest_on feds whole handed wholes all on) n later)) there

due_longer : (handed wholes : List (List Fed)) (all : List Driven) → GoOn handed all wholes → (sample : Sample) → DueFor handed sample → DueFor wholes sample
due_longer [] wholes all on sample there = absurd there
due_longer (feds ∷ handed) [] all on sample there = absurd (no_wholes feds handed all on)
due_longer (feds ∷ handed) (whole ∷ wholes) all on sample there =
    let begins = begins_with feds whole handed wholes all on in
    ⊎_elim
    (λ here. inl (subst (λ fs. IsAmong (samples_of fs) sample) begins.1 (front_among feds begins.0 sample here)))
    (λ later. inr (due_longer handed wholes (rest_all all) (rest_on feds whole handed wholes all on) sample later)) there

pub marks_longer : (owners : List ℕ) (history : List Sample) (handed wholes : List (List Fed)) (all : List Driven) → GoOn handed all wholes
    → (layouts : List Layout) (limit : ℕ) (begun marks : List Mark) → MarksCaused (AskedFor owners 0 handed history) (DueFor handed) layouts limit history begun marks
    → MarksCaused (AskedFor owners 0 wholes history) (DueFor wholes) layouts limit history begun marks
marks_longer owners history handed wholes all on layouts limit begun marks caused =
    caused_later (AskedFor owners 0 handed history) (AskedFor owners 0 wholes history) (DueFor handed) (DueFor wholes) layouts limit history history
    (asked_longer owners history 0 handed wholes all on) (due_longer handed wholes all on) (prefix_self history) begun marks caused

module _ {G : Type 0} where
  -- what the feeds had goes on from what they handed in
  pub tasks_on : (feeds rest : List (TaskFeed G)) (handed : List (List Fed)) (all : List Driven) → AllHanded HandsTasks feeds handed rest → AllEnded HasNone all rest
      → GoOn handed all (fed_by feeds)
  tasks_on [] [] [] [] fed ended = tt
  tasks_on [] [] [] (driven ∷ all) fed ended = absurd ended
  tasks_on [] [] (feds ∷ handed) all fed ended = absurd fed
  tasks_on [] (left ∷ rest) [] all fed ended = absurd fed
  tasks_on [] (left ∷ rest) (feds ∷ handed) all fed ended = absurd fed
  tasks_on (feed ∷ feeds) [] [] all fed ended = absurd fed
  tasks_on (feed ∷ feeds) [] (feds ∷ handed) all fed ended = absurd fed
  tasks_on (feed ∷ feeds) (left ∷ rest) [] all fed ended = absurd fed
  tasks_on (feed ∷ feeds) (left ∷ rest) (feds ∷ handed) [] fed ended = absurd ended
  tasks_on (feed ∷ feeds) (left ∷ rest) (feds ∷ handed) (driven ∷ all) fed ended =
      ((left_in left, sym fed.0, ended.0), tasks_on feeds rest handed all fed.1 ended.1)

  -- so it does where none has worked
  pub tasks_idle : (feeds rest : List (TaskFeed G)) (handed : List (List Fed)) → AllHanded HandsTasks feeds handed rest → GoOn handed [] (fed_by feeds)
  tasks_idle [] [] [] fed = tt
  tasks_idle [] [] (feds ∷ handed) fed = absurd fed
  tasks_idle [] (left ∷ rest) [] fed = absurd fed
  tasks_idle [] (left ∷ rest) (feds ∷ handed) fed = absurd fed
  tasks_idle (feed ∷ feeds) [] [] fed = absurd fed
  tasks_idle (feed ∷ feeds) [] (feds ∷ handed) fed = absurd fed
  tasks_idle (feed ∷ feeds) (left ∷ rest) [] fed = absurd fed
  tasks_idle (feed ∷ feeds) (left ∷ rest) (feds ∷ handed) fed = ((left_in left, sym fed.0), tasks_idle feeds rest handed fed.1)

-- a source's tasks are what its feed can hand in
all_fed : (plan : Plan) (source : ℕ) (tasks : List Task) → All (TaskFits plan) tasks → All (IsTaskOf plan source) tasks → All (IsFedOf plan source) (feds_of tasks)
all_fed plan source [] fit own = All-nil (IsFedOf plan source)
all_fed plan source (task ∷ tasks) fit own =
    All-cons (IsFedOf plan source) (fed_of task) (feds_of tasks)
    (record { task = task; fed_is = refl; fits = All-head (TaskFits plan) task tasks fit; own = All-head (IsTaskOf plan source) task tasks own })
    (all_fed plan source tasks (All-tail (TaskFits plan) task tasks fit) (All-tail (IsTaskOf plan source) task tasks own))

front_fed : (plan : Plan) (source : ℕ) (feds left : List Fed) → All (IsFedOf plan source) (feds ++ left) → All (IsFedOf plan source) feds
front_fed plan source feds left all k d less =
    subst (IsFedOf plan source) (get_or_append_left feds left d k less) (all k d (omega (arith, less, length-append feds left)))

module _ {G : Type 0} (plan : Plan) where
  tasks_from : (source : ℕ) (feeds : List (TaskFeed G)) (lists : List (List Task)) → fed_by feeds ≡ map feds_of lists → All (All (TaskFits plan)) lists
      → ((s : ℕ) (d : List Task) → s < length lists → All (IsTaskOf plan (source + s)) (slice_index_or lists s d)) → AllMayRecord HandsTasks plan source feeds
  tasks_from source [] lists are fit own = tt
  tasks_from source (feed ∷ feeds) [] are fit own = absurd (omega (arith, ap length are))
  tasks_from source (feed ∷ feeds) (tasks ∷ lists) are fit own =
      let here : left_in feed ≡ feds_of tasks = ap (λ (fs : List (List Fed)). get_or fs 0 (left_in feed)) are in
      let items = feed.tasks.rest in
      let of_source : All (IsTaskOf plan source) tasks = subst (λ n. All (IsTaskOf plan n) tasks) (omega arith) (own 0 tasks (omega arith)) in (
        λ feds can. (
          front_fed plan source feds (left_in can.0) (subst (All (IsFedOf plan source)) (sym here ∙ can.1) (all_fed plan source tasks (All-head (All (TaskFits plan)) tasks lists fit) of_source)),
          omega (arith, length-append feds (left_in can.0), ap length can.1, feds-length items.items, items.ok.0, items.small.0, items.small.1),
        ),
        tasks_from (suc source) feeds lists (ap (λ (fs : List (List Fed)). drop 1 fs) are) (All-tail (All (TaskFits plan)) tasks lists fit)
            (λ s d less. subst (λ n. All (IsTaskOf plan n) (slice_index_or lists s d)) (omega arith) (own (suc s) d (omega (arith, less)))),
      )

-- the feeds of a script can hand in its tasks
pub tasks_may : {G : Type 0} (script : Script) (feeds : List (TaskFeed G)) → IsScript script → fed_by feeds ≡ map feds_of script.lists → AllMayRecord HandsTasks script.plan 0 feeds
tasks_may script feeds is are =
    tasks_from script.plan 0 feeds script.lists are is.fit (λ s d less. subst (λ n. All (IsTaskOf script.plan n) (slice_index_or script.lists s d)) (omega arith) (is.own s d less))

-- as many feeds as sources
pub feeds_count : {G : Type 0} (script : Script) (feeds : List (TaskFeed G)) → IsScript script → fed_by feeds ≡ map feds_of script.lists → length feeds ≡ script.plan.sources
feeds_count {G} script feeds is are =
    omega (arith, length-map feeds (λ (feed : TaskFeed G). left_in feed), length-map script.lists feds_of, ap length are, is.lists)
