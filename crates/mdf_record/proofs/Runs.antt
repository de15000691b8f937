-- What each source did, when all have worked.
use Rattle.std.proofs.Common.{◌≡◌, ◌⊎◌, ◌+◌, ◌≤◌, ◌<◌, ℕ, zero, suc, true, List, [], ◌∷◌, ◌++◌, length, map, take, get_or, fold, Result, Ok, Err, Some, refl, sym, ◌∙◌, ap, subst, inl, inr, arith, append_assoc, append-nil, length-append}
use Rattle.std.specs.Prelude.{All, IfErr, slice_get}
use Rattle.std.proofs.lemmas.List.{length-map}
use Rattle.std.proofs.lemmas.Option.{same_Some}
use mathlib.Core.List.{IsPrefix}
use Rattle.mdf_gate.proofs.Carrying.{prefix_self}
use Rattle.mdf_layout.specs.History.{source_samples}
use Rattle.mdf_layout.specs.declared.sample.Sample.{Sample}
use Rattle.book_owned.specs.Account.{Account}
use Rattle.book_owned.specs.declared.mark.Mark.{Mark}
use Rattle.acq_run.specs.Feeds.{samples_of as samples_fed}
use Rattle.acq_run.specs.Works.{AreMarked}
use Rattle.acq_run.specs.Ran.{AllRan, EndsIn, Ran}
use Rattle.acq_run.specs.declared.feed.Fed.{Fed}
use Rattle.acq_run.specs.declared.work.Driven.{Driven}
use Rattle.acq_run.specs.declared.work.Ended.{Ended}
use Rattle.acq_run.specs.declared.work.Ended.TheVariants as ended
use Rattle.acq_run.proofs.Doing.{marked_later}
use Rattle.acq_script.specs.Tasks.{samples_of}
use Rattle.acq_script.specs.declared.script.Task.{Task}
use Rattle.acq_script.specs.declared.script.Task.TheVariants as task
use Rattle.mdf_record.specs.Sources.{AreOwnMarked, HadRoom, counts_of, ends_of, feds_of, told_of, worse, worst}
use Rattle.mdf_record.specs.declared.sources.End.{End}
use Rattle.mdf_record.specs.declared.sources.End.TheVariants.{SessionFull, Stopped, Memory}
use Rattle.mdf_record.proofs.Feeding.{cut, none_fed, own_marked, same_samples, samples_of-append}

-- what a source did, by its tasks
pub record RanTasks {D V : Type 0} (owners : List ℕ) (book : Account D V) (source : ℕ) (seen : List Sample) (tasks : List Task) (driven : Driven) : Type 0 where
  pub done : List Task
  pub rest : List Task
  pub parts : done ++ rest ≡ tasks
  pub own : source_samples owners book.history source ≡ samples_of done
  pub counted : driven.accepted ≡ length (samples_of done)
  pub begins : IsPrefix seen book.history
  pub all_own : source_samples owners seen source ≡ samples_of done
  pub marked : AreMarked owners source seen book.marks [] (feds_of done)
  pub ends : EndsIn book seen (feds_of rest) driven.ended

ran_tasks : {D V : Type 0} (owners : List ℕ) (book : Account D V) (source : ℕ) (seen : List Sample) (tasks : List Task) (driven : Driven)
    → Ran owners book source seen (feds_of tasks) driven → RanTasks owners book source seen tasks driven
ran_tasks owners book source seen tasks driven ran =
    let parts = cut ran.done ran.rest tasks ran.parts in
    let samples : samples_fed ran.done ≡ samples_of parts.front = ap samples_fed parts.done_is ∙ same_samples parts.front in
    record {
      done = parts.front;
      rest = parts.back;
      parts = parts.parts;
      own = ran.own ∙ samples;
      counted = ran.counted ∙ ap length samples;
      begins = ran.begins;
      all_own = ran.all_own ∙ samples;
      marked = subst (AreMarked owners source seen book.marks []) parts.done_is ran.marked;
      ends = subst (λ rest. EndsIn book seen rest driven.ended) parts.rest_is ran.ends;
    }

-- the marks of its flushes, in the whole history
marked_in : {D V : Type 0} (owners : List ℕ) (book : Account D V) (source : ℕ) (seen : List Sample) (tasks : List Task) (driven : Driven)
    → (ran : RanTasks owners book source seen tasks driven) → AreMarked owners source book.history book.marks [] (feds_of ran.done)
marked_in owners book source seen tasks driven ran =
    marked_later owners source seen book.history book.marks book.marks [] (feds_of ran.done) ran.begins (prefix_self book.marks) ran.marked

-- what is known of one of the sources
pub record RanAt {D V : Type 0} (owners : List ℕ) (book : Account D V) (seen : List (List Sample)) (source : ℕ) (tasks : List Task) (all : List Driven) (s : ℕ) : Type 0 where
  pub driven : Driven
  pub ran : RanTasks owners book source (get_or seen source []) tasks driven
  pub accepted_is : slice_get (counts_of all) s ≡ Some driven.accepted
  pub how_is : slice_get (ends_of all) s ≡ Some (told_of driven.ended)

module _ {D V : Type 0} (owners : List ℕ) (book : Account D V) (seen : List (List Sample)) where
  pub ran_at : (source : ℕ) (lists : List (List Task)) (all : List Driven) → AllRan owners book seen source (map feds_of lists) all
      → (s : ℕ) (tasks : List Task) → slice_get lists s ≡ Some tasks → RanAt owners book seen (source + s) tasks all s
  ran_at source [] all ran s tasks there = absurd (nothing_there s tasks there) where
    nothing_there : (s : ℕ) (tasks : List Task) → slice_get {X = List Task} [] s ≡ Some tasks → ⊥
    nothing_there zero tasks is = cc
    nothing_there (suc s) tasks is = cc
  ran_at source (first ∷ lists) [] ran s tasks there = absurd ran
  ran_at source (first ∷ lists) (driven ∷ all) ran zero tasks there =
      let same : first ≡ tasks = cc in
      let none : source ≡ source + 0 = omega arith in
      let saw = get_or seen source [] in
      record {
        driven = driven;
        ran = subst (λ k. RanTasks owners book k (get_or seen k []) tasks driven) none
            (subst (λ ts. RanTasks owners book source saw ts driven) same (ran_tasks owners book source saw first driven ran.0));
        accepted_is = refl;
        how_is = refl;
      }
  ran_at source (first ∷ lists) (driven ∷ all) ran (suc s) tasks there =
      let at = ran_at (suc source) lists all ran.1 s tasks there in
      let same : suc source + s ≡ source + suc s = omega arith in
      record {
        driven = at.driven;
        ran = subst (λ k. RanTasks owners book k (get_or seen k []) tasks at.driven) same at.ran;
        accepted_is = at.accepted_is;
        how_is = at.how_is;
      }

  pub ran_of : (lists : List (List Task)) (all : List Driven) → AllRan owners book seen 0 (map feds_of lists) all → (s : ℕ) (tasks : List Task)
      → slice_get lists s ≡ Some tasks → RanAt owners book seen s tasks all s
  ran_of lists all ran s tasks there =
      let same : 0 + s ≡ s = omega arith in
      subst (λ k. RanAt owners book seen k tasks all s) same (ran_at 0 lists all ran s tasks there)

  pub ran_count : (source : ℕ) (handed : List (List Fed)) (all : List Driven) → AllRan owners book seen source handed all → length all ≡ length handed
  ran_count source [] [] ran = refl
  ran_count source (feds ∷ handed) (driven ∷ all) ran = omega (arith, ran_count (suc source) handed all ran.1)
  ran_count source [] (driven ∷ all) ran = absurd ran
  ran_count source (feds ∷ handed) [] ran = absurd ran

  all-length : (source : ℕ) (lists : List (List Task)) (all : List Driven) → AllRan owners book seen source (map feds_of lists) all → length all ≡ length lists
  all-length source lists all ran = ran_count source (map feds_of lists) all ran ∙ length-map lists feds_of

  pub accepted-length : (lists : List (List Task)) (all : List Driven) → AllRan owners book seen 0 (map feds_of lists) all → length (counts_of all) ≡ length lists
  accepted-length lists all ran = length-map all (λ (driven : Driven). driven.accepted) ∙ all-length 0 lists all ran

  pub hows-length : (lists : List (List Task)) (all : List Driven) → AllRan owners book seen 0 (map feds_of lists) all → length (ends_of all) ≡ length lists
  hows-length lists all ran = length-map all (λ (driven : Driven). told_of driven.ended) ∙ all-length 0 lists all ran

-- the end that is told is one of them, or all have done all
worse_err : (first next : Result Unit End) (e : End) → worse first next ≡ Err e → (first ≡ Err e) ⊎ (next ≡ Err e)
worse_err (Ok u) next e is = inr is
worse_err (Err (SessionFull held size limit)) next e is = inl is
worse_err (Err Stopped) next e is = inl is
worse_err (Err Memory) (Ok u) e is = inl is
worse_err (Err Memory) (Err other) e is = inr is

fold_err : (first : Result Unit End) (hows : List (Result Unit End)) (e : End) → fold worse first hows ≡ Err e → (first ≡ Err e) ⊎ ((s : ℕ) × (slice_get hows s ≡ Some (Err e)))
fold_err first [] e is = inl is
fold_err first (how ∷ hows) e is = elim (fold_err (worse first how) hows e is) [
  | inl mine ↦ elim (worse_err first how e mine) [ inl one ↦ inl one | inr other ↦ inr (0, ap Some other) ]
  | inr later ↦ inr (suc later.0, later.1)
]

pub worst_err : (hows : List (Result Unit End)) (e : End) → worst hows ≡ Err e → (s : ℕ) × (slice_get hows s ≡ Some (Err e))
worst_err hows e is = elim (fold_err (Ok tt) hows e is) [
  | inl none ↦ absurd (not_err none)
  | inr there ↦ there
] where
  not_err : ◌≡◌ {A = Result Unit End} (Ok tt) (Err e) → ⊥
  not_err wrong = cc

abbrev pub IsDone : Result Unit End → Type 0
IsDone (Ok u) = Unit {0}
IsDone (Err e) = ⊥

worse_ok : (first next : Result Unit End) → IsDone (worse first next) → IsDone first × IsDone next
worse_ok (Ok u) next done = (tt, done)
worse_ok (Err (SessionFull held size limit)) next done = absurd done
worse_ok (Err Stopped) next done = absurd done
worse_ok (Err Memory) (Ok u) done = absurd done
worse_ok (Err Memory) (Err other) done = absurd done

fold_ok : (first : Result Unit End) (hows : List (Result Unit End)) → IsDone (fold worse first hows) → IsDone first × ((s : ℕ) (how : Result Unit End) → slice_get hows s ≡ Some how → IsDone how)
fold_ok first [] done = (done, λ s how there. absurd (nothing_there s how there)) where
  nothing_there : (s : ℕ) (how : Result Unit End) → slice_get {X = Result Unit End} [] s ≡ Some how → ⊥
  nothing_there zero how is = cc
  nothing_there (suc s) how is = cc
fold_ok first (how ∷ hows) done =
    let behind = fold_ok (worse first how) hows done in
    let both = worse_ok first how behind.0 in
    (both.0, λ s h there. each s h there both.1 behind.1) where
      each : (s : ℕ) (h : Result Unit End) → slice_get (how ∷ hows) s ≡ Some h → IsDone how → ((s : ℕ) (h : Result Unit End) → slice_get hows s ≡ Some h → IsDone h) → IsDone h
      each zero h there mine later = let same : how ≡ h = cc in subst IsDone same mine
      each (suc s) h there mine later = later s h there

-- where all have done all, each has
pub each_done : (hows : List (Result Unit End)) (u : Unit {0}) → Ok u ≡ worst hows → (s : ℕ) (how : Result Unit End) → slice_get hows s ≡ Some how → IsDone how
each_done hows u told = (fold_ok (Ok tt) hows (subst IsDone told tt)).1

-- a source that has done all
all_done : {D V : Type 0} (book : Account D V) (before : List Sample) (rest : List Task) (how : Ended) → IsDone (told_of how) → EndsIn book before (feds_of rest) how → rest ≡ []
all_done book before rest ended.Running done ends = absurd ends
all_done book before rest ended.Done done ends = none_fed rest ends
all_done book before rest (ended.SessionFull held size limit) done ends = absurd done
all_done book before rest (ended.Stopped mark) done ends = absurd done
all_done book before rest (ended.DiskFault less more) done ends = absurd done
all_done book before rest ended.Memory done ends = absurd done

pub whole_ran : {D V : Type 0} (owners : List ℕ) (book : Account D V) (source : ℕ) (seen : List Sample) (tasks : List Task) (driven : Driven) → IsDone (told_of driven.ended)
    → RanTasks owners book source seen tasks driven
    → (source_samples owners book.history source ≡ samples_of tasks) × AreOwnMarked owners source book.history book.marks (λ k. Unit {0}) [] tasks
whole_ran owners book source seen tasks driven done ran =
    let whole : ran.done ≡ tasks = sym (append-nil ran.done) ∙ ap (λ rest. ran.done ++ rest) (sym (all_done book seen ran.rest driven.ended done ran.ends)) ∙ ran.parts in (
      ran.own ∙ ap samples_of whole,
      subst (AreOwnMarked owners source book.history book.marks (λ k. Unit {0}) []) whole (own_marked owners source book.history book.marks (λ k. Unit {0}) [] ran.done (marked_in owners book source seen tasks driven ran)),
    )

-- the first end for want of room is told, whatever memory was wanted
abbrev IsMild : Result Unit End → Type 0
IsMild (Ok u) = Unit {0}
IsMild (Err (SessionFull held size limit)) = ⊥
IsMild (Err Stopped) = ⊥
IsMild (Err Memory) = Unit {0}

full_stays : (held size limit : ℕ) (hows : List (Result Unit End)) → fold worse (Err (SessionFull held size limit)) hows ≡ Err (SessionFull held size limit)
full_stays held size limit [] = refl
full_stays held size limit (how ∷ hows) = full_stays held size limit hows

stopped_stays : (hows : List (Result Unit End)) → fold worse (Err Stopped) hows ≡ Err Stopped
stopped_stays [] = refl
stopped_stays (how ∷ hows) = stopped_stays hows

room_none : All HadRoom []
room_none k d within = absurd (omega (arith, within))

room_more : (how : Result Unit End) (hows : List (Result Unit End)) → HadRoom how → All HadRoom hows → All HadRoom (how ∷ hows)
room_more how hows one rest zero d within = one
room_more how hows one rest (suc k) d within = rest k d (omega (arith, within))

pub record FirstFull (hows : List (Result Unit End)) (held size limit : ℕ) : Type 0 where
  pub source : ℕ
  pub told : slice_get hows source ≡ Some (Err (SessionFull held size limit))
  pub first : All HadRoom (take source hows)

full_later : (how : Result Unit End) (hows : List (Result Unit End)) (held size limit : ℕ) → HadRoom how → FirstFull hows held size limit → FirstFull (how ∷ hows) held size limit
full_later how hows held size limit room found = record { source = suc found.source; told = found.told; first = room_more how (take found.source hows) room found.first }

-- of this end, which others follow
full_here : (hows : List (Result Unit End)) (a b c held size limit : ℕ) → fold worse (Err (SessionFull a b c)) hows ≡ Err (SessionFull held size limit)
    → FirstFull (Err (SessionFull a b c) ∷ hows) held size limit
full_here hows a b c held size limit is = record { source = 0; told = ap Some (sym (full_stays a b c hows) ∙ is); first = room_none }

full_from : (first : Result Unit End) (hows : List (Result Unit End)) (held size limit : ℕ) → IsMild first → fold worse first hows ≡ Err (SessionFull held size limit) → FirstFull hows held size limit
full_from (Ok u) [] held size limit mild is = absurd (not_full is) where
  not_full : ◌≡◌ {A = Result Unit End} (Ok u) (Err (SessionFull held size limit)) → ⊥
  not_full wrong = cc
full_from (Err Memory) [] held size limit mild is = absurd (not_full is) where
  not_full : ◌≡◌ {A = Result Unit End} (Err Memory) (Err (SessionFull held size limit)) → ⊥
  not_full wrong = cc
full_from (Err Stopped) hows held size limit mild is = absurd mild
full_from (Err (SessionFull a b c)) hows held size limit mild is = absurd mild
full_from (Ok u) (Ok v ∷ hows) held size limit mild is = full_later (Ok v) hows held size limit tt (full_from (Ok v) hows held size limit tt is)
full_from (Ok u) (Err Memory ∷ hows) held size limit mild is = full_later (Err Memory) hows held size limit tt (full_from (Err Memory) hows held size limit tt is)
full_from (Ok u) (Err Stopped ∷ hows) held size limit mild is = full_later (Err Stopped) hows held size limit tt (absurd (not_stopped (sym (stopped_stays hows) ∙ is))) where
  not_stopped : ◌≡◌ {A = Result Unit End} (Err Stopped) (Err (SessionFull held size limit)) → ⊥
  not_stopped wrong = cc
full_from (Ok u) (Err (SessionFull a b c) ∷ hows) held size limit mild is = full_here hows a b c held size limit is
full_from (Err Memory) (Ok v ∷ hows) held size limit mild is = full_later (Ok v) hows held size limit tt (full_from (Err Memory) hows held size limit tt is)
full_from (Err Memory) (Err Memory ∷ hows) held size limit mild is = full_later (Err Memory) hows held size limit tt (full_from (Err Memory) hows held size limit tt is)
full_from (Err Memory) (Err Stopped ∷ hows) held size limit mild is = full_later (Err Stopped) hows held size limit tt (absurd (not_stopped (sym (stopped_stays hows) ∙ is))) where
  not_stopped : ◌≡◌ {A = Result Unit End} (Err Stopped) (Err (SessionFull held size limit)) → ⊥
  not_stopped wrong = cc
full_from (Err Memory) (Err (SessionFull a b c) ∷ hows) held size limit mild is = full_here hows a b c held size limit is

pub first_full : (hows : List (Result Unit End)) (held size limit : ℕ) → worst hows ≡ Err (SessionFull held size limit) → FirstFull hows held size limit
first_full hows held size limit is = full_from (Ok tt) hows held size limit tt is

-- want of memory is told only where all had room
room_step : (first how : Result Unit End) (hows : List (Result Unit End)) → IsMild first → fold worse (worse first how) hows ≡ Err Memory → HadRoom how × IsMild (worse first how)
room_step (Ok u) (Ok v) hows mild is = (tt, tt)
room_step (Ok u) (Err Memory) hows mild is = (tt, tt)
room_step (Ok u) (Err Stopped) hows mild is = absurd (not_stopped (sym (stopped_stays hows) ∙ is)) where
  not_stopped : ◌≡◌ {A = Result Unit End} (Err Stopped) (Err Memory) → ⊥
  not_stopped wrong = cc
room_step (Ok u) (Err (SessionFull a b c)) hows mild is = absurd (not_full (sym (full_stays a b c hows) ∙ is)) where
  not_full : ◌≡◌ {A = Result Unit End} (Err (SessionFull a b c)) (Err Memory) → ⊥
  not_full wrong = cc
room_step (Err Memory) (Ok v) hows mild is = (tt, tt)
room_step (Err Memory) (Err Memory) hows mild is = (tt, tt)
room_step (Err Memory) (Err Stopped) hows mild is = absurd (not_stopped (sym (stopped_stays hows) ∙ is)) where
  not_stopped : ◌≡◌ {A = Result Unit End} (Err Stopped) (Err Memory) → ⊥
  not_stopped wrong = cc
room_step (Err Memory) (Err (SessionFull a b c)) hows mild is = absurd (not_full (sym (full_stays a b c hows) ∙ is)) where
  not_full : ◌≡◌ {A = Result Unit End} (Err (SessionFull a b c)) (Err Memory) → ⊥
  not_full wrong = cc
room_step (Err Stopped) how hows mild is = absurd mild
room_step (Err (SessionFull a b c)) how hows mild is = absurd mild

room_from : (first : Result Unit End) (hows : List (Result Unit End)) → IsMild first → fold worse first hows ≡ Err Memory → All HadRoom hows
room_from first [] mild is = room_none
room_from first (how ∷ hows) mild is =
    let step = room_step first how hows mild is in
    room_more how hows step.0 (room_from (worse first how) hows step.1 is)

pub all_room : (hows : List (Result Unit End)) → worst hows ≡ Err Memory → All HadRoom hows
all_room hows is = room_from (Ok tt) hows tt is

-- a source's flushes before one of its samples have their marks
pub none_own : (owners : List ℕ) (source : ℕ) (history : List Sample) (marks : List Mark) (most : ℕ) (before : List Sample) (tasks : List Task) → most ≤ length before
    → AreOwnMarked owners source history marks (λ n. n < most) before tasks
none_own owners source history marks most before [] past = tt
none_own owners source history marks most before (task.Sample sample ∷ tasks) past =
    none_own owners source history marks most (before ++ sample ∷ []) tasks (omega (arith, past, length-append before (sample ∷ [])))
none_own owners source history marks most before (task.Flush ∷ tasks) past =
    (λ below. absurd (omega (arith, past, below)), none_own owners source history marks most before tasks past)

own_more : (owners : List ℕ) (source : ℕ) (history : List Sample) (marks : List Mark) (counts : ℕ → Type 0) (before after : List Sample) (xs ys : List Task) → before ++ samples_of xs ≡ after
    → AreOwnMarked owners source history marks counts before xs → AreOwnMarked owners source history marks counts after ys
    → AreOwnMarked owners source history marks counts before (xs ++ ys)
own_more owners source history marks counts before after [] ys is first second =
    subst (λ b. AreOwnMarked owners source history marks counts b ys) (sym is ∙ append-nil before) second
own_more owners source history marks counts before after (task.Sample sample ∷ xs) ys is first second =
    own_more owners source history marks counts (before ++ sample ∷ []) after xs ys (append_assoc before (sample ∷ []) (samples_of xs) ∙ is) first second
own_more owners source history marks counts before after (task.Flush ∷ xs) ys is first second =
    (first.0, own_more owners source history marks counts before after xs ys is first.1 second)

pub own_begins : {D V : Type 0} (owners : List ℕ) (book : Account D V) (source : ℕ) (seen : List Sample) (tasks : List Task) (driven : Driven) → RanTasks owners book source seen tasks driven
    → IsPrefix (source_samples owners book.history source) (samples_of tasks)
own_begins owners book source seen tasks driven ran =
    (samples_of ran.rest, ap (λ ss. ss ++ samples_of ran.rest) ran.own ∙ sym (samples_of-append ran.done ran.rest) ∙ ap samples_of ran.parts)

module _ {D V : Type 0} (owners : List ℕ) (book : Account D V) (source : ℕ) (seen : List Sample) (tasks : List Task) (driven : Driven) (ran : RanTasks owners book source seen tasks driven) where
  flushes_in : (history : List Sample) → AreMarked owners source history book.marks [] (feds_of ran.done)
      → AreOwnMarked owners source history book.marks (λ k. k < length (source_samples owners book.history source)) [] tasks
  flushes_in history marked =
      let most = length (source_samples owners book.history source) in
      let counts : ℕ → Type 0 = λ k. k < most in
      subst (AreOwnMarked owners source history book.marks counts []) ran.parts
      (own_more owners source history book.marks counts [] (samples_of ran.done) ran.done ran.rest refl
      (own_marked owners source history book.marks counts [] ran.done marked) (none_own owners source history book.marks most (samples_of ran.done) ran.rest (omega (arith, ap length ran.own))))

  pub own_flushes : AreOwnMarked owners source book.history book.marks (λ k. k < length (source_samples owners book.history source)) [] tasks
  own_flushes = flushes_in book.history (marked_in owners book source seen tasks driven ran)

  -- within what it had seen
  pub seen_flushes : AreOwnMarked owners source seen book.marks (λ k. k < length (source_samples owners book.history source)) [] tasks
  seen_flushes = flushes_in seen ran.marked

-- a source was stopped only where the book is
abbrev IsStop : Result Unit End → Type 0
IsStop (Ok u) = ⊥
IsStop (Err (SessionFull held size limit)) = ⊥
IsStop (Err Stopped) = Unit {0}
IsStop (Err Memory) = ⊥

was_stopped : {D V : Type 0} (book : Account D V) (before : List Sample) (rest : List Fed) (how : Ended) → IsStop (told_of how) → EndsIn book before rest how → book.stopped ≡ true
was_stopped book before rest ended.Running stop ends = absurd stop
was_stopped book before rest ended.Done stop ends = absurd stop
was_stopped book before rest (ended.SessionFull held size limit) stop ends = absurd stop
was_stopped book before rest (ended.Stopped mark) stop ends = ends.0
was_stopped book before rest (ended.DiskFault less more) stop ends = ends.0
was_stopped book before rest ended.Memory stop ends = absurd stop

module _ {D V : Type 0} (owners : List ℕ) (book : Account D V) (seen : List (List Sample)) where
  stopped_at : (source : ℕ) (handed : List (List Fed)) (all : List Driven) → AllRan owners book seen source handed all → (s : ℕ) (how : Result Unit End)
      → slice_get (ends_of all) s ≡ Some how → IsStop how → book.stopped ≡ true
  stopped_at source [] [] ran s how there stop = absurd (nothing_there s there) where
    nothing_there : (s : ℕ) → slice_get {X = Result Unit End} [] s ≡ Some how → ⊥
    nothing_there zero is = cc
    nothing_there (suc s) is = cc
  stopped_at source [] (driven ∷ all) ran s how there stop = absurd ran
  stopped_at source (feds ∷ handed) [] ran s how there stop = absurd ran
  stopped_at source (feds ∷ handed) (driven ∷ all) ran zero how there stop =
      was_stopped book (get_or seen source []) ran.0.rest driven.ended (subst IsStop (sym (same_Some (told_of driven.ended) how there)) stop) ran.0.ends
  stopped_at source (feds ∷ handed) (driven ∷ all) ran (suc s) how there stop = stopped_at (suc source) handed all ran.1 s how there stop

  pub stopped_told : (handed : List (List Fed)) (all : List Driven) (result : Result Unit End) → AllRan owners book seen 0 handed all → result ≡ worst (ends_of all)
      → IfErr result (λ e. e ≡ Stopped → book.stopped ≡ true)
  stopped_told handed all (Ok u) ran told = tt
  stopped_told handed all (Err e) ran told = λ is.
      let found = worst_err (ends_of all) e (sym told) in
      stopped_at 0 handed all ran found.0 (Err e) found.1 (subst IsStop (ap Err (sym is)) tt)
