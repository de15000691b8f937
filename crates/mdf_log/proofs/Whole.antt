-- What is left when a log has run, in the words of its promise.
use Rattle.std.proofs.Common.{◌≡◌, ◌≢◌, ◌<◌, ◌∙◌, ◌++◌, ◌∷◌, ℕ, zero, suc, List, [], length, map, get_or, Option, Some, true, false, refl, sym, ap, subst, arith}
use Rattle.std.specs.Prelude.{slice_get}
use Rattle.std.specs.List.{AllZip}
use Rattle.std.proofs.lemmas.Option.{get_or_from_slice_get, slice_get_within}
use Rattle.mdf_port.specs.State.{SinkState, sink_state, source_state}
use Rattle.mdf_port.specs.declared.source.Source as source
use Rattle.mdf_port.specs.declared.sink.Sink as sink
use Rattle.acq_run.specs.Feeds.{samples_of}
use Rattle.acq_run.specs.declared.feed.Fed.{Fed}
use Rattle.acq_lines.specs.Handled.{IsFresh}
use Rattle.acq_lines.specs.Rules.{rules_of}
use Rattle.acq_lines.specs.declared.feed.LineFeed.{LineFeed}
use Rattle.acq_lines.specs.declared.rules.LineRules.{LineRules}
use Rattle.acq_script.specs.declared.script.Plan.{Plan}
use Rattle.mdf_command.specs.Texts.{Prints, numbered}
use Rattle.mdf_command.specs.declared.fault.Fault.{Fault}
use Rattle.mdf_command.specs.declared.fault.Fault.TheVariants as fault_
use Rattle.mdf_rotate.specs.Text.{part_line}
use Rattle.mdf_log.specs.Setup.{rules_in}
use Rattle.mdf_log.specs.Report.{log_status, log_text}
use Rattle.mdf_log.specs.declared.end.LogEnd.{LogEnd}
use Rattle.mdf_log.specs.declared.end.LogEnd.TheVariants.{Closed, Inputs, Refused}
use Rattle.mdf_log.specs.declared.end.SourceEnd.{SourceEnd}
use Rattle.mdf_disk.specs.Served.{Served}
use Rattle.mdf_log.specs.Course.{AreFresh, ClosesAs, Finishes, HasLeft, HasRun, is_calm}
use Rattle.mdf_log.specs.Logged.{DidIn, IsDurableAmong, IsLogged, LogComes, LogRuns, in_order}
use Rattle.mdf_log.specs.Parts.{IsPart, Part, fault_of, recordings_of}
use Rattle.mdf_log.specs.Tap.{TapState, tap_states}
use Rattle.mdf_log.specs.declared.log.Logged.{Logged}
use Rattle.mdf_log.specs.declared.parts.Course.{Course}
use Rattle.mdf_log.specs.declared.tap.Tap.{Tap}
use Rattle.mdf_log.proofs.Ending.{logged}
use Rattle.mdf_log.proofs.Totals.{total_durable}

-- a log of which no part was begun
pub unbegun_runs : (Says : Plan → Type 0) (Refuses : Fault → Type 0) (output : List ℕ) (now : ℕ) (Serves : List Served → Type 0) (olds news : List TapState)
    (sink sink' : SinkState) (end is : LogEnd) (status : ℕ) → end ≡ is → LogComes Says Refuses output now [] olds news is → Serves []
    → Prints (log_text is) (log_status is) sink sink' status → LogRuns Says Refuses output now Serves olds news sink sink' end status
unbegun_runs Says Refuses output now Serves olds news sink sink' end is status same comes serves printed =
    subst (λ (e : LogEnd). LogRuns Says Refuses output now Serves olds news sink sink' e status) (sym same)
    (record { parts = []; comes = comes; serves = serves; printed = printed })

-- what is at a place of a list of what each is made into
made_at : {A B : Type 0} (f : A → B) (xs : List A) (k : ℕ) (y : B) → slice_get (map f xs) k ≡ Some y → (x : A) × (slice_get xs k ≡ Some x) × (f x ≡ y)
made_at f [] k y is = absurd (cc)
made_at f (x ∷ xs) zero y is = let same : f x ≡ y = cc in (x, refl, same)
made_at f (x ∷ xs) (suc k) y is = made_at f xs k y is

made_count : {A B : Type 0} (f : A → B) (xs : List A) → length (map f xs) ≡ length xs
made_count f [] = refl
made_count f (x ∷ xs) = ap suc (made_count f xs)

some_of : {A : Type 0} (xs : List A) (k : ℕ) → k < length xs → A
some_of [] k less = absurd (omega (arith, less))
some_of (x ∷ xs) k less = x

last_at : {A : Type 0} (xs : List A) (x : A) → slice_get (xs ++ x ∷ []) (length xs) ≡ Some x
last_at [] x = refl
last_at (y ∷ xs) x = last_at xs x

not_device : (problem : Option Fault) → is_calm problem ≡ true → problem ≢ Some fault_.Device
not_device problem calm failed = let no : is_calm problem ≡ false = ap is_calm failed in absurd (cc (no, calm))

module _ {S K : Type 0} {tells : source.Ghosts S} (holds : sink.Ghosts K) (plan : Plan) (output : List ℕ) (now : ℕ) (Serves : List Served → Type 0)
    (sink sink' sink'' : SinkState) (rules : LineRules) (ruled : rules_of rules ≡ rules_in plan) (taps : List (Tap S K)) (firsts : List (LineFeed S K tells)) (fresh : AreFresh holds rules taps firsts)
    (count : length firsts ≡ length taps) (sources : length taps ≡ plan.sources) (course : Course S K tells) (has : HasRun holds plan output now Serves sink sink' firsts course)
    (left : Logged S K) (finishes : Finishes holds course sink' sink'' left) where
  abbrev olds : List TapState
  olds = tap_states tells holds taps

  abbrev news : List TapState
  news = tap_states tells holds left.taps.items

  -- all that a source has is durable, where the disk did not fail
  whole : (source : ℕ) (dones : List (List Fed)) → AllZip (DidIn plan.owners source) has.parts dones → (accepted : ℕ) → accepted ≡ length (samples_of (in_order dones)) → is_calm course.fault ≡ true → accepted ≢ 0 → IsDurableAmong plan now has.parts source accepted
  whole source dones did accepted is calm some =
      let number = length has.follow.before in
      let final_is : IsPart plan output now number has.final =
      has.come.each number has.final (ap (λ (ps : List Part). slice_get ps number) has.follow.are ∙ last_at has.follow.before has.final) in
      let calm_end : fault_of has.final.end ≢ Some fault_.Device = λ failed. not_device course.fault calm (has.problem ∙ failed) in
      subst (IsDurableAmong plan now has.parts source) (sym is)
      (subst (λ (ps : List Part). IsDurableAmong plan now ps source (length (samples_of (in_order dones)))) (sym has.follow.are)
      (total_durable plan now source output number has.follow.before has.final final_is has.whole calm_end dones (subst (λ (ps : List Part). AllZip (DidIn plan.owners source) ps dones) has.follow.are did)
      (λ none. some (is ∙ none))))

  source_logged : (source : ℕ) (old new : TapState) (end : SourceEnd) → slice_get olds source ≡ Some old → slice_get news source ≡ Some new → slice_get finishes.ends source ≡ Some end
      → IsLogged plan now has.parts course.fault source old new end
  source_logged source old new end there_old there_new there_end =
      let first_tap = made_at (λ (tap : Tap S K). record { input = source_state tells tap.input; told = sink_state holds tap.told }) taps source old there_old in
      let last_tap = made_at (λ (tap : Tap S K). record { input = source_state tells tap.input; told = sink_state holds tap.told }) left.taps.items source new there_new in
      let less : source < length firsts = omega (arith, count, slice_get_within taps source first_tap.0 first_tap.1) in
      let d = some_of firsts source less in
      let ended = has.sources source d 0 less in
      let less_left : source < length course.feeds.items = omega (arith, less, has.come.count) in
      let begun = subst (λ (tap : Tap S K). IsFresh holds rules source tap.input tap.told (get_or firsts source d)) (get_or_from_slice_get taps source first_tap.0 first_tap.0 first_tap.1)
      (fresh source first_tap.0 d (slice_get_within taps source first_tap.0 first_tap.1)) in
      let gone = subst (λ (tap : Tap S K). HasLeft holds source (get_or course.feeds.items source d) (get_or course.tally.accepted.items source 0) (is_calm course.fault) end tap)
      (get_or_from_slice_get left.taps.items source last_tap.0 last_tap.0 last_tap.1)
      (subst (λ (e : SourceEnd). HasLeft holds source (get_or course.feeds.items source d) (get_or course.tally.accepted.items source 0) (is_calm course.fault) e (get_or left.taps.items source last_tap.0))
      (get_or_from_slice_get finishes.ends source end end there_end)
      (finishes.left source d 0 end last_tap.0 less_left)) in
      let is = logged holds plan now has.parts course.fault source rules ruled first_tap.0.input first_tap.0.told (get_or firsts source d) (get_or course.feeds.items source d) begun
      (get_or course.tally.accepted.items source 0) ended end last_tap.0 gone
      (whole source ended.dones ended.did (get_or course.tally.accepted.items source 0) ended.accepted_is) (has.called source d less) in
      subst (λ (o : TapState). IsLogged plan now has.parts course.fault source o new end) first_tap.2
      (subst (λ (n : TapState). IsLogged plan now has.parts course.fault source (record { input = source_state tells first_tap.0.input; told = sink_state holds first_tap.0.told }) n end) last_tap.2 is)

  closes_as : (Refuses : Fault → Type 0) (end : LogEnd) → ClosesAs course end finishes.ends → LogComes (λ said. said ≡ plan) Refuses output now has.parts olds news end
  closes_as Refuses (Inputs n) closed = absurd closed
  closes_as Refuses (Refused problem) closed = absurd closed
  closes_as Refuses (Closed ends samples durable live problem) closed = record {
    plan = plan;
    says = refl;
    each = has.come.each;
    final = has.final;
    follow = has.follow;
    problem_is = closed.4 ∙ has.problem;
    live_is = closed.3 ∙ has.live;
    samples_is = closed.1 ∙ has.come.samples_are;
    durable_is = closed.2 ∙ has.come.durable_are;
    counts = (
      made_count _ taps ∙ sources,
      made_count _ left.taps.items ∙ omega (arith, finishes.count.1, has.come.count, count, sources),
      omega (arith, ap length closed.0, finishes.count.0, has.come.count, count, sources),
    );
    sources = λ source old new end there_old there_new there_end.
        subst (λ (p : Option Fault). IsLogged plan now has.parts p source old new end) (sym closed.4)
        (source_logged source old new end there_old there_new (ap (λ (es : List SourceEnd). slice_get es source) (sym closed.0) ∙ there_end));
  }

  pub runs : (Refuses : Fault → Type 0) → LogRuns (λ said. said ≡ plan) Refuses output now Serves olds news sink sink'' left.end left.status
  runs Refuses = record {
    parts = has.parts;
    comes = closes_as Refuses left.end finishes.end_is;
    serves = has.come.serves;
    printed = finishes.printed (numbered part_line 0 (recordings_of has.parts)) sink has.come.gives;
  }
