-- How a log goes on by one part.
use Rattle.std.proofs.Common.{◌≡◌, ◌≢◌, ◌≤◌, ◌<◌, ◌+◌, ◌-◌, ◌^◌, ◌∙◌, ℕ, zero, suc, Bool, true, false, List, [], ◌∷◌, ◌++◌, length, map, get_or, All, Option, Some, None, refl, sym, ap, subst, inl, inr, ⊎_elim, arith, length-append}
use Rattle.std.specs.Prelude.{◌⊎◌, ◌||◌}
use Rattle.std.specs.List.{list_any}
use Rattle.std.proofs.lemmas.Bool.Decides.{leb_tells}
use Rattle.mdf_disk.specs.State.{DiskState}
use Rattle.mdf_port.specs.State.{SinkState}
use Rattle.mdf_port.specs.declared.source.Source as source
use Rattle.mdf_port.specs.declared.sink.Sink as sink
use Rattle.mdf_spell.specs.Recording.{head_file}
use Rattle.book_owned.specs.Kept.{MarksHold}
use Rattle.book_owned.specs.Marks.{durable}
use Rattle.acq_run.specs.Feeds.{samples_of}
use Rattle.acq_run.specs.declared.feed.Fed.{Fed}
use Rattle.acq_run.specs.declared.feed.Fed.TheVariants as fed
use Rattle.acq_lines.specs.Handled.{Halts, Hands, Resumes, Serves, Waits}
use Rattle.acq_lines.specs.Rules.{MayCome, Rules}
use Rattle.acq_lines.specs.Spot.{Fixed, fixed, spot}
use Rattle.acq_lines.specs.declared.feed.Halt.TheVariants.{Called}
use Rattle.acq_lines.specs.declared.feed.LineFeed.{LineFeed}
use Rattle.acq_run.specs.Ran.{AllEnded}
use Rattle.acq_run.specs.Workers.{CanHand}
use Rattle.acq_run.specs.declared.work.Driven.{Driven}
use Rattle.acq_run.specs.declared.work.Ended.TheVariants as work
use Rattle.acq_script.specs.declared.script.Plan.{Plan}
use Rattle.acq_script.specs.declared.script.Script.{Script}
use Rattle.acq_script.specs.declared.script.Task.TheVariants as task
use Rattle.mdf_command.specs.Texts.{Gives, numbered}
use Rattle.mdf_command.specs.declared.fault.Fault.{Fault}
use Rattle.mdf_record.specs.Feeds.{AllMayRecord, IsFedOf}
use Rattle.mdf_record.specs.Record.{Outcome}
use Rattle.mdf_record.specs.Recorded.{RecordComes}
use Rattle.mdf_record.specs.Sources.{feds_of}
use Rattle.mdf_record.specs.declared.record.RecordEnd.{RecordEnd}
use Rattle.mdf_record.specs.declared.record.RecordEnd.TheVariants.{Refused, Closed}
use Rattle.mdf_rotate.specs.Text.{part_line}
use Rattle.mdf_log.specs.Setup.{rules_in}
use Rattle.mdf_disk.specs.Served.{Served}
use Rattle.mdf_log.specs.Course.{AreRuled, ComeTo, HasEnded, HasGone, HasMoved, HasRun, HasServed, IsNextPart, IsRuled, is_called, is_called_off}
use Rattle.mdf_log.specs.Durable.{IsDurableWhole}
use Rattle.mdf_log.specs.Logged.{in_order}
use Rattle.mdf_log.specs.Part.{PartComes}
use Rattle.mdf_log.specs.Parts.{Part, Precedes, durable_of, fault_of, lefts_of, recordings_of, served_by, served_of}
use Rattle.mdf_log.specs.declared.parts.Course.{Course}
use Rattle.mdf_log.specs.declared.tally.Tally.{Tally}
use Rattle.mdf_log.proofs.Behind.{all_behind, durable_behind, lines_behind, map_behind, parts_behind, samples_behind, served_behind}
use Rattle.mdf_log.proofs.Moving.{Moves, handed_count}
use Rattle.mdf_log.proofs.Serving.{has_ended, has_served}
use Rattle.mdf_log.proofs.Totals.{hold_of, whole_of}

-- what may come of a source is a task of it that fits
may_fed : (plan : Plan) (source : ℕ) (one : Fed) → MayCome (rules_in plan) source one → IsFedOf plan source one
may_fed plan source (fed.Sample sample) may = record { task = task.Sample sample; fed_is = refl; fits = (may.fits, may.size); own = may.owned }
may_fed plan source fed.Flush may = record { task = task.Flush; fed_is = refl; fits = tt; own = tt }
may_fed plan source fed.End may = absurd may

-- a source worked for each feed, or none did
ended_count : {F : Type 0} (ends : F → Type 0) (all : List Driven) (feeds : List F) → AllEnded ends all feeds → length all ≡ length feeds
ended_count ends [] [] ended = refl
ended_count ends [] (feed ∷ feeds) ended = absurd ended
ended_count ends (driven ∷ all) [] ended = absurd ended
ended_count ends (driven ∷ all) (feed ∷ feeds) ended = ap suc (ended_count ends all feeds ended.1)

-- one of these is, by its place
any_at : {A : Type 0} (test : A → Bool) (xs : List A) (k : ℕ) (d : A) → k < length xs → test (get_or xs k d) ≡ true → list_any test xs ≡ true
any_at test [] k d less is = absurd (omega (arith, less))
any_at test (x ∷ xs) zero d less is = ap (λ (one : Bool). one || list_any test xs) is
any_at test (x ∷ xs) (suc k) d less is = or_second (test x) (list_any test xs) (any_at test xs k d (omega (arith, less)) is) where
  or_second : (a b : Bool) → b ≡ true → (a || b) ≡ true
  or_second true b is = refl
  or_second false b is = is

pub all_few : {F : Type 0} (hands : F → List Fed → F → Type 0) (waits : F → Fed → Type 0) (ends : F → Type 0) (plan : Plan) (name : List ℕ) (now : ℕ) (disk : DiskState) (left : Outcome) (feeds feeds' : List F)
    (all : List Driven) (end : RecordEnd) → PartComes hands waits ends plan name now disk left feeds feeds' all end → length all ≤ length feeds
all_few hands waits ends plan name now disk left feeds feeds' all end part = ⊎_elim
    (λ idle. omega (arith, ap length idle.none))
    (λ have. omega (arith, ended_count ends all feeds' have.ended, handed_count hands feeds (map feds_of part.script.lists) feeds' part.handed))
    part.did

-- how many samples of a part are durable
pub durable_is : (Says : Script → Type 0) (Refuses : Fault → Type 0) (name : List ℕ) (now : ℕ) (disk : DiskState) (left : Outcome) (end : RecordEnd) → RecordComes Says Refuses name now disk left end
    → durable_of end ≡ durable left.marks
durable_is Says Refuses name now disk left (Refused problem) comes = ap durable (sym comes.marks)
durable_is Says Refuses name now disk left (Closed accepted samples last live problem seen) comes = comes.durable_is

-- a source that did nothing
pub idle : Driven
idle = record { accepted = 0; ended = work.Running }

module _ {S K : Type 0} {tells : source.Ghosts S} (holds : sink.Ghosts K) where
  -- whatever a feed of a plan hands in, it stays one
  pub ruled_on : (plan : Plan) (source : ℕ) (first feed : LineFeed S K tells) (feds : List Fed) → IsRuled plan source first → Serves holds first feds feed → IsRuled plan source feed
  ruled_on plan source first feed feds ruled served = record {
    rules = ap (λ (f : Fixed). f.rules) served.fixed_is ∙ ruled.rules;
    number = ap (λ (f : Fixed). f.number) served.fixed_is ∙ ruled.number;
    few = served.handled.few ruled.few;
  }

  may_of : (plan : Plan) (source : ℕ) (feed : LineFeed S K tells) → IsRuled plan source feed → (feds : List Fed) → CanHand (Hands holds) feed feds
      → All (IsFedOf plan source) feds × (length feds < 2 ^ 64)
  may_of plan source feed ruled feds can =
      let handled = can.1.0.handled in
      let may : All (MayCome (rules_in plan) source) feds =
      subst (λ (n : ℕ). All (MayCome (rules_in plan) n) feds) ruled.number (subst (λ (r : Rules). All (MayCome r (fixed feed).number) feds) ruled.rules handled.may) in
      let few : (spot holds can.0).steps < 2 ^ 64 = handled.few ruled.few in
      let steps : feed.steps + length feds ≤ (spot holds can.0).steps = handled.steps in (
        λ k d within. may_fed plan source (get_or feds k d) (may k d within),
        omega (arith, few, steps),
      )

  may_from : (plan : Plan) (source : ℕ) (feeds : List (LineFeed S K tells)) → ((k : ℕ) (d : LineFeed S K tells) → k < length feeds → IsRuled plan (source + k) (get_or feeds k d))
      → AllMayRecord (Hands holds) plan source feeds
  may_from plan source [] ruled = tt
  may_from plan source (feed ∷ feeds) ruled =
      let none : source + 0 ≡ source = omega arith in (
        may_of plan source feed (subst (λ (n : ℕ). IsRuled plan n feed) none (ruled 0 feed (omega arith))),
        may_from plan (suc source) feeds (λ k d within.
            let next : source + suc k ≡ suc source + k = omega arith in
            subst (λ (n : ℕ). IsRuled plan n (get_or feeds k d)) next (ruled (suc k) d (omega (arith, within)))),
      )

  pub may_record : (plan : Plan) (feeds : List (LineFeed S K tells)) → AreRuled plan feeds → AllMayRecord (Hands holds) plan 0 feeds
  may_record plan feeds ruled = may_from plan 0 feeds (λ k d within.
      let same : k ≡ 0 + k = omega arith in subst (λ (n : ℕ). IsRuled plan n (get_or feeds k d)) same (ruled k d within))

  -- what a source did in a part, and how many of its samples were accepted by then
  pub moved : (plan : Plan) (part : Part) (source : ℕ) (old new : LineFeed S K tells) (before behind : ℕ) (all : List Driven) (driven : Driven)
      → Moves (Hands holds) Waits Halts plan part.left part.end (map feds_of part.script.lists) all source driven old new
      → (source < length all → behind ≡ before + (get_or all source driven).accepted)
      → (length all ≤ source → behind ≡ before)
      → HasMoved holds plan part source old new before behind
  moved plan part source old new before behind all driven moves some none =
      let worked : source < length all → behind ≡ before + length (samples_of moves.done) = λ less. omega (arith, some less, moves.counted less) in
      let none_worked : length all ≤ source → behind ≡ before + length (samples_of moves.done) =
      λ more. omega (arith, none more, ap (λ (done : List Fed). length (samples_of done)) (moves.uncounted more)) in
      record {
        done = moves.done;
        did = record { rest = moves.rest; handed = moves.handed; one = moves.one; own = moves.own };
        hands = moves.hands_is;
        marked = moves.marked;
        counted = ⊎_elim (λ more. none_worked more.1) (λ less. worked less.1) (leb_tells (length all) source);
        waiting = moves.waiting;
        still = moves.still;
        well = moves.well;
        left = λ on. ⊎_elim (λ full. moves.left_is full.full full.some) (λ well. inl (moves.all_done well, moves.well well)) on;
      }

  -- a log that went on by one part
  module _ (plan : Plan) (output : List ℕ) (now : ℕ) (S0 S1 S2 : List Served → Type 0)
      (serves_more : (some more : List Served) → S0 some → S1 more → S2 (some ++ more))
      (sink sink' sink'' : SinkState) (firsts : List (LineFeed S K tells)) (before behind : Course S K tells) (on : Bool)
      (gone : HasGone holds plan output now S0 sink sink' firsts before) (next : IsNextPart holds plan output now S1 sink' sink'' before behind on) where
    abbrev parts : List Part
    parts = gone.parts ++ next.part ∷ []

    served_disks : S2 (served_by parts)
    served_disks = subst S2 (sym (served_behind gone.parts next.part)) (serves_more (served_by gone.parts) (served_of next.part) gone.come.serves next.serves)

    parts_count : behind.tally.parts ≡ length parts
    parts_count = omega (arith, next.parts, gone.come.parts_are, length-append gone.parts (next.part ∷ []))

    come : (later : Course S K tells) → later.tally ≡ behind.tally → later.given ≡ behind.given → length later.feeds.items ≡ length behind.feeds.items
        → ComeTo plan output now S2 sink sink'' parts firsts later
    come later tally given count = record {
      each = parts_behind plan output now gone.parts next.part before.tally.parts gone.come.parts_are gone.come.each next.is_part;
      serves = served_disks;
      gives = subst (λ g. Gives (numbered part_line 0 (recordings_of parts)) sink sink'' g) (sym given)
          (subst (λ (text : List ℕ). Gives text sink sink'' behind.given) (lines_behind gone.parts next.part before.tally.parts gone.come.parts_are)
          (next.gives (numbered part_line 0 (recordings_of gone.parts)) sink gone.come.gives));
      parts_are = ap (λ (t : Tally). t.parts) tally ∙ parts_count;
      samples_are = ap (λ (t : Tally). t.samples) tally ∙ omega (arith, next.samples, gone.come.samples_are, samples_behind gone.parts next.part);
      durable_are = ap (λ (t : Tally). t.durable) tally ∙ omega (arith, next.durable_is, gone.come.durable_are, durable_behind gone.parts next.part);
      count = omega (arith, count, next.count, gone.come.count);
      counts = ap (λ (t : Tally). length t.accepted.items) tally ∙ next.counts ∙ gone.come.counts;
    }

    hold : MarksHold plan.shapes (head_file plan.form now plan.rows) next.part.left.disk.story next.part.left.disk.moment next.part.left.history next.part.left.marks
    hold = hold_of plan output now before.tally.parts next.part next.is_part

    -- a source at its place
    less_before : (source : ℕ) → source < length firsts → source < length before.feeds.items
    less_before source less = omega (arith, less, gone.come.count)

    -- where nothing went wrong in the last part no source was called off, but behind as many as can be numbered
    called : (on ≡ true → behind.tally.parts ≡ 2 ^ 64 - 1) → (source : ℕ) (d : LineFeed S K tells) → source < length behind.feeds.items → (get_or behind.feeds.items source d).halt ≡ Some Called
        → (problem : Option Fault) → behind.fault ≡ problem → (behind.fault ≢ None) ⊎ (length parts ≡ 2 ^ 64 - 1)
    called stops source d less is (Some problem) has = inl (λ none. absurd (cc (has, none)))
    called stops source d less is None has =
        inr (sym parts_count ∙ stops (next.on_is.1 (inr (sym next.problem ∙ has, any_at is_called behind.feeds.items source d less (ap is_called_off is)))))

    -- behind the last part
    pub run : (on ≡ true → behind.tally.parts ≡ 2 ^ 64 - 1) → HasRun holds plan output now S2 sink sink'' firsts behind
    run stops = record {
      parts = parts;
      come = come behind refl refl refl;
      final = next.part;
      follow = record { before = gone.parts; are = refl; full = gone.full; over = λ goes. sym parts_count ∙ stops (next.on_is.1 (inl goes)) };
      whole = gone.whole;
      problem = next.problem;
      live = next.live;
      called = λ source d less is. called stops source d (omega (arith, less, next.count, gone.come.count)) is behind.fault refl;
      sources = λ source d n less.
          subst (λ (problem : Option Fault). HasEnded holds plan now parts problem source (get_or firsts source d) (get_or behind.feeds.items source d) (get_or behind.tally.accepted.items source n)) (sym next.problem)
          (has_ended plan now gone.parts next.part source gone.whole hold holds (get_or firsts source d) (get_or before.feeds.items source d) (get_or behind.feeds.items source d) (gone.running source d less)
          (get_or before.tally.accepted.items source n) (get_or behind.tally.accepted.items source n) (gone.sources source d n less) (next.sources source d n (less_before source less)) (fault_of next.part.end) refl);
    }

    -- and where it goes on, with its feeds taken up
    pub gone_on : on ≡ true → (later : Course S K tells) → later.tally ≡ behind.tally → later.given ≡ behind.given → length later.feeds.items ≡ length behind.feeds.items
        → ((source : ℕ) (d : LineFeed S K tells) → source < length behind.feeds.items → Resumes holds (get_or behind.feeds.items source d) (get_or later.feeds.items source d))
        → HasGone holds plan output now S2 sink sink'' firsts later
    gone_on goes later tally given count resumes =
        let full : Precedes next.part = ⊎_elim (λ on. inl on) (λ well. inr well.0) (next.on_is.0 goes) in
        record {
          parts = parts;
          come = come later tally given count;
          full = all_behind Precedes gone.parts next.part gone.full full;
          whole = subst (All (IsDurableWhole plan (head_file plan.form now plan.rows))) (sym (map_behind (λ (part : Part). part.left) gone.parts next.part))
              (all_behind (IsDurableWhole plan (head_file plan.form now plan.rows)) (lefts_of gone.parts) next.part.left gone.whole
              (whole_of plan output now before.tally.parts next.part next.is_part full));
          running = gone.running;
          sources = λ source d n less.
              subst (λ (t : Tally). HasServed holds plan now parts source (get_or firsts source d) (get_or later.feeds.items source d) (get_or t.accepted.items source n)) (sym tally)
              (has_served plan now gone.parts next.part source gone.whole hold holds (get_or firsts source d) (get_or before.feeds.items source d) (get_or behind.feeds.items source d) (gone.running source d less)
              (get_or before.tally.accepted.items source n) (get_or behind.tally.accepted.items source n) (gone.sources source d n less) (next.sources source d n (less_before source less))
              (get_or later.feeds.items source d) full (resumes source d (omega (arith, less, next.count, gone.come.count))));
        }

  -- the feeds of a log that goes on are of its plan as the first were
  pub still_ruled : (plan : Plan) (output : List ℕ) (now : ℕ) (S0 : List Served → Type 0) (sink sink' : SinkState) (firsts : List (LineFeed S K tells)) (course : Course S K tells)
      → AreRuled plan firsts → HasGone holds plan output now S0 sink sink' firsts course → AreRuled plan course.feeds.items
  still_ruled plan output now S0 sink sink' firsts course ruled gone source d less =
      let at : source < length firsts = omega (arith, less, gone.come.count) in
      let served = gone.sources source d 0 at in
      ruled_on plan source (get_or firsts source d) (get_or course.feeds.items source d) (in_order served.dones) (ruled source d at) served.served
