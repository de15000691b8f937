-- How a log begins, and what is said of it in other words.
use Rattle.std.proofs.Common.{◌≡◌, ◌≤◌, ◌<◌, ◌∙◌, ℕ, zero, suc, List, [], ◌∷◌, length, get_or, slice_get, Some, Ok, refl, sym, ap, subst, inl, inr, ⊎_elim, arith}
use Rattle.std.specs.Prelude.{replicate}
use Rattle.std.proofs.lemmas.List.Elements.{All-nil}
use Rattle.mdf_port.specs.State.{SinkState}
use Rattle.mdf_port.proofs.Streams.{appends_none}
use Rattle.mdf_port.specs.declared.source.Source as source
use Rattle.mdf_port.specs.declared.sink.Sink as sink
use Rattle.mdf_spell.specs.Recording.{head_file}
use Rattle.acq_lines.specs.Handled.{IsFresh}
use Rattle.acq_lines.specs.Rules.{rules_of}
use Rattle.acq_lines.specs.Spot.{Fixed, Spot}
use Rattle.acq_lines.specs.Steps.{hands_none}
use Rattle.acq_lines.specs.declared.feed.LineFeed.{LineFeed}
use Rattle.acq_lines.specs.declared.rules.LineRules.{LineRules}
use Rattle.acq_script.specs.declared.script.Plan.{Plan}
use Rattle.mdf_command.specs.declared.fault.Fault.{Fault}
use Rattle.mdf_log.specs.Setup.{rules_in}
use Rattle.mdf_log.specs.declared.end.LogEnd.{LogEnd}
use Rattle.mdf_log.specs.declared.end.LogEnd.TheVariants.{Closed, Inputs, Refused}
use Rattle.mdf_disk.specs.Served.{Served}
use Rattle.mdf_log.specs.Course.{AreFresh, AreRuled, HasGone}
use Rattle.mdf_log.specs.Durable.{IsDurableWhole}
use Rattle.mdf_log.specs.Logged.{IsDurableAmong, LogComes, LogRuns}
use Rattle.mdf_log.specs.Parts.{Part, Precedes}
use Rattle.mdf_log.specs.Tally.{IsNone}
use Rattle.mdf_log.specs.Tap.{TapState, tap_states}
use Rattle.mdf_log.specs.declared.parts.Course.{Course}
use Rattle.mdf_log.specs.declared.tap.Tap.{Tap}

-- there is room for as many
pub wide_for : (count sources room : ℕ) → count ≡ sources → sources ≤ room → count ≤ room
wide_for count sources room is wide = subst (λ n. n ≤ room) (sym is) wide

-- what as many taps tell
pub taps_count : {S K : Type 0} (inputs : source.Ghosts S) (sinks : sink.Ghosts K) (taps : List (Tap S K)) → length (tap_states inputs sinks taps) ≡ length taps
taps_count inputs sinks [] = refl
taps_count inputs sinks (tap ∷ taps) = ap suc (taps_count inputs sinks taps)

no_part : (k : ℕ) (part : Part) → slice_get [] k ≡ Some part → ⊥
no_part k part is = cc

zero_at : (n k d : ℕ) → k < n → get_or (replicate n 0) k d ≡ 0
zero_at zero k d less = absurd (omega (arith, less))
zero_at (suc n) zero d less = refl
zero_at (suc n) (suc k) d less = zero_at n k d (omega (arith, less))

tap_at : {A : Type 0} (xs : List A) (k : ℕ) → k < length xs → A
tap_at [] k less = absurd (omega (arith, less))
tap_at (x ∷ xs) k less = x

module _ {S K : Type 0} {tells : source.Ghosts S} (holds : sink.Ghosts K) (plan : Plan) (rules : LineRules) (ruled : rules_of rules ≡ rules_in plan) (taps : List (Tap S K))
    (feeds : List (LineFeed S K tells)) (fresh : AreFresh holds rules taps feeds) (count : length feeds ≡ length taps) where
  -- the feed of a source
  fresh_at : (number : ℕ) (d : LineFeed S K tells) → number < length feeds → (tap : Tap S K) × IsFresh holds rules number tap.input tap.told (get_or feeds number d)
  fresh_at number d less =
      let within : number < length taps = omega (arith, less, count) in
      let tap = tap_at taps number within in
      (get_or taps number tap, fresh number tap d within)

  pub ruled_first : AreRuled plan feeds
  ruled_first number d less = let is = (fresh_at number d less).1 in record {
    rules = ap (λ (f : Fixed). f.rules) is.fixed_is ∙ ruled;
    number = ap (λ (f : Fixed). f.number) is.fixed_is;
    few = let none = ap (λ (s : Spot). s.steps) is.spot_is in omega (arith, none);
  }

  -- no part was recorded yet
  pub gone_none : (output : List ℕ) (now : ℕ) (Serves : List Served → Type 0) → Serves [] → (told : SinkState) (course : Course S K tells) → course.feeds.items ≡ feeds
      → IsNone (length taps) course.tally → course.given ≡ Ok tt → HasGone holds plan output now Serves told told feeds course
  gone_none output now Serves serves told course same none given = record {
    parts = [];
    come = record {
      each = λ number part is. absurd (no_part number part is);
      serves = serves;
      gives = rw given (record { ok = appends_none told.held; err = tt; cause = record { later = omega arith; failed = tt } });
      parts_are = none.parts;
      samples_are = none.samples;
      durable_are = none.durable;
      count = ap length same;
      counts = ap length none.accepted ∙ long (length taps) ∙ sym count;
    };
    full = All-nil Precedes;
    whole = All-nil (IsDurableWhole plan (head_file plan.form now plan.rows));
    running = λ number d less. (fresh_at number d less).1.running;
    sources = λ number d n less.
        let is = (fresh_at number d less).1 in
        let at : get_or course.feeds.items number d ≡ get_or feeds number d = ap (λ (fs : List (LineFeed S K tells)). get_or fs number d) same in
        record {
          dones = [];
          did = tt;
          served = rw at ((hands_none holds (get_or feeds number d)).0);
          told = ap (λ (f : LineFeed S K tells). f.flushed) at ∙ ap (λ (s : Spot). s.flushed) is.spot_is;
          accepted_is = ap (λ (counts : List ℕ). get_or counts number n) none.accepted ∙ zero_at (length taps) number n (omega (arith, less, count));
          durable = All-nil (IsDurableAmong plan now [] number);
        };
  } where
    long : (n : ℕ) → length {A = ℕ} (replicate n 0) ≡ n
    long zero = refl
    long (suc n) = ap suc (long n)

-- what a log comes to, in other words for what its setup says, and for why there is none
comes_as : (Says Says' : Plan → Type 0) (Refuses Refuses' : Fault → Type 0) → ((plan : Plan) → Says plan → Says' plan) → ((problem : Fault) → Refuses problem → Refuses' problem)
    → (output : List ℕ) (now : ℕ) (parts : List Part) (olds news : List TapState) (end : LogEnd) → LogComes Says Refuses output now parts olds news end
    → LogComes Says' Refuses' output now parts olds news end
comes_as Says Says' Refuses Refuses' says refuses output now parts olds news (Inputs sources) comes = record {
  plan = comes.plan;
  says = says comes.plan comes.says;
  sources_is = comes.sources_is;
  differs = comes.differs;
  none = comes.none;
  same = comes.same;
}
comes_as Says Says' Refuses Refuses' says refuses output now parts olds news (Refused problem) comes = record {
  comes = ⊎_elim (λ refused. inl (refuses problem refused)) (λ memory. inr (memory.0, memory.1, says memory.1 memory.2, memory.3)) comes.comes;
  none = comes.none;
  same = comes.same;
}
comes_as Says Says' Refuses Refuses' says refuses output now parts olds news (Closed ends samples durable live problem) comes = record {
  plan = comes.plan;
  says = says comes.plan comes.says;
  each = comes.each;
  final = comes.final;
  follow = comes.follow;
  problem_is = comes.problem_is;
  live_is = comes.live_is;
  samples_is = comes.samples_is;
  durable_is = comes.durable_is;
  counts = comes.counts;
  sources = comes.sources;
}

pub runs_as : (Says Says' : Plan → Type 0) (Refuses Refuses' : Fault → Type 0) → ((plan : Plan) → Says plan → Says' plan) → ((problem : Fault) → Refuses problem → Refuses' problem)
    → (output : List ℕ) (now : ℕ) (Serves : List Served → Type 0) (olds news : List TapState) (told told' : SinkState) (end : LogEnd) (status : ℕ)
    → LogRuns Says Refuses output now Serves olds news told told' end status → LogRuns Says' Refuses' output now Serves olds news told told' end status
runs_as Says Says' Refuses Refuses' says refuses output now Serves olds news told told' end status runs = record {
  parts = runs.parts;
  comes = comes_as Says Says' Refuses Refuses' says refuses output now runs.parts olds news end runs.comes;
  serves = runs.serves;
  printed = runs.printed;
}
