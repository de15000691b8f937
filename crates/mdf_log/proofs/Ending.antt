-- How a source ends behind the last part of a log.
use Rattle.std.proofs.Common.{◌≡◌, ◌≢◌, ◌≤◌, ◌+◌, ◌-◌, ◌^◌, ◌∙◌, ℕ, zero, suc, Bool, true, false, List, [], ◌∷◌, ◌++◌, length, All, Option, Some, None, refl, sym, ap, subst, inl, inr, ⊎_elim, arith, append-nil, length-append}
use Rattle.std.specs.Prelude.{◌⊎◌, IfSome}
use Rattle.std.specs.Option.{option_to_list}
use Rattle.std.specs.Io.KnownBytes.{Consumes, IsAtEnd}
use Rattle.std.proofs.lemmas.List.Elements.{All-append}
use Rattle.mdf_format.specs.Cause.{Rose}
use Rattle.mdf_port.specs.State.{SourceState, sink_state, source_state}
use Rattle.mdf_port.specs.declared.source.Source as source
use Rattle.mdf_port.specs.declared.sink.Sink as sink
use Rattle.acq_lines.specs.Lines.{nothing}
use Rattle.acq_run.specs.Feeds.{flushes_behind, samples_of}
use Rattle.acq_run.specs.declared.feed.Fed.{Fed}
use Rattle.acq_run.specs.declared.feed.Fed.TheVariants as fed
use Rattle.acq_lines.specs.Act.{pending_behind, read_in}
use Rattle.acq_lines.specs.Handled.{Handled, HaltsAt, IsFresh, Stops, Waits}
use Rattle.acq_lines.specs.Rules.{Rules, rules_of}
use Rattle.acq_lines.specs.Said.{said_in}
use Rattle.acq_lines.specs.Spot.{Fixed, Spot, fixed, spot}
use Rattle.acq_lines.specs.Steps.{tells_more}
use Rattle.acq_lines.specs.Told.{TellsOn}
use Rattle.acq_lines.specs.declared.feed.Halt.{Halt}
use Rattle.acq_lines.specs.declared.feed.Halt.TheVariants as halts
use Rattle.acq_lines.specs.declared.feed.LineFeed.{LineFeed}
use Rattle.acq_lines.specs.declared.rules.LineRules.{LineRules}
use Rattle.acq_script.specs.declared.script.Plan.{Plan}
use Rattle.mdf_command.specs.declared.fault.Fault.{Fault}
use Rattle.mdf_command.specs.declared.fault.Fault.TheVariants as fault_
use Rattle.mdf_log.specs.Setup.{rules_in}
use Rattle.mdf_log.specs.declared.end.SourceEnd.{SourceEnd}
use Rattle.mdf_log.specs.declared.end.Stop.TheVariants as stops
use Rattle.mdf_log.specs.Course.{HasEnded, HasLeft, is_calm, last_of, stop_of}
use Rattle.mdf_log.specs.Logged.{EndsWith, HaltsBy, IsDurableAmong, IsLogged, StopsBy, in_order}
use Rattle.mdf_log.specs.Parts.{Part}
use Rattle.mdf_log.specs.Tap.{TapState}
use Rattle.mdf_log.specs.declared.tap.Tap.{Tap}

-- the last of two lists that end with one more
last_off : {A : Type 0} (xs ys : List A) (x y : A) → xs ++ x ∷ [] ≡ ys ++ y ∷ [] → xs ≡ ys
last_off [] [] x y is = refl
last_off [] (b ∷ []) x y is = absurd (cc)
last_off [] (b ∷ c ∷ ys) x y is = absurd (cc)
last_off (a ∷ []) [] x y is = absurd (cc)
last_off (a ∷ c ∷ xs) [] x y is = absurd (cc)
last_off {A} (a ∷ xs) (b ∷ ys) x y is =
    let heads : a ≡ b = cc in
    let tails : xs ++ x ∷ [] ≡ ys ++ y ∷ [] = cc in
    ap (λ (h : A). h ∷ xs) heads ∙ ap (λ (rest : List A). b ∷ rest) (last_off xs ys x y tails)

-- behind how many samples the flushes stand, in two steps
flushes_more : (n : ℕ) (some more : List Fed) → flushes_behind n (some ++ more) ≡ flushes_behind n some ++ flushes_behind (n + length (samples_of some)) more
flushes_more n [] more = let same : n ≡ n + 0 = omega arith in ap (λ (k : ℕ). flushes_behind k more) same
flushes_more n (fed.Sample sample ∷ some) more =
    let same : (n + 1) + length (samples_of some) ≡ n + length (sample ∷ samples_of some) = omega arith in
    flushes_more (n + 1) some more ∙ ap (λ (k : ℕ). flushes_behind (n + 1) some ++ flushes_behind k more) same
flushes_more n (fed.Flush ∷ some) more = ap (λ (rest : List ℕ). n ∷ rest) (flushes_more n some more)
flushes_more n (fed.End ∷ some) more = flushes_more n some more

-- It was told of each flush that was done, and of none that was not.
told_numbers : (done rest : List Fed) (numbers : List ℕ) (flushed : Option ℕ) → length rest ≤ 1
    → (rest ≡ [] → flushed ≡ None)
    → ((sample : _) → rest ≡ fed.Sample sample ∷ [] → flushed ≡ None)
    → (rest ≡ fed.Flush ∷ [] → (n : ℕ) × (flushed ≡ Some n))
    → (rest ≡ fed.End ∷ [] → ⊥)
    → numbers ++ option_to_list flushed ≡ flushes_behind 0 (done ++ rest)
    → numbers ≡ flushes_behind 0 done
told_numbers done [] numbers flushed one none sample flush end told =
    sym (append-nil numbers) ∙ ap (λ (f : Option ℕ). numbers ++ option_to_list f) (sym (none refl)) ∙ told ∙ ap (flushes_behind 0) (append-nil done)
told_numbers done (fed.Sample s ∷ []) numbers flushed one none sample flush end told =
    sym (append-nil numbers) ∙ ap (λ (f : Option ℕ). numbers ++ option_to_list f) (sym (sample s refl)) ∙ told
    ∙ flushes_more 0 done (fed.Sample s ∷ []) ∙ append-nil (flushes_behind 0 done)
told_numbers done (fed.Flush ∷ []) numbers flushed one none sample flush end told =
    let some = flush refl in
    last_off numbers (flushes_behind 0 done) some.0 (0 + length (samples_of done))
    (ap (λ (f : Option ℕ). numbers ++ option_to_list f) (sym some.1) ∙ told ∙ flushes_more 0 done (fed.Flush ∷ []))
told_numbers done (fed.End ∷ []) numbers flushed one none sample flush end told = absurd (end refl)
told_numbers done (a ∷ b ∷ rest) numbers flushed one none sample flush end told = absurd (omega (arith, one))

-- Where no sample is left that no flush stands behind, the last flush stands behind all of them, or there is none of either.
ends_from : (n : ℕ) (pending : Bool) (feds : List Fed) → pending_behind pending feds ≡ false
    → ((pending ≡ false) × (samples_of feds ≡ []) × (flushes_behind n feds ≡ [])) ⊎ EndsWith (flushes_behind n feds) (n + length (samples_of feds))
ends_from n pending [] is = inl (is, refl, refl)
ends_from n pending (fed.Sample sample ∷ feds) is = ⊎_elim
    (λ none. let no : true ≡ false = none.0 in absurd (cc no))
    (λ ends. let same : n + 1 + length (samples_of feds) ≡ n + length (sample ∷ samples_of feds) = omega arith in
    inr (ends.0, ends.1 ∙ ap (λ (k : ℕ). ends.0 ++ k ∷ []) same))
    (ends_from (n + 1) true feds is)
ends_from n pending (fed.Flush ∷ feds) is = ⊎_elim
    (λ none. let same : n ≡ n + length (samples_of feds) = omega (arith, ap length none.1) in
    inr ([], ap (λ (rest : List ℕ). n ∷ rest) none.2 ∙ ap (λ (k : ℕ). k ∷ []) same))
    (λ ends. inr (n ∷ ends.0, ap (λ (rest : List ℕ). n ∷ rest) ends.1))
    (ends_from n false feds is)
ends_from n pending (fed.End ∷ feds) is = ends_from n pending feds is

pub ends_with : (feds : List Fed) → pending_behind false feds ≡ false → length (samples_of feds) ≢ 0 → EndsWith (flushes_behind 0 feds) (length (samples_of feds))
ends_with feds is some =
    let same : 0 + length (samples_of feds) ≡ length (samples_of feds) = omega arith in
    subst (EndsWith (flushes_behind 0 feds)) same (⊎_elim
    (λ none. absurd (some (ap length none.1)))
    (λ ends. ends)
    (ends_from 0 false feds is))

-- what is told at last
last_all : (P : ℕ → Type 0) (halt : Option Halt) (calm : Bool) (n : ℕ) → (calm ≡ true → n ≢ 0 → P n) → All P (last_of halt calm n)
last_all P None true zero is k d within = absurd (omega (arith, within))
last_all P None true (suc n) is zero d within = is refl (λ none. absurd (omega (arith, none)))
last_all P None true (suc n) is (suc k) d within = absurd (omega (arith, within))
last_all P None false n is k d within = absurd (omega (arith, within))
last_all P (Some halt) calm n is k d within = absurd (omega (arith, within))

last_so : (halt : Option Halt) (calm : Bool) (n : ℕ) → (last_of halt calm n ≡ []) ⊎ ((halt ≡ None) × (last_of halt calm n ≡ n ∷ []))
last_so None true zero = inl refl
last_so None true (suc n) = inr (refl, refl)
last_so None false n = inl refl
last_so (Some halt) calm n = inl refl

-- why a feed halted that stopped so
stopped_by : (halt : Option Halt) (why : Halt) → stop_of halt ≡ stops.Halted why → halt ≡ Some why
stopped_by None why is = absurd (cc is)
stopped_by (Some halt) why is = cc

-- each line says one thing
said_length : (rules : Rules) (number : ℕ) (lines : List (Option (List ℕ))) → length (said_in rules number lines) ≡ length lines
said_length rules number [] = refl
said_length rules number (line ∷ lines) = ap suc (said_length rules number lines)

last_some : (n : ℕ) → n ≢ 0 → last_of None true n ≡ n ∷ []
last_some zero some = absurd (some refl)
last_some (suc n) some = refl

calm_of : (problem : Option Fault) → problem ≢ Some fault_.Device → is_calm problem ≡ true
calm_of None other = refl
calm_of (Some fault_.Device) other = absurd (other refl)
calm_of (Some _) other = refl

-- a source whose feed was made of a tap
module _ {S K : Type 0} {tells : source.Ghosts S} (holds : sink.Ghosts K) (plan : Plan) (now : ℕ) (parts : List Part) (problem : Option Fault) (source : ℕ)
    (rules : LineRules) (ruled : rules_of rules ≡ rules_in plan) (input : S) (told : K) (first feed : LineFeed S K tells) (fresh : IsFresh holds rules source input told first)
    (accepted : ℕ) (ended : HasEnded holds plan now parts problem source first feed accepted) (end : SourceEnd) (tap : Tap S K)
    (left : HasLeft holds source feed accepted (is_calm problem) end tap)
    (whole : is_calm problem ≡ true → accepted ≢ 0 → IsDurableAmong plan now parts source accepted)
    (called : feed.halt ≡ Some halts.Called → (problem ≢ None) ⊎ (length parts ≡ 2 ^ 64 - 1)) where
  abbrev pub old : TapState
  old = record { input = source_state tells input; told = sink_state holds told }

  abbrev pub new : TapState
  new = record { input = source_state tells tap.input; told = sink_state holds tap.told }

  abbrev at : Fixed
  at = record { rules = rules_in plan; number = source; first_faults = tells.faults input }

  abbrev begun : Spot
  begun = record {
    input = source_state tells input;
    unread = nothing;
    pending = false;
    over = false;
    steps = 0;
    bad = 0;
    count = 0;
    flushed = None;
    deaf = false;
    told = sink_state holds told;
  }

  abbrev done : List Fed
  done = in_order ended.dones

  abbrev here : Spot
  here = spot holds feed

  first_at : fixed first ≡ at
  first_at = fresh.fixed_is ∙ ap (λ r. record { rules = r; number = source; first_faults = tells.faults input }) ruled

  handled : Handled at begun (done ++ ended.rest) here
  handled = subst (λ (s : Spot). Handled at s (done ++ ended.rest) here) fresh.spot_is
      (subst (λ (f : Fixed). Handled f (spot holds first) (done ++ ended.rest) here) first_at ended.served.handled)

  stops_at : (halt : Halt) → feed.halt ≡ Some halt → Stops holds feed halt
  stops_at halt is = subst (λ (h : Option Halt). IfSome h (Stops holds feed)) is (ended.served.stops (subst (λ (h : Option Halt). IfSome h (Stops holds first)) (sym fresh.running) tt))

  heard : handled.numbers ≡ flushes_behind 0 done
  heard = told_numbers done ended.rest handled.numbers feed.flushed ended.one ended.told
      (λ sample is. (ended.waiting (fed.Sample sample) is).1)
      (λ is. (feed.count, (ended.waiting fed.Flush is).1))
      (λ is. ended.waiting fed.End is)
      handled.told_are

  none_left : (halt : Halt) → feed.halt ≡ Some halt → ended.rest ≡ []
  none_left halt is = go ended.rest ended.one ended.waiting where
    go : (rest : List Fed) → length rest ≤ 1 → ((task : Fed) → rest ≡ task ∷ [] → Waits feed task) → rest ≡ []
    go [] one waits = refl
    go (fed.Sample sample ∷ []) one waits = let none : feed.halt ≡ None = (waits (fed.Sample sample) refl).0 in absurd (cc (none, is))
    go (fed.Flush ∷ []) one waits = let none : feed.halt ≡ None = (waits fed.Flush refl).0 in absurd (cc (none, is))
    go (fed.End ∷ []) one waits = absurd (waits fed.End refl)
    go (a ∷ b ∷ rest) one waits = absurd (omega (arith, one))

  halts_by : (halt : Halt) → ended.rest ≡ [] → HaltsAt at here halt → HaltsBy plan old new (said_in (rules_in plan) source handled.lines) (length done) here.unread halt
  halts_by halts.Input none cause = (subst (λ (s : SourceState). IsAtEnd s.left) (sym left.input_is) cause.0, cause.1)
  halts_by halts.Line none cause = sym handled.over_is ∙ cause
  halts_by halts.Failed none cause = (subst (λ (s : SourceState). Rose (tells.faults input) s.faults) (sym left.input_is) cause.0, cause.1)
  halts_by halts.Memory none cause = cause
  halts_by halts.Count none cause =
      omega (arith, cause, handled.most, said_length (rules_in plan) source handled.lines, length-append done ended.rest, ap length none)
  halts_by halts.Called none cause = cause

  stops_by : (halt : Option Halt) → feed.halt ≡ halt → StopsBy plan old new (said_in (rules_in plan) source handled.lines) (length done) here.unread ended.rest problem (stop_of halt)
  stops_by None is = (ended.one, λ none. let well = ended.well none in let some : feed.halt ≡ Some well.halt = well.halt_is in absurd (cc (some, is)))
  stops_by (Some halt) is = (
    none_left halt is,
    halts_by halt (none_left halt is) (subst (λ (f : Fixed). HaltsAt f here halt) (ended.served.fixed_is ∙ first_at) (stops_at halt is).cause),
  )

  ends_at : (halt : Option Halt) → feed.halt ≡ halt → is_calm problem ≡ true → accepted ≢ 0 → EndsWith (handled.numbers ++ last_of halt true accepted) accepted
  ends_at None is calm some = (handled.numbers, ap (λ (rest : List ℕ). handled.numbers ++ rest) (last_some accepted some))
  ends_at (Some halt) is calm some =
      let committed : pending_behind false done ≡ false =
      ap (pending_behind false) (sym (append-nil done) ∙ ap (λ (rest : List Fed). done ++ rest) (sym (none_left halt is))) ∙ sym handled.pending_is ∙ (stops_at halt is).committed in
      let ends = ends_with done committed (λ none. some (ended.accepted_is ∙ none)) in
      (ends.0, append-nil handled.numbers ∙ heard ∙ ends.1 ∙ ap (λ (n : ℕ). ends.0 ++ n ∷ []) (sym ended.accepted_is))

  told_all : problem ≢ Some fault_.Device → end.accepted ≢ 0 → EndsWith (flushes_behind 0 done ++ last_of feed.halt (is_calm problem) accepted) end.accepted
  told_all other some =
      subst (λ (numbers : List ℕ). EndsWith (numbers ++ last_of feed.halt (is_calm problem) accepted) end.accepted) heard
      (subst (λ (n : ℕ). EndsWith (handled.numbers ++ last_of feed.halt (is_calm problem) accepted) n) (sym left.accepted_is)
      (subst (λ (calm : Bool). EndsWith (handled.numbers ++ last_of feed.halt calm accepted) accepted) (sym (calm_of problem other))
      (ends_at feed.halt refl (calm_of problem other) (λ none. some (left.accepted_is ∙ none)))))

  pub logged : IsLogged plan now parts problem source old new end
  logged = record {
    bytes = read_in handled.acts;
    taken = subst (λ (s : SourceState). Consumes (tells.left input) s.left (read_in handled.acts)) (sym left.input_is) handled.taken;
    calm = λ other. ap (λ (s : SourceState). s.faults) left.input_is ∙ ended.served.calm (λ failed. other (left.stop_is ∙ ap stop_of failed))
        ∙ ap (λ (s : Spot). s.input.faults) fresh.spot_is;
    lines = handled.lines;
    rest = here.unread;
    reads = handled.reads;
    ends_last = handled.ends_last;
    dones = ended.dones;
    did = ended.did;
    refused = ended.rest;
    says = handled.says;
    bad_is = omega (arith, left.bad_is, handled.bad_is);
    cut_is = left.cut_is;
    accepted_is = left.accepted_is ∙ ended.accepted_is;
    stopped = subst (StopsBy plan old new (said_in (rules_in plan) source handled.lines) (length done) here.unread ended.rest problem) (sym left.stop_is) (stops_by feed.halt refl);
    called = λ is. called (stopped_by feed.halt halts.Called (sym left.stop_is ∙ is));
    last = last_of feed.halt (is_calm problem) accepted;
    last_is = ⊎_elim (λ is. inl is) (λ is. inr (left.stop_is ∙ ap stop_of is.0, is.1 ∙ ap (λ (n : ℕ). n ∷ []) (sym left.accepted_is)))
        (last_so feed.halt (is_calm problem) accepted);
    told = subst (λ (numbers : List ℕ). TellsOn false end.deaf old.told new.told source (numbers ++ last_of feed.halt (is_calm problem) accepted)) heard
        (tells_more source false here.deaf end.deaf old.told here.told new.told handled.numbers (last_of feed.halt (is_calm problem) accepted) handled.told left.told);
    durable = All-append (IsDurableAmong plan now parts source) (flushes_behind 0 done) (last_of feed.halt (is_calm problem) accepted) ended.durable
        (last_all (IsDurableAmong plan now parts source) feed.halt (is_calm problem) accepted whole);
    told_all = told_all;
  }
