-- What a feed of lines did in two steps, it did.
use Rattle.std.proofs.Common.{◌≡◌, ◌∙◌, sym, ap, refl, subst, inl, inr, ⊎_elim, ℕ, ◌+◌, Bool, true, false, List, [], ◌∷◌, ◌++◌, length, Option, Some, None, arith, append_assoc, append-nil, length-append}
use Rattle.std.specs.Prelude.{◌||◌}
use Rattle.std.specs.Option.{option_to_list}
use Rattle.std.specs.Io.KnownBytes.{Appends, Consumes}
use Rattle.std.proofs.lemmas.List.Elements.{All-append}
use mathlib.Core.List.{IsPrefix}
use Rattle.mdf_format.specs.Cause.{Rose}
use Rattle.mdf_port.specs.State.{SinkState}
use Rattle.mdf_port.proofs.Streams.{appends_more, appends_none, consumes_more}
use Rattle.mdf_port.specs.declared.source.Source as source
use Rattle.mdf_port.specs.declared.sink.Sink as sink
use Rattle.acq_run.specs.Feeds.{flushes_behind, samples_of}
use Rattle.acq_run.specs.declared.feed.Fed.{Fed}
use Rattle.acq_run.specs.declared.feed.Fed.TheVariants as fed
use Rattle.acq_lines.specs.Lines.{Reads, Unread, lines_behind}
use Rattle.acq_lines.specs.Act.{Act, AreCommitted, handed_in, pending_behind, pending_with, read_in}
use Rattle.acq_lines.specs.Act as act
use Rattle.acq_lines.specs.Handled.{ComesNext, EndsWanted, Handled, Hands, InOnePart, Serves}
use Rattle.acq_lines.specs.Rules.{MayCome, Rules}
use Rattle.acq_lines.specs.Said.{AreFlushedMore, EndsLast, bad_in, feds_for, feds_in, is_end, is_ended, said_by, said_in}
use Rattle.acq_lines.specs.Spot.{Fixed, Spot, fixed, spot, spot_before}
use Rattle.acq_lines.specs.Told.{TellsOn, durable_line, durable_lines}
use Rattle.acq_lines.specs.declared.feed.Halt.{Halt}
use Rattle.acq_lines.specs.declared.feed.Halt.TheVariants.{Failed}
use Rattle.acq_lines.specs.declared.feed.LineFeed.{LineFeed}

-- what was read of lines in two steps, one after the other
pub reads_more : (first second third : Unread) (xs ys : List ℕ) (lines more : List (Option (List ℕ))) → Reads first xs lines second
    → Reads second ys more third → Reads first (xs ++ ys) (lines ++ more) third
reads_more first second third xs ys lines more one two = record {
  each = λ later.
      ap (lines_behind first) (append_assoc xs ys later) ∙ one.each (ys ++ later) ∙ ap (λ (rest : List (Option (List ℕ))). lines ++ rest) (two.each later)
      ∙ sym (append_assoc lines more (lines_behind third later));
}

-- acts behind acts
read_more : (some more : List Act) → read_in (some ++ more) ≡ read_in some ++ read_in more
read_more [] more = refl
read_more (act.Read bytes ∷ some) more = ap (λ (rest : List ℕ). bytes ++ rest) (read_more some more) ∙ sym (append_assoc bytes (read_in some) (read_in more))
read_more (act.Hand task ∷ some) more = read_more some more

handed_more : (some more : List Act) → handed_in (some ++ more) ≡ handed_in some ++ handed_in more
handed_more [] more = refl
handed_more (act.Read bytes ∷ some) more = handed_more some more
handed_more (act.Hand task ∷ some) more = ap (λ (rest : List Fed). task ∷ rest) (handed_more some more)

pending_more : (pending : Bool) (some more : List Fed) → pending_behind pending (some ++ more) ≡ pending_behind (pending_behind pending some) more
pending_more pending [] more = refl
pending_more pending (task ∷ some) more = pending_more (pending_with pending task) some more

committed_more : (pending : Bool) (some more : List Act) → AreCommitted pending some → AreCommitted (pending_behind pending (handed_in some)) more → AreCommitted pending (some ++ more)
committed_more pending [] more first second = second
committed_more pending (act.Read bytes ∷ some) more first second = (first.0, committed_more pending some more first.1 second)
committed_more pending (act.Hand task ∷ some) more first second = committed_more (pending_with pending task) some more first second

-- what was said behind what was said
pub said_more : (rules : Rules) (number : ℕ) (some more : List (Option (List ℕ))) → said_in rules number (some ++ more) ≡ said_in rules number some ++ said_in rules number more
said_more rules number [] more = refl
said_more rules number (line ∷ some) more = ap (λ (rest : List (Option (Option Fed))). said_by rules number line ∷ rest) (said_more rules number some more)

pub feds_more : (some more : List (Option (Option Fed))) → feds_in (some ++ more) ≡ feds_in some ++ feds_in more
feds_more [] more = refl
feds_more (said ∷ some) more = ap (λ (rest : List Fed). feds_for said ++ rest) (feds_more some more) ∙ sym (append_assoc (feds_for said) (feds_in some) (feds_in more))

bad_more : (some more : List (Option (Option Fed))) → bad_in (some ++ more) ≡ bad_in some + bad_in more
bad_more [] more = omega arith
bad_more (said ∷ some) more = omega (arith, bad_more some more)

or_assoc : (a b c : Bool) → (a || (b || c)) ≡ ((a || b) || c)
or_assoc true b c = refl
or_assoc false b c = refl

pub or_none : (a : Bool) → a ≡ (a || false)
or_none true = refl
or_none false = refl

ended_more : (some more : List (Option (Option Fed))) → is_ended (some ++ more) ≡ (is_ended some || is_ended more)
ended_more [] more = refl
ended_more (said ∷ some) more = ap (λ (rest : Bool). is_end said || rest) (ended_more some more) ∙ or_assoc (is_end said) (is_ended some) (is_ended more)

or_first : (a b : Bool) → a ≡ true → (a || b) ≡ true
or_first true b is = refl
or_first false b is = absurd (cc is)

or_second : (a b : Bool) → b ≡ true → (a || b) ≡ true
or_second true b is = refl
or_second false b is = is

-- nothing stands behind an end, where nothing was said behind one
last_more : (some more : List (Option (Option Fed))) → EndsLast some → EndsLast more → (is_ended some ≡ true → more ≡ []) → EndsLast (some ++ more)
last_more [] more first second none = second
last_more (said ∷ some) more first second none = (
  λ is. ap (λ (rest : List (Option (Option Fed))). rest ++ more) (first.0 is) ∙ none (or_first (is_end said) (is_ended some) is),
  last_more some more first.1 second (λ later. none (or_second (is_end said) (is_ended some) later)),
)

-- flushes among what was said, in two steps
flushed_more : (pending : Bool) (some more said later : List Fed) → AreFlushedMore pending some said → AreFlushedMore (pending_behind pending some) more later
    → AreFlushedMore pending (some ++ more) (said ++ later)
flushed_more pending [] more said later first second = subst (λ (front : List Fed). AreFlushedMore pending more (front ++ later)) (sym first) second
flushed_more pending (fed.Sample sample ∷ some) more said later (rest, is, first) second =
    (rest ++ later, ap (λ (front : List Fed). front ++ later) is, flushed_more true some more rest later first second)
flushed_more pending (fed.Flush ∷ some) more said later first second = ⊎_elim
    (λ own. inl (own.0 ++ later, ap (λ (front : List Fed). front ++ later) own.1, flushed_more false some more own.0 later own.2 second))
    (λ extra. inr (extra.0, flushed_more false some more said later extra.1 second)) first
flushed_more pending (fed.End ∷ some) more said later first second = absurd first

-- the flushes of two steps
pub behind_more : (n : ℕ) (some more : List Fed) → flushes_behind n (some ++ more) ≡ flushes_behind n some ++ flushes_behind (n + length (samples_of some)) more
behind_more n [] more = let same : n ≡ n + 0 = omega arith in ap (λ k. flushes_behind k more) same
behind_more n (fed.Sample sample ∷ some) more =
    let same : (n + 1) + length (samples_of some) ≡ n + length (sample ∷ samples_of some) = omega arith in
    behind_more (n + 1) some more ∙ ap (λ k. flushes_behind (n + 1) some ++ flushes_behind k more) same
behind_more n (fed.Flush ∷ some) more = ap (λ (rest : List ℕ). n ∷ rest) (behind_more n some more)
behind_more n (fed.End ∷ some) more = behind_more n some more

samples_more : (some more : List Fed) → length (samples_of (some ++ more)) ≡ length (samples_of some) + length (samples_of more)
samples_more [] more = omega arith
samples_more (fed.Sample sample ∷ some) more = omega (arith, samples_more some more)
samples_more (fed.Flush ∷ some) more = samples_more some more
samples_more (fed.End ∷ some) more = samples_more some more

-- what was told in two steps
lines_more : (source : ℕ) (some more : List ℕ) → durable_lines source (some ++ more) ≡ durable_lines source some ++ durable_lines source more
lines_more source [] more = refl
lines_more source (n ∷ some) more =
    ap (λ (rest : List ℕ). durable_line source n ++ rest) (lines_more source some more) ∙ sym (append_assoc (durable_line source n) (durable_lines source some) (durable_lines source more))

front_longer : (front text later : List ℕ) → IsPrefix front text → IsPrefix front (text ++ later)
front_longer front text later is = (is.0 ++ later, sym (append_assoc front is.0 later) ∙ ap (λ (all : List ℕ). all ++ later) is.1)

front_behind : (before front text : List ℕ) → IsPrefix front text → IsPrefix (before ++ front) (before ++ text)
front_behind before front text is = (is.0, append_assoc before front is.0 ∙ ap (λ (rest : List ℕ). before ++ rest) is.1)

pub tells_more : (source : ℕ) (first second third : Bool) (old mid new : SinkState) (some more : List ℕ) → TellsOn first second old mid source some → TellsOn second third mid new source more
    → TellsOn first third old new source (some ++ more)
tells_more source true true third old mid new some more one two = (two.0, two.1 ∙ one.1)
tells_more source true false third old mid new some more one two = absurd (cc (one.0))
tells_more source false false false old mid new some more one two = (
  subst (Appends old.held new.held) (sym (lines_more source some more)) (appends_more old.held mid.held new.held (durable_lines source some) (durable_lines source more) one.0 two.0),
  omega (arith, one.1, two.1),
)
tells_more source false false true old mid new some more one two = (
  (
    durable_lines source some ++ two.0.0,
    subst (IsPrefix (durable_lines source some ++ two.0.0)) (sym (lines_more source some more)) (front_behind (durable_lines source some) two.0.0 (durable_lines source more) two.0.1),
    appends_more old.held mid.held new.held (durable_lines source some) two.0.0 one.0 two.0.2,
  ),
  omega (arith, one.1, two.1),
)
tells_more source false true true old mid new some more one two = (
  (
    one.0.0,
    subst (IsPrefix one.0.0) (sym (lines_more source some more)) (front_longer one.0.0 (durable_lines source some) (durable_lines source more) one.0.1),
    subst (λ (state : SinkState). Appends old.held state.held one.0.0) (sym two.1) one.0.2,
  ),
  subst (λ (state : SinkState). Rose old.faults state.faults) (sym two.1) one.1,
)
tells_more source false true false old mid new some more one two = absurd (cc (two.0))

pub tells_none : (source : ℕ) (deaf : Bool) (told : SinkState) → TellsOn deaf deaf told told source []
tells_none source true told = (refl, refl)
tells_none source false told = (appends_none told.held, omega arith)

pub consumes_none : (left : Option (List ℕ)) → Consumes left left []
consumes_none None = tt
consumes_none (Some bytes) = refl

pub none_handled : (at : Fixed) (spot : Spot) → Handled at spot [] spot
none_handled at spot = record {
  later = omega arith;
  may = λ k d below. absurd (omega (arith, below));
  steps = omega arith;
  few = λ is. is;
  acts = [];
  handed = refl;
  taken = consumes_none spot.input.left;
  committed = tt;
  pending_is = refl;
  lines = [];
  most = omega arith;
  reads = record { each = λ later. refl };
  none_over = λ is. (refl, refl);
  ends_last = tt;
  over_is = or_none spot.over;
  says = refl;
  bad_is = omega arith;
  count_is = omega arith;
  numbers = [];
  told = tells_none at.number spot.deaf spot.told;
  told_are = sym (append-nil (option_to_list spot.flushed));
}

-- what was told is what was flushed, but for the last flush
told_more : (first second third : Option ℕ) (n m : ℕ) (some more : List Fed) (numbers later : List ℕ) → m ≡ n + length (samples_of some)
    → numbers ++ option_to_list second ≡ option_to_list first ++ flushes_behind n some
    → later ++ option_to_list third ≡ option_to_list second ++ flushes_behind m more
    → (numbers ++ later) ++ option_to_list third ≡ option_to_list first ++ flushes_behind n (some ++ more)
told_more first second third n m some more numbers later is one two =
    append_assoc numbers later (option_to_list third)
    ∙ ap (λ (rest : List ℕ). numbers ++ rest) two
    ∙ sym (append_assoc numbers (option_to_list second) (flushes_behind m more))
    ∙ ap (λ (front : List ℕ). front ++ flushes_behind m more) one
    ∙ append_assoc (option_to_list first) (flushes_behind n some) (flushes_behind m more)
    ∙ ap (λ (rest : List ℕ). option_to_list first ++ rest) (ap (λ k. flushes_behind n some ++ flushes_behind k more) is ∙ sym (behind_more n some more))

pub more_handled : (at : Fixed) (first second third : Spot) (some more : List Fed) → Handled at first some second → Handled at second more third → Handled at first (some ++ more) third
more_handled at first second third some more one two =
    let told_first = said_in at.rules at.number one.lines in
    let told_second = said_in at.rules at.number two.lines in
    let both = said_more at.rules at.number one.lines two.lines in
    record {
      later = omega (arith, one.later, two.later);
      may = All-append (MayCome at.rules at.number) some more one.may two.may;
      steps = omega (arith, one.steps, two.steps, length-append some more);
      few = λ is. two.few (one.few is);
      acts = one.acts ++ two.acts;
      handed = handed_more one.acts two.acts ∙ ap (λ (front : List Fed). front ++ handed_in two.acts) one.handed ∙ ap (λ (rest : List Fed). some ++ rest) two.handed;
      taken = subst (Consumes first.input.left third.input.left) (sym (read_more one.acts two.acts))
          (consumes_more first.input.left second.input.left third.input.left (read_in one.acts) (read_in two.acts) one.taken two.taken);
      committed = committed_more first.pending one.acts two.acts one.committed
          (subst (λ (pending : Bool). AreCommitted pending two.acts) (one.pending_is ∙ ap (pending_behind first.pending) (sym one.handed)) two.committed);
      pending_is = two.pending_is ∙ ap (λ (pending : Bool). pending_behind pending more) one.pending_is ∙ sym (pending_more first.pending some more);
      lines = one.lines ++ two.lines;
      most = omega (arith, one.most, two.most, length-append some more, length-append one.lines two.lines);
      reads = subst (λ (bytes : List ℕ). Reads first.unread bytes (one.lines ++ two.lines) third.unread) (sym (read_more one.acts two.acts))
          (reads_more first.unread second.unread third.unread (read_in one.acts) (read_in two.acts) one.lines two.lines one.reads two.reads);
      none_over = λ is.
          let before = one.none_over is in
          let behind = two.none_over (one.over_is ∙ or_first first.over (is_ended told_first) is) in
          (ap (λ (front : List (Option (List ℕ))). front ++ two.lines) before.0 ∙ behind.0, behind.1 ∙ before.1);
      ends_last = subst EndsLast (sym both) (last_more told_first told_second one.ends_last two.ends_last
          (λ is. ap (said_in at.rules at.number) (two.none_over (one.over_is ∙ or_second first.over (is_ended told_first) is)).0));
      over_is = two.over_is ∙ ap (λ (over : Bool). over || is_ended told_second) one.over_is ∙ sym (or_assoc first.over (is_ended told_first) (is_ended told_second))
          ∙ ap (λ (ended : Bool). first.over || ended) (sym (ended_more told_first told_second) ∙ ap is_ended (sym both));
      says = subst (AreFlushedMore first.pending (some ++ more)) (sym (feds_more told_first told_second) ∙ ap feds_in (sym both))
          (flushed_more first.pending some more (feds_in told_first) (feds_in told_second) one.says
          (subst (λ (pending : Bool). AreFlushedMore pending more (feds_in told_second)) one.pending_is two.says));
      bad_is = omega (arith, one.bad_is, two.bad_is, bad_more told_first told_second, ap bad_in both);
      count_is = omega (arith, one.count_is, two.count_is, samples_more some more);
      numbers = one.numbers ++ two.numbers;
      told = tells_more at.number first.deaf second.deaf third.deaf first.told second.told third.told one.numbers two.numbers one.told two.told;
      told_are = told_more first.flushed second.flushed third.flushed first.count second.count some more one.numbers two.numbers one.count_is one.told_are two.told_are;
    }

-- what ends two lists, of which the second is not empty, ends the second
last_of : (some : List Fed) (task : Fed) (more front : List Fed) (last : Fed) → some ++ task ∷ more ≡ front ++ last ∷ []
    → (before : List Fed) × (task ∷ more ≡ before ++ last ∷ []) × (front ≡ some ++ before)
last_of [] task more front last is = (front, is, refl)
last_of (first ∷ some) task more [] last is = absurd (omega (arith, ap length is, length-append some (task ∷ more)))
last_of (first ∷ some) task more (other ∷ front) last is =
    let (before, ends, rest) = last_of some task more front last (cc is) in
    (before, ends, cc (is, rest))

none_last : (some : List Fed) (last : Fed) → [] ≡ some ++ last ∷ [] → ⊥
none_last some last is = omega (arith, ap length is, length-append some (last ∷ []))

-- what is alone has nothing before it
alone_behind : (some : List Fed) (task : Fed) (more : List Fed) (last : Fed) → some ++ task ∷ more ≡ last ∷ [] → (some ≡ []) × (task ∷ more ≡ last ∷ [])
alone_behind [] task more last is = (refl, is)
alone_behind (first ∷ some) task more last is = absurd (omega (arith, ap length is, length-append some (task ∷ more)))

-- nothing comes in two steps
pub ends_more : (first second third pending pending' : Bool) (some more : List Fed) → pending' ≡ pending_behind pending some → EndsWanted first pending some second
    → EndsWanted second pending' more third → EndsWanted first pending (some ++ more) third
ends_more first second third pending pending' some more is one two = λ wants calm.
    let before = one wants calm in
    let behind = two before.1 (is ∙ ap (pending_behind pending) before.0 ∙ calm) in
    (ap (λ (front : List Fed). front ++ more) before.0 ∙ behind.0, behind.1)

running_if : (halt : Option Halt) → ((why : Halt) → halt ≡ Some why → ⊥) → halt ≡ None
running_if None not = refl
running_if (Some why) not = absurd (not why refl)

module _ {S K : Type 0} {tells : source.Ghosts S} (holds : sink.Ghosts K) where
  pub serves_none : (feed : LineFeed S K tells) → Serves holds feed [] feed
  serves_none feed = record {
    fixed_is = refl;
    handled = none_handled (fixed feed) (spot holds feed);
    stops = λ is. is;
    calm = λ well. refl;
    ended = λ halt other is. (refl, is);
  }

  -- what came behind it, of the same source
  pub on_with : (first second : LineFeed S K tells) (third : Spot) (some more : List Fed) → Serves holds first some second → Handled (fixed second) (spot holds second) more third
      → Handled (fixed first) (spot holds first) (some ++ more) third
  on_with first second third some more one two = more_handled (fixed first) (spot holds first) (spot holds second) third some more one.handled
      (subst (λ (at : Fixed). Handled at (spot holds second) more third) one.fixed_is two)

  pub serves_more : (first second third : LineFeed S K tells) (some more : List Fed) → Serves holds first some second → Serves holds second more third
      → Serves holds first (some ++ more) third
  serves_more first second third some more one two = record {
    fixed_is = two.fixed_is ∙ one.fixed_is;
    handled = on_with first second (spot holds third) some more one two.handled;
    stops = λ is. two.stops (one.stops is);
    calm = λ well.
        let going : second.halt ≡ Some Failed → ⊥ = λ failed. let after = two.ended Failed (λ called. absurd (cc called)) failed in well after.1 in
        two.calm well ∙ one.calm going;
    ended = λ halt other is.
        let before = one.ended halt other is in
        let behind = two.ended halt other before.1 in
        (ap (λ (front : List Fed). front ++ more) before.0 ∙ behind.0, behind.1);
  }

  pub hands_none : (feed : LineFeed S K tells) → Hands holds feed [] feed
  hands_none feed = (
    serves_none feed,
    record {
      next = λ task is run. absurd (cc is);
      wanted = λ wants calm. (refl, wants);
      last = λ some sample is run. absurd (none_last some (fed.Sample sample) is);
      none = λ is run. refl;
      stays = λ halt is. (refl, is);
    },
  )

  -- it goes on, since it goes on where it is the same
  run_behind : (old new : LineFeed S K tells) → new ≡ old → new.halt ≡ None → old.halt ≡ None
  run_behind old new same run = ap (λ (feed : LineFeed S K tells). feed.halt) (sym same) ∙ run

  -- what comes next behind nothing
  next_behind : (first second third : LineFeed S K tells) (some more : List Fed) (task : Fed) → Hands holds first some second → Hands holds second more third → some ≡ [] → more ≡ task ∷ []
      → third.halt ≡ None → ComesNext (fixed first) (spot holds first) task third.wanted (spot holds third)
  next_behind first second third some more task one two none alone run =
      let ran = running_if second.halt (λ halt is. absurd (cc (sym alone ∙ (two.1.stays halt is).0))) in
      subst (λ (feed : LineFeed S K tells). ComesNext (fixed feed) (spot holds feed) task third.wanted (spot holds third)) (one.1.none none ran) (two.1.next task alone run)

  back_more : (first second third : LineFeed S K tells) (some more : List Fed) → Hands holds first some second → Hands holds second more third → InOnePart holds first (some ++ more) third
  back_more first second third some [] one two = record {
    next = λ task is run.
        let kept = two.1.none refl run in
        subst (λ (feed : LineFeed S K tells). ComesNext (fixed first) (spot holds first) task feed.wanted (spot holds feed)) (sym kept)
        (one.1.next task (sym (append-nil some) ∙ is) (run_behind second third kept run));
    wanted = ends_more first.wanted second.wanted third.wanted first.pending second.pending some [] one.0.handled.pending_is one.1.wanted two.1.wanted;
    last = λ front sample is run.
        let kept = two.1.none refl run in
        subst (λ (feed : LineFeed S K tells). Handled (fixed first) (spot holds first) front (spot_before holds feed)) (sym kept)
        (one.1.last front sample (sym (append-nil some) ∙ is) (run_behind second third kept run));
    none = λ is run.
        let kept = two.1.none refl run in
        kept ∙ one.1.none (sym (append-nil some) ∙ is) (run_behind second third kept run);
    stays = λ halt is.
        let before = one.1.stays halt is in
        let behind = two.1.stays halt before.1 in
        (append-nil some ∙ before.0, behind.1);
  }
  back_more first second third some (task ∷ more) one two = record {
    next = λ last is run.
        let (none, alone) = alone_behind some task more last is in
        next_behind first second third some (task ∷ more) last one two none alone run;
    wanted = ends_more first.wanted second.wanted third.wanted first.pending second.pending some (task ∷ more) one.0.handled.pending_is one.1.wanted two.1.wanted;
    last = λ front sample is run.
        let (before, ends, rest) = last_of some task more front (fed.Sample sample) is in
        subst (λ (feds : List Fed). Handled (fixed first) (spot holds first) feds (spot_before holds third)) (sym rest)
        (on_with first second (spot_before holds third) some before one.0 (two.1.last before sample ends run));
    none = λ is run. absurd (omega (arith, ap length is, length-append some (task ∷ more)));
    stays = λ halt is.
        let before = one.1.stays halt is in
        let behind = two.1.stays halt before.1 in
        (ap (λ (front : List Fed). front ++ task ∷ more) before.0 ∙ behind.0, behind.1);
  }

  pub hands_more : (first second third : LineFeed S K tells) (some more : List Fed) → Hands holds first some second → Hands holds second more third → Hands holds first (some ++ more) third
  hands_more first second third some more one two = (serves_more first second third some more one.0 two.0, back_more first second third some more one two)
