-- The single steps of a feed of lines.
use Rattle.std.proofs.Common.{◌≡◌, ◌∙◌, sym, ap, refl, subst, inl, inr, ℕ, ◌+◌, ◌^◌, ◌≤◌, ◌<◌, Bool, true, false, List, [], ◌∷◌, ◌++◌, length, map, All, Option, Some, None, arith, append-nil, length-append}
use Rattle.std.specs.Prelude.{◌||◌, ◌==◌, ◌-◌, ◌⊎◌, take}
use Rattle.std.specs.Option.{option_to_list}
use Rattle.std.specs.Io.KnownBytes.{Appends, Consumes, IsAtEnd, Keeps}
use Rattle.std.specs.Prelude.{IfSome, Result, Ok, Err, is_err, is_some}
use Rattle.mdf_format.specs.Cause.{Rose}
use Rattle.mdf_port.specs.Sink.{AppendsFront}
use Rattle.mdf_port.specs.declared.source.Source as source
use Rattle.mdf_port.specs.declared.sink.Sink as sink
use Rattle.mdf_command.specs.Texts.{Gives}
use Rattle.std.specs.List.{slice_split}
use Rattle.std.proofs.lemmas.Grind.{get_or_default_zero}
use Rattle.std.proofs.lemmas.List.Elements.{All-cons, All-nil}
use Rattle.std.proofs.lemmas.List.Splits.{slice_split_none}
use Rattle.mdf_port.specs.State.{SinkState, SourceState}
use Rattle.mdf_layout.specs.declared.sample.Sample.{Sample}
use Rattle.acq_run.specs.Feeds.{Feeds, flushes_behind, samples_of}
use Rattle.acq_run.specs.declared.feed.Fed.{Fed}
use Rattle.acq_run.specs.declared.feed.Fed.TheVariants as fed
use Rattle.acq_lines.specs.Lines.{FindsLf, Reads, Unread, closed, limited, lines_behind}
use Rattle.acq_lines.specs.Source.{Fills, unpassed}
use Rattle.acq_lines.proofs.Parts.{passed as line_passed_by}
use Rattle.acq_lines.specs.Act.{Act, AreCommitted, handed_in, pending_behind, pending_with, read_in}
use Rattle.acq_lines.specs.Act as act
use Rattle.acq_lines.specs.Handled.{ComesNext, EndsWanted, Goes, Halts, HaltsAt, Handled, Hands, InOnePart, IsDue, MayRead, Resumes, ResumesFrom, SaysJust, Serves, Stops, StopsWell, Waits}
use Rattle.acq_lines.specs.Rules.{MayCome, Rules}
use Rattle.acq_lines.specs.Said.{AreFlushedMore, bad_in, feds_for, feds_in, is_end, said_by, said_in}
use Rattle.acq_lines.specs.Spot.{Fixed, Spot, before, fixed, spot, spot_before}
use Rattle.acq_lines.specs.Steps.{consumes_none, ends_more, feds_more, none_handled, on_with, or_none, said_more, serves_more, tells_none, reads_more}
use Rattle.acq_lines.specs.Told.{TellsOn, durable_line}
use Rattle.acq_lines.specs.Wants.{begins_with_sample, is_sample_line, wants_memory}
use Rattle.acq_lines.specs.declared.feed.Halt.{Halt}
use Rattle.acq_lines.specs.declared.feed.Halt.TheVariants.{Input, Line, Failed, Memory, Count, Called}
use Rattle.acq_lines.specs.declared.feed.LineFeed.{LineFeed}

-- a flush behind a sample
abbrev pub flushed : Spot → Spot
flushed spot = record spot { pending = false; steps = spot.steps + 1; flushed = Some spot.count }

flush_told : (before : Option ℕ) (n : ℕ) → before ≡ None → [] ++ option_to_list (Some n) ≡ option_to_list before ++ n ∷ []
flush_told (Some m) n is = absurd (cc is)
flush_told None n is = refl

may_flush : (rules : Rules) (number : ℕ) → All (MayCome rules number) (fed.Flush ∷ [])
may_flush rules number = All-cons (MayCome rules number) fed.Flush [] tt (All-nil (MayCome rules number))

pub flush_handled : (at : Fixed) (spot : Spot) → spot.pending ≡ true → spot.flushed ≡ None → spot.steps + 1 < 2 ^ 64 → Handled at spot (fed.Flush ∷ []) (flushed spot)
flush_handled at spot pending none room = record {
  later = omega arith;
  may = may_flush at.rules at.number;
  steps = omega arith;
  few = λ is. room;
  acts = act.Hand fed.Flush ∷ [];
  handed = refl;
  taken = consumes_none spot.input.left;
  committed = tt;
  pending_is = refl;
  lines = [];
  most = omega arith;
  reads = record { each = λ later. refl };
  none_over = λ is. (refl, refl);
  ends_last = tt;
  over_is = or_none spot.over;
  says = inr (pending, refl);
  bad_is = omega arith;
  count_is = omega arith;
  numbers = [];
  told = tells_none at.number spot.deaf spot.told;
  told_are = flush_told spot.flushed spot.count none;
}

-- nothing was said
pub none_said : (at : Fixed) (old new : Spot) → new.input ≡ old.input → new.unread ≡ old.unread → SaysJust at old [] new
none_said at old new same reads = record {
  same = same;
  lines = [];
  reads = subst (λ (unread : Unread). Reads old.unread [] [] unread) (sym reads) (record { each = λ later. refl });
  says = refl;
}

-- a flush that is due comes next
due_flushed : (at : Fixed) (wanted : Bool) (spot : Spot) → IsDue at wanted spot → IsDue at wanted (flushed spot)
due_flushed at wanted spot (inl none) = inl none
due_flushed at wanted spot (inr (inl over)) = inr (inl over)
due_flushed at wanted spot (inr (inr (inl wants))) = inr (inr (inl wants))
due_flushed at wanted spot (inr (inr (inr count))) = inr (inr (inr (omega (arith, count))))

pub flush_next : (at : Fixed) (wanted : Bool) (spot : Spot) → IsDue at wanted spot → ComesNext at spot fed.Flush wanted (flushed spot)
flush_next at wanted spot due = inr (inl (refl, none_said at spot (flushed spot) refl refl, due_flushed at wanted spot due))

-- before it says why nothing more comes
pub due_by : (at : Fixed) (wanted : Bool) (spot : Spot) (halt : Halt) → HaltsAt at spot halt → (halt ≡ Memory → wanted ≡ true) → IsDue at wanted spot
due_by at wanted spot Input cause wants = inl cause.1
due_by at wanted spot Line cause wants = inr (inl cause)
due_by at wanted spot Failed cause wants = inl cause.1
due_by at wanted spot Memory cause wants = inr (inr (inl (wants refl, cause)))
due_by at wanted spot Count cause wants = inr (inr (inr cause))
due_by at wanted spot Called cause wants = inl cause

-- what stands behind a line that says this
abbrev pub flush_with : Option (Option Fed) → ℕ → Option ℕ → Option ℕ
flush_with (Some (Some fed.Flush)) count flushed = Some count
flush_with _ count flushed = flushed

abbrev pub over_with : Option (Option Fed) → Bool → Bool
over_with (Some (Some fed.End)) over = true
over_with _ over = over

abbrev pub bad_with : Option (Option Fed) → ℕ → ℕ
bad_with None bad = bad + 1
bad_with _ bad = bad

abbrev pub count_with : Option (Option Fed) → ℕ → ℕ
count_with (Some (Some (fed.Sample sample))) count = count + 1
count_with _ count = count

abbrev pub passed : Spot → Option (Option Fed) → SourceState → Unread → Spot
passed spot said input unread = record spot {
  input = input;
  unread = unread;
  pending = pending_behind spot.pending (feds_for said);
  over = over_with said spot.over;
  steps = spot.steps + 1;
  bad = bad_with said spot.bad;
  count = count_with said spot.count;
  flushed = flush_with said spot.count spot.flushed;
}

hand_none : (feds : List Fed) → read_in (map act.Hand feds) ≡ []
hand_none [] = refl
hand_none (task ∷ feds) = hand_none feds

hand_all : (feds : List Fed) → handed_in (map act.Hand feds) ≡ feds
hand_all [] = refl
hand_all (task ∷ feds) = ap (λ (rest : List Fed). task ∷ rest) (hand_all feds)

hand_committed : (pending : Bool) (feds : List Fed) → AreCommitted pending (map act.Hand feds)
hand_committed pending [] = tt
hand_committed pending (task ∷ feds) = hand_committed (pending_with pending task) feds

few_fed : (said : Option (Option Fed)) → length (feds_for said) ≤ 1
few_fed (Some None) = omega arith
few_fed (Some (Some (fed.Sample sample))) = omega arith
few_fed (Some (Some fed.Flush)) = omega arith
few_fed (Some (Some fed.End)) = omega arith
few_fed None = omega arith

said_alone : (pending : Bool) (said : Option (Option Fed)) → AreFlushedMore pending (feds_for said) (feds_in (said ∷ []))
said_alone pending (Some None) = refl
said_alone pending (Some (Some (fed.Sample sample))) = ([], refl, refl)
said_alone pending (Some (Some fed.Flush)) = inl ([], refl, refl)
said_alone pending (Some (Some fed.End)) = refl
said_alone pending None = refl

said_told : (before : Option ℕ) (n : ℕ) (said : Option (Option Fed)) → before ≡ None → [] ++ option_to_list (flush_with said n before) ≡ option_to_list before ++ flushes_behind n (feds_for said)
said_told (Some m) n said is = absurd (cc is)
said_told None n (Some None) is = refl
said_told None n (Some (Some (fed.Sample sample))) is = refl
said_told None n (Some (Some fed.Flush)) is = refl
said_told None n (Some (Some fed.End)) is = refl
said_told None n None is = refl

ended_alone : (over : Bool) (said : Option (Option Fed)) → over ≡ false → over_with said over ≡ (over || (is_end said || false))
ended_alone true said is = absurd (cc is)
ended_alone false (Some None) is = refl
ended_alone false (Some (Some (fed.Sample sample))) is = refl
ended_alone false (Some (Some fed.Flush)) is = refl
ended_alone false (Some (Some fed.End)) is = refl
ended_alone false None is = refl

bad_alone : (said : Option (Option Fed)) (bad : ℕ) → bad_with said bad ≡ bad + bad_in (said ∷ [])
bad_alone (Some None) bad = omega arith
bad_alone (Some (Some (fed.Sample sample))) bad = omega arith
bad_alone (Some (Some fed.Flush)) bad = omega arith
bad_alone (Some (Some fed.End)) bad = omega arith
bad_alone None bad = omega arith

count_alone : (said : Option (Option Fed)) (count : ℕ) → count_with said count ≡ count + length (samples_of (feds_for said))
count_alone (Some None) count = omega arith
count_alone (Some (Some (fed.Sample sample))) count = omega arith
count_alone (Some (Some fed.Flush)) count = omega arith
count_alone (Some (Some fed.End)) count = omega arith
count_alone None count = omega arith

line_handled : (at : Fixed) (spot : Spot) (line : Option (List ℕ)) (unread : Unread)
    → All (MayCome at.rules at.number) (feds_for (said_by at.rules at.number line)) → Reads spot.unread [] (line ∷ []) unread
    → spot.over ≡ false → spot.flushed ≡ None → spot.steps + 2 < 2 ^ 64
    → Handled at spot (feds_for (said_by at.rules at.number line)) (passed spot (said_by at.rules at.number line) spot.input unread)
line_handled at spot line unread may reads running none room =
    let said = said_by at.rules at.number line in
    let feds = feds_for said in
    record {
      later = omega arith;
      may = may;
      steps = omega (arith, few_fed said);
      few = λ is. omega (arith, room);
      acts = map act.Hand feds;
      handed = hand_all feds;
      taken = subst (Consumes spot.input.left spot.input.left) (sym (hand_none feds)) (consumes_none spot.input.left);
      committed = hand_committed spot.pending feds;
      pending_is = refl;
      lines = line ∷ [];
      most = omega arith;
      reads = subst (λ (bytes : List ℕ). Reads spot.unread bytes (line ∷ []) unread) (sym (hand_none feds)) reads;
      none_over = λ is. absurd (cc (sym running ∙ is));
      ends_last = (λ is. refl, tt);
      over_is = ended_alone spot.over said running;
      says = said_alone spot.pending said;
      bad_is = bad_alone said spot.bad;
      count_is = count_alone said spot.count;
      numbers = [];
      told = tells_none at.number spot.deaf spot.told;
      told_are = said_told spot.flushed spot.count said none;
    }

-- a line that says this was passed
pub line_passed : (at : Fixed) (spot : Spot) (line : Option (List ℕ)) (input : SourceState) (unread : Unread) (said kind : Option (Option Fed))
    → said ≡ said_by at.rules at.number line → said ≡ kind → All (MayCome at.rules at.number) (feds_for said) → Reads spot.unread [] (line ∷ []) unread → input ≡ spot.input
    → spot.over ≡ false → spot.flushed ≡ None → spot.steps + 2 < 2 ^ 64
    → Handled at spot (feds_for kind) (passed spot kind input unread)
line_passed at spot line input unread said kind says is may reads same running none room =
    subst (λ (input : SourceState). Handled at spot (feds_for kind) (passed spot kind input unread)) (sym same)
    (subst (λ (said : Option (Option Fed)). Handled at spot (feds_for said) (passed spot said spot.input unread)) (sym says ∙ is)
    (line_handled at spot line unread (subst (λ (said : Option (Option Fed)). All (MayCome at.rules at.number) (feds_for said)) says may) reads running none room))

says_alone : (said : Option (Option Fed)) → feds_in (said ∷ []) ≡ feds_for said
says_alone said = append-nil (feds_for said)

-- it says just that
pub line_says : (at : Fixed) (old new : Spot) (line : Option (List ℕ)) (said kind : Option (Option Fed))
    → said ≡ said_by at.rules at.number line → said ≡ kind → Reads old.unread [] (line ∷ []) new.unread → new.input ≡ old.input → SaysJust at old (feds_for kind) new
line_says at old new line said kind says is reads same = record {
  same = same;
  lines = line ∷ [];
  reads = reads;
  says = says_alone (said_by at.rules at.number line) ∙ ap feds_for (sym says ∙ is);
}

-- no whole line is left of what was read
abbrev lf : ℕ → Bool
lf b = b == 10

passed_not : (test : Bool) → (test ≡ true → ⊥) → test ≡ false
passed_not true not = absurd (not refl)
passed_not false not = refl

none_in : (bytes : List ℕ) → FindsLf bytes None → All (λ x. lf x ≡ false) bytes
none_in bytes none k d below = ap lf (get_or_default_zero bytes k d below) ∙ passed_not _ (none k (omega arith) below)

pub none_closed : (unread : Unread) → FindsLf unread.bytes None → lines_behind unread [] ≡ []
none_closed unread none =
    ap (λ (bytes : List ℕ). closed unread.long (slice_split lf bytes)) (append-nil unread.bytes)
    ∙ ap (closed unread.long) (slice_split_none lf unread.bytes (none_in unread.bytes none))

-- memory may be wanted for a line of a sample
pub wanted_here : (rules : Rules) (unread : Unread) (count : ℕ) → FindsLf unread.bytes (Some count) → is_sample_line rules (limited unread.long (take count unread.bytes)) ≡ true
    → wants_memory rules unread ≡ true
wanted_here rules unread count found says = ap (begins_with_sample rules) ((line_passed_by unread count _ found refl).each []) ∙ says

-- and each sample has its flush, so more may be read
pub may_read : (at : Fixed) (spot : Spot) → spot.pending ≡ false → FindsLf spot.unread.bytes None → MayRead at spot
may_read at spot committed none = (committed, ap (λ (lines : List (Option (List ℕ))). feds_in (said_in at.rules at.number lines)) (none_closed spot.unread none))

pub none_left : (old new : Unread) (bytes : List ℕ) → FindsLf old.bytes None → length bytes ≡ 0 → Reads old bytes [] new → lines_behind new [] ≡ []
none_left old new [] none is reads = sym (reads.each []) ∙ none_closed old none
none_left old new (byte ∷ bytes) none is reads = absurd (omega (arith, is))

-- what was said in two steps, of what was read before
says_more : (at : Fixed) (first second third : Spot) (some more : List Fed) → SaysJust at first some second → SaysJust at second more third → SaysJust at first (some ++ more) third
says_more at first second third some more one two = record {
  same = two.same ∙ one.same;
  lines = one.lines ++ two.lines;
  reads = reads_more first.unread second.unread third.unread [] [] one.lines two.lines one.reads two.reads;
  says = ap feds_in (said_more at.rules at.number one.lines two.lines) ∙ feds_more (said_in at.rules at.number one.lines) (said_in at.rules at.number two.lines)
      ∙ ap (λ (front : List Fed). front ++ feds_in (said_in at.rules at.number two.lines)) one.says ∙ ap (λ (rest : List Fed). some ++ rest) two.says;
}

-- more may be read from where nothing was said before
may_before : (at : Fixed) (first second : Spot) → SaysJust at first [] second → second.pending ≡ first.pending → MayRead at second → MayRead at first
may_before at first second one pending may = (
  sym pending ∙ may.0,
  ap (λ (lines : List (Option (List ℕ))). feds_in (said_in at.rules at.number lines)) (one.reads.each [])
      ∙ ap feds_in (said_more at.rules at.number one.lines (lines_behind second.unread []))
      ∙ feds_more (said_in at.rules at.number one.lines) (said_in at.rules at.number (lines_behind second.unread []))
      ∙ ap (λ (front : List Fed). front ++ feds_in (said_in at.rules at.number (lines_behind second.unread []))) one.says
      ∙ may.1,
)

pub quiet_more : (at : Fixed) (first second third : Spot) → second.pending ≡ first.pending → SaysJust at first [] second ⊎ MayRead at first → SaysJust at second [] third ⊎ MayRead at second
    → SaysJust at first [] third ⊎ MayRead at first
quiet_more at first second third pending (inl one) (inl two) = inl (says_more at first second third [] [] one two)
quiet_more at first second third pending (inl one) (inr may) = inr (may_before at first second one pending may)
quiet_more at first second third pending (inr may) two = inr may

pub next_more : (at : Fixed) (first second third : Spot) (wanted : Bool) (task : Fed) → second.pending ≡ first.pending → SaysJust at first [] second ⊎ MayRead at first
    → ComesNext at second task wanted third → ComesNext at first task wanted third
next_more at first second third wanted task pending (inl one) (inl two) = inl (says_more at first second third [] (task ∷ []) one two)
next_more at first second third wanted task pending (inl one) (inr (inl (is, two, due))) = inr (inl (is, says_more at first second third [] [] one two, due))
next_more at first second third wanted task pending (inl one) (inr (inr may)) = inr (inr (may_before at first second one pending may))
next_more at first second third wanted task pending (inr may) two = inr (inr may)

-- more was read
pub read_handled : (at : Fixed) (spot : Spot) (input : SourceState) (unread : Unread) (bytes : List ℕ)
    → spot.pending ≡ false → spot.over ≡ false → spot.input.faults ≤ input.faults → Consumes spot.input.left input.left bytes → Reads spot.unread bytes [] unread
    → Handled at spot [] (record spot { input = input; unread = unread })
read_handled at spot input unread bytes calm running later taken reads = record {
  later = later;
  may = λ k d below. absurd (omega (arith, below));
  steps = omega arith;
  few = λ is. is;
  acts = act.Read bytes ∷ [];
  handed = refl;
  taken = subst (Consumes spot.input.left input.left) (sym (append-nil bytes)) taken;
  committed = (calm, tt);
  pending_is = refl;
  lines = [];
  most = omega arith;
  reads = subst (λ (all : List ℕ). Reads spot.unread all [] unread) (sym (append-nil bytes)) reads;
  none_over = λ is. absurd (cc (sym running ∙ is));
  ends_last = tt;
  over_is = or_none spot.over;
  says = refl;
  bad_is = omega arith;
  count_is = omega arith;
  numbers = [];
  told = tells_none at.number spot.deaf spot.told;
  told_are = sym (append-nil (option_to_list spot.flushed));
}

-- nothing was read
pub same_handled : (at : Fixed) (spot : Spot) (input : SourceState) (unread : Unread)
    → spot.over ≡ false → spot.input.faults ≤ input.faults → input.left ≡ spot.input.left → unread ≡ spot.unread → Handled at spot [] (record spot { input = input; unread = unread })
same_handled at spot input unread running later left same = record {
  later = later;
  may = λ k d below. absurd (omega (arith, below));
  steps = omega arith;
  few = λ is. is;
  acts = [];
  handed = refl;
  taken = subst (λ (left : Option (List ℕ)). Consumes spot.input.left left []) (sym left) (consumes_none spot.input.left);
  committed = tt;
  pending_is = refl;
  lines = [];
  most = omega arith;
  reads = subst (λ (unread : Unread). Reads spot.unread [] [] unread) (sym same) (record { each = λ later. refl });
  none_over = λ is. absurd (cc (sym running ∙ is));
  ends_last = tt;
  over_is = or_none spot.over;
  says = refl;
  bad_is = omega arith;
  count_is = omega arith;
  numbers = [];
  told = tells_none at.number spot.deaf spot.told;
  told_are = sym (append-nil (option_to_list spot.flushed));
}

-- what was kept was not taken
pub kept_none : (left left' : Option (List ℕ)) → Keeps left left' → Consumes left left' []
kept_none None left' keeps = tt
kept_none (Some bytes) None keeps = absurd keeps
kept_none (Some bytes) (Some bytes') keeps = sym keeps

-- it failed since, by its last failure
pub rose_since : (first before after : ℕ) → first ≤ before → Rose before after → Rose first after
rose_since first before after since rose = omega (arith, since, rose)

-- no more was read, and no whole line is left of what was
pub read_ended : (left left' : Option (List ℕ)) (old new : Unread) (count : ℕ) → Fills left left' old new count → count ≡ 0 → FindsLf old.bytes None
    → IsAtEnd left' × (lines_behind new [] ≡ [])
read_ended left left' old new count fills none found = (fills.at_end none, none_left old new fills.bytes found (fills.count_is ∙ none) fills.reads)

-- the flush that was handed in last was told of
told_handled : (at : Fixed) (spot : Spot) (count : ℕ) (deaf : Bool) (told : SinkState)
    → spot.flushed ≡ Some count → TellsOn spot.deaf deaf spot.told told at.number (count ∷ [])
    → Handled at spot [] (record spot { flushed = None; deaf = deaf; told = told })
told_handled at spot count deaf told is tells = record {
  later = omega arith;
  may = λ k d below. absurd (omega (arith, below));
  steps = omega arith;
  few = λ is. is;
  acts = [];
  handed = refl;
  taken = consumes_none spot.input.left;
  committed = tt;
  pending_is = refl;
  lines = [];
  most = omega arith;
  reads = record { each = λ later. refl };
  none_over = λ is. (refl, refl);
  ends_last = tt;
  over_is = or_none spot.over;
  says = refl;
  bad_is = omega arith;
  count_is = omega arith;
  numbers = count ∷ [];
  told = tells;
  told_are = sym (append-nil (option_to_list spot.flushed) ∙ ap option_to_list is);
}

pub told_on : (at : Fixed) (spot : Spot) (count : ℕ) (flushed : Option ℕ) (deaf : Bool) (told : SinkState)
    → spot.flushed ≡ Some count → flushed ≡ None → TellsOn spot.deaf deaf spot.told told at.number (count ∷ [])
    → Handled at spot [] (record spot { flushed = flushed; deaf = deaf; told = told })
told_on at spot count flushed deaf told is none tells =
    subst (λ (flushed : Option ℕ). Handled at spot [] (record spot { flushed = flushed; deaf = deaf; told = told })) (sym none) (told_handled at spot count deaf told is tells)

-- none was handed in
pub none_told : (at : Fixed) (spot : Spot) (flushed : Option ℕ) → spot.flushed ≡ None → flushed ≡ None → Handled at spot [] (record spot { flushed = flushed })
none_told at spot flushed is none =
    subst (λ (flushed : Option ℕ). Handled at spot [] (record spot { flushed = flushed })) (is ∙ sym none) (none_handled at spot)

-- the line was given, or the sink failed
pub given : {E : Type 0} (number count : ℕ) (old new : SinkState) (result : Result Unit E) (before deaf : Bool)
    → before ≡ false → deaf ≡ is_err result → Gives (durable_line number count) old new result → TellsOn before deaf old new number (count ∷ [])
given number count old new result true deaf hears is gives = absurd (cc hears)
given number count old new (Ok done) false true hears is gives = absurd (cc is)
given number count old new (Ok done) false false hears is gives =
    (subst (Appends old.held new.held) (sym (append-nil (durable_line number count))) gives.ok, gives.cause.later)
given number count old new (Err failed) false true hears is gives =
    (subst (AppendsFront old.held new.held) (sym (append-nil (durable_line number count))) gives.err, gives.cause.failed)
given number count old new (Err failed) false false hears is gives = absurd (cc is)

-- one that has failed is told no more
pub silent : (number count : ℕ) (told : SinkState) (deaf : Bool) → deaf ≡ true → TellsOn deaf deaf told told number (count ∷ [])
silent number count told true is = (refl, refl)
silent number count told false is = absurd (cc is)

-- nothing was handed in before a last that is alone
alone : (front : List Fed) (task last : Fed) → task ∷ [] ≡ front ++ last ∷ [] → front ≡ []
alone [] task last is = refl
alone (first ∷ front) task last is = absurd (omega (arith, ap length is, length-append front (last ∷ [])))

-- what is alone is the last
alone_is : (front : List Fed) (task last : Fed) → task ∷ [] ≡ front ++ last ∷ [] → task ≡ last
alone_is [] task last is = cc is
alone_is (first ∷ front) task last is = absurd (omega (arith, ap length is, length-append front (last ∷ [])))

same_step : (at : Fixed) (spot : Spot) (unread : Unread) (pending : Bool) (steps count : ℕ) → unread ≡ spot.unread → pending ≡ spot.pending
    → steps ≡ spot.steps → count ≡ spot.count → Handled at spot [] (record spot { unread = unread; pending = pending; steps = steps; count = count })
same_step at spot unread pending steps count reads was stepped counted = record {
  later = omega arith;
  may = λ k d below. absurd (omega (arith, below));
  steps = omega (arith, stepped);
  few = λ is. omega (arith, stepped, is);
  acts = [];
  handed = refl;
  taken = consumes_none spot.input.left;
  committed = tt;
  pending_is = was;
  lines = [];
  most = omega (arith, stepped);
  reads = subst (λ (unread : Unread). Reads spot.unread [] [] unread) (sym reads) (record { each = λ later. refl });
  none_over = λ is. (refl, refl);
  ends_last = tt;
  over_is = or_none spot.over;
  says = refl;
  bad_is = omega arith;
  count_is = omega (arith, counted);
  numbers = [];
  told = tells_none at.number spot.deaf spot.told;
  told_are = sym (append-nil (option_to_list spot.flushed));
}

-- the spot before a sample, where its line can be put back
pub before_step : (at : Fixed) (spot : Spot) (input : SourceState) (unread : Unread) (pending : Bool) (steps count : ℕ) → input ≡ spot.input → unread ≡ spot.unread
    → pending ≡ spot.pending → steps ≡ spot.steps → count ≡ spot.count
    → Handled at spot [] (record spot { input = input; unread = unread; pending = pending; steps = steps; count = count })
before_step at spot input unread pending steps count same reads was stepped counted =
    subst (λ (input : SourceState). Handled at spot [] (record spot { input = input; unread = unread; pending = pending; steps = steps; count = count })) (sym same)
    (same_step at spot unread pending steps count reads was stepped counted)

-- a line that is too long says no sample
pub not_long : (rules : Rules) (number : ℕ) (long : Bool) (text : List ℕ) (said : Option (Option Fed)) (sample : Sample)
    → said ≡ said_by rules number (limited long text) → said ≡ Some (Some (fed.Sample sample)) → long ≡ false
not_long rules number true text said sample says is = absurd (cc (says, is))
not_long rules number false text said sample says is = refl

-- the input tells the same, and so does what was read of it
pub same_spot : (spot : Spot) (input : SourceState) (unread : Unread) → input.left ≡ spot.input.left → input.faults ≡ spot.input.faults → unread ≡ spot.unread
    → record spot { input = input; unread = unread } ≡ spot
same_spot spot input unread left faults reads =
    ap (λ left. record spot { input = record { left = left; faults = input.faults }; unread = unread }) left
    ∙ ap (λ faults. record spot { input = record { left = spot.input.left; faults = faults }; unread = unread }) faults
    ∙ ap (λ unread. record spot { unread = unread }) reads

-- the sample was put back, or there is none
pub put_back : (spot : Spot) (was : Option Bool) (pending : Bool) (input : SourceState) (unread before_it : Unread) → was ≡ Some pending → input ≡ spot.input → unread ≡ before_it
    → record spot { input = input; unread = unread; pending = pending; steps = spot.steps - 1; count = spot.count - 1 } ≡ before was before_it spot
put_back spot was pending input unread before_it is same reads =
    ap (λ (input : SourceState). record spot { input = input; unread = unread; pending = pending; steps = spot.steps - 1; count = spot.count - 1 }) same
    ∙ ap (λ (unread : Unread). record spot { unread = unread; pending = pending; steps = spot.steps - 1; count = spot.count - 1 }) reads
    ∙ ap (λ (was : Option Bool). before was before_it spot) (sym is)

pub none_back : (spot : Spot) (was : Option Bool) (before_it : Unread) → was ≡ None → spot ≡ before was before_it spot
none_back spot was before_it is = ap (λ (was : Option Bool). before was before_it spot) (sym is)

-- of what it was told nothing is put back
before_told : (spot : Spot) (was : Option Bool) (unread : Unread) → (before was unread spot).flushed ≡ spot.flushed
before_told spot None unread = refl
before_told spot (Some pending) unread = refl

before_calm : (spot : Spot) (was : Option Bool) (unread : Unread) → (before was unread spot).input.faults ≡ spot.input.faults
before_calm spot None unread = refl
before_calm spot (Some pending) unread = refl

none_behind : (some : List Fed) (sample : Sample) → some ++ fed.Sample sample ∷ [] ≡ [] → ⊥
none_behind some sample is = omega (arith, ap length is, length-append some (fed.Sample sample ∷ []))

-- it is not there
pub missed : (halt : Option Halt) (there : Bool) → there ≡ is_some halt → there ≡ false → halt ≡ None
missed None there is so = refl
missed (Some why) there is so = absurd (cc (is, so))

-- it is there
pub found : (halt : Option Halt) (there : Bool) → there ≡ is_some halt → there ≡ true → (why : Halt) × (halt ≡ Some why)
found None there is so = absurd (cc (is, so))
found (Some why) there is so = (why, refl)

module _ {S K : Type 0} {tells : source.Ghosts S} (holds : sink.Ghosts K) where
  running : (feed : LineFeed S K tells) → feed.halt ≡ None → StopsWell holds feed
  running feed is = subst (λ (halt : Option Halt). IfSome halt (Stops holds feed)) (sym is) tt

  -- one that goes on has not ended
  going : {A : Type 0} (feed : LineFeed S K tells) → feed.halt ≡ None → (halt : Halt) → feed.halt ≡ Some halt → A
  going feed run halt is = absurd (cc (run, is))

  -- it goes on behind what was handed in, and its input did not fail
  pub served : (old new : LineFeed S K tells) (feds : List Fed) → fixed new ≡ fixed old → Handled (fixed old) (spot holds old) feds (spot holds new) → new.halt ≡ None → old.halt ≡ None
      → (spot holds new).input.faults ≡ (spot holds old).input.faults → Serves holds old feds new
  served old new feds same handled run ran calm = record {
    fixed_is = same;
    handled = handled;
    stops = λ is. running new run;
    calm = λ well. calm;
    ended = λ halt other is. going old ran halt is;
  }

  ended_back : (old new : LineFeed S K tells) (feds : List Fed) → Halts new → EndsWanted old.wanted old.pending feds new.wanted
      → ((halt : Halt) → old.halt ≡ Some halt → (feds ≡ []) × (new.halt ≡ Some halt)) → InOnePart holds old feds new
  ended_back old new feds halts wanted stays = record {
    next = λ task is run. going new run halts.halt halts.halt_is;
    wanted = wanted;
    last = λ some sample is run. going new run halts.halt halts.halt_is;
    none = λ is run. going new run halts.halt halts.halt_is;
    stays = stays;
  }

  -- its input failed, and no line is left: nothing more comes
  pub failed : (old new : LineFeed S K tells) → fixed new ≡ fixed old → Handled (fixed old) (spot holds old) [] (spot holds new) → old.halt ≡ None → new.halt ≡ Some Failed
      → HaltsAt (fixed new) (spot holds new) Failed → new.pending ≡ false → new.flushed ≡ None → old.wanted ≡ false → Goes holds old (Some fed.End) new
  failed old new same handled ran is cause committed told calm = (
    record {
      fixed_is = same;
      handled = handled;
      stops = λ before. subst (λ (halt : Option Halt). IfSome halt (Stops holds new)) (sym is) (record { cause = cause; committed = committed; told = told });
      calm = λ well. absurd (well is);
      ended = λ why other was. going old ran why was;
    },
    record { halt = Failed; halt_is = is },
    λ wants was. absurd (cc (calm, wants)),
  )

  -- what came behind what was read before, where nothing came
  on_quiet : (first second third : LineFeed S K tells) (task : Fed) → Goes holds first None second → ComesNext (fixed second) (spot holds second) task third.wanted (spot holds third)
      → ComesNext (fixed first) (spot holds first) task third.wanted (spot holds third)
  on_quiet first second third task one two = next_more (fixed first) (spot holds first) (spot holds second) (spot holds third) third.wanted task one.0.handled.pending_is one.2
      (subst (λ (at : Fixed). ComesNext at (spot holds second) task third.wanted (spot holds third)) one.0.fixed_is two)

  on_wanted : (first second third : LineFeed S K tells) (feds : List Fed) → Goes holds first None second → EndsWanted second.wanted second.pending feds third.wanted
      → EndsWanted first.wanted first.pending feds third.wanted
  on_wanted first second third feds one two =
      ends_more first.wanted second.wanted third.wanted first.pending second.pending [] feds one.0.handled.pending_is one.3 two

  pub goes_behind : (first second third : LineFeed S K tells) (task : Fed) → Goes holds first None second → Goes holds second (Some task) third → Goes holds first (Some task) third
  goes_behind first second third (fed.Sample sample) one two = (
    serves_more holds first second third [] (fed.Sample sample ∷ []) one.0 two.0,
    two.1,
    on_with holds first second (spot_before holds third) [] [] one.0 two.2,
    on_quiet first second third (fed.Sample sample) one two.3,
    on_wanted first second third (fed.Sample sample ∷ []) one two.4,
  )
  goes_behind first second third fed.Flush one two = (
    serves_more holds first second third [] (fed.Flush ∷ []) one.0 two.0,
    two.1,
    on_quiet first second third fed.Flush one two.2,
    on_wanted first second third (fed.Flush ∷ []) one two.3,
  )
  goes_behind first second third fed.End one two =
      (serves_more holds first second third [] [] one.0 two.0, two.1, on_wanted first second third [] one two.2)

  -- what comes is what comes next
  next_is : (first third : LineFeed S K tells) (task other : Fed) → ComesNext (fixed first) (spot holds first) task third.wanted (spot holds third) → task ∷ [] ≡ other ∷ []
      → ComesNext (fixed first) (spot holds first) other third.wanted (spot holds third)
  next_is first third task other comes is = subst (λ (task : Fed). ComesNext (fixed first) (spot holds first) task third.wanted (spot holds third)) (cc is) comes

  fed_by : (first third : LineFeed S K tells) (task : Fed) → first.halt ≡ None → Goes holds first (Some task) third → Feeds (Hands holds) Waits Halts first task third
  fed_by first third (fed.Sample sample) ran goes = (
    (
      goes.0,
      record {
        next = λ other is run. next_is first third (fed.Sample sample) other goes.3 is;
        wanted = goes.4;
        last = λ front other is run. subst (λ (feds : List Fed). Handled (fixed first) (spot holds first) feds (spot_before holds third))
            (sym (alone front (fed.Sample sample) (fed.Sample other) is)) goes.2;
        none = λ is run. absurd (cc is);
        stays = λ why is. going first ran why is;
      },
    ),
    goes.1,
  )
  fed_by first third fed.Flush ran goes = (
    (
      goes.0,
      record {
        next = λ other is run. next_is first third fed.Flush other goes.2 is;
        wanted = goes.3;
        last = λ front other is run. absurd (cc (alone_is front fed.Flush (fed.Sample other) is));
        none = λ is run. absurd (cc is);
        stays = λ why is. going first ran why is;
      },
    ),
    goes.1,
  )
  fed_by first third fed.End ran goes = ((goes.0, ended_back first third [] goes.1 goes.2 (λ why is. going first ran why is)), goes.1)

  -- what came behind what was handed in before
  pub feeds_on : (first second third : LineFeed S K tells) (task : Fed) → first.halt ≡ None → Goes holds first None second → Goes holds second (Some task) third
      → Feeds (Hands holds) Waits Halts first task third
  feeds_on first second third task ran one two = fed_by first third task ran (goes_behind first second third task one two)

  -- nothing came
  pub goes_on : (first second third : LineFeed S K tells) (result : Option Fed) → result ≡ None → Goes holds first None second → Goes holds second result third
      → Goes holds first None third
  goes_on first second third None is one two = (
    serves_more holds first second third [] [] one.0 two.0,
    two.1,
    quiet_more (fixed first) (spot holds first) (spot holds second) (spot holds third) one.0.handled.pending_is one.2
        (subst (λ (at : Fixed). SaysJust at (spot holds second) [] (spot holds third) ⊎ MayRead at (spot holds second)) one.0.fixed_is two.2),
    on_wanted first second third [] one two.3,
  )
  goes_on first second third (Some task) is one two = absurd (cc is)

  -- the same spot
  stop_same : (old new : LineFeed S K tells) (halt : Halt) → fixed new ≡ fixed old → spot holds new ≡ spot holds old → Stops holds old halt → Stops holds new halt
  stop_same old new halt same at stops = record {
    cause = subst (λ (spot : Spot). HaltsAt (fixed new) spot halt) (sym at) (subst (λ (at : Fixed). HaltsAt at (spot holds old) halt) (sym same) stops.cause);
    committed = ap (λ (spot : Spot). spot.pending) at ∙ stops.committed;
    told = ap (λ (spot : Spot). spot.flushed) at ∙ stops.told;
  }

  stops_same : (old new : LineFeed S K tells) (halt : Option Halt) → fixed new ≡ fixed old → spot holds new ≡ spot holds old → IfSome halt (Stops holds old) → IfSome halt (Stops holds new)
  stops_same old new None same at is = tt
  stops_same old new (Some halt) same at is = stop_same old new halt same at is

  -- so it is from the same spot
  from_there : (old old' : LineFeed S K tells) (P : Fixed → Spot → Type 0) → fixed old' ≡ fixed old → spot holds old' ≡ spot holds old → P (fixed old') (spot holds old') → P (fixed old) (spot holds old)
  from_there old old' P same at is = subst (λ (at : Fixed). P at (spot holds old)) same (subst (P (fixed old')) at is)

  same_serves : (old old' new : LineFeed S K tells) (feds : List Fed) → fixed old' ≡ fixed old → spot holds old' ≡ spot holds old → old'.halt ≡ old.halt → Serves holds old' feds new → Serves holds old feds new
  same_serves old old' new feds same at halt serves = record {
    fixed_is = serves.fixed_is ∙ same;
    handled = from_there old old' (λ at spot_is. Handled at spot_is feds (spot holds new)) same at serves.handled;
    stops = λ is. serves.stops (stops_same old old' old'.halt same at (subst (λ (halt : Option Halt). IfSome halt (Stops holds old)) (sym halt) is));
    calm = λ well. serves.calm well ∙ ap (λ (spot : Spot). spot.input.faults) at;
    ended = λ why other is. serves.ended why other (halt ∙ is);
  }

  -- so it is where memory was found wanting first
  pub unwanted : (old old' new : LineFeed S K tells) (task : Fed) → old.wanted ≡ false → fixed old' ≡ fixed old → spot holds old' ≡ spot holds old → old'.halt ≡ old.halt
      → Goes holds old' (Some task) new → Goes holds old (Some task) new
  unwanted old old' new (fed.Sample sample) is same at halt goes = (
    same_serves old old' new (fed.Sample sample ∷ []) same at halt goes.0,
    goes.1,
    from_there old old' (λ at spot_is. Handled at spot_is [] (spot_before holds new)) same at goes.2,
    from_there old old' (λ at spot_is. ComesNext at spot_is (fed.Sample sample) new.wanted (spot holds new)) same at goes.3,
    λ wanted calm. absurd (cc (is, wanted)),
  )
  unwanted old old' new fed.Flush is same at halt goes = (
    same_serves old old' new (fed.Flush ∷ []) same at halt goes.0,
    goes.1,
    from_there old old' (λ at spot_is. ComesNext at spot_is fed.Flush new.wanted (spot holds new)) same at goes.2,
    λ wanted calm. absurd (cc (is, wanted)),
  )
  unwanted old old' new fed.End is same at halt goes =
      (same_serves old old' new [] same at halt goes.0, goes.1, λ wanted calm. absurd (cc (is, wanted)))

  -- nothing came of one that has ended
  pub ended_on : (old new : LineFeed S K tells) → fixed new ≡ fixed old → spot holds new ≡ spot holds old → new.halt ≡ old.halt → new.wanted ≡ old.wanted → Halts new → Hands holds old [] new
  ended_on old new same at halt wanted halts = (
    record {
      fixed_is = same;
      handled = subst (Handled (fixed old) (spot holds old) []) (sym at) (none_handled (fixed old) (spot holds old));
      stops = λ is. stops_same old new new.halt same at (subst (λ (halt : Option Halt). IfSome halt (Stops holds old)) (sym halt) is);
      calm = λ well. ap (λ (spot : Spot). spot.input.faults) at;
      ended = λ why other is. (refl, halt ∙ is);
    },
    ended_back old new [] halts (λ wants calm. (refl, wanted ∙ wants)) (λ why is. (refl, halt ∙ is)),
  )

  -- it goes on in a next part: behind a sample that was put back; called off; or not, since it has ended
  pub resumed_behind : (old new : LineFeed S K tells) → old.halt ≡ None → new.halt ≡ old.halt → fixed new ≡ fixed old → spot holds new ≡ spot_before holds old → Resumes holds old new
  resumed_behind old new run halt same at =
      subst (λ (halt : Option Halt). ResumesFrom holds halt old new) (sym run) (
        halt ∙ run,
        ap (λ (spot : Spot). spot.flushed) at ∙ before_told (spot holds old) old.pending_before (unpassed old.lines),
        λ first some sample hands. record {
          fixed_is = same ∙ hands.0.fixed_is;
          handled = subst (Handled (fixed first) (spot holds first) some) (sym at) (hands.1.last some sample refl run);
          stops = λ is. running new (halt ∙ run);
          calm = λ well. ap (λ (spot : Spot). spot.input.faults) at ∙ before_calm (spot holds old) old.pending_before (unpassed old.lines)
              ∙ hands.0.calm (λ failed. going old run Failed failed);
          ended = λ why other is. let before = hands.0.ended why other is in absurd (none_behind some sample before.0);
        },
        same,
        at,
      )

  pub resumed_called : (old new : LineFeed S K tells) → old.halt ≡ Some Called → new.halt ≡ None → fixed new ≡ fixed old → spot holds new ≡ spot holds old → Resumes holds old new
  resumed_called old new called run same at =
      subst (λ (halt : Option Halt). ResumesFrom holds halt old new) (sym called) (
        run,
        ap (λ (spot : Spot). spot.flushed) at,
        λ first feds serves. record {
          fixed_is = same ∙ serves.fixed_is;
          handled = subst (Handled (fixed first) (spot holds first) feds) (sym at) serves.handled;
          stops = λ is. running new run;
          calm = λ well. ap (λ (spot : Spot). spot.input.faults) at ∙ serves.calm (λ failed. absurd (cc (called, failed)));
          ended = λ why other is. absurd (other (cc (called, (serves.ended why other is).1)));
        },
      )

  ended_stays : (old : LineFeed S K tells) (halt : Halt) → (halt ≡ Called → ⊥) → ResumesFrom holds (Some halt) old old
  ended_stays old Input other = refl
  ended_stays old Line other = refl
  ended_stays old Failed other = refl
  ended_stays old Memory other = refl
  ended_stays old Count other = refl
  ended_stays old Called other = absurd (other refl)

  pub resumed_ended : (old : LineFeed S K tells) (halt : Halt) → old.halt ≡ Some halt → (halt ≡ Called → ⊥) → Resumes holds old old
  resumed_ended old halt is other = subst (λ (halt : Option Halt). ResumesFrom holds halt old old) (sym is) (ended_stays old halt other)
