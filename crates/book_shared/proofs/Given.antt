-- A turn, from the exchange to the store, and what the seat knows after it.
use Rattle.std.proofs.Common.{◌≡◌, ℕ, ◌+◌, ◌<◌, ◌≤◌, Bool, true, false, List, [], ◌∷◌, ◌++◌, length, drop, refl, sym, ap, ◌∙◌, subst, inl, arith, append-nil}
use Rattle.std.specs.Prelude.{◌==◌, slice_index}
use mathlib.Core.List.{IsPrefix}
use Rattle.std.proofs.lemmas.Bool.{eq-eqb, cond-true}
use Rattle.atomic_table.specs.Table.{rest}
use Rattle.mdf_gate.proofs.Carrying.{prefix_self, prefix_append, prefix_trans}
use Rattle.mdf_layout.specs.History.{source_samples}
use Rattle.mdf_layout.specs.Record.{SampleFits, cost_of, encoded_size, history_cost, history_size}
use Rattle.mdf_layout.specs.declared.sample.Sample.{Sample}
use Rattle.book_owned.specs.Answers.{accepted_by}
use Rattle.book_owned.specs.Marks.{last_mark}
use Rattle.book_owned.specs.FrontHalf.{FrontTerms, FrontAccount, PutTells, behind}
use Rattle.book_owned.specs.Split.{front_part}
use Rattle.book_owned.specs.declared.answer.Append.{Append}
use Rattle.book_owned.specs.declared.answer.Append.TheVariants.{Accepted, SessionFull, Stopped, DiskFault, Memory}
use Rattle.book_shared.specs.Basis.{Device, free, holding}
use Rattle.book_shared.specs.Rule.{times_in, AreOwn}
use Rattle.book_shared.specs.Plays.{Slot, Here, recount, held_of, given, given_device, AreFrom, MakesMark, Stays, Does, Holds}
use Rattle.book_shared.specs.Place.{own_part, IsSingle}
use Rattle.book_shared.specs.Turns.{Took, Served, Rests, MayTake}
use Rattle.book_shared.specs.Told.{Told, Appends, Tries, tried_by, IsNoFault, NeedsNoDisk, Puts, Turned, HadTurn}
use Rattle.book_shared.specs.Rounds.{HasTaken, IsTried}
use Rattle.book_shared.specs.declared.answer.Try.{Try}
use Rattle.book_shared.specs.declared.answer.Try.TheVariants.{Busy, NeedsFlush, Answered}
use Rattle.book_shared.specs.declared.half.Half.TheVariants.{TheFront}
use Rattle.book_shared.specs.declared.view.View.{View}
use Rattle.book_shared.proofs.Lists.{counts_first, source_more, own_recount}
use Rattle.book_shared.proofs.Keeps.{seat_of, slot_front}
use Rattle.book_shared.proofs.Takings.{carries}

-- the samples that a seat's own source got in a turn
own_of : (owners : List ℕ) (sample : Sample) (number : ℕ) → slice_index owners sample.group ≡ number → source_samples owners (sample ∷ []) number ≡ sample ∷ []
own_of owners sample number owner = cond-true (slice_index owners sample.group == number) (sample ∷ []) [] (eq-eqb (slice_index owners sample.group) number owner)

pub record Adds (owners : List ℕ) (mine : List (ℕ × List Sample)) (number : ℕ) (added : List Sample) : Type 0 where
  pub one : length added ≤ 1
  pub from : AreFrom owners mine added
  pub own : source_samples owners added number ≡ added

pub adds_none : (owners : List ℕ) (mine : List (ℕ × List Sample)) (number : ℕ) → Adds owners mine number []
adds_none owners mine number = record { one = omega arith; from = tt; own = refl }

adds_one : (owners : List ℕ) (mine : List (ℕ × List Sample)) (sample : Sample) → mine ≡ (slice_index owners sample.group, own_part mine) ∷ []
    → Adds owners mine (slice_index owners sample.group) (sample ∷ [])
adds_one owners mine sample single =
    let number = slice_index owners sample.group in record {
      one = omega arith;
      from = (subst (λ parts. 0 < times_in number parts) (sym single) (counts_first number (own_part mine) []), tt);
      own = own_of owners sample number refl;
    }

pub adds_by : (owners : List ℕ) (mine : List (ℕ × List Sample)) (sample : Sample) (answer : Append) → mine ≡ (slice_index owners sample.group, own_part mine) ∷ []
    → Adds owners mine (slice_index owners sample.group) (accepted_by answer sample)
adds_by owners mine sample (Accepted place) single = adds_one owners mine sample single
adds_by owners mine sample (SessionFull held size limit) single = adds_none owners mine (slice_index owners sample.group)
adds_by owners mine sample (Stopped mark) single = adds_none owners mine (slice_index owners sample.group)
adds_by owners mine sample (DiskFault before after) single = adds_none owners mine (slice_index owners sample.group)
adds_by owners mine sample Memory single = adds_none owners mine (slice_index owners sample.group)

pub adds_try : (owners : List ℕ) (mine : List (ℕ × List Sample)) (sample : Sample) (answer : Try) → mine ≡ (slice_index owners sample.group, own_part mine) ∷ []
    → Adds owners mine (slice_index owners sample.group) (tried_by answer sample)
adds_try owners mine sample (Busy word back) single = adds_none owners mine (slice_index owners sample.group)
adds_try owners mine sample (NeedsFlush held size limit back) single = adds_none owners mine (slice_index owners sample.group)
adds_try owners mine sample (Answered answer) single = adds_by owners mine sample answer single

-- the number of the first source
abbrev number_of : List (ℕ × List Sample) → ℕ
number_of [] = 0
number_of (part ∷ parts) = part.0

-- a seat of one source, counted anew
pub mine_grows : (owners : List ℕ) (history added : List Sample) (mine : List (ℕ × List Sample)) (number : ℕ) → mine ≡ (number, own_part mine) ∷ [] → AreOwn owners history mine
    → source_samples owners added number ≡ added → own_part (recount owners (history ++ added) mine) ≡ own_part mine ++ added
mine_grows owners history added [] number single own all = absurd (omega (arith, ap length single))
mine_grows owners history added (part ∷ parts) number single own all =
    let numbers : part.0 ≡ number = ap (λ ps. number_of ps) single in
    source_more owners history added part.0 ∙ ap (λ samples. samples ++ source_samples owners added part.0) (sym own.0)
    ∙ ap (λ samples. part.1 ++ samples) (ap (λ n. source_samples owners added n) numbers ∙ all)

-- counted anew, a seat of one source is one
pub single_again : (owners : List ℕ) (history : List Sample) (mine : List (ℕ × List Sample)) (number : ℕ) → mine ≡ (number, own_part mine) ∷ []
    → recount owners history mine ≡ (number, own_part (recount owners history mine)) ∷ []
single_again owners history mine number single =
    let counted : recount owners history mine ≡ (number, source_samples owners history number) ∷ [] = ap (λ parts. recount owners history parts) single in
    counted ∙ ap (λ parts. (number, own_part parts) ∷ []) (sym counted)

-- what a turn did to the front as far as all seats see it
pub record FrontSteps {V : Type 0} (old new : FrontAccount V) (added : List Sample) : Type 0 where
  pub history : new.history ≡ old.history ++ added
  pub marks : IsPrefix old.marks new.marks
  pub stopped : old.stopped ≡ true → new.stopped ≡ true
  pub terms : new.terms ≡ old.terms

-- a turn left all but the history
pub record LeavesAll {V : Type 0} (old new : FrontAccount V) (added : List Sample) : Type 0 where
  pub history : new.history ≡ old.history ++ added
  pub marks : new.marks ≡ old.marks
  pub from : new.from ≡ old.from
  pub stopped : new.stopped ≡ old.stopped
  pub spare : new.spare ≡ old.spare
  pub terms : new.terms ≡ old.terms

module _ {V : Type 0} (old new : FrontAccount V) where
  pub leaves_same : new ≡ old → LeavesAll old new []
  leaves_same same = record {
    history = ap (λ (f : FrontAccount V). f.history) same ∙ sym (append-nil old.history);
    marks = ap (λ (f : FrontAccount V). f.marks) same;
    from = ap (λ (f : FrontAccount V). f.from) same;
    stopped = ap (λ (f : FrontAccount V). f.stopped) same;
    spare = ap (λ (f : FrontAccount V). f.spare) same;
    terms = ap (λ (f : FrontAccount V). f.terms) same;
  }

  pub put_leaves : (sample : Sample) (answer : Append) → PutTells old new sample answer → LeavesAll old new (accepted_by answer sample)
  put_leaves sample (Accepted place) is = record {
    history = ap (λ (f : FrontAccount V). f.history) is.3;
    marks = ap (λ (f : FrontAccount V). f.marks) is.3;
    from = ap (λ (f : FrontAccount V). f.from) is.3;
    stopped = ap (λ (f : FrontAccount V). f.stopped) is.3;
    spare = ap (λ (f : FrontAccount V). f.spare) is.3;
    terms = ap (λ (f : FrontAccount V). f.terms) is.3;
  }
  put_leaves sample (SessionFull held size limit) is = leaves_same is.1
  put_leaves sample (Stopped mark) is = leaves_same is.1
  put_leaves sample (DiskFault before after) is = absurd is
  put_leaves sample Memory is = leaves_same is.1

  pub try_leaves : (sample : Sample) (answer : Try) → Puts old new sample answer → LeavesAll old new (tried_by answer sample)
  try_leaves sample (Busy word back) puts = absurd puts
  try_leaves sample (NeedsFlush held size limit back) puts = leaves_same puts.2
  try_leaves sample (Answered answer) puts = put_leaves sample answer puts.0

  pub left_steps : (added : List Sample) → LeavesAll old new added → FrontSteps old new added
  left_steps added left = record {
    history = left.history;
    marks = subst (λ ms. IsPrefix old.marks ms) (sym left.marks) (prefix_self old.marks);
    stopped = λ is. left.stopped ∙ is;
    terms = left.terms;
  }

  pub left_stays : (added : List Sample) → LeavesAll old new added → Stays (held_of old) new
  left_stays added left = (left.marks, left.from, left.stopped, left.spare)

module _ {D V : Type 0} where
  -- what is carried after the front was worked on, behind which nothing lay
  pub worked : (before now : Here D V) (old new : FrontAccount V) (behind : List (ℕ × Slot D V)) → before.1 ≡ (0, TheFront old) ∷ behind → behind ≡ []
      → now.1 ≡ (0, TheFront new) ∷ rest before.1 → now.1 ≡ (0, TheFront new) ∷ []
  worked before now old new behind out alone done = done ∙ ap (λ b. (0, slot_front new) ∷ b) (ap rest out ∙ alone)

  -- the front may take the sample
  pub may_take : (v u : View) (device : Device) (m : Here D V) (front : FrontAccount V) (behind : List (ℕ × Slot D V)) (sample : Sample) → m.1 ≡ (0, TheFront front) ∷ behind
      → Took v u device front → SampleFits v.basis.terms.layouts sample → encoded_size v.basis.terms.layouts sample ≤ v.basis.terms.block_limit
      → (other : FrontAccount V) × (m.1 ≡ (0, TheFront other) ∷ rest m.1) × MayTake other sample
  may_take v u device m front behind sample out took fits size =
      (front, carries m.1 (0, slot_front front) behind out, subst (λ (t : FrontTerms). SampleFits t.layouts sample × (encoded_size t.layouts sample ≤ t.block_limit)) (sym took.meets.terms) (fits, size))

-- the seat while it holds the turn
abbrev pub turning : {V : Type 0} → View → View → Device → FrontAccount V → View
turning v u device front = record v {
  met = u.met;
  prior = u.prior;
  steps = u.steps;
  turns = v.turns + 1;
  found = v.found ++ held_of front ∷ [];
  turn = holding (held_of front);
  last = holding (held_of front);
  device = device;
}

module _ {V : Type 0} (v u : View) (device : Device) (old new : FrontAccount V) (took : Took v u device old) where
  -- the front may go back
  pub holds_now : (asks : Bool) (added : List Sample) (number : ℕ) → FrontSteps old new added → Adds v.basis.owners v.mine number added → Does device (held_of old) new
      → MakesMark asks v.due v.basis.terms (held_of old) new → Holds asks u new
  holds_now asks added number steps adds does makes = record {
    held = held_of old;
    turn_is = ap (λ (y : View). y.turn) took.rest;
    returns = record {
      added = added;
      history_is = steps.history;
      one = adds.one;
      own = subst (λ (y : View). AreFrom y.basis.owners y.mine added) (sym took.rest) adds.from;
      does = subst (λ (y : View). Does y.device (held_of old) new) (sym took.rest) does;
      makes = subst (λ (y : View). MakesMark asks y.due y.basis.terms (held_of old) new) (sym took.rest) makes;
      terms = steps.terms ∙ took.meets.terms ∙ ap (λ (y : View). front_part y.basis.terms) (sym took.rest);
    };
  }

  module _ (asks : Bool) (word : ℕ) where
    -- what is then so of the seat
    pub served_given : (added : List Sample) (number : ℕ) → FrontSteps old new added → IsSingle v number → Adds v.basis.owners v.mine number added
        → Served v (given asks (turning v u device old) word new) old.history added
    served_given added number steps single adds = record {
      later = took.meets.seen;
      seen = steps.history;
      kept = prefix_trans v.kept old.marks new.marks took.meets.kept steps.marks;
      knows = λ is. steps.stopped (took.meets.knows is);
      mine = ap (λ h. own_part (recount v.basis.owners h v.mine)) steps.history ∙ mine_grows v.basis.owners old.history added v.mine number single took.meets.mine adds.own;
      own = own_recount v.basis.owners new.history v.mine;
      olds = refl;
      basis_is = refl;
      turns = omega arith;
      found = prefix_append v.found (held_of old ∷ []);
    }

    -- the seat after the front was given back
    pub after_turn : (x : View) → x ≡ given asks u word new → x ≡ given asks (turning v u device old) word new
    after_turn x is = is ∙ ap (λ (y : View). given asks y word new) took.rest

    -- the turn found the front so, and gave it back so
    pub turned_given : Turned (given asks (turning v u device old) word new) old new
    turned_given = record { found = refl; terms = took.meets.terms; history = refl; marks = refl; stopped = refl }

    -- the seat has no turn, and is still one of a source
    pub rests_given : given_device device new.spare ≡ free → Rests v (given asks (turning v u device old) word new)
    rests_given off = record {
      calm = refl;
      no_device = off;
      basis_is = refl;
      single = λ number single. single_again v.basis.owners new.history v.mine number single;
    }

-- why a put was answered so, in a turn that found some front and put into one with the same terms
pub told_put : {V : Type 0} (v u : View) (device : Device) (found old new : FrontAccount V) → old.terms ≡ front_part v.basis.terms → (asks : Bool) (word : ℕ) (sample : Sample) (answer : Append)
    → PutTells old new sample answer → Told (given asks (turning v u device found) word new) old.history sample answer
told_put v u device found old new terms asks word sample (Accepted place) is = (is.2, ap (λ (f : FrontAccount _). f.stopped) is.3 ∙ is.0)
told_put v u device found old new terms asks word sample (SessionFull held size limit) is = (
  is.2 ∙ ap (λ (t : FrontTerms). history_cost t.layouts old.history) terms ∙ ap (λ (f : FrontAccount _). history_cost v.basis.terms.layouts f.history) (sym is.1),
  is.3 ∙ ap (λ (t : FrontTerms). cost_of t.layouts sample) terms,
  is.4 ∙ ap (λ (t : FrontTerms). t.session_limit) terms,
  is.5,
  ap (λ (f : FrontAccount _). f.stopped) is.1 ∙ is.0,
)
told_put v u device found old new terms asks word sample (Stopped mark) is =
    (is.2 ∙ ap (λ (f : FrontAccount _). last_mark f.marks) (sym is.1), ap (λ (f : FrontAccount _). f.stopped) is.1 ∙ is.0)
told_put v u device found old new terms asks word sample (DiskFault before after) is = absurd is
told_put v u device found old new terms asks word sample Memory is = (
  ap (λ (f : FrontAccount _). f.stopped) is.1 ∙ is.0,
  subst (λ (f : FrontAccount _). history_cost v.basis.terms.layouts f.history + cost_of v.basis.terms.layouts sample ≤ v.basis.terms.session_limit) (sym is.1)
      (subst (λ (t : FrontTerms). history_cost t.layouts old.history + cost_of t.layouts sample ≤ t.session_limit) terms is.2),
)

-- the seat after the front was given back that it had worked on
pub gave_now : {D V : Type 0} (v u w : View) (device : Device) (old new : FrontAccount V) (asks : Bool) (word : ℕ) (x : Here D V) → Took v u device old → w ≡ u
    → x ≡ seat_of (given asks w word new) [] → x.0 ≡ given asks (turning v u device old) word new
gave_now {D} {V} v u w device old new asks word x took same is =
    after_turn v u device old new took asks word x.0 (ap (λ (seat : Here D V). seat.0) is ∙ ap (λ y. given asks y word new) same)

-- an answer that no call of the disk led to is no fault of it
no_fault : {V : Type 0} (old : FrontAccount V) (sample : Sample) (answer : Append) → NeedsNoDisk old sample answer → IsNoFault answer
no_fault old sample (Accepted place) needs = tt
no_fault old sample (SessionFull held size limit) needs = tt
no_fault old sample (Stopped mark) needs = tt
no_fault old sample (DiskFault before after) needs = absurd needs
no_fault old sample Memory needs = tt

-- the sizes of a full block, by the terms that the seat knows
full_sizes : (first second : FrontTerms) (sample : Sample) (pending history : List Sample) (held size limit : ℕ) → first ≡ second
    → (held ≡ history_size first.layouts pending) × (size ≡ encoded_size first.layouts sample) × (limit ≡ first.block_limit)
    × (first.block_limit < history_size first.layouts pending + encoded_size first.layouts sample) × (history_cost first.layouts history + cost_of first.layouts sample ≤ first.session_limit)
    → (held ≡ history_size second.layouts pending) × (size ≡ encoded_size second.layouts sample) × (limit ≡ second.block_limit)
    × (limit < held + size) × (history_cost second.layouts history + cost_of second.layouts sample ≤ second.session_limit)
full_sizes first second sample pending history held size limit same is =
    let sum : limit < held + size = omega (arith, is.0, is.1, is.2, is.3) in
    subst (λ (t : FrontTerms). (held ≡ history_size t.layouts pending) × (size ≡ encoded_size t.layouts sample) × (limit ≡ t.block_limit) × (limit < held + size) × (history_cost t.layouts history + cost_of t.layouts sample ≤ t.session_limit)) same
    (is.0, is.1, is.2, sum, is.4)

module _ {V : Type 0} (v u : View) (device : Device) (old new : FrontAccount V) (took : Took v u device old) (asks : Bool) (word : ℕ)
    (sample : Sample) (single : IsSingle v (slice_index v.basis.owners sample.group)) where
  -- a put that was answered
  pub appends_given : (answer : Append) → PutTells old new sample answer → Appends v (given asks (turning v u device old) word new) sample answer
  appends_given answer puts = (
    old.history,
    served_given v u device old new took asks word (accepted_by answer sample) (slice_index v.basis.owners sample.group)
        (left_steps old new (accepted_by answer sample) (put_leaves old new sample answer puts)) single (adds_by v.basis.owners v.mine sample answer single),
    told_put v u device old old new took.meets.terms asks word sample answer puts,
  )

  -- and a try
  pub tries_given : (answer : Try) → Puts old new sample answer → Tries v (given asks (turning v u device old) word new) sample answer
  tries_given (Busy w back) puts = absurd puts
  tries_given (NeedsFlush held size limit back) puts =
      let sizes = full_sizes old.terms (front_part v.basis.terms) sample (behind old) old.history held size limit took.meets.terms (puts.3, puts.4, puts.5, puts.6, puts.1) in (
        record {
          history = old.history;
          served = served_given v u device old new took asks word [] (slice_index v.basis.owners sample.group) (left_steps old new [] (leaves_same old new puts.2)) single
              (adds_none v.basis.owners v.mine (slice_index v.basis.owners sample.group));
          held_is = sizes.0 ∙ ap (λ (f : FrontAccount V). history_size v.basis.terms.layouts (drop f.from f.history)) (sym puts.2);
          size_is = sizes.1;
          limit_is = sizes.2;
          passes = sizes.3;
          room = subst (λ (f : FrontAccount V). history_cost v.basis.terms.layouts f.history + cost_of v.basis.terms.layouts sample ≤ v.basis.terms.session_limit) (sym puts.2) sizes.4;
          going = ap (λ (f : FrontAccount V). f.stopped) puts.2 ∙ puts.0;
        },
        puts.7,
      )
  tries_given (Answered answer) puts = (appends_given answer puts.0, no_fault old sample answer puts.1)

  -- the front of a try may go back where the seat has not the device
  pub holds_try : (answer : Try) → device ≡ free → Puts old new sample answer → Holds false u new
  holds_try answer off puts =
      let left = try_leaves old new sample answer puts in
      holds_now v u device old new took false (tried_by answer sample) (slice_index v.basis.owners sample.group) (left_steps old new (tried_by answer sample) left)
      (adds_try v.basis.owners v.mine sample answer single) (subst (λ d. Does d (held_of old) new) (sym off) (left_stays old new (tried_by answer sample) left)) (inl left.marks)

-- the seat after a try of one turn
pub tried_now : {D V : Type 0} (v u w : View) (device : Device) (old new : FrontAccount V) (word : ℕ) (x : Here D V) (sample : Sample) (answer : Try) → Took v u device old
    → IsSingle v (slice_index v.basis.owners sample.group) → device ≡ free → Puts old new sample answer → w ≡ u → x ≡ seat_of (given false w word new) []
    → IsTried V v x.0 sample answer
tried_now {D} {V} v u w device old new word x sample answer took single off puts same is =
    subst (λ y. IsTried V v y sample answer) (sym (gave_now v u w device old new false word x took same is)) (record {
      tries = tries_given v u device old new took false word sample single answer puts;
      from = took.meets.from;
      found = refl;
      rests = rests_given v u device old new took false word (ap (λ d. given_device d new.spare) off);
      asked = append-nil v.asked;
      front = record { tried = λ _. (old, new, turned_given v u device old new took false word, puts) };
    })

-- the turn was taken by a seat that has not the device
pub taken_now : {D V : Type 0} (m n : Here D V) → m.1 ≡ [] → m.0.device ≡ free → (front : FrontAccount V) × (n.1 ≡ (0, TheFront front) ∷ m.1) × Took m.0 n.0 m.0.device front → HasTaken m.0 n
taken_now {D} {V} m n alone off took = record {
  front = took.0;
  out = took.1 ∙ ap (λ b. (0, slot_front took.0) ∷ b) alone;
  took = subst (λ d. Took m.0 n.0 d took.0) off took.2;
}

pub had_turn : {V : Type 0} (old new : FrontAccount V) (sample : Sample) (answer : Try) → Puts old new sample answer → HadTurn answer
had_turn old new sample (Busy word back) puts = puts
had_turn old new sample (NeedsFlush held size limit back) puts = tt
had_turn old new sample (Answered answer) puts = tt
