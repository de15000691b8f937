-- The steps of a seat, and what each leaves it with.
use Rattle.std.specs.Prelude.{ℕ, ◌≡◌, ◌+◌, ◌<◌, ◌≤◌, ◌==◌, ◌⊎◌, Bool, true, false, cond, List, [], ◌∷◌, ◌++◌, length, take, drop, map, slice_index, MatchBool}
use mathlib.Core.Option.{Option as Home, some, none}
use mathlib.Core.List.{IsPrefix}
use Rattle.atomic_table.specs.Table.{Me, Step}
use Rattle.mdf_layout.specs.History.{source_samples}
use Rattle.mdf_layout.specs.declared.sample.Sample.{Sample}
use Rattle.mdf_gate.specs.Gated.{Gated}
use Rattle.book_owned.specs.Account.{Terms}
use Rattle.book_owned.specs.Members.{DiskOf}
use Rattle.book_owned.specs.Marks.{durable}
use Rattle.book_owned.specs.BackHalf.{back_terms}
use Rattle.book_owned.specs.FrontHalf.{FrontAccount}
use Rattle.book_owned.specs.Split.{front_part, back_part}
use Rattle.book_owned.specs.declared.mark.Mark.{Mark}
use Rattle.book_shared.specs.Basis.{Basis, Held, Turn, idle, holding, Device, free, resting, handed, writing, written, settled, last_word}
use Rattle.book_shared.specs.Causes.{HandsOver, IsAmong}
use Rattle.book_shared.specs.Rule.{AreOwn, AreOld, times_in, holds_device, lends_block, IsAnswer, KeepsAll, HoldsAll}
use Rattle.book_shared.specs.declared.half.Answer.{Answer}
use Rattle.book_shared.specs.declared.half.Answer.TheVariants.{Marked, Faulted}
use Rattle.book_shared.specs.declared.half.Half.{Half}
use Rattle.book_shared.specs.declared.half.Half.TheVariants.{TheFront, TheBack, Told, Due, Out}
use Rattle.book_shared.specs.declared.view.View.{View}

-- what a slot has, and a seat's view with the slots that are out with it
abbrev pub Slot : Type 0 → Type 0 → Type 0
Slot D V = Half (FrontAccount V) (Gated D)

abbrev pub Here : Type 0 → Type 0 → Type 0
Here D V = Me (Slot D V) View

-- the samples of these sources in a history
abbrev pub recount : List ℕ → List Sample → List (ℕ × List Sample) → List (ℕ × List Sample)
recount owners history mine = map (λ part. (part.0, source_samples owners history part.0)) mine

-- after a step that met a word and took nothing
abbrev pub looked : View → ℕ → View
looked v word = record v { met = word; prior = v.met; steps = v.steps + 1 }

-- after one on the device
abbrev pub at_device : View → Device → View
at_device v device = record v { device = device }

-- after one that took the device: it may have announced a sample, which the seat has to append
abbrev pub wanting : {F B : Type 0} → View → Home (Half F B) → View
wanting v none = record v { rounds = v.rounds + 1 }
wanting v (some (Told answer)) = record v { rounds = v.rounds + 1 }
wanting v (some (Due sample)) = record v { rounds = v.rounds + 1; due = v.due ++ sample.value ∷ [] }
wanting v (some (TheFront front)) = record v { rounds = v.rounds + 1 }
wanting v (some (TheBack back)) = record v { rounds = v.rounds + 1 }
wanting v (some Out) = record v { rounds = v.rounds + 1 }

-- what a turn names of the front
abbrev pub held_of : {V : Type 0} → FrontAccount V → Held
held_of front = record { history = front.history; marks = front.marks; from = front.from; stopped = front.stopped; spare = front.spare }

-- after one that took the front, and made the word this one; the device may have been told of a write's answer
abbrev pub taking : {V : Type 0} → View → Device → ℕ → FrontAccount V → View
taking v device word front = record v {
  met = word;
  prior = v.met;
  steps = v.steps + 1;
  turns = v.turns + 1;
  found = v.found ++ held_of front ∷ [];
  turn = holding (held_of front);
  last = holding (held_of front);
  device = device;
}

-- how far a seat is with the device after it announced this
abbrev pub told_device : {F B : Type 0} → Device → Home (Half F B) → Device
told_device device none = device
told_device device (some (Told answer)) = written answer
told_device device (some (Due sample)) = device
told_device device (some (TheFront front)) = device
told_device device (some (TheBack back)) = device
told_device device (some Out) = device

-- and after it gave the front back, which has its spare block or not
abbrev pub given_device : Device → Bool → Device
given_device free spare = free
given_device resting true = resting
given_device resting false = handed
given_device handed spare = handed
given_device writing spare = writing
given_device (written answer) spare = written answer
given_device (settled answer) spare = resting

-- and after the back came into its slot again
abbrev pub settled_by : Device → Device
settled_by free = free
settled_by resting = resting
settled_by handed = handed
settled_by writing = writing
settled_by (written answer) = settled answer
settled_by (settled answer) = settled answer

-- through how many samples the marks go that a turn made
abbrev pub marked_in : {V : Type 0} → Turn → FrontAccount V → List ℕ
marked_in idle front = []
marked_in (holding held) front = map (λ mark. mark.through) (drop (length held.marks) front.marks)

-- after one that gave the front back, and made the word this one; a mark of the turn was asked for or not
abbrev pub given : {V : Type 0} → Bool → View → ℕ → FrontAccount V → View
given asks v word front = record v {
  met = word;
  knows = front.stopped;
  seen = front.history;
  kept = front.marks;
  from = front.from;
  asked = v.asked ++ cond asks (marked_in v.turn front) [];
  mine = recount v.basis.owners front.history v.mine;
  turn = idle;
  device = given_device v.device front.spare;
}

-- What a seat knew is so of a front. Who has the device and no block out meets a spare block; and who has one out meets no
-- spare block, just the samples that were handed out with it, its marks, and no stop. The marks go through no more samples than there are.
pub record Meets {V : Type 0} (v : View) (front : FrontAccount V) : Type 0 where
  pub seen : IsPrefix v.seen front.history
  pub kept : IsPrefix v.kept front.marks
  pub from : v.from ≤ front.from
  pub knows : v.knows ≡ true → front.stopped ≡ true
  pub mine : AreOwn v.basis.owners front.history v.mine
  pub within : durable front.marks ≤ length front.history
  pub spare : holds_device v.device ≡ 1 → lends_block v.device ≡ 0 → front.spare ≡ true
  pub awaits : lends_block v.device ≡ 1
      → (front.spare ≡ false) × (front.from ≡ length v.seen) × (front.marks ≡ v.kept) × (front.stopped ≡ false)
  pub terms : front.terms ≡ front_part v.basis.terms

-- each sample is of a source that stands among these
abbrev pub AreFrom : List ℕ → List (ℕ × List Sample) → List Sample → Type 0
AreFrom owners mine [] = Unit {0}
AreFrom owners mine (sample ∷ samples) = (0 < times_in (slice_index owners sample.group) mine) × AreFrom owners mine samples

-- a turn made no mark, or one that was asked for, or that hands a full block over for one of these samples
abbrev pub MakesMark : {V : Type 0} → Bool → List Sample → Terms → Held → FrontAccount V → Type 0
MakesMark asks due terms held front =
    (front.marks ≡ held.marks)
    ⊎ ((mark : Mark) × (front.marks ≡ held.marks ++ mark ∷ [])
    × ((asks ≡ true) ⊎ HandsOver (IsAmong due) terms.layouts terms.block_limit front.history (durable held.marks) mark.through))

-- the front comes back with the same marks, the same samples handed out, the same stop, and its spare block as it was
abbrev pub Stays : {V : Type 0} → Held → FrontAccount V → Type 0
Stays held front =
    (front.marks ≡ held.marks) × (front.from ≡ held.from) × (front.stopped ≡ held.stopped) × (front.spare ≡ held.spare)

-- all its samples are handed out, with what was its spare block
abbrev pub Hands : {V : Type 0} → Held → FrontAccount V → Type 0
Hands held front =
    (front.history ≡ held.history) × (front.marks ≡ held.marks) × (front.from ≡ length front.history)
    × (held.stopped ≡ false) × (front.stopped ≡ false) × (front.spare ≡ false)

-- it has its spare block again, and the mark of what was written, or it is stopped
abbrev pub Finishes : {V : Type 0} → Held → Answer → FrontAccount V → Type 0
Finishes held (Marked mark) front =
    (front.from ≡ held.from) × (front.spare ≡ true) × (front.marks ≡ held.marks ++ mark ∷ []) × (front.stopped ≡ false)
Finishes held (Faulted before after) front =
    (front.from ≡ held.from) × (front.spare ≡ true) × (front.marks ≡ held.marks) × (front.stopped ≡ true)

-- what a seat that is so far with the device owes
abbrev pub Does : {V : Type 0} → Device → Held → FrontAccount V → Type 0
Does free held front = Stays held front
Does resting held front = (Stays held front × (front.spare ≡ true)) ⊎ Hands held front
Does handed held front = ⊥
Does writing held front = ⊥
Does (written answer) held front = ⊥
Does (settled answer) held front = Finishes held answer front

-- A front that was so comes back: it has at most one sample more, which is of a source of the seat.
pub record Returns {V : Type 0} (asks : Bool) (v : View) (held : Held) (front : FrontAccount V) : Type 0 where
  pub added : List Sample
  pub history_is : front.history ≡ held.history ++ added
  pub one : length added ≤ 1
  pub own : AreFrom v.basis.owners v.mine added
  pub does : Does v.device held front
  pub makes : MakesMark asks v.due v.basis.terms held front
  pub terms : front.terms ≡ front_part v.basis.terms

-- a seat holds the turn, and may give this front back
pub record Holds {V : Type 0} (asks : Bool) (v : View) (front : FrontAccount V) : Type 0 where
  pub held : Held
  pub turn_is : v.turn ≡ holding held
  pub returns : Returns asks v held front

-- what a seat may announce when it takes the turn: nothing while no block of its is out, and else the answer of the write
abbrev pub Tells : {F B : Type 0} → View → Home (Half F B) → Type 0
Tells v none = (v.device ≡ free) ⊎ (v.device ≡ resting)
Tells v (some (Told answer)) = (v.device ≡ writing) × IsAnswer (length v.seen) answer
Tells v (some (Due sample)) = ⊥
Tells v (some (TheFront front)) = ⊥
Tells v (some (TheBack back)) = ⊥
Tells v (some Out) = ⊥

module _ {D V : Type 0} where
  -- a load: the word that it met is no smaller than the one before
  abbrev pub Looks : Step (Slot D V) → Here D V → ℕ → Here D V → Type 0
  Looks st m r n = (n ≡ (looked m.0 r, m.1)) × (m.0.met ≤ r) × AreOld m.0.seen m.0.kept m.0.olds × (r ≤ last_word)

  -- an exchange that won: the front is out with the seat, and what the seat knew is so of it
  abbrev pub Wins : Step (Slot D V) → Here D V → Here D V → Type 0
  Wins st m n = (front : FrontAccount V)
      × (n ≡ (taking m.0 (told_device m.0.device st.said) st.second front, (0, TheFront front) ∷ m.1)) × Meets m.0 front

  -- an exchange: it won where it met the word that it named, and else it was a load
  abbrev pub Takes : Step (Slot D V) → Here D V → ℕ → Here D V → Type 0
  Takes st m r n = (m.0.met ≤ r) × (r ≤ last_word) × MatchBool (r == st.first) (Wins st m n) (n ≡ (looked m.0 r, m.1))

  -- a store, which gives back the front that the seat has in its slot
  abbrev pub Gives : Bool → Step (Slot D V) → Here D V → ℕ → Here D V → Type 0
  Gives asks st m r n = (front : FrontAccount V) → m.1 ≡ (0, TheFront front) ∷ [] → n ≡ (given asks m.0 r front, [])

  -- an exchange of the device's word: where it won, the seat has the device, and the sample that it announced is one that it has to append
  abbrev pub TakesDevice : Step (Slot D V) → Here D V → ℕ → Here D V → Type 0
  TakesDevice st m r n = MatchBool (r == st.first) (n ≡ (at_device (wanting m.0 st.said) resting, m.1)) (n ≡ m)

  -- a load of it, by which the back goes out: it keeps what was handed out, and its file holds what stood before
  abbrev pub BringsOut : DiskOf D → Step (Slot D V) → Here D V → ℕ → Here D V → Type 0
  BringsOut disk st m r n = (back : Gated D)
      × (n ≡ (at_device m.0 writing, (1, TheBack back) ∷ m.1))
      × KeepsAll disk m.0.basis back m.0.seen m.0.kept
      × HoldsAll disk m.0.basis back (take (durable m.0.kept) m.0.seen)
      × (back_terms disk back ≡ back_part m.0.basis.terms)

  -- a load of it, by which the back comes in again while the front is out
  abbrev pub BringsIn : Step (Slot D V) → Here D V → ℕ → Here D V → Type 0
  BringsIn st m r n = (back : Gated D) (front : FrontAccount V) → m.1 ≡ (1, TheBack back) ∷ (0, TheFront front) ∷ []
      → n ≡ (at_device m.0 (settled_by m.0.device), (0, TheFront front) ∷ [])

  -- a store, which gives the device back
  abbrev pub GivesDevice : Step (Slot D V) → Here D V → ℕ → Here D V → Type 0
  GivesDevice st m r n = n ≡ (at_device m.0 free, m.1)

-- a seat that has seen nothing, with these sources
abbrev pub fresh : Basis → List (ℕ × List Sample) → View
fresh basis mine = record {
  met = 0;
  prior = 0;
  steps = 0;
  turns = 0;
  found = [];
  rounds = 0;
  knows = false;
  seen = [];
  kept = [];
  from = 0;
  olds = [];
  asked = [];
  due = [];
  mine = mine;
  turn = idle;
  last = idle;
  device = free;
  basis = basis;
}
