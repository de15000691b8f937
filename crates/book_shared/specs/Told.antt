-- The answers of a shared book, in terms of what the seat knows after the call.
use Rattle.std.specs.Prelude.{ℕ, ◌≡◌, ◌+◌, ◌<◌, ◌≤◌, ◌⊎◌, true, false, List, [], ◌∷◌, ◌++◌, length, take, drop, Result, Ok, Err}
use mathlib.Core.List.{IsPrefix}
use Rattle.mdf_format.specs.Cause.{Rose}
use Rattle.mdf_layout.specs.Record.{cost_of, encoded_size, history_cost, history_size}
use Rattle.mdf_layout.specs.declared.sample.Sample.{Sample}
use Rattle.mdf_disk.specs.declared.disk.Disk.{Ghosts as DiskOf}
use Rattle.book_owned.specs.declared.view.Shown.{Ghosts as ViewOf}
use Rattle.book_owned.specs.Marks.{last_mark, durable}
use Rattle.book_owned.specs.FrontHalf.{FrontAccount, AreThroughs, FrontRoom, FrontPasses, FrontFits, PutTells, FinishTells, DoneTells, behind}
use Rattle.book_owned.specs.Split.{front_part}
use Rattle.book_owned.specs.Answers.{accepted_by}
use Rattle.book_owned.specs.declared.mark.Mark.{Mark}
use Rattle.book_owned.specs.declared.answer.Append.{Append}
use Rattle.book_owned.specs.declared.answer.Append.TheVariants.{Accepted, SessionFull, Stopped, DiskFault, Memory}
use Rattle.book_owned.specs.declared.answer.Flush.{Flush}
use Rattle.book_owned.specs.declared.answer.Flush.TheVariants as flush
use Rattle.book_owned.specs.declared.written.Written.TheVariants.{Nothing}
use Rattle.book_shared.specs.Basis.{Held, holding}
use Rattle.book_shared.specs.Plays.{held_of}
use Rattle.book_shared.specs.Rule.{AreOwn}
use Rattle.book_shared.specs.Turns.{IsBusy, IsFirst, Served}
use Rattle.book_shared.specs.declared.answer.Try.{Try}
use Rattle.book_shared.specs.declared.answer.Try.TheVariants.{Busy, NeedsFlush, Answered}
use Rattle.book_shared.specs.declared.view.View.{View}

-- why an append answers so, where the book had this history
abbrev pub Told : View → List Sample → Sample → Append → Type 0
Told u history sample (Accepted place) = (place ≡ length history) × (u.knows ≡ false)
Told u history sample (SessionFull held size limit) =
    (held ≡ history_cost u.basis.terms.layouts u.seen) × (size ≡ cost_of u.basis.terms.layouts sample)
    × (limit ≡ u.basis.terms.session_limit) × (limit < held + size) × (u.knows ≡ false)
Told u history sample (Stopped mark) = (mark ≡ last_mark u.kept) × (u.knows ≡ true)
Told u history sample (DiskFault before after) = Rose before after × (u.knows ≡ true)
Told u history sample Memory =
    (u.knows ≡ false)
    × (history_cost u.basis.terms.layouts u.seen + cost_of u.basis.terms.layouts sample ≤ u.basis.terms.session_limit)

-- an append: turns, in the last of which the sample was accepted just where the answer says so
abbrev pub Appends : View → View → Sample → Append → Type 0
Appends v u sample answer = (history : List Sample) × Served v u history (accepted_by answer sample) × Told u history sample answer

-- the samples behind those that were handed out
abbrev pub behind_handed : View → List Sample
behind_handed u = drop u.from u.seen

-- one turn, in which nothing was accepted, since the pending records and that of the sample pass the block limit; the front is
-- not stopped, and the session has room
pub record IsFull (v u : View) (sample : Sample) (held size limit : ℕ) : Type 0 where
  pub history : List Sample
  pub served : Served v u history []
  pub held_is : held ≡ history_size u.basis.terms.layouts (behind_handed u)
  pub size_is : size ≡ encoded_size u.basis.terms.layouts sample
  pub limit_is : limit ≡ u.basis.terms.block_limit
  pub passes : limit < held + size
  pub room : history_cost u.basis.terms.layouts u.seen + cost_of u.basis.terms.layouts sample ≤ u.basis.terms.session_limit
  pub going : u.knows ≡ false

-- the seat's last turn made no mark
abbrev pub MadeNone : View → Type 0
MadeNone u = (held : Held) × (u.last ≡ holding held) × (u.kept ≡ held.marks)

-- or one that goes through no fewer samples than these
abbrev pub MarksThrough : View → List Sample → Type 0
MarksThrough u samples = MadeNone u ⊎ (length samples ≤ durable u.kept)

-- The pending records and that of the sample passed the block limit, as the first turn of this call found the front, which was not stopped: it
-- had a beginning of the history that goes on from what the seat had seen, and no fewer samples were handed out than the seat knew of. Where
-- the last turn made a mark, that goes through all that the first found.
pub record WasBlocked (v u : View) (sample : Sample) : Type 0 where
  pub met : Held
  pub first : IsFirst v u met
  pub marks : MarksThrough u met.history
  pub later : IsPrefix v.seen met.history
  pub seen : IsPrefix met.history u.seen
  pub handed : v.from ≤ met.from
  pub going : met.stopped ≡ false
  pub passes : u.basis.terms.block_limit < history_size u.basis.terms.layouts (drop met.from met.history) + encoded_size u.basis.terms.layouts sample

-- an append has one turn, and does not take the device, but where its sample did not fit
abbrev pub IsOneTurn : View → View → Sample → Type 0
IsOneTurn v u sample = ((u.turns ≡ v.turns + 1) × (u.rounds ≡ v.rounds)) ⊎ WasBlocked v u sample

-- and it announces its sample only there
abbrev pub Announces : View → View → Sample → Type 0
Announces v u sample = (u.due ≡ v.due) ⊎ WasBlocked v u sample

-- an answer that no call of the disk led to
abbrev pub IsNoFault : Append → Type 0
IsNoFault (Accepted place) = Unit {0}
IsNoFault (SessionFull held size limit) = Unit {0}
IsNoFault (Stopped mark) = Unit {0}
IsNoFault (DiskFault before after) = ⊥
IsNoFault Memory = Unit {0}

-- a try
abbrev pub Tries : View → View → Sample → Try → Type 0
Tries v u sample (Busy word back) = IsBusy v u word × (back ≡ sample)
Tries v u sample (NeedsFlush held size limit back) = IsFull v u sample held size limit × (back ≡ sample)
Tries v u sample (Answered answer) = Appends v u sample answer × IsNoFault answer

-- which samples the answer says were accepted
abbrev pub tried_by : Try → Sample → List Sample
tried_by (Busy word back) sample = []
tried_by (NeedsFlush held size limit back) sample = []
tried_by (Answered answer) sample = accepted_by answer sample

-- an answer that no call of the disk led to: where the sample was accepted, or memory was wanted for it, its record and the
-- pending ones are within the block limit
abbrev pub NeedsNoDisk : {V : Type 0} → FrontAccount V → Sample → Append → Type 0
NeedsNoDisk old sample (Accepted place) = FrontFits old sample
NeedsNoDisk old sample (SessionFull held size limit) = Unit {0}
NeedsNoDisk old sample (Stopped mark) = Unit {0}
NeedsNoDisk old sample (DiskFault before after) = ⊥
NeedsNoDisk old sample Memory = FrontFits old sample

-- what a try does to the front, once the seat has the turn
abbrev pub Puts : {V : Type 0} → FrontAccount V → FrontAccount V → Sample → Try → Type 0
Puts old new sample (Busy word back) = ⊥
Puts old new sample (NeedsFlush held size limit back) =
    (old.stopped ≡ false) × FrontRoom old sample × (new ≡ old) × (held ≡ history_size old.terms.layouts (behind old))
    × (size ≡ encoded_size old.terms.layouts sample) × (limit ≡ old.terms.block_limit) × FrontPasses old sample × (back ≡ sample)
Puts old new sample (Answered answer) = PutTells old new sample answer × NeedsNoDisk old sample answer

-- A flush of so many samples that needs no write: the front is stopped; or they are durable and the spare block is there, and the
-- durable samples are shown. One that needs a write leaves the front, and its answer says how many samples there are.
abbrev pub FlushesNow : {V N : Type 0} → ViewOf V N → FrontAccount V → FrontAccount V → ℕ → Result (Flush N) ℕ → Type 0
FlushesNow view old new wanted (Ok answer) =
    ((old.stopped ≡ true) × (new ≡ old) × (answer ≡ flush.Stopped (last_mark old.marks)))
    ⊎ ((old.spare ≡ true) × (wanted ≤ durable old.marks) × FinishTells view old new Nothing answer × AreThroughs new.marks)
FlushesNow view old new wanted (Err accepted) =
    (old.stopped ≡ false) × (new ≡ old) × (accepted ≡ length old.history) × (old.spare ≡ true → durable old.marks < wanted)
    × (old.spare ≡ false → durable old.marks < length old.history)

-- these marks have one with so many samples
pub record HasMark (marks : List Mark) (through : ℕ) : Type 0 where
  pub before : List Mark
  pub mark : Mark
  pub after : List Mark
  pub marks_are : marks ≡ before ++ mark ∷ after
  pub through_is : mark.through ≡ through

-- why a flush answers so: where it is done, a mark stands, and what it goes through has all samples of the seat's source
abbrev pub FlushTold : {N : Type 0} → View → Flush N → Type 0
FlushTold u (flush.Done through shown note) =
    (through ≤ length u.seen) × HasMark u.kept through × AreOwn u.basis.owners (take through u.seen) u.mine × (shown ≤ through) × (u.knows ≡ false)
FlushTold u (flush.DiskFault before after) = Rose before after × (u.knows ≡ true)
FlushTold u (flush.Stopped mark) = (mark ≡ last_mark u.kept) × (u.knows ≡ true)

-- a flush: turns, in which nothing was accepted
abbrev pub Flushes : {N : Type 0} → View → View → Flush N → Type 0
Flushes v u answer = (history : List Sample) × Served v u history [] × FlushTold u answer

-- it goes through no fewer samples than the seat had seen before
abbrev pub FlushesSeen : {N : Type 0} → View → Flush N → Type 0
FlushesSeen v (flush.Done through shown note) = length v.seen ≤ through
FlushesSeen v (flush.DiskFault before after) = Unit {0}
FlushesSeen v (flush.Stopped mark) = Unit {0}

-- the seat's last turn met fewer than so many durable samples
abbrev pub Lacked : View → ℕ → Type 0
Lacked u count = (held : Held) × (u.last ≡ holding held) × (durable held.marks < count)

-- A flush of so many samples. Where it is done, it goes through no fewer; and it wrote, and so made a mark or met a fault, only where
-- fewer were durable.
abbrev pub FlushesFor : {N : Type 0} → ℕ → View → Flush N → Type 0
FlushesFor count u (flush.Done through shown note) = (count ≤ through) × (MadeNone u ⊎ Lacked u count)
FlushesFor count u (flush.DiskFault before after) = Lacked u count
FlushesFor count u (flush.Stopped mark) = Unit {0}

-- of those that were accepted when the seat had its first turn of this call
pub record FlushesFirst {N : Type 0} (v u : View) (answer : Flush N) : Type 0 where
  pub met : Held
  pub first : IsFirst v u met
  pub flushes : FlushesFor (length met.history) u answer

-- the first turn of this call found a front that was not stopped, with samples that were not durable
pub record WasLacking (v u : View) : Type 0 where
  pub met : Held
  pub first : IsFirst v u met
  pub going : met.stopped ≡ false
  pub lacks : durable met.marks < length met.history

-- a flush has one turn, and does not take the device, but where not all was durable
abbrev pub IsOneFlush : View → View → Type 0
IsOneFlush v u = ((u.turns ≡ v.turns + 1) × (u.rounds ≡ v.rounds)) ⊎ WasLacking v u

-- where it made a mark, the seat asked for that one
abbrev pub Asks : {N : Type 0} → View → View → Flush N → Type 0
Asks v u (flush.Done through shown note) = (u.asked ≡ v.asked) ⊎ (u.asked ≡ v.asked ++ through ∷ [])
Asks v u (flush.DiskFault before after) = u.asked ≡ v.asked
Asks v u (flush.Stopped mark) = u.asked ≡ v.asked

-- its note tells of the samples that are shown
abbrev pub IsNoted : {V N : Type 0} → ViewOf V N → View → Flush N → Type 0
IsNoted view u (flush.Done through shown note) = view.tells note u.basis.terms.which (take shown u.seen)
IsNoted view u (flush.DiskFault before after) = Unit {0}
IsNoted view u (flush.Stopped mark) = Unit {0}

-- the seat's last turn found the front so, and gave it back so
pub record Turned {V : Type 0} (u : View) (old new : FrontAccount V) : Type 0 where
  pub found : u.last ≡ holding (held_of old)
  pub terms : old.terms ≡ front_part u.basis.terms
  pub history : new.history ≡ u.seen
  pub marks : new.marks ≡ u.kept
  pub stopped : new.stopped ≡ u.knows

-- these numbers say how often a disk had failed before a call, and after it
pub record AreCounts {D : Type 0} (disk : DiskOf D) (before after : ℕ) : Type 0 where
  pub old : D
  pub new : D
  pub before_is : before ≡ disk.faults old
  pub after_is : after ≡ disk.faults new
  pub rose : Rose before after

-- the front is told in the turn that the write met a fault of the disk: it is stopped since, and has its spare block again
pub record MeetsFault {D V : Type 0} (disk : DiskOf D) (old new : FrontAccount V) (before after : ℕ) : Type 0 where
  pub going : old.stopped ≡ false
  pub stops : new ≡ record old { stopped = true; spare = true }
  pub counts : AreCounts disk before after

-- a front has the mark of what was written, and shows its durable samples
pub record HasMarked {V N : Type 0} (view : ViewOf V N) (old new : FrontAccount V) : Type 0 where
  pub mark : Mark
  pub through : ℕ
  pub shown : ℕ
  pub note : N
  pub tells : DoneTells view old new (old.marks ++ mark ∷ []) through shown note

-- the sample was put into the front as the turn found it, or into that one with such a mark
pub record PutsReady {V N : Type 0} (view : ViewOf V N) (old new : FrontAccount V) (sample : Sample) (answer : Append) : Type 0 where
  pub met : FrontAccount V
  pub ready : (met ≡ old) ⊎ HasMarked view old met
  pub puts : PutTells met new sample answer
  pub fits : NeedsNoDisk met sample answer

-- what the last turn of an append did to the front that it found
abbrev pub AppendDoes : {D V N : Type 0} → DiskOf D → ViewOf V N → FrontAccount V → FrontAccount V → Sample → Append → Type 0
AppendDoes disk view old new sample (Accepted place) = PutsReady view old new sample (Accepted place)
AppendDoes disk view old new sample (SessionFull held size limit) = PutsReady view old new sample (SessionFull held size limit)
AppendDoes disk view old new sample (Stopped mark) = PutTells old new sample (Stopped mark)
AppendDoes disk view old new sample (DiskFault before after) = MeetsFault disk old new before after
AppendDoes disk view old new sample Memory = PutsReady view old new sample Memory

-- and of a flush: it added a mark or none, and the durable samples are shown
abbrev pub FlushDoes : {D V N : Type 0} → DiskOf D → ViewOf V N → FrontAccount V → FrontAccount V → Flush N → Type 0
FlushDoes disk view old new (flush.Done through shown note) =
    ((new.marks ≡ old.marks) ⊎ ((mark : Mark) × (new.marks ≡ old.marks ++ mark ∷ []))) × DoneTells view old new new.marks through shown note
FlushDoes disk view old new (flush.DiskFault before after) = MeetsFault disk old new before after
FlushDoes disk view old new (flush.Stopped mark) = (old.stopped ≡ true) × (new ≡ old) × (mark ≡ last_mark old.marks)

-- the seat's last turn did so to the front, with the causes of that
pub record AppendsFront {D V N : Type 0} (disk : DiskOf D) (view : ViewOf V N) (u : View) (sample : Sample) (answer : Append) : Type 0 where
  pub old : FrontAccount V
  pub new : FrontAccount V
  pub turned : Turned u old new
  pub does : AppendDoes disk view old new sample answer

pub record FlushesFront {D V N : Type 0} (disk : DiskOf D) (view : ViewOf V N) (u : View) (answer : Flush N) : Type 0 where
  pub old : FrontAccount V
  pub new : FrontAccount V
  pub turned : Turned u old new
  pub does : FlushDoes disk view old new answer

-- the seat had a turn in the try
abbrev pub HadTurn : Try → Type 0
HadTurn (Busy word back) = ⊥
HadTurn (NeedsFlush held size limit back) = Unit {0}
HadTurn (Answered answer) = Unit {0}

-- where the seat had a turn, it was one try of the front, with the causes of that
pub record TriesFront (V : Type 0) (u : View) (sample : Sample) (answer : Try) : Type 0 where
  pub tried : HadTurn answer → (old new : FrontAccount V) × Turned u old new × Puts old new sample answer
