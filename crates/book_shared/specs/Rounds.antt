-- How a call goes on from one of its turns to the next.
use Rattle.std.specs.Prelude.{ℕ, ◌≡◌, ◌==◌, MatchBool, ◌++◌, ◌+◌, ◌<◌, ◌≤◌, false, List, [], ◌∷◌, length, drop, Option as Opt, Some, None}
use Rattle.mdf_gate.specs.Gated.{Gated}
use Rattle.mdf_layout.specs.Record.{encoded_size, history_size}
use Rattle.mdf_layout.specs.declared.sample.Sample.{Sample}
use Rattle.mdf_disk.specs.declared.disk.Disk.{Ghosts as DiskOf}
use Rattle.book_owned.specs.declared.view.Shown.{Ghosts as ViewOf}
use Rattle.book_owned.specs.Marks.{durable}
use Rattle.book_owned.specs.BackHalf.{back_terms}
use Rattle.book_owned.specs.FrontHalf.{FrontAccount, FrontPasses, HandTells}
use Rattle.book_owned.specs.Split.{front_part, back_part}
use Rattle.book_owned.specs.declared.mark.Mark.{Mark}
use Rattle.book_owned.specs.declared.handed.Handed.{Handed}
use Rattle.book_owned.specs.declared.written.Written.{Written}
use Rattle.book_owned.specs.declared.written.Written.TheVariants.{Done, DiskFault, Nothing}
use Rattle.book_owned.specs.declared.answer.Flush.{Flush}
use Rattle.book_shared.specs.Basis.{Basis, Held, Turn, idle, holding, free, resting, writing}
use Rattle.book_shared.specs.Causes.{IsAmong}
use Rattle.book_shared.specs.Rule.{AreOwn, KeepsAll, IsWrittenBy}
use Rattle.book_shared.specs.Plays.{Here, at_device, given, held_of}
use Rattle.book_shared.specs.Turns.{Took, Served, Rests, told_by}
use Rattle.book_owned.specs.declared.answer.Append.TheVariants as append
use Rattle.book_shared.specs.declared.answer.Try.{Try}
use Rattle.book_shared.specs.declared.answer.Try.TheVariants.{Busy, NeedsFlush, Answered}
use Rattle.book_shared.specs.Told.{AreCounts, Appends, AppendsFront, Tries, TriesFront, Flushes, FlushesSeen, FlushesFront, Asks, IsNoted, MarksThrough, WasBlocked, IsOneTurn}
use Rattle.book_shared.specs.declared.half.Answer.{Answer}
use Rattle.book_shared.specs.declared.half.Answer.TheVariants.{Marked, Faulted}
use Rattle.book_shared.specs.declared.half.Half.TheVariants.{TheFront, TheBack}
use Rattle.book_shared.specs.declared.view.View.{View}

-- the turn was taken by a seat that has not the device, and this is the front
pub record HasTaken {D V : Type 0} (v : View) (m : Here D V) : Type 0 where
  pub front : FrontAccount V
  pub out : m.1 ≡ (0, TheFront front) ∷ []
  pub took : Took v m.0 free front

-- what a seat knows that takes the device, for a sample or for none
abbrev pub wanted : View → Opt Sample → View
wanted v None = record v { rounds = v.rounds + 1 }
wanted v (Some sample) = record v { rounds = v.rounds + 1; due = v.due ++ sample ∷ [] }

-- an exchange of the device's word for this sample, or for none: it won where it met 0
abbrev pub TakesFor : {D V : Type 0} → Opt Sample → Here D V → ℕ → Here D V → Type 0
TakesFor due m r n = MatchBool (r == 0) (n ≡ (at_device (wanted m.0 due) resting, m.1)) (n ≡ m)

-- The device and the turn were taken, and this is the front. A seat that has to append a sample has announced it by then; `v` is what it
-- knew when it had.
pub record HasSeized {D V : Type 0} (v : View) (m : Here D V) : Type 0 where
  pub front : FrontAccount V
  pub out : m.1 ≡ (0, TheFront front) ∷ []
  pub took : Took (at_device v resting) m.0 resting front

-- that one is not stopped, and has samples that are not durable
pub record HasPending {D V : Type 0} (v : View) (m : Here D V) : Type 0 where
  pub seized : HasSeized v m
  pub going : seized.front.stopped ≡ false
  pub pending : durable seized.front.marks < length seized.front.history

-- it is not stopped, and its pending records and that of a sample pass the block limit
pub record HasFull {D V : Type 0} (v : View) (m : Here D V) (sample : Sample) : Type 0 where
  pub seized : HasSeized v m
  pub going : seized.front.stopped ≡ false
  pub passes : FrontPasses seized.front sample
  pub is_due : IsAmong v.due sample

-- the pending records of the front were handed out after the device and the turn were taken
pub record HasTurned {D V : Type 0} (v : View) (m : Here D V) (what : Handed) : Type 0 where
  pub old : FrontAccount V
  pub new : FrontAccount V
  pub out : m.1 ≡ (0, TheFront new) ∷ []
  pub took : Took (at_device v resting) m.0 resting old
  pub tells : HandTells old new what

-- a seat at rest with the device handed them out in its turn
pub record HasHanded {D V : Type 0} (m : Here D V) (what : Handed) : Type 0 where
  pub old : FrontAccount V
  pub new : FrontAccount V
  pub out : m.1 ≡ (0, TheFront new) ∷ []
  pub turn_is : m.0.turn ≡ holding (held_of old)
  pub device_is : m.0.device ≡ resting
  pub terms : old.terms ≡ front_part m.0.basis.terms
  pub tells : HandTells old new what

-- what the answer of a write is told as
abbrev pub answered : Written → Opt Answer
answered (Done mark block) = Some (Marked mark)
answered (DiskFault before after block) = Some (Faulted before after)
answered Nothing = None

-- a write of all these samples, with these marks before it, had this answer
abbrev pub IsWrittenAs : {D : Type 0} → DiskOf D → Basis → Gated D → List Sample → List Mark → Written → Type 0
IsWrittenAs disk basis back samples marks (Done mark block) =
    KeepsAll disk basis back samples marks × IsWrittenBy disk basis back samples marks (Marked mark)
    × (mark.through ≡ length samples) × (block.limit ≡ basis.terms.block_limit)
IsWrittenAs disk basis back samples marks (DiskFault before after block) =
    KeepsAll disk basis back samples marks × IsWrittenBy disk basis back samples marks (Faulted before after)
    × AreCounts disk before after × (block.limit ≡ basis.terms.block_limit)
IsWrittenAs disk basis back samples marks Nothing = ⊥

-- the turn was given back, what was handed out was written, and the turn was taken again
pub record HasWritten {D V : Type 0} (disk : DiskOf D) (m : Here D V) (word : ℕ) (new : FrontAccount V) (n : Here D V) (word' : ℕ) (answer : Written) : Type 0 where
  pub front : FrontAccount V
  pub back : Gated D
  pub out : n.1 ≡ (0, TheFront front) ∷ (1, TheBack back) ∷ []
  pub met : word' ≡ n.0.met
  pub took : Took (at_device (given false m.0 (word + 1) new) writing) n.0 (told_by writing (answered answer)) front
  pub by : IsWrittenAs disk m.0.basis back new.history new.marks answer
  pub terms : back_terms disk back ≡ back_part m.0.basis.terms

-- so it is of a seat that knew this while it wrote
pub record HasBoth {D V : Type 0} (disk : DiskOf D) (y : View) (n : Here D V) (answer : Written) : Type 0 where
  pub front : FrontAccount V
  pub back : Gated D
  pub out : n.1 ≡ (0, TheFront front) ∷ (1, TheBack back) ∷ []
  pub was : y.device ≡ writing
  pub took : Took y n.0 (told_by writing (answered answer)) front
  pub by : IsWrittenAs disk y.basis back y.seen y.kept answer
  pub terms : back_terms disk back ≡ back_part y.basis.terms
  pub own : AreOwn y.basis.owners y.seen y.mine

-- the first turn of a flush that needs a write: nothing changed, the seat has seen so many samples, and not all of them were durable
pub record HasSeen (v y : View) (accepted : ℕ) : Type 0 where
  pub history : List Sample
  pub served : Served v y history []
  pub rests : Rests v y
  pub asked : y.asked ≡ v.asked
  pub accepted_is : accepted ≡ length y.seen
  pub met : Held
  pub found : y.found ≡ v.found ++ met ∷ []
  pub met_is : length met.history ≡ accepted
  pub going : met.stopped ≡ false
  pub lacks : durable met.marks < length met.history

-- fewer than so many of these samples are durable
abbrev pub Lacks : List Sample → List Mark → ℕ → Type 0
Lacks samples marks count = (durable marks < count) × (count ≤ length samples)

-- a flush went on to its end
pub record HasFlushed {D V N : Type 0} (disk : DiskOf D) (view : ViewOf V N) (v x : View) (answer : Flush N) : Type 0 where
  pub flushes : Flushes v x answer
  pub noted : IsNoted view x answer
  pub seen : FlushesSeen v answer
  pub asked : Asks v x answer
  pub rests : Rests v x
  pub front : FlushesFront disk view x answer

-- what a turn found
abbrev pub met_in : Turn → List Held
met_in idle = []
met_in (holding held) = held ∷ []

-- how many samples were handed out then
abbrev pub from_in : Turn → ℕ
from_in idle = 0
from_in (holding held) = held.from

-- a try of one turn
pub record IsTried (V : Type 0) (v x : View) (sample : Sample) (answer : Try) : Type 0 where
  pub tries : Tries v x sample answer
  pub from : v.from ≤ from_in x.last
  pub found : x.found ≡ v.found ++ met_in x.last
  pub rests : Rests v x
  pub asked : x.asked ≡ v.asked
  pub front : TriesFront V x sample answer

-- the records that a seat handed out and that of a sample, which the seat had to append, pass the block limit
abbrev pub WasFull : View → Sample → Type 0
WasFull y sample =
    (y.basis.terms.block_limit < history_size y.basis.terms.layouts (drop (durable y.kept) y.seen) + encoded_size y.basis.terms.layouts sample) × IsAmong y.due sample

-- what a round of an append comes to: nothing was accepted and the block is full again behind a mark that was made, or the sample
-- has its answer
abbrev pub IsRound : {D V N : Type 0} → DiskOf D → ViewOf V N → View → View → Sample → Try → Type 0
IsRound disk view v x sample (Busy word back) = ⊥
IsRound disk view v x sample (NeedsFlush held size limit back) = ((history : List Sample) × Served v x history []) × (back ≡ sample) × (length v.kept < length x.kept)
IsRound disk view v x sample (Answered answer) = Appends v x sample answer × AppendsFront disk view x sample answer

pub record HasTried {D V N : Type 0} (disk : DiskOf D) (view : ViewOf V N) (v x : View) (sample : Sample) (answer : Try) : Type 0 where
  pub round : IsRound disk view v x sample answer
  pub marks : MarksThrough x v.seen
  pub rests : Rests v x
  pub asked : x.asked ≡ v.asked

-- a round has one turn, but where the sample did not fit
abbrev pub IsOneRound : View → View → Sample → Try → Type 0
IsOneRound v x sample (Busy word back) = Unit {0}
IsOneRound v x sample (NeedsFlush held size limit back) = WasBlocked v x sample
IsOneRound v x sample (Answered answer) = IsOneTurn v x sample

-- the answer of a round: that of its write where it met a fault, and else that of its put
abbrev pub round_answer : Opt Answer → Try → Try
round_answer None answer = answer
round_answer (Some (Marked mark)) answer = answer
round_answer (Some (Faulted before after)) answer = Answered (append.DiskFault before after)
