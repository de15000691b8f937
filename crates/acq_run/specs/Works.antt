-- What the work of a source does to its seat.
use Rattle.std.specs.Prelude.{ℕ, ◌≡◌, ◌+◌, ◌*◌, ◌≤◌, ◌<◌, ◌⊎◌, Bool, true, false, List, [], ◌∷◌, ◌++◌, length, take, Result, Ok, Err}
use mathlib.Core.List.{IsPrefix}
use Rattle.mdf_format.specs.Cause.{Rose}
use Rattle.mdf_disk.specs.declared.disk.Disk.{Ghosts as DiskOf}
use Rattle.mdf_layout.specs.History.{source_samples}
use Rattle.mdf_layout.specs.Layout.{Layout}
use Rattle.mdf_layout.specs.Record.{cost_of, history_cost}
use Rattle.mdf_layout.specs.declared.sample.Sample.{Sample}
use Rattle.book_owned.specs.FrontHalf.{FrontAccount}
use Rattle.book_owned.specs.Marks.{last_mark}
use Rattle.book_owned.specs.declared.answer.Append.{Append}
use Rattle.book_owned.specs.declared.answer.Append.TheVariants as append
use Rattle.book_owned.specs.declared.mark.Mark.{Mark}
use Rattle.book_owned.specs.declared.view.Shown.{Ghosts as ViewOf}
use Rattle.book_shared.specs.Basis.{Held, holding}
use Rattle.book_shared.specs.Causes.{IsAmong, times_of}
use Rattle.book_shared.specs.Told.{HasMark, MeetsFault, Turned}
use Rattle.book_shared.specs.Place.{Place, own_part}
use Rattle.book_shared.specs.Turns.{HasTurnsFor}
use Rattle.book_shared.specs.declared.view.View.{View}
use Rattle.acq_run.specs.Feeds.{flushes_of, samples_of}
use Rattle.acq_run.specs.declared.feed.Fed.{Fed}
use Rattle.acq_run.specs.declared.feed.Fed.TheVariants as fed
use Rattle.acq_run.specs.declared.work.Ended.{Ended}
use Rattle.acq_run.specs.declared.work.Ended.TheVariants.{Running, Done, SessionFull, Stopped, DiskFault, Memory}

-- a mark goes through just these samples of the source, whatever it has of the others
pub record IsMarkedAt (owners : List ℕ) (source : ℕ) (history : List Sample) (marks : List Mark) (own : List Sample) : Type 0 where
  pub through : ℕ
  pub mark : HasMark marks through
  pub within : through ≤ length history
  pub own_is : source_samples owners (take through history) source ≡ own

-- Each flush among what a source handed in has a mark with just the source's samples before it, where these stand before
-- the first.
abbrev pub AreMarked : List ℕ → ℕ → List Sample → List Mark → List Sample → List Fed → Type 0
AreMarked owners source history marks before [] = Unit {0}
AreMarked owners source history marks before (fed.Sample sample ∷ feds) = AreMarked owners source history marks (before ++ sample ∷ []) feds
AreMarked owners source history marks before (fed.Flush ∷ feds) =
    IsMarkedAt owners source history marks before × AreMarked owners source history marks before feds
AreMarked owners source history marks before (fed.End ∷ feds) = AreMarked owners source history marks before feds

-- Among what a source hands in is a flush that goes through so many samples of the history: of these the source has just those
-- before the flush, where these stand before the first.
pub record IsFlushed (owners : List ℕ) (source : ℕ) (history before : List Sample) (feds : List Fed) (through : ℕ) : Type 0 where
  pub first : List Fed
  pub later : List Fed
  pub feds_are : feds ≡ first ++ fed.Flush ∷ later
  pub within : through ≤ length history
  pub own_is : source_samples owners (take through history) source ≡ before ++ samples_of first

-- the next that a source hands in is this sample
pub record IsNext (rest : List Fed) (sample : Sample) : Type 0 where
  pub later : List Fed
  pub rest_is : rest ≡ fed.Sample sample ∷ later

-- behind this history the next sample would pass the session limit
pub record IsOver (layouts : List Layout) (session : ℕ) (history : List Sample) (rest : List Fed) (held size limit : ℕ) : Type 0 where
  pub sample : Sample
  pub next : IsNext rest sample
  pub held_is : held ≡ history_cost layouts history
  pub size_is : size ≡ cost_of layouts sample
  pub limit_is : limit ≡ session
  pub over : limit < held + size

-- behind this history the session has room for the next sample
pub record HasRoomNext (layouts : List Layout) (session : ℕ) (history : List Sample) (rest : List Fed) : Type 0 where
  pub sample : Sample
  pub next : IsNext rest sample
  pub room : history_cost layouts history + cost_of layouts sample ≤ session

-- the seat's last turn found the book stopped, or not
abbrev pub Found : View → Bool → Type 0
Found u stopped = (held : Held) × (u.last ≡ holding held) × (held.stopped ≡ stopped)

-- the seat has seen all samples of its source
abbrev pub HasSeenOwn : View → ℕ → Type 0
HasSeenOwn u source = source_samples u.basis.owners u.seen source ≡ own_part u.mine

-- why a source's work ended, by what its seat knows and what is left of its feed. All that was accepted of the source had
-- been seen then.
abbrev pub Ends : View → ℕ → List Fed → Ended → Type 0
Ends u source rest Running = ⊥
Ends u source rest Done = rest ≡ []
Ends u source rest (SessionFull held size limit) =
    IsOver u.basis.terms.layouts u.basis.terms.session_limit u.seen rest held size limit × HasSeenOwn u source
Ends u source rest (Stopped mark) = (mark ≡ last_mark u.kept) × (u.knows ≡ true) × Found u true
Ends u source rest (DiskFault before after) = Rose before after × (u.knows ≡ true) × Found u false
Ends u source rest Memory =
    (u.knows ≡ false) × HasRoomNext u.basis.terms.layouts u.basis.terms.session_limit u.seen rest × HasSeenOwn u source

-- Where a source's work ended by a fault of the disk, the seat's last turn stopped the book, and the two numbers say how often
-- the disk had failed before the write that met the fault, and after it.
abbrev pub CountsFaults : {D V N : Type 0} → DiskOf D → ViewOf V N → View → Ended → Type 0
CountsFaults disk view u Running = Unit {0}
CountsFaults disk view u Done = Unit {0}
CountsFaults disk view u (SessionFull held size limit) = Unit {0}
CountsFaults disk view u (Stopped mark) = Unit {0}
CountsFaults {D} {V} disk view u (DiskFault before after) =
    (old new : FrontAccount V) × Turned u old new × MeetsFault disk old new before after
CountsFaults disk view u Memory = Unit {0}

-- what an append comes to for its source: how many samples were accepted, or how its work ended
abbrev pub appended : Append → Result ℕ Ended
appended (append.Accepted place) = Ok 1
appended (append.SessionFull held size limit) = Err (SessionFull held size limit)
appended (append.Stopped mark) = Err (Stopped mark)
appended (append.DiskFault before after) = Err (DiskFault before after)
appended append.Memory = Err Memory

-- the seat has seen and kept what it had, and more, knows of a stop where it knew, and is at the same book
pub record IsLater (v u : View) : Type 0 where
  pub seen : IsPrefix v.seen u.seen
  pub kept : IsPrefix v.kept u.kept
  pub knows : v.knows ≡ true → u.knows ≡ true
  pub basis_is : u.basis ≡ v.basis

-- All of this was done, in order: the samples were accepted, so many, and the seat has seen them; each flush has its mark in
-- what it has seen, and the seat asked for no other.
pub record Does (v u : View) (source : ℕ) (done : List Fed) (accepted : ℕ) : Type 0 where
  pub later : IsLater v u
  pub mine : own_part u.mine ≡ own_part v.mine ++ samples_of done
  pub own : HasSeenOwn v source → HasSeenOwn u source
  pub marked : AreMarked u.basis.owners source u.seen u.kept (own_part v.mine) done
  pub counted : accepted ≡ length (samples_of done)
  pub asked : (n : ℕ) → 0 < times_of n u.asked → (0 < times_of n v.asked) ⊎ IsFlushed u.basis.owners source u.seen (own_part v.mine) done n

-- the turns of a source for the one that was not done: none where nothing is left of the feed
abbrev pub turns_for : Ended → ℕ
turns_for Running = 0
turns_for Done = 0
turns_for (SessionFull held size limit) = 1
turns_for (Stopped mark) = 1
turns_for (DiskFault before after) = 1
turns_for Memory = 1

-- the seat had to append no sample but those of these
abbrev pub OnlyDueOf : View → View → List Fed → Type 0
OnlyDueOf v u feds = (sample : Sample) → IsAmong u.due sample → IsAmong v.due sample ⊎ IsAmong (samples_of feds) sample

-- a source had a turn for one item, and at most three, and three more for each mark that was made since
pub record HasTurns (v u : View) : Type 0 where
  pub some : v.turns < u.turns
  pub few : HasTurnsFor 3 v u

-- Some of it was done, up to the first that was not, if there is one. For each the source had a turn, and at most three, and
-- three more for each mark that was made since.
pub record Drives (v u : View) (source : ℕ) (feds : List Fed) (accepted : ℕ) (how : Ended) : Type 0 where
  pub done : List Fed
  pub rest : List Fed
  pub parts : done ++ rest ≡ feds
  pub does : Does v u source done accepted
  pub turns : v.turns + length done + turns_for how ≤ u.turns
  pub few_turns : HasTurnsFor (3 * (length done + turns_for how)) v u
  pub due : OnlyDueOf v u feds
  pub ends : Ends u source rest how

-- the same seat
pub record IsSameSeat (old new : Place) : Type 0 where
  pub table_is : new.table ≡ old.table
  pub number_is : new.number ≡ old.number

-- a source was driven from one state of its seat to another
pub record HasDriven (old new : Place) (feds : List Fed) (accepted : ℕ) (how : Ended) : Type 0 where
  pub seat : IsSameSeat old new
  pub drives : Drives old.know new.know old.number feds accepted how

-- A source worked over a feed, with a follower. What the feed handed in was done, in order, but for the last of it where the work ended
-- otherwise than with the feed, which was not asked for more then. The follower was told of each flush that was done, and how many samples
-- were shown at it.
pub record HasWorked {F L : Type 0} (hands : F → List Fed → F → Type 0) (waits : F → Fed → Type 0) (ends : F → Type 0) (hears : L → List ℕ → L → Type 0)
    (old new : Place) (accepted : ℕ) (how : Ended) (feed feed' : F) (follower follower' : L) : Type 0 where
  pub handed : List Fed
  pub fed : hands feed handed feed'
  pub driven : HasDriven old new handed accepted how
  pub one : length driven.drives.rest ≤ 1
  pub waiting : (task : Fed) → driven.drives.rest ≡ task ∷ [] → waits feed' task
  pub finished : driven.drives.rest ≡ [] → how ≡ Done
  pub ended : how ≡ Done → ends feed'
  pub shown : List ℕ
  pub count : length shown ≡ flushes_of driven.drives.done
  pub heard : hears follower shown follower'
