-- What the sources of a recording have done, when all have worked and the book is one again.
use Rattle.std.specs.Prelude.{ℕ, suc, ◌≡◌, ◌≤◌, ◌<◌, ◌⊎◌, ◌^◌, true, List, [], ◌∷◌, ◌++◌, length, map, slice_index, All}
use Rattle.std.specs.List.{slice_index_or}
use mathlib.Core.List.{IsPrefix}
use Rattle.mdf_format.specs.Cause.{Rose}
use Rattle.mdf_layout.specs.History.{source_samples}
use Rattle.mdf_layout.specs.declared.sample.Sample.{Sample}
use Rattle.book_owned.specs.Account.{Account, Terms}
use Rattle.book_owned.specs.Marks.{last_mark}
use Rattle.book_owned.specs.declared.mark.Mark.{Mark}
use Rattle.book_shared.specs.Causes.{AnyOf, IsAmong, MarksCaused}
use Rattle.book_shared.specs.Place.{Place}
use Rattle.acq_run.specs.Feeds.{flushes_of, samples_of}
use Rattle.acq_run.specs.Tasks.{MayFeed}
use Rattle.acq_run.specs.Works.{AreMarked, HasRoomNext, IsFlushed, IsOver}
use Rattle.acq_run.specs.Workers.{CanHand}
use Rattle.acq_run.specs.declared.feed.Fed.{Fed}
use Rattle.acq_run.specs.declared.work.Driven.{Driven}
use Rattle.acq_run.specs.declared.work.Ended.{Ended}
use Rattle.acq_run.specs.declared.work.Ended.TheVariants.{Running, Done, SessionFull, Stopped, DiskFault, Memory}

-- these marks begin with some of which this is the last
abbrev pub WasLast : List Mark → Mark → Type 0
WasLast marks mark = (kept : List Mark) × IsPrefix kept marks × (mark ≡ last_mark kept)

-- why a source's work ended that had seen this history, by the book and what is left of the feed
abbrev pub EndsIn : {D V : Type 0} → Account D V → List Sample → List Fed → Ended → Type 0
EndsIn book seen rest Running = ⊥
EndsIn book seen rest Done = rest ≡ []
EndsIn book seen rest (SessionFull held size limit) = IsOver book.terms.layouts book.terms.session_limit seen rest held size limit
EndsIn book seen rest (Stopped mark) = (book.stopped ≡ true) × WasLast book.marks mark
EndsIn book seen rest (DiskFault less more) = (book.stopped ≡ true) × Rose less more
EndsIn book seen rest Memory = HasRoomNext book.terms.layouts book.terms.session_limit seen rest

-- what each of these seats has seen of the history
abbrev pub seen_by : List Place → List (List Sample)
seen_by seats = map (λ seat. seat.know.seen) seats

-- A source has worked: some of what its feed had was done, and just those samples are its own in the history. What it had seen
-- at its last turn is a beginning of the history that has all of them, and for each flush a mark that goes no further; its work
-- ended behind just that.
pub record Ran {D V : Type 0} (owners : List ℕ) (book : Account D V) (source : ℕ) (seen : List Sample) (feds : List Fed) (driven : Driven) : Type 0 where
  pub done : List Fed
  pub rest : List Fed
  pub parts : done ++ rest ≡ feds
  pub own : source_samples owners book.history source ≡ samples_of done
  pub counted : driven.accepted ≡ length (samples_of done)
  pub begins : IsPrefix seen book.history
  pub all_own : source_samples owners seen source ≡ samples_of done
  pub marked : AreMarked owners source seen book.marks [] done
  pub ends : EndsIn book seen rest driven.ended

-- So have all from this source on, with these feeds. What each source has seen of the history is listed by its number.
abbrev pub AllRan : {D V : Type 0} → List ℕ → Account D V → List (List Sample) → ℕ → List (List Fed) → List Driven → Type 0
AllRan owners book seen source [] [] = Unit {0}
AllRan owners book seen source (feds ∷ feeds) (driven ∷ all) =
    Ran owners book source (slice_index_or seen source []) feds driven × AllRan owners book seen (suc source) feeds all
AllRan owners book seen source _ _ = ⊥

-- So have they: of what each feed handed in all was done but the last at most, for which the feed waits that is left, and where all was it has done all
-- that there is; and from each follower to what came of it it was told of each flush that was done of its source, and how many samples were shown at it.
abbrev pub AllHeard : {D V F L : Type 0} → (F → Fed → Type 0) → (L → List ℕ → L → Type 0) → List ℕ → Account D V → List (List Sample) → ℕ → List (List Fed) → List Driven → List F
    → List L → List L → Type 0
AllHeard waits hears owners book seen source [] [] [] [] [] = Unit {0}
AllHeard waits hears owners book seen source (feds ∷ handed) (driven ∷ all) (feed ∷ feeds) (first ∷ followers) (last ∷ followers') =
    ((ran : Ran owners book source (slice_index_or seen source []) feds driven) × (length ran.rest ≤ 1) × ((task : Fed) → ran.rest ≡ task ∷ [] → waits feed task)
    × (ran.rest ≡ [] → driven.ended ≡ Done) × (shown : List ℕ) × (length shown ≡ flushes_of ran.done) × hears first shown last)
    × AllHeard waits hears owners book seen (suc source) handed all feeds followers followers'
AllHeard waits hears owners book seen source _ _ _ _ _ = ⊥

-- a flush of one of the sources from this one on, with these feeds, goes through so many samples
abbrev pub AskedFor : List ℕ → ℕ → List (List Fed) → List Sample → ℕ → Type 0
AskedFor owners source [] history through = ⊥
AskedFor owners source (feds ∷ feeds) history through =
    IsFlushed owners source history [] feds through ⊎ AskedFor owners (suc source) feeds history through

-- one of the sources, with these feeds, has this sample
abbrev pub DueFor : List (List Fed) → Sample → Type 0
DueFor feeds sample = AnyOf (λ feds. IsAmong (samples_of feds) sample) feeds

-- the sources from this one on may hand in all that these feeds have
abbrev pub AllMayFeed : List ℕ → Terms → ℕ → List (List Fed) → Type 0
AllMayFeed owners terms source [] = Unit {0}
AllMayFeed owners terms source (feds ∷ feeds) =
    (All (MayFeed owners terms source) feds × (length feds < 2 ^ 64)) × AllMayFeed owners terms (suc source) feeds

-- so may they whatever these feeds can hand in
abbrev pub AllMayHand : {F : Type 0} → (F → List Fed → F → Type 0) → List ℕ → Terms → ℕ → List F → Type 0
AllMayHand hands owners terms source [] = Unit {0}
AllMayHand hands owners terms source (feed ∷ feeds) =
    ((feds : List Fed) → CanHand hands feed feds → All (MayFeed owners terms source) feds × (length feds < 2 ^ 64)) × AllMayHand hands owners terms (suc source) feeds

-- from each feed to what is left of it it handed in its list
abbrev pub AllHanded : {F : Type 0} → (F → List Fed → F → Type 0) → List F → List (List Fed) → List F → Type 0
AllHanded hands [] [] [] = Unit {0}
AllHanded hands (feed ∷ feeds) (feds ∷ handed) (rest ∷ left) = hands feed feds rest × AllHanded hands feeds handed left
AllHanded hands _ _ _ = ⊥

-- nothing more comes of the feed of a source that has done all
abbrev pub AllEnded : {F : Type 0} → (F → Type 0) → List Driven → List F → Type 0
AllEnded ends [] [] = Unit {0}
AllEnded ends (driven ∷ all) (feed ∷ feeds) = (driven.ended ≡ Done → ends feed) × AllEnded ends all feeds
AllEnded ends _ _ = ⊥

-- The sources of a recording have worked, each with its feed and its follower, over a book that had these terms and marks.
pub record HaveWorked {D V F L : Type 0} (hands : F → List Fed → F → Type 0) (waits : F → Fed → Type 0) (ends : F → Type 0) (hears : L → List ℕ → L → Type 0) (owners : List ℕ) (terms : Terms) (begun : List Mark)
    (book : Account D V) (seen : List (List Sample)) (feeds feeds' : List F) (all : List Driven) (followers followers' : List L) : Type 0 where
  pub handed : List (List Fed)
  pub fed : AllHanded hands feeds handed feeds'
  pub ended : AllEnded ends all feeds'
  pub ran : AllRan owners book seen 0 handed all
  pub marks : MarksCaused (AskedFor owners 0 handed book.history) (DueFor handed) terms.layouts terms.block_limit book.history begun book.marks
  pub heard : AllHeard waits hears owners book seen 0 handed all feeds' followers followers'

-- a sample is of one of so many groups, and one of so many sources owns that group
pub record IsOwned (owners : List ℕ) (groups sources : ℕ) (sample : Sample) : Type 0 where
  pub group : sample.group < groups
  pub owner : slice_index owners sample.group < sources

-- each is
abbrev pub AreOwned : List ℕ → ℕ → ℕ → List Sample → Type 0
AreOwned owners groups sources history = All (IsOwned owners groups sources) history
