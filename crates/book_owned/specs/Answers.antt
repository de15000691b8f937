-- The answers of a book, each with its cause.
use Rattle.std.specs.Prelude.{ℕ, ◌≡◌, ◌+◌, ◌≤◌, ◌<◌, ◌⊎◌, false, true, List, [], ◌∷◌, ◌++◌, length, take, drop}
use Rattle.mdf_format.specs.Cause.{Rose}
use Rattle.mdf_layout.specs.Record.{cost_of, encoded_size, history_cost, history_size}
use Rattle.mdf_layout.specs.declared.sample.Sample.{Sample}
use Rattle.book_owned.specs.Members.{DiskOf, ViewOf}
use Rattle.book_owned.specs.Marks.{last_mark, durable}
use Rattle.book_owned.specs.Account.{Account}
use Rattle.book_owned.specs.declared.mark.Mark.{Mark}
use Rattle.book_owned.specs.declared.answer.Append.{Append}
use Rattle.book_owned.specs.declared.answer.Append.TheVariants.{Accepted, SessionFull, Stopped, DiskFault, Memory}
use Rattle.book_owned.specs.declared.answer.Flush.{Flush}
use Rattle.book_owned.specs.declared.answer.Flush.TheVariants as flush

-- which samples the answer says were accepted
abbrev pub accepted_by : Append → Sample → List Sample
accepted_by (Accepted place) sample = sample ∷ []
accepted_by (SessionFull held size limit) sample = []
accepted_by (Stopped mark) sample = []
accepted_by (DiskFault before after) sample = []
accepted_by Memory sample = []

-- the cost of the history with the sample is within the session limit
abbrev pub HasRoom : {D V : Type 0} → Account D V → Sample → Type 0
HasRoom book sample =
    history_cost book.terms.layouts book.history + cost_of book.terms.layouts sample ≤ book.terms.session_limit

-- the pending records and so many bytes more pass the block limit
abbrev pub Passes : {D V : Type 0} → Account D V → ℕ → Type 0
Passes book size =
    book.terms.block_limit < history_size book.terms.layouts (drop (durable book.marks) book.history) + size

-- they do not
abbrev pub Fits : {D V : Type 0} → Account D V → ℕ → Type 0
Fits book size =
    history_size book.terms.layouts (drop (durable book.marks) book.history) + size ≤ book.terms.block_limit

-- the pending records and that of the sample
abbrev pub PassesBlock : {D V : Type 0} → Account D V → Sample → Type 0
PassesBlock book sample = Passes book (encoded_size book.terms.layouts sample)

abbrev pub FitsBlock : {D V : Type 0} → Account D V → Sample → Type 0
FitsBlock book sample = Fits book (encoded_size book.terms.layouts sample)

-- some of the accepted samples are not durable
abbrev pub HasPending : {D V : Type 0} → Account D V → Type 0
HasPending book = durable book.marks < length book.history

-- The view shows no fewer samples than before, and so many at most: where memory is wanted in sealing them or in showing them it
-- shows fewer.
abbrev pub ShowsUpto : {V N : Type 0} → ViewOf V N → V → V → ℕ → Type 0
ShowsUpto view old new through = (view.count old ≤ view.count new) × (view.count new ≤ through)

-- one mark was made, of the present moment, through all samples that were accepted before
abbrev pub AddsMark : {D V : Type 0} → DiskOf D → Account D V → Account D V → Type 0
AddsMark disk old new =
    (mark : Mark) × (new.marks ≡ old.marks ++ mark ∷ []) × (mark.through ≡ length old.history) × (mark.moment ≡ disk.moment new.disk)

-- the count of faults of the disk rose in the call, or stands at its last value, and the book is stopped since
pub record IsFault {D V : Type 0} (disk : DiskOf D) (old new : Account D V) (before after : ℕ) : Type 0 where
  pub going : old.stopped ≡ false
  pub stopped : new.stopped ≡ true
  pub before_is : before ≡ disk.faults old.disk
  pub after_is : after ≡ disk.faults new.disk
  pub rose : Rose before after

-- an earlier call was answered by a fault of the disk, and the mark is the last one
pub record IsStopped {D V : Type 0} (old new : Account D V) (mark : Mark) : Type 0 where
  pub stopped : old.stopped ≡ true
  pub same : new ≡ old
  pub mark_is : mark ≡ last_mark new.marks

-- what was done for so many bytes more: nothing where they have room in the block; where they would pass the block limit, a
-- mark was made and samples before it were shown
abbrev pub MakesRoom : {D V N : Type 0} → DiskOf D → ViewOf V N → Account D V → Account D V → ℕ → Type 0
MakesRoom disk view old new size =
    (Fits old size × (new.marks ≡ old.marks) × (new.disk ≡ old.disk) × (new.view ≡ old.view))
    ⊎ (Passes old size × AddsMark disk old new × ShowsUpto view old.view new.view (length old.history))

-- what an append did before it accepted: it made room for the sample's record
abbrev pub Turns : {D V N : Type 0} → DiskOf D → ViewOf V N → Account D V → Account D V → Sample → Type 0
Turns disk view old new sample = MakesRoom disk view old new (encoded_size old.terms.layouts sample)

-- an append
abbrev pub AppendAnswers : {D V N : Type 0} → DiskOf D → ViewOf V N → Account D V → Account D V → Sample → Append → Type 0
AppendAnswers disk view old new sample (Accepted place) =
    (old.stopped ≡ false) × (new.stopped ≡ false) × HasRoom old sample × (place ≡ length old.history)
    × Turns disk view old new sample
AppendAnswers disk view old new sample (SessionFull held size limit) =
    (old.stopped ≡ false) × (new ≡ old) × (held ≡ history_cost old.terms.layouts old.history)
    × (size ≡ cost_of old.terms.layouts sample) × (limit ≡ old.terms.session_limit) × (limit < held + size)
AppendAnswers disk view old new sample (Stopped mark) = IsStopped old new mark
AppendAnswers disk view old new sample (DiskFault before after) =
    HasRoom old sample × IsFault disk old new before after × (new.marks ≡ old.marks) × PassesBlock old sample
    × (new.view ≡ old.view)
AppendAnswers disk view old new sample Memory = (old.stopped ≡ false) × (new ≡ old) × HasRoom old sample

-- an answer that is given before room for a sample is looked for: the book is stopped, or the session has no room for it
abbrev pub IsRefusal : Append → Type 0
IsRefusal (Accepted place) = ⊥
IsRefusal (SessionFull held size limit) = Unit {0}
IsRefusal (Stopped mark) = Unit {0}
IsRefusal (DiskFault before after) = ⊥
IsRefusal Memory = ⊥

-- what a flush did to the marks: nothing where all was durable, or it added one through the whole history
abbrev pub MarksAll : {D V : Type 0} → DiskOf D → Account D V → Account D V → Type 0
MarksAll disk old new =
    ((new.marks ≡ old.marks) × (new.disk ≡ old.disk) × (durable old.marks ≡ length old.history)) ⊎ AddsMark disk old new

-- a flush: all is marked, and the note tells of the samples that are shown
abbrev pub FlushAnswers : {D V N : Type 0} → DiskOf D → ViewOf V N → Account D V → Account D V → Flush N → Type 0
FlushAnswers disk view old new (flush.Done through shown note) =
    (old.stopped ≡ false) × (new.stopped ≡ false) × (through ≡ length old.history) × (shown ≡ view.count new.view)
    × (shown ≤ through) × MarksAll disk old new × ShowsUpto view old.view new.view through
    × view.tells note old.terms.which (take shown old.history)
FlushAnswers disk view old new (flush.DiskFault before after) =
    IsFault disk old new before after × (new.marks ≡ old.marks) × (new.view ≡ old.view) × HasPending old
FlushAnswers disk view old new (flush.Stopped mark) = IsStopped old new mark
