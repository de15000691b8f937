-- What the sources of a recording work with, and what is left when they have worked and the book is closed.
use Rattle.std.specs.Prelude.{ℕ, ◌≡◌, ◌≤◌, ◌<◌, ◌⊎◌, Bool, List, [], length, replicate, All, Option, Some, None, Result, MatchBool}
use Rattle.mdf_layout.specs.Stock.{Stock}
use Rattle.mdf_layout.specs.declared.sample.Sample.{Sample}
use Rattle.book_owned.specs.Account.{Account}
use Rattle.book_owned.specs.Members.{DiskOf}
use Rattle.book_view.specs.Known.{Note}
use Rattle.acq_run.specs.Ran.{AllMayHand, AreOwned, HaveWorked}
use Rattle.acq_run.specs.declared.feed.Fed.{Fed}
use Rattle.acq_run.specs.Audience.{count_in, hands_in, shows_in, which_in}
use Rattle.acq_run.specs.Watching.{Hears, Watches, counted}
use Rattle.acq_run.specs.declared.audience.Audience.{Audience}
use Rattle.acq_run.specs.declared.watcher.Watcher.{Watcher}
use Rattle.mdf_command.specs.declared.fault.Fault.{Fault}
use Rattle.mdf_command.specs.declared.fault.Fault.TheVariants.{Memory}
use Rattle.mdf_record.specs.Finish.{Finishes, MarksLast}
use Rattle.mdf_record.specs.Recorded.{Closes}
use Rattle.mdf_record.specs.Sources.{counts_of, ends_of, worst}
use Rattle.mdf_record.specs.declared.sources.End.{End}
use Rattle.mdf_record.specs.declared.feeds.Prepared.{Prepared}
use Rattle.mdf_record.specs.declared.feeds.RecordedFeeds.{RecordedFeeds}
use Rattle.mdf_record.specs.declared.record.RecordEnd.TheVariants.{Refused}

-- room for the numbers of so many sources, and a watcher of the view for each
pub record IsPrepared (live : Bool) (sources : ℕ) (prepared : Prepared) (view : Audience) : Type 0 where
  pub none : prepared.accepted.items ≡ []
  pub room : sources ≤ prepared.accepted.spare
  pub shown : shows_in view [] × (count_in view ≡ 0)
  pub handed : (handed : List Sample) → hands_in view handed → handed ≡ []
  pub which : MatchBool live (0 < which_in view) (which_in view ≡ 0)
  pub count : length prepared.watchers.items ≡ sources
  pub watch : All (λ watcher. Watches watcher (which_in view) []) prepared.watchers.items

-- the sources may work with these at a book that has no sample yet
pub record MayWork {D F : Type 0} (hands : F → List Fed → F → Type 0) (owners : List ℕ) (book : Account D Audience) (prepared : Prepared) (feeds : List F) : Type 0 where
  pub fresh : book.history ≡ []
  pub some : 0 < length feeds
  pub few : length feeds ≤ 16
  pub groups : length owners ≤ 64
  pub may : AllMayHand hands owners book.terms 0 feeds
  pub count : length prepared.watchers.items ≡ length feeds
  pub watch : All (λ watcher. Watches watcher book.terms.which []) prepared.watchers.items
  pub none : prepared.accepted.items ≡ []
  pub room : length feeds ≤ prepared.accepted.spare

-- nothing was recorded, for want of memory
pub record IsUnrecorded {D F : Type 0} (out : D) (feeds : List F) (result : RecordedFeeds D F) : Type 0 where
  pub end_is : result.recorded.end ≡ Refused Memory
  pub out_is : result.recorded.out ≡ out
  pub history : result.recorded.history.items ≡ []
  pub marks : result.recorded.marks.items ≡ []
  pub same : result.feeds.items ≡ feeds
  pub none : result.all.items ≡ []

-- they did not work, for want of memory: the book was closed with what it had, and no source accepted a sample
pub record HasNotWorked {D F : Type 0} (tells : DiskOf D) (book : Account D Audience) (feeds : List F) (result : RecordedFeeds D F) : Type 0 where
  pub accepted : Stock ℕ
  pub zero : accepted.items ≡ replicate (length feeds) 0
  pub closes : Closes tells book accepted None (Some Memory) [] result.recorded
  pub same : result.feeds.items ≡ feeds
  pub none : result.all.items ≡ []

-- they did: the book was driven by all, flushed and closed
pub record HasWorked {D F : Type 0} (tells : DiskOf D) (hands : F → List Fed → F → Type 0) (waits : F → Fed → Type 0) (ends : F → Type 0) (owners : List ℕ) (book : Account D Audience) (feeds : List F) (live : Bool)
    (result : RecordedFeeds D F) : Type 0 where
  pub driven : Account D Audience
  pub flushed : Account D Audience
  pub accepted : Stock ℕ
  pub ended : Result Unit End
  pub fault : Option Fault
  pub note : Option Note
  pub shown : Option ℕ
  pub seen : List (List Sample)
  pub watchers : List Watcher
  pub watchers' : List Watcher
  pub terms : driven.terms ≡ book.terms
  pub worked : HaveWorked hands waits ends Hears owners book.terms book.marks driven seen feeds result.feeds.items result.all.items watchers watchers'
  pub saw : length seen ≡ length feeds
  pub owned : AreOwned owners (length book.terms.layouts) (length feeds) driven.history
  pub last : MarksLast driven flushed
  pub accepted_is : accepted.items ≡ counts_of result.all.items
  pub told : ended ≡ worst (ends_of result.all.items)
  pub finishes : Finishes driven flushed live ended fault note
  pub shown_is : shown ≡ counted note
  pub closes : Closes tells flushed accepted shown fault seen result.recorded

abbrev pub Works : {D F : Type 0} → DiskOf D → (F → List Fed → F → Type 0) → (F → Fed → Type 0) → (F → Type 0) → List ℕ → Account D Audience → List F → Bool → RecordedFeeds D F → Type 0
Works tells hands waits ends owners book feeds live result =
    HasNotWorked tells book feeds result ⊎ HasWorked tells hands waits ends owners book feeds live result
