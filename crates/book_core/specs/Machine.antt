-- The book of a recording as a machine: how each event changes it.
use Rattle.std.specs.Prelude.{ℕ, ◌≤◌, Bool, true, false, ◌&&◌, not, nat_le, if◌then◌else◌, List, [], ◌∷◌, ◌++◌, length, fold, sum_by}
use Rattle.mdf_layout.specs.declared.sample.Sample.{Sample}
use Rattle.book_core.specs.declared.event.Event.{Event}
use Rattle.book_core.specs.declared.event.Event.TheVariants.{Accept, Refuse, FlushTo, FlushDone, FlushFailed, Publish}

-- the accepted samples, how many of the first are durable and how many are shown, and whether the book is stopped
pub record BookState : Type 0 where
  pub history : List Sample
  pub durable : ℕ
  pub shown : ℕ
  pub stopped : Bool

-- and for how many samples more there is room
pub record Held : Type 0 where
  pub book : BookState
  pub spare : ℕ

-- a book at its beginning
abbrev pub begun : BookState
begun = record { history = []; durable = 0; shown = 0; stopped = false }

-- only durable samples are shown, and only accepted ones are durable
pub record IsOrdered (book : BookState) : Type 0 where
  pub shown : book.shown ≤ book.durable
  pub durable : book.durable ≤ length book.history

-- with one sample more
abbrev pub accepted : BookState → Sample → BookState
accepted book sample = record { history = book.history ++ sample ∷ []; durable = book.durable; shown = book.shown; stopped = book.stopped }

-- with so many samples durable, or shown
abbrev pub flushed : BookState → ℕ → BookState
flushed book count = record { history = book.history; durable = count; shown = book.shown; stopped = book.stopped }

abbrev pub published : BookState → ℕ → BookState
published book count = record { history = book.history; durable = book.durable; shown = count; stopped = book.stopped }

-- So many become durable, where the book is not stopped, no more are accepted and no more were durable before.
abbrev pub flushed_to : BookState → ℕ → BookState
flushed_to book count = if (not book.stopped && nat_le book.durable count && nat_le count (length book.history)) then flushed book count else book

-- what a book is after an event, which changes nothing where its condition does not hold
abbrev pub after : BookState → Event → BookState
after book (Accept sample) = if book.stopped then book else accepted book sample
after book Refuse = book
after book (FlushTo count) = flushed_to book count
after book FlushDone = if book.stopped then book else flushed book (length book.history)
after book FlushFailed = record { history = book.history; durable = book.durable; shown = book.shown; stopped = true }
after book (Publish count) = if (nat_le book.shown count && nat_le count book.durable) then published book count else book

-- and after several, in order
abbrev pub after_all : BookState → List Event → BookState
after_all book events = fold after book events

-- how many samples an event may add, and how many these do
abbrev pub accepts : Event → ℕ
accepts (Accept sample) = 1
accepts Refuse = 0
accepts (FlushTo count) = 0
accepts FlushDone = 0
accepts FlushFailed = 0
accepts (Publish count) = 0

abbrev pub accepted_in : List Event → ℕ
accepted_in events = sum_by accepts events
