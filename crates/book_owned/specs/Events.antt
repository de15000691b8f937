-- The calls of a book as events of its machine.
use Rattle.std.specs.Prelude.{ℕ, ◌≡◌, ◌⊎◌, List, [], ◌∷◌}
use Rattle.mdf_layout.specs.declared.sample.Sample.{Sample}
use Rattle.book_core.specs.Machine.{BookState, after_all}
use Rattle.book_core.specs.declared.event.Event.{Event}
use Rattle.book_core.specs.declared.event.Event.TheVariants.{Accept, Refuse, FlushDone, FlushFailed, Publish}
use Rattle.book_owned.specs.Marks.{durable}
use Rattle.book_owned.specs.Account.{Account}
use Rattle.book_owned.specs.Answers.{PassesBlock}
use Rattle.book_owned.specs.declared.answer.Append.{Append}
use Rattle.book_owned.specs.declared.answer.Append.TheVariants.{Accepted, SessionFull, Stopped, DiskFault, Memory}
use Rattle.book_owned.specs.declared.answer.Flush.{Flush}
use Rattle.book_owned.specs.declared.answer.Flush.TheVariants as flush

-- what the machine holds of a book, where its view counts so: the accepted samples, how many are durable by the last mark,
-- how many are shown, and whether it is stopped
abbrev pub book_state_of : {D V : Type 0} → (V → ℕ) → Account D V → BookState
book_state_of count book = record { history = book.history; durable = durable book.marks; shown = count book.view; stopped = book.stopped }

-- these events lead from one to the other
abbrev pub Leads : BookState → BookState → List Event → Type 0
Leads old new events = new ≡ after_all old events

abbrev pub Happens : {D V : Type 0} → (V → ℕ) → Account D V → Account D V → List Event → Type 0
Happens count old new = Leads (book_state_of count old) (book_state_of count new)

-- Those of an append: the sample is accepted, where its records would pass the block limit after a flush and a
-- publishing; or it is refused; or the disk fails in that flush.
abbrev pub AppendEvents : {D V : Type 0} → (V → ℕ) → Account D V → Account D V → Sample → Append → Type 0
AppendEvents count old new sample (Accepted place) =
    Happens count old new (Accept sample ∷ [])
    ⊎ (PassesBlock old sample × Happens count old new (FlushDone ∷ Publish (count new.view) ∷ Accept sample ∷ []))
AppendEvents count old new sample (SessionFull held size limit) = Happens count old new (Refuse ∷ [])
AppendEvents count old new sample (Stopped mark) = Happens count old new (Refuse ∷ [])
AppendEvents count old new sample (DiskFault before after) = PassesBlock old sample × Happens count old new (FlushFailed ∷ [])
AppendEvents count old new sample Memory = Happens count old new (Refuse ∷ [])

-- of a put, which is never answered by a fault of the disk
abbrev pub PutLeads : BookState → BookState → Sample → Append → Type 0
PutLeads old new sample (Accepted place) = Leads old new (Accept sample ∷ [])
PutLeads old new sample (SessionFull held size limit) = Leads old new (Refuse ∷ [])
PutLeads old new sample (Stopped mark) = Leads old new (Refuse ∷ [])
PutLeads old new sample (DiskFault before after) = ⊥
PutLeads old new sample Memory = Leads old new (Refuse ∷ [])

abbrev pub PutEvents : {D V : Type 0} → (V → ℕ) → Account D V → Account D V → Sample → Append → Type 0
PutEvents count old new = PutLeads (book_state_of count old) (book_state_of count new)

-- and of a flush
abbrev pub FlushEvents : {D V N : Type 0} → (V → ℕ) → Account D V → Account D V → Flush N → Type 0
FlushEvents count old new (flush.Done through shown note) = Happens count old new (FlushDone ∷ Publish shown ∷ [])
FlushEvents count old new (flush.DiskFault before after) = Happens count old new (FlushFailed ∷ [])
FlushEvents count old new (flush.Stopped mark) = Happens count old new (Refuse ∷ [])
