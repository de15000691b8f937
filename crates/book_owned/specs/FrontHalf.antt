-- The front of a book: its history, its marks, the records that are not handed over, and the view.
use Rattle.std.specs.Prelude.{ℕ, ◌≡◌, ◌≢◌, ◌+◌, ◌*◌, ◌^◌, ◌≤◌, ◌<◌, Bool, true, false, List, [], ◌∷◌, ◌++◌, length, take, drop, All, AllPairs, Option, Some, None, is_some, slice_get, IsSomeAnd}
use Rattle.mdf_layout.specs.Layout.{Layout}
use Rattle.mdf_layout.specs.Chunked.{joined}
use Rattle.mdf_layout.specs.Record.{cost_of, encoded_size, history_cost, history_size}
use Rattle.mdf_layout.specs.Behind.{AreEncodingsBehind}
use Rattle.mdf_layout.specs.declared.sample.Sample.{Sample}
use Rattle.mdf_gate.specs.Gated.{Buffered}
use Rattle.book_core.specs.Machine.{BookState}
use Rattle.book_core.specs.declared.event.Event.{Event}
use Rattle.book_core.specs.declared.event.Event.TheVariants.{FlushFailed, FlushTo, Publish}
use Rattle.book_owned.specs.Members.{ViewOf}
use Rattle.book_owned.specs.Marks.{last_mark, durable}
use Rattle.book_owned.specs.Kept.{IsShowing}
use Rattle.book_owned.specs.Shared.{IsShared}
use Rattle.book_owned.specs.Answers.{ShowsUpto}
use Rattle.book_owned.specs.Events.{Leads, PutLeads}
use Rattle.book_owned.specs.Holds.{IsCounted, IsPending}
use Rattle.book_owned.specs.declared.answer.Append.{Append}
use Rattle.book_owned.specs.declared.answer.Append.TheVariants.{Accepted, SessionFull, Stopped, DiskFault, Memory}
use Rattle.book_owned.specs.declared.answer.Flush.{Flush}
use Rattle.book_owned.specs.declared.answer.Flush.TheVariants as flush
use Rattle.book_owned.specs.declared.handed.Handed.{Handed}
use Rattle.book_owned.specs.declared.handed.Handed.TheVariants as handed
use Rattle.book_owned.specs.declared.in_memory.InMemory.{InMemory}
use Rattle.book_owned.specs.declared.mark.Mark.{Mark}
use Rattle.book_owned.specs.declared.written.Written.{Written}
use Rattle.book_owned.specs.declared.written.Written.TheVariants as written

-- what no call changes of a front: the layouts of its groups, its limits in bytes, and which view it has
pub record FrontTerms : Type 0 where
  pub layouts : List Layout
  pub block_limit : ℕ
  pub session_limit : ℕ
  pub which : ℕ

-- What contracts see of a front: the accepted samples, the marks, whether a fault of the disk stopped it, whether it has its
-- spare block, how many samples were handed over, its terms and its view.
pub record FrontAccount (V : Type 0) : Type 0 where
  pub history : List Sample
  pub marks : List Mark
  pub stopped : Bool
  pub spare : Bool
  pub from : ℕ
  pub terms : FrontTerms
  pub view : V

abbrev pub front_account : {V N : Type 0} → ViewOf V N → InMemory V → FrontAccount V
front_account view front = record {
  history = front.history.items;
  marks = front.marks.items;
  stopped = front.stopped;
  spare = is_some front.spare;
  from = front.from;
  terms = record { layouts = front.shapes; block_limit = front.block.limit; session_limit = front.session_limit; which = view.which front.view };
  view = front.view;
}

-- the first mark has no samples, and each later one has more
pub record AreThroughs (marks : List Mark) : Type 0 where
  pub first : IsSomeAnd (slice_get marks 0) (λ mark. mark.through ≡ 0)
  pub rise : AllPairs (λ mark later. mark.through < later.through) marks

-- the samples behind the last hand-over
abbrev pub behind : {V : Type 0} → FrontAccount V → List Sample
behind front = drop front.from front.history

-- What contracts see of what is true of a front between two calls. While it goes on, the records of the samples behind the last
-- hand-over fit into one block, and with its spare block at home all others are durable; the records of all that are not
-- durable fit into two.
pub record IsSteady {V N : Type 0} (view : ViewOf V N) (front : FrontAccount V) : Type 0 where
  pub throughs : AreThroughs front.marks
  pub shown : IsShowing view front.view front.history front.marks
  pub low : durable front.marks ≤ front.from
  pub within : front.from ≤ length front.history
  pub settled : front.spare ≡ true → front.stopped ≡ false → front.from ≡ durable front.marks
  pub few : front.stopped ≡ false → history_size front.terms.layouts (behind front) ≤ front.terms.block_limit
  pub few_all : history_size front.terms.layouts (drop (durable front.marks) front.history) ≤ 2 * front.terms.block_limit

-- The spare block is empty while it is there. While it is away there is room for its mark, and for that of the records which
-- came since.
abbrev pub HasSpare : {V : Type 0} → InMemory V → Option Buffered → Type 0
HasSpare front (Some block) = (block.bytes ≡ []) × (block.limit ≡ front.block.limit)
HasSpare front None =
    (front.stopped ≡ false) × (durable front.marks.items < front.from) × (1 ≤ front.marks.spare) × (front.block.bytes ≢ [] → 2 ≤ front.marks.spare)

-- What is true of what a front holds between two calls. While it goes on, the records of the samples that were handed over
-- and are not durable fit into one block.
pub record IsFront {V N : Type 0} (view : ViewOf V N) (front : InMemory V) : Type 0 where
  pub counted : IsCounted front
  pub pending : IsPending front
  pub steady : IsSteady view (front_account view front)
  pub shared : IsShared view front.view front.history.chunks
  pub sealed : length (joined front.history.chunks) ≤ durable front.marks.items
  pub has_spare : HasSpare front front.spare
  pub few_handed : front.stopped ≡ false
      → history_size front.shapes (drop (durable front.marks.items) (take front.from front.history.items)) ≤ front.block.limit

-- the cost of the history with the sample is within the session limit
abbrev pub FrontRoom : {V : Type 0} → FrontAccount V → Sample → Type 0
FrontRoom front sample =
    history_cost front.terms.layouts front.history + cost_of front.terms.layouts sample ≤ front.terms.session_limit

-- the pending records and so many bytes more pass the block limit, or do not
abbrev pub FrontPassesWith : {V : Type 0} → FrontAccount V → ℕ → Type 0
FrontPassesWith front size = front.terms.block_limit < history_size front.terms.layouts (behind front) + size

abbrev pub FrontFitsWith : {V : Type 0} → FrontAccount V → ℕ → Type 0
FrontFitsWith front size = history_size front.terms.layouts (behind front) + size ≤ front.terms.block_limit

-- the pending records and that of the sample
abbrev pub FrontPasses : {V : Type 0} → FrontAccount V → Sample → Type 0
FrontPasses front sample = FrontPassesWith front (encoded_size front.terms.layouts sample)

abbrev pub FrontFits : {V : Type 0} → FrontAccount V → Sample → Type 0
FrontFits front sample = FrontFitsWith front (encoded_size front.terms.layouts sample)

-- a put
abbrev pub PutTells : {V : Type 0} → FrontAccount V → FrontAccount V → Sample → Append → Type 0
PutTells old new sample (Accepted place) =
    (old.stopped ≡ false) × FrontRoom old sample × (place ≡ length old.history)
    × (new ≡ record old { history = old.history ++ sample ∷ [] })
PutTells old new sample (SessionFull held size limit) =
    (old.stopped ≡ false) × (new ≡ old) × (held ≡ history_cost old.terms.layouts old.history)
    × (size ≡ cost_of old.terms.layouts sample) × (limit ≡ old.terms.session_limit) × (limit < held + size)
PutTells old new sample (Stopped mark) = (old.stopped ≡ true) × (new ≡ old) × (mark ≡ last_mark old.marks)
PutTells old new sample (DiskFault before after) = ⊥
PutTells old new sample Memory = (old.stopped ≡ false) × (new ≡ old) × FrontRoom old sample

-- a block of a front that is handed over fits into a file that holds what was handed over before, and no mark has more
-- samples than the last one
pub record IsSmall {V : Type 0} (front : FrontAccount V) (block : Buffered) : Type 0 where
  pub fewer : All (λ mark. mark.through ≤ durable front.marks) front.marks
  pub short : length block.bytes ≤ front.terms.block_limit
  pub size : history_cost front.terms.layouts (take front.from front.history) + length block.bytes ≤ 2 ^ 28

-- A hand-over: the front is stopped; or nothing is pending; or the block has the records of the samples behind the last
-- hand-over, and the front goes on with the spare one.
abbrev pub HandTells : {V : Type 0} → FrontAccount V → FrontAccount V → Handed → Type 0
HandTells old new (handed.Stopped mark) = (old.stopped ≡ true) × (new ≡ old) × (mark ≡ last_mark old.marks)
HandTells old new handed.Nothing = (old.stopped ≡ false) × (new ≡ old) × (old.from ≡ length old.history) × (old.from ≡ durable old.marks)
HandTells old new (handed.Given through block) =
    (old.stopped ≡ false) × (through ≡ length old.history) × (old.from ≡ durable old.marks) × (old.from < through)
    × (block.limit ≡ old.terms.block_limit) × (1 ≤ length block.bytes)
    × AreEncodingsBehind old.terms.layouts (take old.from old.history) block.bytes (drop old.from old.history)
    × IsSmall old block × (new ≡ record old { from = through; spare = false })

-- the answer that a front waits for: of the block that it handed over, or of no block
abbrev pub IsAwaited : {V : Type 0} → FrontAccount V → Written → Type 0
IsAwaited front (written.Done mark block) = (front.spare ≡ false) × (mark.through ≡ front.from) × (block.limit ≡ front.terms.block_limit)
IsAwaited front (written.DiskFault before after block) = (front.spare ≡ false) × (block.limit ≡ front.terms.block_limit)
IsAwaited front written.Nothing = (front.spare ≡ true) × (front.stopped ≡ false)

-- it has these marks and its spare block, and the note tells of the durable samples that are shown
abbrev pub DoneTells : {V N : Type 0} → ViewOf V N → FrontAccount V → FrontAccount V → List Mark → ℕ → ℕ → N → Type 0
DoneTells view old new marks through shown note =
    (old.stopped ≡ false) × (new ≡ record old { marks = marks; spare = true; view = new.view }) × (through ≡ durable marks)
    × (shown ≡ view.count new.view) × (shown ≤ through) × ShowsUpto view old.view new.view through
    × view.tells note old.terms.which (take shown old.history)

-- What an answer of the file leads to: the mark is added, nothing is, or the front is stopped.
abbrev pub FinishTells : {V N : Type 0} → ViewOf V N → FrontAccount V → FrontAccount V → Written → Flush N → Type 0
FinishTells view old new (written.Done mark block) (flush.Done through shown note) = DoneTells view old new (old.marks ++ mark ∷ []) through shown note
FinishTells view old new (written.Done mark block) (flush.DiskFault before after) = ⊥
FinishTells view old new (written.Done mark block) (flush.Stopped last) = ⊥
FinishTells view old new (written.DiskFault before after block) (flush.Done through shown note) = ⊥
FinishTells view old new (written.DiskFault before after block) (flush.DiskFault before' after') =
    (old.stopped ≡ false) × (new ≡ record old { stopped = true; spare = true }) × (before' ≡ before) × (after' ≡ after)
FinishTells view old new (written.DiskFault before after block) (flush.Stopped last) = ⊥
FinishTells view old new written.Nothing (flush.Done through shown note) = DoneTells view old new old.marks through shown note
FinishTells view old new written.Nothing (flush.DiskFault before after) = ⊥
FinishTells view old new written.Nothing (flush.Stopped last) = ⊥

-- the samples before there were published, and the note tells of those that are shown
abbrev pub ShowTells : {V N : Type 0} → ViewOf V N → InMemory V → InMemory V → ℕ → Flush N → Type 0
ShowTells view front front' upto (flush.Done through shown note) =
    (through ≡ upto) × (shown ≡ view.count front'.view) × (shown ≤ through)
    × ShowsUpto view front.view front'.view through × view.tells note (view.which front.view) (take shown front.history.items)
ShowTells view front front' upto (flush.DiskFault before after) = ⊥
ShowTells view front front' upto (flush.Stopped mark) = ⊥

-- what the machine holds of a front, where its view counts so, and the events that lead from one to the other
abbrev pub front_state_of : {V : Type 0} → (V → ℕ) → FrontAccount V → BookState
front_state_of count front = record { history = front.history; durable = durable front.marks; shown = count front.view; stopped = front.stopped }

abbrev pub FrontHappens : {V : Type 0} → (V → ℕ) → FrontAccount V → FrontAccount V → List Event → Type 0
FrontHappens count old new = Leads (front_state_of count old) (front_state_of count new)

-- of a put, and of a finish: the samples through the mark become durable and those are shown, or some more are shown, or
-- the disk failed
abbrev pub FrontPutEvents : {V : Type 0} → (V → ℕ) → FrontAccount V → FrontAccount V → Sample → Append → Type 0
FrontPutEvents count old new = PutLeads (front_state_of count old) (front_state_of count new)

abbrev pub FinishEvents : {V : Type 0} → (V → ℕ) → FrontAccount V → FrontAccount V → Written → Type 0
FinishEvents count old new (written.Done mark block) = FrontHappens count old new (FlushTo mark.through ∷ Publish (count new.view) ∷ [])
FinishEvents count old new (written.DiskFault before after block) = FrontHappens count old new (FlushFailed ∷ [])
FinishEvents count old new written.Nothing = FrontHappens count old new (Publish (count new.view) ∷ [])
