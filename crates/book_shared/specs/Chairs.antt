-- The seat at the table of a shared book: what a call asks of it, and what it leaves.
use Rattle.std.specs.Prelude.{ℕ, ◌≡◌, ◌+◌, ◌<◌, [], length, Option as Opt}
use Rattle.atomic_table.specs.Seated.{TableId}
use Rattle.atomic_table.specs.declared.shared.Seat.{Seat}
use Rattle.mdf_gate.specs.Gated.{Gated}
use Rattle.book_owned.specs.FrontHalf.{FrontAccount}
use Rattle.book_shared.specs.Basis.{free}
use Rattle.book_shared.specs.Plays.{Slot}
use Rattle.book_shared.specs.Turns.{TellsBy, Works, Writes}
use Rattle.book_shared.specs.declared.half.Answer.{Answer}
use Rattle.book_shared.specs.declared.view.View.{View}

abbrev pub Chair : Type 0 → Type 0 → Type 0
Chair D V = Seat (Slot D V) View

-- the seat is at this table, with no slot out, and has not the device
pub record HoldsNothing {D V : Type 0} (table : TableId) (seat : Chair D V) : Type 0 where
  pub table_is : seat.table_id ≡ table
  pub no_turn : seat.me.1 ≡ []
  pub no_device : seat.me.0.device ≡ free

-- so it is of a seat that has a source: it may take the device
pub record MayTakeDevice {D V : Type 0} (table : TableId) (seat : Chair D V) : Type 0 where
  pub empty : HoldsNothing table seat
  pub some_source : 0 < length seat.me.0.mine

-- the seat is at this table, has a source, and may take the turn if it tells this
pub record MayTakeTurn {D V : Type 0} (table : TableId) (seat : Chair D V) (told : Opt Answer) : Type 0 where
  pub table_is : seat.table_id ≡ table
  pub some_source : 0 < length seat.me.0.mine
  pub tells : TellsBy seat.me.0 told

-- the seat is at this table, and this is the turn word that it met last
pub record HasTurn {D V : Type 0} (table : TableId) (seat : Chair D V) (word : ℕ) : Type 0 where
  pub table_is : seat.table_id ≡ table
  pub word_is : word ≡ seat.me.0.met

-- the seat gave back each slot that it had out, and is at the same table
pub record GivesBack {D V : Type 0} (old new : Chair D V) : Type 0 where
  pub table_is : new.table_id ≡ old.table_id
  pub no_turn : new.me.1 ≡ []

-- the seat took no turn, and announced no sample
pub record TakesNoTurn (v u : View) : Type 0 where
  pub turns_are : u.turns ≡ v.turns
  pub due_is : u.due ≡ v.due

-- the seat took one turn, and announced no sample
pub record TakesOneTurn (v u : View) : Type 0 where
  pub turns_are : u.turns ≡ v.turns + 1
  pub due_is : u.due ≡ v.due

-- the front that is out with the seat was worked on where it lies, and nothing else of the seat has changed
pub record WorksOn {D V : Type 0} (old new : Chair D V) (how : FrontAccount V → FrontAccount V → Type 0) : Type 0 where
  pub table_is : new.table_id ≡ old.table_id
  pub view_is : new.me.0 ≡ old.me.0
  pub does : Works old.me new.me how

-- so was the back
pub record WritesOn {D V : Type 0} (old new : Chair D V) (how : Gated D → Gated D → Type 0) : Type 0 where
  pub table_is : new.table_id ≡ old.table_id
  pub view_is : new.me.0 ≡ old.me.0
  pub does : Writes old.me new.me how
