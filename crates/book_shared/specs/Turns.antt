-- What a seat knows after a turn, and after none.
use Rattle.std.specs.Prelude.{ℕ, ◌≡◌, ◌+◌, ◌*◌, ◌%◌, ◌<◌, ◌≤◌, ◌⊎◌, true, List, [], ◌∷◌, ◌++◌, length, take, All, Option as Opt, Some, None}
use mathlib.Core.Option.{Option as Home, some, none}
use mathlib.Core.List.{IsPrefix}
use Rattle.atomic_table.specs.Table.{rest}
use Rattle.mdf_gate.specs.Gated.{Gated, Buffered}
use Rattle.mdf_layout.specs.Layout.{Layout}
use Rattle.mdf_layout.specs.Record.{SampleFits, encoded_size}
use Rattle.mdf_layout.specs.declared.sample.Sample.{Sample}
use Rattle.book_owned.specs.Members.{DiskOf}
use Rattle.book_owned.specs.BackHalf.{back_terms, BackKeeps, FileHolds, IsHanded, WriteKeeps, WriteAnswers}
use Rattle.book_owned.specs.FrontHalf.{FrontAccount}
use Rattle.book_owned.specs.declared.mark.Mark.{Mark}
use Rattle.book_owned.specs.declared.written.Written.{Written}
use Rattle.book_shared.specs.Basis.{Device, Held, free, resting, writing, written, idle, holding, last_word}
use Rattle.book_shared.specs.Causes.{IsAmong}
use Rattle.book_shared.specs.Rule.{AreOwn, IsAnswer}
use Rattle.book_shared.specs.Plays.{Here, Slot, Meets, held_of}
use Rattle.book_shared.specs.Place.{own_part, IsSingle}
use Rattle.book_shared.specs.declared.half.Answer.{Answer}
use Rattle.book_shared.specs.declared.half.Half.TheVariants.{TheFront, TheBack, Told}
use Rattle.book_shared.specs.declared.view.View.{View}

-- what a seat tells when it takes the turn: the answer of a write where it has the back out, and else nothing
abbrev pub TellsBy : View → Opt Answer → Type 0
TellsBy v None = (v.device ≡ free) ⊎ (v.device ≡ resting)
TellsBy v (Some answer) = (v.device ≡ writing) × IsAnswer (length v.seen) answer

abbrev pub said_of : {D V : Type 0} → Opt Answer → Home (Slot D V)
said_of None = none
said_of (Some answer) = some (Told answer)

-- and how far it is with the device then
abbrev pub told_by : Device → Opt Answer → Device
told_by device None = device
told_by device (Some answer) = written answer

-- only steps were made that took nothing
pub record Waited (v u : View) : Type 0 where
  pub rest : u ≡ record v { met = u.met; prior = u.prior; steps = u.steps }
  pub met : v.met ≤ u.met

-- the turn was taken, and this is the front
pub record Took {V : Type 0} (v u : View) (device : Device) (front : FrontAccount V) : Type 0 where
  pub rest : u ≡ record v {
    met = u.met;
    prior = u.prior;
    steps = u.steps;
    turns = v.turns + 1;
    found = v.found ++ held_of front ∷ [];
    turn = holding (held_of front);
    last = holding (held_of front);
    device = device;
  }
  pub meets : Meets v front
  pub odd : u.met % 2 ≡ 1
  pub low : u.met < last_word

-- Turns were taken and given back. In the last the front had a history that goes on from what the seat had seen, and these samples were
-- accepted behind it: the one history is now what the seat has seen, and its own samples are those before and these.
pub record Served (v u : View) (history added : List Sample) : Type 0 where
  pub later : IsPrefix v.seen history
  pub seen : u.seen ≡ history ++ added
  pub kept : IsPrefix v.kept u.kept
  pub knows : v.knows ≡ true → u.knows ≡ true
  pub mine : own_part u.mine ≡ own_part v.mine ++ added
  pub own : AreOwn u.basis.owners u.seen u.mine
  pub olds : u.olds ≡ v.olds
  pub basis_is : u.basis ≡ v.basis
  pub turns : v.turns < u.turns
  pub found : IsPrefix v.found u.found

-- the first turn that the seat had since found the front so
abbrev pub IsFirst : View → View → Held → Type 0
IsFirst v u first = (more : List Held) × (u.found ≡ v.found ++ first ∷ more)

-- There were at most so many turns, and three more for each mark that was made since the seat had last given the front back.
abbrev pub HasTurnsFor : ℕ → View → View → Type 0
HasTurnsFor most v u = u.turns + 3 * length v.kept ≤ v.turns + most + 3 * length u.kept

-- the seat had to append this sample, and no other since
abbrev pub OnlyDue : View → View → Sample → Type 0
OnlyDue v u sample = (other : Sample) → IsAmong u.due other → IsAmong v.due other ⊎ (sample ≡ other)

-- No turn was taken, since the word is this one: it was odd, or at its end, or it rose between the load and the exchange.
pub record IsBusy (v u : View) (word : ℕ) : Type 0 where
  pub waited : Waited v u
  pub met : u.met ≡ word
  pub cause : ((u.steps ≡ v.steps + 1) × ((word % 2 ≡ 1) ⊎ (word ≡ last_word))) ⊎ ((u.steps ≡ v.steps + 2) × (u.prior < word))

-- the seat has no turn and not the device, is still a seat of one source, and of the same book
pub record Rests (v u : View) : Type 0 where
  pub calm : u.turn ≡ idle
  pub no_device : u.device ≡ free
  pub basis_is : u.basis ≡ v.basis
  pub single : (number : ℕ) → IsSingle v number → IsSingle u number

-- the front may be asked to take the sample
abbrev pub MayTake : {V : Type 0} → FrontAccount V → Sample → Type 0
MayTake front sample = SampleFits front.terms.layouts sample × (encoded_size front.terms.layouts sample ≤ front.terms.block_limit)

-- the front that is out with a seat was worked on where it lies, and so was the back
abbrev pub Works : {D V : Type 0} → Here D V → Here D V → (FrontAccount V → FrontAccount V → Type 0) → Type 0
Works {D} {V} before now does =
    (old : FrontAccount V) → before.1 ≡ (0, TheFront old) ∷ rest before.1 → (new : FrontAccount V) × (now.1 ≡ (0, TheFront new) ∷ rest before.1) × does old new

abbrev pub Writes : {D V : Type 0} → Here D V → Here D V → (Gated D → Gated D → Type 0) → Type 0
Writes {D} {V} before now does =
    (old : Gated D) → before.1 ≡ (1, TheBack old) ∷ rest before.1 → (new : Gated D) × (now.1 ≡ (1, TheBack new) ∷ rest before.1) × does old new

-- what a write of a block does to the back: its answer, that its terms stay, and what it keeps of any lists
pub record WritesOut {D : Type 0} (disk : DiskOf D) (old new : Gated D) (through : ℕ) (block : Buffered) (answer : Written) : Type 0 where
  pub answers : WriteAnswers disk old new through block answer
  pub terms : back_terms disk new ≡ back_terms disk old
  pub keeps : (layouts : List Layout) (most : ℕ) (samples : List Sample) (marks : List Mark) (from : ℕ) → BackKeeps disk layouts old (take through samples) marks
      → FileHolds disk layouts most old (take from samples) → IsHanded layouts most block samples from through → All (λ mark. mark.through ≤ from) marks
      → WriteKeeps disk layouts most new samples marks through answer
