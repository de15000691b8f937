-- The seats of a shared book at its beginning, and what is so of the book when it is closed.
use Rattle.std.specs.Prelude.{ℕ, zero, suc, ◌≡◌, ◌<◌, ◌⊎◌, true, List, [], ◌∷◌, slice_index}
use mathlib.Core.List.{IsPrefix}
use Rattle.atomic_table.specs.Seated.{TableId}
use Rattle.mdf_layout.specs.History.{source_samples}
use Rattle.book_owned.specs.Account.{Account, Terms}
use Rattle.mdf_layout.specs.declared.sample.Sample.{Sample}
use Rattle.book_shared.specs.Basis.{Basis}
use Rattle.book_shared.specs.Causes.{AnyOf, IsAmong}
use Rattle.book_shared.specs.Plays.{fresh}
use Rattle.book_shared.specs.Place.{Common, Place, own_part}
use Rattle.book_shared.specs.Rule.{asks, total}

-- a seat that has seen nothing
abbrev pub new_seat : TableId → Basis → ℕ → Place
new_seat table basis number = record { table = table; number = number; know = fresh basis ((number, []) ∷ []) }

-- so many, with the numbers from this one on
abbrev pub new_seats : TableId → Basis → ℕ → ℕ → List Place
new_seats table basis first zero = []
new_seats table basis first (suc more) = new_seat table basis first ∷ new_seats table basis (suc first) more

-- the shared book has these owners by the numbers of the groups, so many sources, and these terms
pub record HasShared (owners : List ℕ) (sources : ℕ) (terms : Terms) (book : Common) : Type 0 where
  pub owners_are : (group : ℕ) → slice_index book.basis.owners group ≡ slice_index owners group
  pub sources_is : book.basis.sources ≡ sources
  pub terms_are : book.basis.terms ≡ terms

-- each seat is one of this book
abbrev pub AreOf : TableId → List Place → Type 0
AreOf table [] = Unit {0}
AreOf table (seat ∷ seats) = (seat.table ≡ table) × AreOf table seats

-- one of the seats is of this source
abbrev pub HasNumber : ℕ → List Place → Type 0
HasNumber number [] = ⊥
HasNumber number (seat ∷ seats) = (seat.number ≡ number) ⊎ HasNumber number seats

-- one of the seats asked for a mark through so many samples
abbrev pub AskedBy : List Place → ℕ → Type 0
AskedBy seats n = 0 < total (λ seat. asks n seat.know) seats

-- one of the seats had to append this sample
abbrev pub DueBy : List Place → Sample → Type 0
DueBy seats sample = AnyOf (λ seat. IsAmong seat.know.due sample) seats

-- The one history begins with what the seat had seen, and the marks with those that it had kept; the book is stopped where
-- the seat knows so; and the seat's samples are all that the history has of its source.
pub record Closed {D V : Type 0} (basis : Basis) (book : Account D V) (seat : Place) : Type 0 where
  pub seen : IsPrefix seat.know.seen book.history
  pub kept : IsPrefix seat.know.kept book.marks
  pub knows : seat.know.knows ≡ true → book.stopped ≡ true
  pub mine : own_part seat.know.mine ≡ source_samples basis.owners book.history seat.number

-- of each seat
abbrev pub Closes : {D V : Type 0} → Basis → Account D V → List Place → Type 0
Closes basis book [] = Unit {0}
Closes basis book (seat ∷ seats) = Closed basis book seat × Closes basis book seats
