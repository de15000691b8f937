-- What contracts see of a shared book and of a source's seat.
use Rattle.std.specs.Prelude.{ℕ, ◌≡◌, ◌≤◌, List, [], ◌∷◌, length, slice_index}
use Rattle.atomic_table.specs.Seated.{TableId}
use Rattle.mdf_layout.specs.Record.{SampleFits, encoded_size}
use Rattle.mdf_layout.specs.declared.sample.Sample.{Sample}
use Rattle.book_shared.specs.Basis.{Basis, idle, free}
use Rattle.book_shared.specs.Parts.{spent}
use Rattle.book_shared.specs.declared.view.View.{View}

-- a shared book: which one it is, and what no call changes
pub record Common : Type 0 where
  pub table : TableId
  pub basis : Basis

-- a seat: at which book, of which source, and what it knows
pub record Place : Type 0 where
  pub table : TableId
  pub number : ℕ
  pub know : View

-- the samples of the first source of a seat
abbrev pub own_part : List (ℕ × List Sample) → List Sample
own_part [] = []
own_part (part ∷ parts) = part.1

-- the seat has this one source
abbrev pub IsSingle : View → ℕ → Type 0
IsSingle v number = v.mine ≡ (number, own_part v.mine) ∷ []

-- The seat may append this sample: its one source owns the group, the sample fits the layout of that, and its record the block limit.
pub record MayAppend (v : View) (sample : Sample) : Type 0 where
  pub owns : IsSingle v (slice_index v.basis.owners sample.group)
  pub fits : SampleFits v.basis.terms.layouts sample
  pub size : encoded_size v.basis.terms.layouts sample ≤ v.basis.terms.block_limit

-- a call leaves the seat at its book, with its number and what no call changes, and that is the number of its one source
pub record KeepsSeat (old new : Place) : Type 0 where
  pub table_is : new.table ≡ old.table
  pub number_is : new.number ≡ old.number
  pub basis_is : new.know.basis ≡ old.know.basis
  pub single : IsSingle new.know new.number

abbrev pub known : List View → View
known [] = spent
known (v ∷ vs) = v

-- a seat of one source, with no turn and without the device
abbrev pub IsSeat : List View → List ℕ → ℕ → Type 0
IsSeat views owners number =
    (views ≡ known views ∷ []) × ((known views).turn ≡ idle) × ((known views).device ≡ free) × IsSingle (known views) number × (owners ≡ (known views).basis.owners)
    × (length owners ≡ 64)
