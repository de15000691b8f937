-- The seats of a book that two sources share.
use Rattle.std.specs.Prelude.{◌≡◌, List}
use Rattle.mdf_layout.specs.Layout.{Layout}
use Rattle.book_owned.specs.Account.{Terms}
use Rattle.book_shared.specs.Place.{Common, Place}
use Rattle.book_shared.specs.Seats.{new_seat}

-- the seats are at this book, which has two sources and these terms
pub record AreSeated (terms : Terms) (book : Common) (first second : Place) : Type 0 where
  pub terms_are : book.basis.terms ≡ terms
  pub sources_is : book.basis.sources ≡ 2
  pub first_is : first ≡ new_seat book.table book.basis 0
  pub second_is : second ≡ new_seat book.table book.basis 1

-- these are the seats of the two sources of this book, whose layouts are these, and whose blocks have 9 bytes at most
pub record AreReady (layouts : List Layout) (book : Common) (first second : Place) : Type 0 where
  pub sources : book.basis.sources ≡ 2
  pub first_table : first.table ≡ book.table
  pub second_table : second.table ≡ book.table
  pub first_number : first.number ≡ 0
  pub second_number : second.number ≡ 1
  pub layouts_are : first.know.basis.terms.layouts ≡ layouts
  pub limit : first.know.basis.terms.block_limit ≡ 9

-- the seat is of the same source, at the same book
pub record IsSameSeat (before after : Place) : Type 0 where
  pub table : after.table ≡ before.table
  pub number : after.number ≡ before.number
  pub basis : after.know.basis ≡ before.know.basis
