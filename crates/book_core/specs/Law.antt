-- What a book keeps, whatever happens to it.
use Rattle.std.specs.Prelude.{◌≡◌, ◌≤◌, true}
use mathlib.Core.List.{IsPrefix}
use Rattle.book_core.specs.Machine.{BookState}

-- a book and the same book later: no sample goes, neither number falls, and once stopped it is so for good
pub record GoesOn (book later : BookState) : Type 0 where
  pub history : IsPrefix book.history later.history
  pub durable : book.durable ≤ later.durable
  pub shown : book.shown ≤ later.shown
  pub stopped : book.stopped ≡ true → later.stopped ≡ true

-- a book whose disk failed, and the same book later
pub record IsHeld (book later : BookState) : Type 0 where
  pub history : later.history ≡ book.history
  pub durable : later.durable ≡ book.durable
  pub stopped : later.stopped ≡ true
