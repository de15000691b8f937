-- How far the copies are along the log.
use Rattle.std.specs.Prelude.{ℕ, ◌≡◌, List, length, take, fold}
use mathlib.Core.List.{IsPrefix}
use Rattle.logbook.specs.Pages.{Named}
use Rattle.book_view.specs.Log.{head_of}
use Rattle.book_view.specs.Names.{name_of}
use Rattle.book_view.specs.Copies.{IsWhole, added}
use Rattle.book_view.specs.declared.front.Fronts.{Fronts}
use Rattle.book_view.specs.declared.store.Store.{Store}
use Rattle.book_view.specs.declared.store.Addition.{Addition}

-- Readers enter the copy of what is shown, and whatever additions it lacks its chunks stay. The log begins with what is shown.
pub record Pends (copy : Store) (pending : List Addition) (fronts : Fronts) : Type 0 where
  pub front_is : copy.front ≡ fronts.shown
  pub whole : IsWhole copy
  pub stay : take (length copy.chunks) (fold added copy pending).chunks ≡ copy.chunks
  pub one_log : fronts.log.seen.book ≡ fronts.shown.seen.book
  pub begins : IsPrefix fronts.shown.seen.log fronts.log.seen.log

-- the additions lead to all of the log
pub record Leads (copy : Store) (pending : List Addition) (fronts : Fronts) : Type 0 where
  pub front_is : (fold added copy pending).front ≡ fronts.log
  pub whole : IsWhole (fold added copy pending)

-- the writer knows that log, and has its first word
pub record IsHeld (copy : Store) (pending : List Addition) (name : List ℕ) (head : Named) (fronts : Fronts) : Type 0 where
  pub pends : Pends copy pending fronts
  pub named : name ≡ name_of fronts.shown.seen.book
  pub head_is : head ≡ head_of fronts.shown.seen.book
