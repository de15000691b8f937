-- What contracts see of a book.
use Rattle.std.specs.Prelude.{ℕ, ◌≡◌, Bool, true, List, ◌++◌, Option}
use mathlib.Core.List.{IsPrefix}
use Rattle.mdf_disk.specs.declared.role.Role.{Role}
use Rattle.mdf_layout.specs.Layout.{Layout}
use Rattle.mdf_layout.specs.declared.sample.Sample.{Sample}
use Rattle.book_owned.specs.declared.mark.Mark.{Mark}

-- What no call of a book changes: the layouts of its groups, its limits in bytes, which view it has; and of its file the
-- head, the disk's moment and count of faults when it was made, whether the disk tells its story, and what it was asked for.
pub record Terms : Type 0 where
  pub layouts : List Layout
  pub block_limit : ℕ
  pub session_limit : ℕ
  pub which : ℕ
  pub head : List ℕ
  pub start : ℕ
  pub faults : ℕ
  pub told : Bool
  pub asked : Option (List ℕ × Role)

-- the accepted samples, the marks, whether a fault of the disk stopped it, the terms, the disk and the view
pub record Account (D V : Type 0) : Type 0 where
  pub history : List Sample
  pub marks : List Mark
  pub stopped : Bool
  pub terms : Terms
  pub disk : D
  pub view : V

-- a call led from one to the other, and these samples were accepted
pub record Steps {D V : Type 0} (old new : Account D V) (added : List Sample) : Type 0 where
  pub history : new.history ≡ old.history ++ added
  pub marks : IsPrefix old.marks new.marks
  pub stopped : old.stopped ≡ true → new.stopped ≡ true
  pub terms : new.terms ≡ old.terms
