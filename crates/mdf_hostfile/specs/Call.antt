-- The calls of the system on one file, each with its arguments and with what was answered.
use Rattle.std.specs.Prelude.{ℕ, ◌≡◌, ◌⊎◌, Bool, true, false, List, Option, Some, None, Result, Ok, Err}
use Rattle.mdf_disk.specs.declared.role.Role.{Role}
use Rattle.mdf_disk.specs.declared.role.Role.TheVariants.{Read, Create}

-- A name is the one of the file; a number is a place in it. The last argument says whether the call succeeded, and that of a size what
-- was answered.
pub data FileCall : Type 0 where
  Open : List ℕ → Bool → FileCall
  CreateNew : List ℕ → Bool → FileCall
  SyncFolder : List ℕ → Bool → FileCall
  Size : Option ℕ → FileCall
  ReadAt : ℕ → List ℕ → Bool → FileCall
  WriteAll : ℕ → List ℕ → Bool → FileCall
  SyncData : Bool → FileCall

-- the answer of a call that succeeded
abbrev pub answer : {A E : Type 0} → Result A E → Option A
answer (Ok a) = Some a
answer (Err e) = None

-- How a file is attached, where `makes` says of a state, a call and a state that this call alone led from the one to the other: a file
-- that is there is opened; a new name is made, and then its folder is synced.
abbrev pub Opens : {S : Type 0} → (S → FileCall → S → Type 0) → Role → List ℕ → S → S → Bool → Type 0
Opens makes Read name old new done = makes old (Open name done) new
Opens {S} makes Create name old new done =
    (makes old (CreateNew name false) new × (done ≡ false))
    ⊎ ((made : S) × makes old (CreateNew name true) made × makes made (SyncFolder name done) new)
