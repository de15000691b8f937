-- What no call of a shared book changes, and what a seat holds of it.
use Rattle.std.specs.Prelude.{ℕ, ◌-◌, ◌^◌, Bool, List}
use Rattle.mdf_layout.specs.declared.sample.Sample.{Sample}
use Rattle.book_owned.specs.Account.{Terms}
use Rattle.book_owned.specs.declared.mark.Mark.{Mark}
use Rattle.book_shared.specs.declared.half.Answer.{Answer}

-- the greatest even turn word: from it no turn is taken any more
abbrev pub last_word : ℕ
last_word = 2 ^ 64 - 2

-- the source that owns each group, how many sources there are, the terms of the book, and the marks that it began with
pub record Basis : Type 0 where
  pub owners : List ℕ
  pub sources : ℕ
  pub terms : Terms
  pub begun : List Mark

-- what a turn found: the history, the marks, how many samples were handed out to be written, whether the front was stopped,
-- and whether it had its spare block
pub record Held : Type 0 where
  pub history : List Sample
  pub marks : List Mark
  pub from : ℕ
  pub stopped : Bool
  pub spare : Bool

-- A seat has no turn, or it holds the front, which was so when the seat took it.
pub data Turn : Type 0 where
  idle : Turn
  holding : Held → Turn

-- A seat does not have the device; or it has it, and nothing is to be written; or a block was handed out to be written; or
-- the seat has the back out to write it; or it was written with this answer; or besides the back is in its slot again.
pub data Device : Type 0 where
  free : Device
  resting : Device
  handed : Device
  writing : Device
  written : Answer → Device
  settled : Answer → Device
