-- What a book keeps of its file, whatever happens.
use Rattle.std.specs.Prelude.{ℕ, ◌*◌, ◌≤◌, ◌⊎◌, List, length, take, drop, All, Option, is_some}
use mathlib.Core.List.{IsPrefix}
use Rattle.mdf_disk.specs.Story.{Story}
use Rattle.mdf_disk.specs.Crash.{HoldsSince}
use Rattle.mdf_disk.specs.State.{DiskState}
use Rattle.mdf_layout.specs.Layout.{Layout}
use Rattle.mdf_layout.specs.Record.{history_size}
use Rattle.mdf_layout.specs.declared.sample.Sample.{Sample}
use Rattle.mdf_gate.specs.Images.{IsNotMdf}
use Rattle.mdf_gate.specs.Carried.{Carries, IsCarried, IsEncoded}
use Rattle.mdf_gate.specs.Recording.{IsOpened}
use Rattle.book_owned.specs.Members.{ViewOf}
use Rattle.book_owned.specs.Marks.{AreRising, durable}
use Rattle.book_owned.specs.Account.{Terms}
use Rattle.book_owned.specs.declared.mark.Mark.{Mark}

-- Each crash since the mark's moment leaves a file that begins with the head and carries a beginning of the history with
-- at least so many samples as the mark has.
pub record MarkHolds (layouts : List Layout) (head : List ℕ) (story : Option Story) (clock : ℕ) (history : List Sample) (mark : Mark) : Type 0 where
  pub past : mark.moment ≤ clock
  pub within : mark.through ≤ length history
  pub carries : HoldsSince story mark.moment (Carries layouts head history mark.through)

-- of each mark
abbrev pub MarksHold : List Layout → List ℕ → Option Story → ℕ → List Sample → List Mark → Type 0
MarksHold layouts head story clock history marks = All (MarkHolds layouts head story clock history) marks

-- Each crash since the file was begun leaves no MDF file, or one that begins with the head and carries a beginning of
-- the history.
abbrev pub StartHolds : List Layout → List ℕ → Option Story → ℕ → List Sample → Type 0
StartHolds layouts head story start history =
    HoldsSince story start (λ file. IsNotMdf file ⊎ Carries layouts head history 0 file)

-- the records of the samples that are not durable fit into one block
abbrev pub FitsOne : Terms → List Sample → List Mark → Type 0
FitsOne terms history marks = history_size terms.layouts (drop (durable marks) history) ≤ terms.block_limit

-- What is true of a book's disk, whatever happens: the records of the samples that are not durable fit into two blocks.
pub record IsKept (terms : Terms) (disk : DiskState) (history : List Sample) (marks : List Mark) : Type 0 where
  pub marks_hold : MarksHold terms.layouts terms.head disk.story disk.moment history marks
  pub start_holds : StartHolds terms.layouts terms.head disk.story terms.start history
  pub marks_rise : AreRising (is_some disk.story) marks
  pub pending : history_size terms.layouts (drop (durable marks) history) ≤ 2 * terms.block_limit

-- The view shows a beginning of the durable samples, and handed no other samples on.
pub record IsShowing {V N : Type 0} (view : ViewOf V N) (now : V) (history : List Sample) (marks : List Mark) : Type 0 where
  pub most : view.count now ≤ durable marks
  pub shown : view.shows now (take (view.count now) history)
  pub handed : (handed : List Sample) → view.hands now handed → IsPrefix handed (take (durable marks) history)

-- each opened block of the file has at most so many bytes of data
abbrev pub HasBlocksOf : ℕ → List ℕ → Type 0
HasBlocksOf most file = (blocks : List (List ℕ)) → IsOpened file blocks → All (λ body. length body ≤ most) blocks

-- the data of the file's opened blocks are the records of the durable samples, with the bits of no channel 0, and no block
-- has more data than the limit
abbrev pub HoldsDurable : Terms → List Sample → List Mark → List ℕ → Type 0
HoldsDurable terms history marks file =
    IsCarried terms.layouts file (take (durable marks) history) × IsEncoded terms.layouts file (take (durable marks) history)
    × HasBlocksOf terms.block_limit file
