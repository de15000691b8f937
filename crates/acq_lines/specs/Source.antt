-- What a source of lines has read of its source.
use Rattle.std.specs.Prelude.{ℕ, ◌≡◌, ◌-◌, List, [], length, slice_range, false, Option}
use Rattle.std.specs.Io.KnownBytes.{Consumes, IsAtEnd, Keeps}
use Rattle.acq_lines.specs.Lines.{Reads, Unread}
use Rattle.acq_lines.specs.declared.source.LineSource.{LineSource}

abbrev pub unread : {S : Type 0} → LineSource S → Unread
unread lines = record { long = lines.long; bytes = slice_range lines.buffer.items lines.start lines.end }

-- What was read and not handed out before the line that was passed last, as long as that can be put back. It was not too long.
abbrev pub unpassed : {S : Type 0} → LineSource S → Unread
unpassed lines = record { long = false; bytes = slice_range lines.buffer.items (lines.start - lines.passed) lines.end }

-- So many bytes more were read, and no line handed out. None is the end.
pub record Fills (left left' : Option (List ℕ)) (old new : Unread) (count : ℕ) : Type 0 where
  pub bytes : List ℕ
  pub count_is : length bytes ≡ count
  pub consumed : Consumes left left' bytes
  pub reads : Reads old bytes [] new
  pub at_end : count ≡ 0 → IsAtEnd left'

-- nothing was read, and no line handed out
pub record Stays (left left' : Option (List ℕ)) (old new : Unread) : Type 0 where
  pub kept : Keeps left left'
  pub reads : Reads old [] [] new
