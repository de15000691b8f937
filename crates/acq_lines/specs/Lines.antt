-- The lines of a text that comes in pieces.
use Rattle.std.specs.Prelude.{ℕ, ◌≡◌, ◌<◌, ◌⊎◌, Bool, true, false, ◌||◌, ◌==◌, nat_le, if◌then◌else◌, List, [], ◌∷◌, ◌++◌, length, Option, Some, None}
use Rattle.std.specs.List.{slice_split}
use Rattle.memchr.specs.Find.{IsFirstByte, is_byte}

-- how many bytes a line has at most, its LF counted
abbrev pub LIMIT : ℕ
LIMIT = 65536

-- a line without its LF, where it has not too many bytes; whether it has them already may be known before
abbrev pub limited : Bool → List ℕ → Option (List ℕ)
limited long text = if long || nat_le LIMIT (length text) then None else Some text

-- The lines that the parts of a text between LFs are. The last part stands behind the last LF and is none. Of the first it may
-- be known before that it is too long.
abbrev pub closed : Bool → List (List ℕ) → List (Option (List ℕ))
closed long [] = []
closed long (rest ∷ []) = []
closed long (text ∷ next ∷ more) = limited long text ∷ closed false (next ∷ more)

-- What was read of the lines that were not handed out: its bytes, of which the front may have been dropped, where the first line
-- is too long.
pub record Unread : Type 0 where
  pub long : Bool
  pub bytes : List ℕ

-- nothing was read
abbrev pub nothing : Unread
nothing = record { long = false; bytes = [] }

-- the lines of what was read and of a text behind it
abbrev pub lines_behind : Unread → List ℕ → List (Option (List ℕ))
lines_behind unread text = closed unread.long (slice_split (λ b. b == 10) (unread.bytes ++ text))

-- the lines of a text
abbrev pub lines_of : List ℕ → List (Option (List ℕ))
lines_of text = lines_behind nothing text

-- From the one to the other just these bytes were read, and just these lines handed out: whatever comes behind the bytes, the
-- lines of all are these, and then those of what is left and what comes.
pub record Reads (old : Unread) (bytes : List ℕ) (lines : List (Option (List ℕ))) (new : Unread) : Type 0 where
  pub each : (later : List ℕ) → lines_behind old (bytes ++ later) ≡ lines ++ lines_behind new later

-- the place of the first LF
abbrev pub FindsLf : List ℕ → Option ℕ → Type 0
FindsLf bytes found = IsFirstByte (is_byte 10) bytes found

-- what was read ends in the middle of a line
abbrev pub IsCut : Unread → Type 0
IsCut unread = (unread.long ≡ true) ⊎ (0 < length unread.bytes)
