-- What a disk tells of the moments that it has been through, so that one can say what a crash would have left.
use Rattle.std.specs.Prelude.{◌≡◌, ◌⊎◌, ℕ, ◌≤◌, ◌<◌, max, List, [], ◌∷◌, length, get_or, Option, Some, None, IfSome}
use Rattle.std.specs.List.{AllByRecursion}

-- places of a file, from the first on up to the one behind the last
pub record Range : Type 0 where
  pub first : ℕ
  pub behind : ℕ

-- A moment of a disk: the bytes that the last successful sync left, the ranges written since, the newest first, and
-- the bytes that a read gives.
pub record Moment : Type 0 where
  pub stable : List ℕ
  pub writes : List Range
  pub content : List ℕ

-- the moments so far, the newest apart and the others behind it, the newer first
pub record Story : Type 0 where
  pub now : Moment
  pub past : List Moment

-- no write since the last successful sync touches the place
abbrev pub IsUntouched : List Range → ℕ → Type 0
IsUntouched writes place = AllByRecursion (λ range. (place < range.first) ⊎ (range.behind ≤ place)) writes

-- the greatest end of a write since the last successful sync
abbrev pub reach : List Range → ℕ
reach [] = 0
reach (range ∷ writes) = max range.behind (reach writes)

-- A crash at this moment may leave this file: the stable bytes where nothing was written since, any bytes elsewhere,
-- and of what was added behind the stable bytes any part may be missing at the end.
pub record MayLeave (moment : Moment) (file : List ℕ) : Type 0 where
  pub not_shorter : length moment.stable ≤ length file
  pub not_longer : length file ≤ max (length moment.stable) (reach moment.writes)
  pub kept : (place : ℕ) → place < length moment.stable → IsUntouched moment.writes place
      → get_or file place 0 ≡ get_or moment.stable place 0

-- Moments are numbered from 0, the oldest. A crash at one of these, of number t or more, might have left this file.
abbrev pub LeftInOne : List Moment → ℕ → List ℕ → Type 0
LeftInOne [] t file = ⊥
LeftInOne (moment ∷ past) t file = ((t ≤ length past) × MayLeave moment file) ⊎ LeftInOne past t file

-- A crash at some moment from number t to now, during a call or between two, might have left this file. Of a disk that
-- tells no story nothing is said.
abbrev pub LeftSince : Option Story → ℕ → List ℕ → Type 0
LeftSince None t file = ⊥
LeftSince (Some story) t file = LeftInOne (story.now ∷ story.past) t file

-- what a disk tells besides its story is what the present moment has
pub record IsNow (story : Story) (content : Option (List ℕ)) (moment : ℕ) : Type 0 where
  pub content_is : content ≡ Some story.now.content
  pub moment_is : moment ≡ length story.past
  pub possible : MayLeave story.now story.now.content

-- the same where the story is told
abbrev pub Agrees : Option Story → Option (List ℕ) → ℕ → Type 0
Agrees story content moment = IfSome story (λ s. IsNow s content moment)

-- all that is written is kept: a crash leaves the content and nothing else
abbrev pub settled : List ℕ → Moment
settled content = record { stable = content; writes = []; content = content }

-- a disk that was never used, where it tells its story
abbrev pub IsFresh : Option Story → Type 0
IsFresh story = IfSome story (λ s. s.now ≡ settled [])
