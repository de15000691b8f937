-- The words in which a layer above a disk says what a crash may leave.
use Rattle.std.specs.Prelude.{◌⊎◌, ℕ, List, Option, IfSome}
use Rattle.mdf_disk.specs.Story.{Moment, Story, LeftSince}

-- From old to new nothing joined what a crash might have left but files that have P.
abbrev pub Adds : Option Story → Option Story → (List ℕ → Type 0) → Type 0
Adds old new P = (t : ℕ) (file : List ℕ) → LeftSince new t file → LeftSince old t file ⊎ P file

-- the present moment has Q, where the story is told
abbrev pub NowHas : Option Story → (Moment → Type 0) → Type 0
NowHas story Q = IfSome story (λ s. Q s.now)

-- each file that a crash since moment t might have left has P
abbrev pub HoldsSince : Option Story → ℕ → (List ℕ → Type 0) → Type 0
HoldsSince story t P = (file : List ℕ) → LeftSince story t file → P file
