-- What a crash may leave of a file that is written under a seal.
use Rattle.std.specs.Prelude.{◌≡◌, ◌≤◌, ◌⊎◌, ℕ, List, [], ◌∷◌, length, drop, get_or}
use Rattle.mdf_disk.specs.Story.{Moment, IsUntouched}

-- the file has no first byte, or a closed one
abbrev pub IsClosed : List ℕ → Type 0
IsClosed file = get_or file 0 0 ≡ 0

-- these bytes but for the first, in the place of which a closed byte stands
abbrev pub closed : List ℕ → List ℕ
closed bytes = 0 ∷ drop 1 bytes

-- the whole file, or the whole file with another first byte
pub record IsWholeButFirst (bytes file : List ℕ) : Type 0 where
  pub long : length file ≡ length bytes
  pub rest : drop 1 file ≡ drop 1 bytes

-- what a crash may leave while a file of these bytes is written: at most one byte, a closed file, or the whole with
-- any first byte
abbrev pub IsSealedImage : List ℕ → List ℕ → Type 0
IsSealedImage bytes file = (length file ≤ 1) ⊎ IsClosed file ⊎ IsWholeButFirst bytes file

-- what the disk keeps of a file of these bytes until it keeps the whole: no byte, a closed one, or all but for the first
abbrev pub IsUnopened : List ℕ → List ℕ → Type 0
IsUnopened bytes kept = (kept ≡ []) ⊎ (kept ≡ 0 ∷ []) ⊎ (kept ≡ closed bytes)

-- the first byte of the file is closed on the disk, and no write since the last sync touches it
pub record IsShut (moment : Moment) : Type 0 where
  pub some : 1 ≤ length moment.stable
  pub shut : get_or moment.stable 0 0 ≡ 0
  pub untouched : IsUntouched moment.writes 0
