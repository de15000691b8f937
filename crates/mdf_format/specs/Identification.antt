-- The identification (IDBLOCK): the first 64 bytes of a file.
use Rattle.std.specs.Prelude.{ℕ, ◌≡◌, ◌≤◌, ◌⊎◌, List, length, codes}
use Rattle.mdf_format.specs.Number.{le_number, bytes_at}

-- `id_file` of a finalized file
abbrev pub IsFinalized : List ℕ → Type 0
IsFinalized file = bytes_at 8 file 0 ≡ codes "MDF     "

-- `id_file` of an unfinalized file
abbrev pub IsUnfinalized : List ℕ → Type 0
IsUnfinalized file = bytes_at 8 file 0 ≡ codes "UnFinMF "

-- `id_ver`, `id_unfin_flags` and `id_custom_unfin_flags`
abbrev pub version_of : List ℕ → ℕ
version_of file = le_number (bytes_at 2 file 28)

abbrev pub standard_flags : List ℕ → ℕ
standard_flags file = le_number (bytes_at 2 file 60)

abbrev pub custom_flags : List ℕ → ℕ
custom_flags file = le_number (bytes_at 2 file 62)

-- an identification is there, of a finalized file or of one that is not
pub record IsMdf (file : List ℕ) : Type 0 where
  pub long : 64 ≤ length file
  pub marked : IsFinalized file ⊎ IsUnfinalized file

-- a version 4.0 to 4.19, which is what is read
pub record HasReadVersion (file : List ℕ) : Type 0 where
  pub not_below : 400 ≤ version_of file
  pub not_above : version_of file ≤ 419
