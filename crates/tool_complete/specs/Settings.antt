-- Numbers that are set in a file.
use Rattle.std.specs.Prelude.{ℕ, ◌+◌, ◌≤◌, List, [], ◌∷◌}
use Rattle.std.specs.Int.{to_le_bytes, w64}
use Rattle.std.specs.List.{AllByRecursion}
use Rattle.mdf_format.specs.Number.{patched}
use Rattle.tool_complete.specs.declared.setting.Setting.{Setting}

-- the 8 bytes of the field become the number
abbrev pub set_one : Setting → List ℕ → List ℕ
set_one setting file = patched setting.at (to_le_bytes w64 setting.value) file

-- one behind the other: where two fields share a byte, the later one has it
abbrev pub set_all : List Setting → List ℕ → List ℕ
set_all [] file = file
set_all (setting ∷ settings) file = set_all settings (set_one setting file)

-- the field lies in a file of so many bytes
abbrev pub IsFieldIn : ℕ → Setting → Type 0
IsFieldIn size setting = setting.at + 8 ≤ size

abbrev pub AreFieldsIn : ℕ → List Setting → Type 0
AreFieldsIn size settings = AllByRecursion (IsFieldIn size) settings
