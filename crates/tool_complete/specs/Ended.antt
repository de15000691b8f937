-- The ended file: the identification says that it is finalized, and its last DTBLOCK ends with it.
use Rattle.std.specs.Prelude.{ℕ, ◌+◌, ◌-◌, nat_eq, if◌then◌else◌, List, [], ◌∷◌, length, max, codes, Ok, Err}
use Rattle.mdf_format.specs.Number.{patched}
use Rattle.mdf_format.specs.Identification.{standard_flags}
use Rattle.mdf_block.specs.Refusal.{Read}
use Rattle.mdf_group.specs.declared.row.DataRow.{DataRow}
use Rattle.mdf_model.specs.declared.tree.Tree.{Tree}
use Rattle.mdf_model.specs.Tree.{tree}
use Rattle.tool_complete.specs.declared.setting.Setting.{Setting}
use Rattle.tool_complete.specs.Flags.{has_bit}
use Rattle.tool_complete.specs.Named.{last_named}
use Rattle.tool_complete.specs.Settings.{set_all}

-- `id_file` of a finalized file, and both words of flags 0
abbrev pub marked : List ℕ → List ℕ
marked file = patched 60 (0 ∷ 0 ∷ 0 ∷ 0 ∷ []) (patched 0 (codes "MDF     ") file)

-- the last DTBLOCK that the data links of data groups name, whatever length it says: the greatest address at which one is headed, and 0
-- for none
unfoldable pub last_of : List ℕ → List DataRow → ℕ
last_of file [] = 0
last_of file (row ∷ rows) = max (last_named file row.content) (last_of file rows)

-- the same of a file whose tree is found
abbrev pub last_by : List ℕ → Read Tree → ℕ
last_by file (Ok found) = last_of file found.rows
last_by file (Err refusal) = 0

-- the last DTBLOCK, where its length is to be set, and 0 for none
abbrev pub last_block : List ℕ → ℕ
last_block file = if has_bit (standard_flags file) 2 then last_by (marked file) (tree (marked file)) else 0

-- the length with which the block at an address ends with a file of so many bytes
abbrev pub end_settings : ℕ → ℕ → List Setting
end_settings size at = if nat_eq at 0 then [] else record { at = at + 8; value = size - at } ∷ []

abbrev pub ended_at : List ℕ → ℕ → List ℕ
ended_at file at = set_all (end_settings (length file) at) file

unfoldable pub ended_file : List ℕ → List ℕ
ended_file file = ended_at (marked file) (last_block file)
