-- The command `info IN`.
use Rattle.std.specs.Prelude.{ℕ, List, [], ◌∷◌, ◌++◌, length, codes}
use Rattle.std.specs.List.{sum_by}
use Rattle.std.specs.Fmt.{decimal}
use Rattle.mdf_disk.specs.State.{DiskState}
use Rattle.mdf_port.specs.State.{SinkState}
use Rattle.mdf_group.specs.declared.row.GroupRow.{GroupRow}
use Rattle.tool_export.specs.Table.{name_text}
use Rattle.mdf_command.specs.Texts.{line, numbered, shown_text}
use Rattle.mdf_inspect.specs.Reading.{EndsReading, Reading}

abbrev pub version_line : ℕ → List ℕ
version_line version = line (codes "version " ∷ decimal version ∷ [])

-- the line of a group: its number, its name, and how many channels and samples it has
abbrev pub group_line : ℕ → GroupRow × ℕ → List ℕ
group_line number group =
    line (codes "group " ∷ decimal number ∷ codes " " ∷ shown_text (name_text group.0.name)
    ∷ codes " channels " ∷ decimal (length group.0.channels) ∷ codes " samples " ∷ decimal group.1 ∷ [])

-- how many samples the groups have
abbrev pub total : List (GroupRow × ℕ) → ℕ
total groups = sum_by (λ (group : GroupRow × ℕ). group.1) groups

-- the line of all groups: how many they are, how many samples they have, and how many links were passed over
abbrev pub total_line : Reading → List ℕ
total_line found =
    line (codes "groups " ∷ decimal (length found.groups) ∷ codes " samples " ∷ decimal (total found.groups) ∷ codes " dropped " ∷ decimal found.dropped ∷ [])

-- the lines of a file: its version, each group, and all groups
abbrev pub contents_text : Reading → List ℕ
contents_text found = version_line found.version ++ (numbered group_line 0 found.groups ++ total_line found)

-- How the command ends.
abbrev pub EndsInfo : DiskState → DiskState → SinkState → SinkState → ℕ → Type 0
EndsInfo = EndsReading contents_text
