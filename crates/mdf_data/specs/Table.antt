-- What a table of groups finds.
use Rattle.std.specs.Prelude.{ℕ, ◌≡◌, List, Option}
use Rattle.std.specs.BTreeMap.{is_at}
use Rattle.std.specs.Map.{lookup}
use Rattle.std.specs.Ordering.{nat_cmp}
use Rattle.mdf_data.specs.declared.known.Known.{Known}
use Rattle.mdf_data.specs.declared.known.Group.{Group}
use Rattle.mdf_data.specs.Record.{group_of}

-- the group of an id, among ids with their groups
abbrev pub find : List (ℕ × Group) → ℕ → Option Group
find groups id = lookup (is_at (nat_cmp id)) groups

-- of each id the first group that has it
abbrev pub IsTable : List Known → (ℕ → Option Group) → Type 0
IsTable known find = (id : ℕ) → find id ≡ group_of known id 0
