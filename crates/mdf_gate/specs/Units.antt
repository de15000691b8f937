-- The opened blocks of a recording as a reader finds them, one after the other, or the first reason to refuse them.
use Rattle.std.specs.Prelude.{ℕ, zero, suc, ◌+◌, ◌-◌, ◌%◌, Bool, ◌&&◌, ◌||◌, not, nat_eq, if◌then◌else◌, List, [], ◌∷◌, length, get_or, Ok, Err}
use Rattle.mdf_format.specs.declared.form.Form.{Form}
use Rattle.mdf_format.specs.declared.form.Form.TheVariants.{Bare, Listed}
use Rattle.mdf_format.specs.Number.{aligned}
use Rattle.mdf_format.specs.Block.{link_at}
use Rattle.mdf_format.specs.declared.kind.Kind.{Kind}
use Rattle.mdf_format.specs.declared.kind.Kind.TheVariants.{Dl, Dt}
use Rattle.mdf_block.specs.declared.place.BlockAt.{BlockAt}
use Rattle.mdf_block.specs.Refusal.{Bad, Read, ◌>>=◌}
use Rattle.mdf_block.specs.Block.{block}
use Rattle.mdf_stream.specs.declared.part.Part.{Part}
use Rattle.mdf_stream.specs.Link.{part_of}

-- the gate at a place is open: its byte is `#`
abbrev pub is_open : List ℕ → ℕ → Bool
is_open file place = nat_eq (get_or file place 0) 35

-- a whole block of the kind; whatever else stands there is refused as none
abbrev pub wanted_of : ℕ → Kind → Read BlockAt → Read BlockAt
wanted_of at want (Ok b) = Ok b
wanted_of at want (Err refusal) = Err (Bad at want)

unfoldable pub wanted : List ℕ → ℕ → Kind → Read BlockAt
wanted file at want = wanted_of at want (block file at want)

-- where a block ends
abbrev pub end_of : BlockAt → ℕ
end_of b = b.body_at + b.body_len

-- a DLBLOCK has 56 bytes and two links, of which the second names the address behind it
abbrev pub is_list : List ℕ → BlockAt → Bool
is_list file b = nat_eq b.links 2 && nat_eq (end_of b - b.at) 56 && nat_eq (link_at file b.at 1) (end_of b)

abbrev pub list_by : List ℕ → BlockAt → Read BlockAt
list_by file b = if is_list file b then Ok b else Err (Bad b.at Dl)

-- such a DLBLOCK
unfoldable pub list_block : List ℕ → ℕ → Read BlockAt
list_block file place = wanted file place Dl >>= list_by file

-- the place behind a unit with this data block
abbrev pub place_behind : BlockAt → ℕ
place_behind b = aligned (end_of b)

-- the data block behind a DLBLOCK whose first link names the place behind the unit
abbrev pub linked_by : List ℕ → BlockAt → BlockAt → Read BlockAt
linked_by file list b = if nat_eq (link_at file list.at 0) (place_behind b) then Ok b else Err (Bad list.at Dl)

abbrev pub data_behind : List ℕ → BlockAt → Read BlockAt
data_behind file list = wanted file (end_of list) Dt >>= linked_by file list

-- the data block of the unit at a place
unfoldable pub unit : Form → List ℕ → ℕ → Read BlockAt
unit Bare file place = wanted file place Dt
unit Listed file place = list_block file place >>= data_behind file

-- the bodies of the units from a place on, up to the first closed place; so many at most
unfoldable pub opened_from : Form → List ℕ → ℕ → ℕ → Read (List Part)
opened_from form file zero place = Ok []
opened_from form file (suc most) place =
    if is_open file place then (unit form file place >>= λ b. opened_from form file most (place_behind b) >>= λ rest. Ok (part_of b ∷ rest))
    else Ok []

-- data can begin at this place: a multiple of 8, and not 0
abbrev pub is_place : ℕ → Bool
is_place place = not (nat_eq place 0 || not (nat_eq (place % 8) 0))

-- the opened blocks from the first place on; there are no more than the file has bytes
unfoldable pub opened_parts : Form → List ℕ → ℕ → Read (List Part)
opened_parts form file first = if is_place first then opened_from form file (length file) first else Err (Bad first Dt)
