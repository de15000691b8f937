-- The bytes of a unit as it is written at a place.
use Rattle.std.specs.Prelude.{ℕ, ◌+◌, ◌-◌, List, [], ◌∷◌, ◌++◌, length, take, drop, replicate, codes}
use Rattle.std.specs.Int.{to_le_bytes, w32, w64}
use Rattle.mdf_format.specs.Number.{aligned}
use Rattle.mdf_format.specs.Form.{lead}
use Rattle.mdf_gate.specs.Unit.{block_place}
use Rattle.mdf_format.specs.declared.form.Form.{Form}
use Rattle.mdf_format.specs.declared.form.Form.TheVariants.{Bare, Listed}

-- how long the unit with so many bytes of data and its filler is
abbrev pub room_of : Form → ℕ → ℕ
room_of form count = aligned (lead form + 24 + count)

-- a list block at a place: its links name the next place and the data block behind it; its flags are 0 and its count is 1,
-- and its offset says how many bytes of data stand in the units before it
abbrev pub list_block : ℕ → ℕ → ℕ → List ℕ
list_block place next offset =
    codes "##DL" ++ replicate 4 0 ++ to_le_bytes w64 56 ++ to_le_bytes w64 2
    ++ to_le_bytes w64 next ++ to_le_bytes w64 (block_place Listed place)
    ++ replicate 4 0 ++ to_le_bytes w32 1 ++ to_le_bytes w64 offset

-- what is written before the data block
abbrev pub lead_bytes : Form → ℕ → ℕ → ℕ → List ℕ
lead_bytes Bare place offset count = []
lead_bytes Listed place offset count = list_block place (place + room_of Listed count) offset

-- the header of a data block with so many bytes of data: it has no links
abbrev pub block_header : ℕ → List ℕ
block_header count = codes "##DT" ++ replicate 4 0 ++ to_le_bytes w64 (24 + count) ++ to_le_bytes w64 0

-- the unit at a place with these data, behind so many bytes of data in the units before it, and zero bytes up to the next
-- place and on it, so that its gate is closed
abbrev pub unit_bytes : Form → ℕ → ℕ → List ℕ → List ℕ
unit_bytes form place offset body =
    lead_bytes form place offset (length body) ++ block_header (length body) ++ body
    ++ replicate (room_of form (length body) - (lead form + 23 + length body)) 0

-- what is written behind the gate of the place
abbrev pub payload_of : Form → ℕ → ℕ → List ℕ → List ℕ
payload_of form place offset body = drop 1 (unit_bytes form place offset body)

-- the file with a payload behind the gate of a place, and that gate open
abbrev pub opened_at : ℕ → List ℕ → List ℕ → List ℕ
opened_at place payload file = take place file ++ 35 ∷ payload
