-- A range of a stream, as parts again.
use Rattle.std.specs.Prelude.{ℕ, zero, suc, ◌+◌, ◌-◌, min, List, [], ◌∷◌, ◌++◌}
use Rattle.mdf_stream.specs.declared.part.Part.{Part}

-- so many bytes of the file from an address on, and no part where they are none
abbrev pub part_at : ℕ → ℕ → List Part
part_at at zero = []
part_at at (suc less) = record { at = at; len = suc less } ∷ []

-- how many bytes of a part lie in the range of so many bytes from a place on, counted from the part's beginning
abbrev pub shared : Part → ℕ → ℕ → ℕ
shared part at len = min (part.len - at) len

-- the parts of the range of so many bytes from a place of the stream on: of each part what lies in the range, if any does
unfoldable pub parts_between : List Part → ℕ → ℕ → List Part
parts_between [] at len = []
parts_between (part ∷ parts) at len =
    part_at (part.at + at) (shared part at len) ++ parts_between parts (at - part.len) (len - shared part at len)
