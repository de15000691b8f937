-- Parts of a file, read one behind the other as one stream.
use Rattle.std.specs.Prelude.{ℕ, ◌+◌, ◌≤◌, List, [], ◌∷◌, sum_by}
use Rattle.std.specs.List.{flat_map, AllByRecursion}
use Rattle.mdf_format.specs.Number.{bytes_at}
use Rattle.mdf_stream.specs.declared.part.Part.{Part}

-- the bytes of a part
abbrev pub part_bytes : List ℕ → Part → List ℕ
part_bytes file part = bytes_at part.len file part.at

-- the stream
abbrev pub stream_of : List ℕ → List Part → List ℕ
stream_of file parts = flat_map (part_bytes file) parts

-- how many bytes it has, where every part lies inside the file
abbrev pub stream_size : List Part → ℕ
stream_size parts = sum_by (λ (part : Part). part.len) parts

-- the part lies inside a file of so many bytes
abbrev pub IsPartInside : ℕ → Part → Type 0
IsPartInside size part = part.at + part.len ≤ size

abbrev pub ArePartsInside : ℕ → List Part → Type 0
ArePartsInside size parts = AllByRecursion (IsPartInside size) parts

-- each part stands in the file at its place in the stream or behind it, where the first of them has this place
unfoldable pub AreBehind : ℕ → List Part → Type 0
AreBehind place [] = Unit {0}
AreBehind place (part ∷ parts) = (place ≤ part.at) × AreBehind (place + part.len) parts
