-- A value as it stands in a stream.
use Rattle.std.specs.Prelude.{ℕ, ◌+◌, List, ◌++◌, length, nat_le, ◌&&◌, if◌then◌else◌, Option, Some, None}
use Rattle.std.specs.Int.{to_le_bytes, w32}
use Rattle.mdf_format.specs.Number.{le_number, bytes_at}

-- its length and its bytes
abbrev pub value_bytes : List ℕ → List ℕ
value_bytes value = to_le_bytes w32 (length value) ++ value

-- how long the value at an offset says that it is
abbrev pub size_there : List ℕ → ℕ → ℕ
size_there stream offset = le_number (bytes_at 4 stream offset)

-- the value at an offset, where its length and its bytes are all there
abbrev pub value_at : List ℕ → ℕ → Option (List ℕ)
value_at stream offset =
    if nat_le (offset + 4) (length stream) && nat_le (offset + 4 + size_there stream offset) (length stream)
    then Some (bytes_at (size_there stream offset) stream (offset + 4)) else None
