-- Values of variable length in a stream (SDBLOCK, or the records of a VLSD group): a length of 4 bytes, and so many
-- bytes.
use Rattle.std.specs.Prelude.{ℕ, ◌≡◌, ◌+◌, ◌≤◌, List, length}
use Rattle.mdf_format.specs.Number.{le_number, bytes_at}

-- this value stands at this offset of the stream
pub record IsValueAt (stream : List ℕ) (offset : ℕ) (value : List ℕ) : Type 0 where
  pub length_is : le_number (bytes_at 4 stream offset) ≡ length value
  pub whole : offset + 4 + length value ≤ length stream
  pub bytes : bytes_at (length value) stream (offset + 4) ≡ value
