-- The places of records in a stream, group by group.
use Rattle.std.specs.Prelude.{ℕ, zero, suc, ◌+◌, ◌-◌, ◌/◌, ◌<◌, ◌≤◌, nat_eq, if◌then◌else◌, List, [], ◌∷◌, ◌++◌, length, replicate, slice_set, slice_index_or, Option, Some, None, Ok}
use Rattle.std.specs.List.{AllByRecursion}
use Rattle.mdf_block.specs.Refusal.{Read, ◌>>=◌}
use Rattle.mdf_data.specs.declared.known.Size.{Size}
use Rattle.mdf_data.specs.declared.known.Size.TheVariants as sizes
use Rattle.mdf_data.specs.declared.known.Known.{Known}
use Rattle.mdf_data.specs.declared.known.Piece.{Piece}
use Rattle.mdf_data.specs.Record.{least_size, piece_at}

-- so many places, one a step behind the other
abbrev pub steps : ℕ → ℕ → ℕ → List ℕ
steps zero step from = []
steps (suc count) step from = from ∷ steps count step (from + step)

-- the records behind one
abbrev pub pieces_after : (ℕ → Read (List Piece)) → Option Piece → Read (List Piece)
pieces_after rest None = Ok []
pieces_after rest (Some piece) = rest (piece.at + piece.len) >>= λ pieces. Ok (piece ∷ pieces)

-- the records from a place of a stream of so many bytes on, at most so many
unfoldable pub pieces_from : List ℕ → ℕ → ℕ → List Known → ℕ → ℕ → Read (List Piece)
pieces_from stream total id_size known zero at = Ok []
pieces_from stream total id_size known (suc most) at =
    piece_at stream id_size known at (total - at) >>= pieces_after (pieces_from stream total id_size known most)

-- all records of the stream; there are no more than it has bytes
abbrev pub pieces : List ℕ → ℕ → ℕ → List Known → Read (List Piece)
pieces stream total id_size known = pieces_from stream total id_size known (total + 1) 0

-- the places with one more of a group
abbrev pub with_place : List (List ℕ) → ℕ → ℕ → List (List ℕ)
with_place groups which place = slice_set groups which (slice_index_or groups which [] ++ place ∷ [])

-- the places of the records' bodies, each at its group
unfoldable pub spread : ℕ → List (List ℕ) → List Piece → List (List ℕ)
spread id_size groups [] = groups
spread id_size groups (piece ∷ pieces) = spread id_size (with_place groups piece.which (piece.at + id_size)) pieces

-- the places of all records of a stream with ids
unfoldable pub places : List ℕ → ℕ → ℕ → List Known → Read (List (List ℕ))
places stream total id_size known =
    pieces stream total id_size known >>= λ found. Ok (spread id_size (replicate (length known) []) found)

-- the places of the records of a group that stands alone, without ids: at equal steps; so many empty records where they
-- have no bytes; none where they are values
abbrev pub places_alone : ℕ → ℕ → Size → List ℕ
places_alone total empties (sizes.Fixed size) = if nat_eq size 0 then steps empties 0 0 else steps (total / size) size 0
places_alone total empties sizes.Variable = []

-- each place has room for the least body of its group in a stream of so many bytes
abbrev pub HaveRoom : ℕ → List Known → List (List ℕ) → Type 0
HaveRoom total known lists =
    (k : ℕ) (d : Known) (e : List ℕ) → k < length known
    → AllByRecursion (λ place. place + least_size (slice_index_or known k d).size ≤ total) (slice_index_or lists k e)
