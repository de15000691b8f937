-- The records of a stream, one by one: each has an id, and the body that the first group with this id says.
use Rattle.std.specs.Prelude.{ℕ, ◌≡◌, ◌+◌, ◌-◌, ◌^◌, ◌<◌, ◌≤◌, ◌⊎◌, nat_eq, nat_lt, if◌then◌else◌, List, [], ◌∷◌, length, slice_index_or, Option, Some, None, Ok, Err}
use Rattle.mdf_format.specs.Number.{le_number, bytes_at}
use Rattle.mdf_block.specs.Refusal.{Refusal, UnknownId, Cut, Read, ◌>>=◌}
use Rattle.mdf_data.specs.declared.known.Size.{Size}
use Rattle.mdf_data.specs.declared.known.Size.TheVariants as sizes
use Rattle.mdf_data.specs.declared.known.Known.{Known}
use Rattle.mdf_data.specs.declared.known.Piece.{Piece}
use Rattle.mdf_data.specs.declared.known.Group.{Group}
use Rattle.mdf_data.specs.declared.fault.SplitFault.{SplitFault}
use Rattle.mdf_data.specs.declared.fault.SplitFault.TheVariants as faults

abbrev pub split_refusal : SplitFault → Option Refusal
split_refusal (faults.UnknownId id at) = Some (UnknownId id at)
split_refusal (faults.Cut at) = Some (Cut at)

-- how many bytes an id has
abbrev pub IsIdSize : ℕ → Type 0
IsIdSize n = (n ≡ 1) ⊎ (n ≡ 2) ⊎ (n ≡ 4) ⊎ (n ≡ 8)

-- how many bytes a body has at least
abbrev pub least_size : Size → ℕ
least_size (sizes.Fixed size) = size
least_size sizes.Variable = 4

-- the first of these groups that has the id; they are counted from a number on
unfoldable pub group_of : List Known → ℕ → ℕ → Option Group
group_of [] id from = None
group_of (first ∷ known) id from =
    if nat_eq first.id id then Some (record { which = from; size = first.size }) else group_of known id (from + 1)

-- how long a body is that begins at a place of the stream, where so many bytes are left and it is whole
abbrev pub body_size : List ℕ → ℕ → ℕ → Size → Option ℕ
body_size stream at rest (sizes.Fixed size) = if nat_lt rest size then None else Some size
body_size stream at rest sizes.Variable =
    if nat_lt rest 4 then None
    else (if nat_lt (rest - 4) (le_number (bytes_at 4 stream at)) then None else Some (4 + le_number (bytes_at 4 stream at)))

-- the id at a place, where so many bytes are left: none at the end, and a cut where there are fewer bytes than an id has
unfoldable pub id_at : List ℕ → ℕ → ℕ → ℕ → Read (Option ℕ)
id_at stream id_size at rest =
    if nat_eq rest 0 then Ok None
    else (if nat_lt rest id_size then Err (Cut at) else Ok (Some (le_number (bytes_at id_size stream at))))

-- the record with a body of this length, and a cut where the body is not whole
abbrev pub whole_piece : ℕ → ℕ → ℕ → Option ℕ → Read Piece
whole_piece which at id_size None = Err (Cut at)
whole_piece which at id_size (Some size) = Ok (record { which = which; at = at; len = id_size + size })

-- the record of this group
unfoldable pub group_piece : List ℕ → ℕ → ℕ → ℕ → ℕ → Option Group → Read Piece
group_piece stream id_size at rest id None = Err (UnknownId id at)
group_piece stream id_size at rest id (Some group) =
    whole_piece group.which at id_size (body_size stream (at + id_size) (rest - id_size) group.size)

-- the record with this id
abbrev pub piece_with : List ℕ → ℕ → List Known → ℕ → ℕ → Option ℕ → Read (Option Piece)
piece_with stream id_size known at rest None = Ok None
piece_with stream id_size known at rest (Some id) =
    group_piece stream id_size at rest id (group_of known id 0) >>= λ piece. Ok (Some piece)

-- the whole record that begins at a place of the stream, where so many bytes are left; none at the end
unfoldable pub piece_at : List ℕ → ℕ → List Known → ℕ → ℕ → Read (Option Piece)
piece_at stream id_size known at rest = id_at stream id_size at rest >>= piece_with stream id_size known at rest

-- a record of one of these groups that begins at a place and lies inside a stream of so many bytes, with the id and the
-- least body of its group
pub record IsPieceAt (total id_size : ℕ) (known : List Known) (place : ℕ) (piece : Piece) : Type 0 where
  pub begins : piece.at ≡ place
  pub ends : place + piece.len ≤ total
  pub fits : place + piece.len < 2 ^ 62
  pub which : piece.which < length known
  pub least : (d : Known) → id_size + least_size (slice_index_or known piece.which d).size ≤ piece.len
