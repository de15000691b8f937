-- The records of one group of a recording, whatever stands between them.
use Rattle.std.specs.Prelude.{ℕ, ◌≡◌, ◌+◌, ◌≤◌, ◌<◌, ◌⊎◌, Bool, false, nat_eq, List, length, map, filter, All}
use Rattle.std.specs.List.{flat_map, AllByRecursion}
use Rattle.mdf_layout.specs.Layout.{Layout}
use Rattle.mdf_layout.specs.Rule.{spot_in, IsPlacedAs, IsInvalIn}
use Rattle.mdf_layout.specs.Behind.{variables, first_id}
use Rattle.mdf_layout.specs.Read.{Piece, piece_bytes, IsPiece}
use Rattle.mdf_layout.specs.declared.field.FieldRow.{FieldRow}

-- each is a byte
abbrev pub AreBytes : List ℕ → Type 0
AreBytes bytes = AllByRecursion (λ byte. byte < 256) bytes

-- the channel has its place in a record of so many bytes, and some of its values can be valid
pub record IsStoredIn (layout : Layout) (row : FieldRow) : Type 0 where
  pub field : IsPlacedAs row.kind layout.data_bytes (spot_in row)
  pub position : IsInvalIn layout.inval_bytes row.inval
  pub valid : row.all_invalid ≡ false

-- so have all channels of the layout
abbrev pub AreStored : Layout → Type 0
AreStored layout = AllByRecursion (IsStoredIn layout) layout.rows

-- the bytes are these records, one behind the other
pub record AreRecords (layouts : List Layout) (bytes : List ℕ) (records : List Piece) : Type 0 where
  pub each : All (IsPiece layouts) records
  pub bytes_are : bytes ≡ flat_map (piece_bytes (length layouts)) records

-- an id of group k: that of its own records, or of the values of one of its channels of variable length
abbrev pub IsIdOf : List Layout → ℕ → Layout → ℕ → Type 0
IsIdOf layouts k layout id = (id ≡ k + 1) ⊎ ((first_id layouts k ≤ id) × (id < first_id layouts k + length (variables layout.rows)))

-- a record has this id, and what the records with the id hold, in order
abbrev pub has_id : ℕ → Piece → Bool
has_id id piece = nat_eq piece.id id

abbrev pub records_with : ℕ → List Piece → List (List ℕ)
records_with id records = map (λ (piece : Piece). piece.content) (filter (has_id id) records)
