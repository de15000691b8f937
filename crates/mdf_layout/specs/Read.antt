-- The samples of records as a reader finds them: each value of variable length where its offset says, in the stream of
-- all records of its channel.
use Rattle.std.specs.Prelude.{ℕ, ◌≡◌, ◌+◌, ◌-◌, ◌≤◌, ◌<◌, ◌^◌, nat_eq, nat_le, if◌then◌else◌, List, [], ◌∷◌, ◌++◌, length, take, drop, slice_get, All, Option, Some}
use Rattle.std.specs.List.{flat_map}
use Rattle.std.specs.Option.{option_map, option_and_then}
use Rattle.mdf_vlsd.specs.Value.{value_bytes}
use Rattle.mdf_layout.specs.History.{group_samples}
use Rattle.mdf_layout.specs.Layout.{Layout, record_size}
use Rattle.mdf_layout.specs.Values.{sample_of}
use Rattle.mdf_layout.specs.Behind.{variables, first_id}
use Rattle.mdf_layout.specs.declared.field.FieldRow.{FieldRow}
use Rattle.mdf_layout.specs.declared.sample.Entry.{Entry}
use Rattle.mdf_layout.specs.declared.sample.Sample.{Sample}

-- a record: its id, and its data bytes and invalidation bytes, or the value of a channel of variable length
pub record Piece : Type 0 where
  pub id : ℕ
  pub content : List ℕ

-- its bytes: the ids of groups are at most their number, and behind a larger one stands the value's length
abbrev pub piece_body : ℕ → Piece → List ℕ
piece_body groups piece = if nat_le piece.id groups then piece.content else value_bytes piece.content

abbrev pub piece_bytes : ℕ → Piece → List ℕ
piece_bytes groups piece = piece.id ∷ piece_body groups piece

-- its id is known, and it is as long as a record of its group, or has a length of 4 bytes
pub record IsPiece (layouts : List Layout) (piece : Piece) : Type 0 where
  pub some : 1 ≤ piece.id
  pub known : piece.id < first_id layouts (length layouts)
  pub whole : (layout : Layout) → slice_get layouts (piece.id - 1) ≡ Some layout → length piece.content ≡ record_size layout
  pub short : length layouts < piece.id → length piece.content < 2 ^ 32

-- the stream of the records with an id, and those of channels of variable length with the ids from this one on
abbrev pub stream_of : List Piece → ℕ → List ℕ
stream_of pieces id = flat_map (λ piece. if nat_eq piece.id id then value_bytes piece.content else []) pieces

abbrev pub streams_from : List Piece → ℕ → List FieldRow → List (List ℕ)
streams_from pieces id [] = []
streams_from pieces id (row ∷ rows) = stream_of pieces id ∷ streams_from pieces (id + 1) rows

-- the entries of a group's record, which comes behind samples
abbrev pub values_of : List Layout → List Piece → List Sample → ℕ → Layout → List ℕ → Option (List Entry)
values_of layouts all before group layout content =
    sample_of layout.rows (take layout.data_bytes content) (drop layout.data_bytes content)
    (streams_from all (first_id layouts group) (variables layout.rows)) (length (group_samples before group))

abbrev pub record_of : List Layout → List Piece → List Sample → ℕ → List ℕ → Option Sample
record_of layouts all before group content = option_and_then
    (λ layout. option_map (λ values. record { group = group; values = values }) (values_of layouts all before group layout content))
    (slice_get layouts group)

-- the samples of the records of groups among these, in order
unfoldable pub samples_from : List Layout → List Piece → List Sample → List Piece → Option (List Sample)
samples_from layouts all before [] = Some []
samples_from layouts all before (piece ∷ pieces) =
    if nat_le piece.id (length layouts) then option_and_then
    (λ sample. option_map (λ samples. sample ∷ samples) (samples_from layouts all (before ++ sample ∷ []) pieces))
    (record_of layouts all before (piece.id - 1) piece.content)
    else samples_from layouts all before pieces

-- these bytes are records whose samples are these
pub record AreRead (layouts : List Layout) (bytes : List ℕ) (samples : List Sample) : Type 0 where
  pub pieces : List Piece
  pub each : All (IsPiece layouts) pieces
  pub bytes_are : bytes ≡ flat_map (piece_bytes (length layouts)) pieces
  pub samples_are : samples_from layouts pieces [] pieces ≡ Some samples
