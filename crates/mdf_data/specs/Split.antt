-- The split of a stream into its records, in the standard's words and in no order of reading.
use Rattle.std.specs.Prelude.{ℕ, zero, suc, ◌≡◌, List, [], ◌∷◌, ◌++◌, length, replicate, Some}
use Rattle.std.specs.List.{flat_map, AllByRecursion}
use Rattle.mdf_format.specs.Number.{le_number, bytes_at}
use Rattle.mdf_data.specs.declared.known.Size.{Size}
use Rattle.mdf_data.specs.declared.known.Size.TheVariants as sizes
use Rattle.mdf_data.specs.declared.known.Known.{Known}
use Rattle.mdf_data.specs.declared.known.Piece.{Piece}
use Rattle.mdf_block.specs.Refusal.{Refusal, UnknownId, Cut}
use Rattle.mdf_data.specs.Record.{group_of, least_size}

-- a record: the number of its group, and its bytes
pub record Record : Type 0 where
  pub which : ℕ
  pub bytes : List ℕ

-- a value of variable length: a u32 that says how many bytes follow, and these
pub record IsValue (body : List ℕ) : Type 0 where
  pub size : List ℕ
  pub value : List ℕ
  pub body_is : body ≡ size ++ value
  pub four : length size ≡ 4
  pub long : le_number size ≡ length value

-- the body of a record of this size
abbrev pub IsBody : Size → List ℕ → Type 0
IsBody (sizes.Fixed size) body = length body ≡ size
IsBody sizes.Variable body = IsValue body

-- a whole record: an id, and the body that the first group with this id says
pub record IsRecord (id_size : ℕ) (known : List Known) (r : Record) : Type 0 where
  pub id : List ℕ
  pub body : List ℕ
  pub size : Size
  pub bytes_are : r.bytes ≡ id ++ body
  pub long : length id ≡ id_size
  pub group : group_of known (le_number id) 0 ≡ Some (record { which = r.which; size = size })
  pub body_is : IsBody size body

-- a record without an id, of the one group
pub record IsAlone (size : ℕ) (r : Record) : Type 0 where
  pub which : r.which ≡ 0
  pub long : length r.bytes ≡ size

-- the stream is whole records and a rest, and no whole record begins at the rest
pub record IsSplitBy (Whole : Record → Type 0) (stream : List ℕ) (records : List Record) (rest : List ℕ) : Type 0 where
  pub whole : stream ≡ flat_map (λ (r : Record). r.bytes) records ++ rest
  pub each : AllByRecursion Whole records
  pub none : (r : Record) (more : List ℕ) → Whole r → rest ≡ r.bytes ++ more → ⊥

-- the records are these, and all of the stream is rest
pub record IsAllRest (stream : List ℕ) (said records : List Record) (rest : List ℕ) : Type 0 where
  pub records_are : records ≡ said
  pub rest_is : rest ≡ stream

abbrev pub empty_record : Record
empty_record = record { which = 0; bytes = [] }

-- without ids: records of the one group, and a rest that is shorter than one; so many empty records where they have no
-- bytes; no records where they are values
abbrev pub IsSplitAlone : ℕ → Size → List ℕ → List Record → List ℕ → Type 0
IsSplitAlone empties (sizes.Fixed zero) stream records rest = IsAllRest stream (replicate empties empty_record) records rest
IsSplitAlone empties (sizes.Fixed (suc size)) stream records rest = IsSplitBy (IsAlone (suc size)) stream records rest
IsSplitAlone empties sizes.Variable stream records rest = IsAllRest stream [] records rest

-- The split of a stream into records with ids of so many bytes. Without ids there is one group, or none and so no records.
abbrev pub IsRecordSplit : List ℕ → ℕ → List Known → ℕ → List Record → List ℕ → Type 0
IsRecordSplit stream zero [] empties records rest = IsAllRest stream [] records rest
IsRecordSplit stream zero (group ∷ known) empties records rest = IsSplitAlone empties group.size stream records rest
IsRecordSplit stream (suc id_size) known empties records rest = IsSplitBy (IsRecord (suc id_size) known) stream records rest

-- the record of a piece
abbrev pub record_of : List ℕ → Piece → Record
record_of stream piece = record { which = piece.which; bytes = bytes_at piece.len stream piece.at }

-- the record without an id at a place, of a size
abbrev pub alone_at : List ℕ → Size → ℕ → Record
alone_at stream size place = record { which = 0; bytes = bytes_at (least_size size) stream place }

-- the place that a refusal names
abbrev pub IsRefusedAt : Refusal → ℕ → Type 0
IsRefusedAt (UnknownId id at) place = at ≡ place
IsRefusedAt (Cut at) place = at ≡ place
IsRefusedAt _ place = ⊥
