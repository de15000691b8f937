-- The rows that can be recorded, over numbers and texts alone.
use Rattle.std.specs.Prelude.{ℕ, ◌≡◌, ◌≢◌, ◌≤◌, ◌⊎◌, Bool, nat_eq, List, length, filter, map, sum_by, slice_get, AllPairs, Some, None}
use Rattle.std.specs.List.{AllByRecursion}
use Rattle.mdf_format.specs.Row.{RowNumbers, spot_of_row, UsesInval, SharesBit, BreaksRowRule}
use Rattle.mdf_block.specs.declared.note.Note.{Note}
use Rattle.mdf_block.specs.declared.note.Note.TheVariants as notes
use Rattle.mdf_group.specs.declared.row.ChannelRow.{ChannelRow}
use Rattle.mdf_group.specs.declared.row.GroupRow.{GroupRow}

-- what a channel says of its place in a record
abbrev pub numbers_of : ChannelRow → RowNumbers
numbers_of row = record {
  kind = row.kind;
  data_type = row.data_type;
  byte = row.byte;
  bit = row.bit;
  bits = row.bits;
  flags = row.flags;
  inval = row.inval;
}

-- a text of 1 to 64 bytes, none of them zero
pub record IsShortText (bytes : List ℕ) : Type 0 where
  pub some : 1 ≤ length bytes
  pub few : length bytes ≤ 64
  pub whole : AllByRecursion (λ byte. byte ≢ 0) bytes

-- a name is such a text, and a unit is one where there is one
abbrev pub IsName : Note → Type 0
IsName notes.Nothing = ⊥
IsName (notes.Plain bytes) = IsShortText bytes
IsName (notes.Xml bytes) = ⊥

abbrev pub IsUnitName : Note → Type 0
IsUnitName notes.Nothing = Unit {0}
IsUnitName (notes.Plain bytes) = IsShortText bytes
IsUnitName (notes.Xml bytes) = ⊥

-- the channel has values of variable length
abbrev pub is_of_values : ChannelRow → Bool
is_of_values row = nat_eq row.kind 1

-- a channel of fixed or variable length or a master, of no data type over 10, with a name, and with no source,
-- conversion, comment or link of its own; an offset has 64 bits
pub record IsRecordableChannel (row : ChannelRow) : Type 0 where
  pub kind : row.kind ≤ 2
  pub data_type : row.data_type ≤ 10
  pub flags : (row.flags ≡ 0) ⊎ (row.flags ≡ 2)
  pub long : row.kind ≡ 1 → row.bits ≡ 64
  pub name : IsName row.name
  pub unit : IsUnitName row.unit
  pub source : row.source ≡ None
  pub conv : row.conv ≡ None
  pub comment : row.comment ≡ notes.Nothing
  pub values : row.values ≡ 0
  pub extra : row.extra ≡ 0

-- the channels of a record keep the rules, and no two of them share a bit or a position of an invalidation bit
pub record ArePlaced (data_bytes inval_bytes : ℕ) (rows : List RowNumbers) : Type 0 where
  pub rules : (k : ℕ) (row : RowNumbers) → slice_get rows k ≡ Some row → ¬ BreaksRowRule data_bytes inval_bytes rows k row
  pub bits : AllPairs (λ one other. ¬ SharesBit (spot_of_row one) (spot_of_row other)) rows
  pub positions : AllPairs (λ one other. UsesInval one → UsesInval other → one.inval ≢ other.inval) rows

-- a group of records of 1 to 256 such channels, with a name, and with no source or comment
pub record IsRecordableGroup (row : GroupRow) : Type 0 where
  pub flags : row.flags ≡ 0
  pub name : IsName row.name
  pub source : row.source ≡ None
  pub comment : row.comment ≡ notes.Nothing
  pub some : 1 ≤ length row.channels
  pub few : length row.channels ≤ 256
  pub each : AllByRecursion IsRecordableChannel row.channels
  pub placed : ArePlaced row.data_bytes row.inval_bytes (map numbers_of row.channels)

-- 1 to 64 such groups, of at most 1,024 channels in all, and at most 128 with values of variable length
pub record AreRecordable (rows : List GroupRow) : Type 0 where
  pub some : 1 ≤ length rows
  pub few : length rows ≤ 64
  pub channels : sum_by (λ row. length row.channels) rows ≤ 1024
  pub variable : sum_by (λ row. length (filter is_of_values row.channels)) rows ≤ 128
  pub each : AllByRecursion IsRecordableGroup rows
