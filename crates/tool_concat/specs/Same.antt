-- Which channel groups are the same, so that the records of one can stand behind those of the other.
use Rattle.std.specs.Prelude.{ℕ, ◌≡◌, ◌<◌, List, length, slice_index_or}
use Rattle.mdf_conv.specs.declared.row.Conversion.{Conversion}
use Rattle.mdf_group.specs.declared.row.ChannelRow.{ChannelRow}
use Rattle.mdf_group.specs.declared.row.GroupRow.{GroupRow}

-- conversions that are the same but for what they refer to
pub record SameFront (one other : Conversion) : Type 0 where
  pub kind : one.kind ≡ other.kind
  pub precision : one.precision ≡ other.precision
  pub flags : one.flags ≡ other.flags
  pub low : one.low ≡ other.low
  pub high : one.high ≡ other.high
  pub numbers : one.numbers ≡ other.numbers
  pub name : one.name ≡ other.name
  pub unit : one.unit ≡ other.unit
  pub comment : one.comment ≡ other.comment

-- The numbers that are compared of two channels: the kind, what a master counts, the data type, the place and the bits in a
-- record, the flags, and the position of the invalidation bit, whether it is used or not.
pub record SameNumbers (one other : ChannelRow) : Type 0 where
  pub kind : one.kind ≡ other.kind
  pub sync : one.sync ≡ other.sync
  pub data_type : one.data_type ≡ other.data_type
  pub byte : one.byte ≡ other.byte
  pub bit : one.bit ≡ other.bit
  pub bits : one.bits ≡ other.bits
  pub flags : one.flags ≡ other.flags
  pub inval : one.inval ≡ other.inval

-- All that is compared of two channels: these numbers, the name, the unit, and the conversion with all that it refers to. A
-- text of a TXBLOCK and one of an MDBLOCK differ.
pub record SameChannel (one other : ChannelRow) : Type 0 where
  pub numbers : SameNumbers one other
  pub name : one.name ≡ other.name
  pub unit : one.unit ≡ other.unit
  pub conv : one.conv ≡ other.conv

-- as many channels, and each the same
pub record SameChannels (one other : List ChannelRow) : Type 0 where
  pub count : length one ≡ length other
  pub each : (k : ℕ) (d : ChannelRow) → k < length one → SameChannel (slice_index_or one k d) (slice_index_or other k d)

-- all that is compared of two channel groups: the name of the acquisition, the sizes of a record, and the channels
pub record SameGroup (one other : GroupRow) : Type 0 where
  pub name : one.name ≡ other.name
  pub data_bytes : one.data_bytes ≡ other.data_bytes
  pub inval_bytes : one.inval_bytes ≡ other.inval_bytes
  pub channels : SameChannels one.channels other.channels
