-- The groups as they stand in a file.
use Rattle.std.specs.Prelude.{ℕ, ◌≡◌, ◌≢◌, ◌-◌, ◌≤◌, false, List, [], ◌∷◌, map, Option, Some, None}
use Rattle.std.specs.List.{AllByRecursion}
use Rattle.mdf_format.specs.Block.{link_at, links_at, body_at, IsChain}
use Rattle.mdf_format.specs.declared.kind.Kind.TheVariants.{Dg, Cg, Cn}
use Rattle.mdf_block.specs.Text.{IsNote}
use Rattle.mdf_conv.specs.declared.row.SourceInfo.{SourceInfo}
use Rattle.mdf_conv.specs.declared.row.Conversion.{Conversion}
use Rattle.mdf_conv.specs.Standing.{IsSource, IsConversion, IsConversionAt}
use Rattle.mdf_group.specs.declared.room.ChannelLinks.{ChannelLinks}
use Rattle.mdf_group.specs.declared.room.GroupLinks.{GroupLinks}
use Rattle.mdf_group.specs.declared.row.ChannelRow.{ChannelRow}
use Rattle.mdf_group.specs.declared.row.GroupRow.{GroupRow}
use Rattle.mdf_group.specs.declared.row.DataRow.{DataRow}
use Rattle.mdf_group.specs.Link.{links_named}
use Rattle.mdf_group.specs.Channel.{is_refused_kind, the_channel}
use Rattle.mdf_group.specs.Group.{the_group, the_data_group}

-- the source that a link names, if it names one
abbrev pub IsSourceLink : List ℕ → ℕ → Option SourceInfo → Type 0
IsSourceLink file at None = at ≡ 0
IsSourceLink file at (Some source) = (at ≢ 0) × IsSource file at source

-- the conversion that a link names, if it names one, where `IsConv` says which conversion stands at an address
abbrev pub IsConvLinkBy : (ℕ → Conversion → Type 0) → ℕ → Option Conversion → Type 0
IsConvLinkBy IsConv at None = at ≡ 0
IsConvLinkBy IsConv at (Some conversion) = (at ≢ 0) × IsConv at conversion

-- no number stands twice
unfoldable pub AreDistinct : List ℕ → Type 0
AreDistinct [] = Unit {0}
AreDistinct (first ∷ rest) = AllByRecursion (λ n. n ≢ first) rest × AreDistinct rest

-- a channel
pub record IsChannelBy (IsConv : ℕ → Conversion → Type 0) (file : List ℕ) (row : ChannelRow) : Type 0 where
  pub links : ChannelLinks
  pub fields : row ≡ the_channel row.at (body_at file row.at) links (link_at file row.at 5) (links_named file row.at 8 (links_at file row.at - 8))
  pub kind : is_refused_kind row.kind ≡ false
  pub data_type : row.data_type ≤ 14
  pub name : IsNote file (link_at file row.at 2) links.name
  pub source : IsSourceLink file (link_at file row.at 3) links.source
  pub conv : IsConvLinkBy IsConv (link_at file row.at 4) links.conv
  pub unit : IsNote file (link_at file row.at 6) links.unit
  pub comment : IsNote file (link_at file row.at 7) links.comment

-- channels along the chain from an address on, each once
pub record AreChannelsBy (IsConv : ℕ → Conversion → Type 0) (file : List ℕ) (at : ℕ) (rows : List ChannelRow) : Type 0 where
  pub chain : IsChain file at Cn (map (λ row. row.at) rows)
  pub once : AreDistinct (map (λ row. row.at) rows)
  pub each : AllByRecursion (IsChannelBy IsConv file) rows

-- a channel group
pub record IsGroupBy (IsConv : ℕ → Conversion → Type 0) (file : List ℕ) (row : GroupRow) : Type 0 where
  pub links : GroupLinks
  pub fields : row ≡ the_group row.at (body_at file row.at) links row.channels
  pub name : IsNote file (link_at file row.at 2) links.name
  pub source : IsSourceLink file (link_at file row.at 3) links.source
  pub comment : IsNote file (link_at file row.at 5) links.comment
  pub channels : AreChannelsBy IsConv file (link_at file row.at 1) row.channels

-- channel groups along the chain from an address on, each once
pub record AreGroupsBy (IsConv : ℕ → Conversion → Type 0) (file : List ℕ) (at : ℕ) (rows : List GroupRow) : Type 0 where
  pub chain : IsChain file at Cg (map (λ row. row.at) rows)
  pub once : AreDistinct (map (λ row. row.at) rows)
  pub each : AllByRecursion (IsGroupBy IsConv file) rows

-- a data group
pub record IsDataGroupBy (IsConv : ℕ → Conversion → Type 0) (file : List ℕ) (row : DataRow) : Type 0 where
  pub fields : row ≡ the_data_group row.at (body_at file row.at) row.comment (link_at file row.at 2) row.groups
  pub comment : IsNote file (link_at file row.at 3) row.comment
  pub groups : AreGroupsBy IsConv file (link_at file row.at 1) row.groups

-- data groups along the chain from an address on, each once
pub record AreDataGroupsBy (IsConv : ℕ → Conversion → Type 0) (file : List ℕ) (at : ℕ) (rows : List DataRow) : Type 0 where
  pub chain : IsChain file at Dg (map (λ row. row.at) rows)
  pub once : AreDistinct (map (λ row. row.at) rows)
  pub each : AllByRecursion (IsDataGroupBy IsConv file) rows

-- the same as they are read and written: no conversion is the fifth that is open at once
abbrev pub IsConvLink : List ℕ → ℕ → Option Conversion → Type 0
IsConvLink file = IsConvLinkBy (IsConversion 4 file)

abbrev pub IsChannel : List ℕ → ChannelRow → Type 0
IsChannel file = IsChannelBy (IsConversion 4 file) file

abbrev pub AreChannels : List ℕ → ℕ → List ChannelRow → Type 0
AreChannels file = AreChannelsBy (IsConversion 4 file) file

abbrev pub IsGroup : List ℕ → GroupRow → Type 0
IsGroup file = IsGroupBy (IsConversion 4 file) file

abbrev pub AreGroups : List ℕ → ℕ → List GroupRow → Type 0
AreGroups file = AreGroupsBy (IsConversion 4 file) file

abbrev pub IsDataGroup : List ℕ → DataRow → Type 0
IsDataGroup file = IsDataGroupBy (IsConversion 4 file) file

abbrev pub AreDataGroups : List ℕ → ℕ → List DataRow → Type 0
AreDataGroups file = AreDataGroupsBy (IsConversion 4 file) file

-- and in the standard's words, which know no such limit
abbrev pub StandDataGroups : List ℕ → ℕ → List DataRow → Type 0
StandDataGroups file = AreDataGroupsBy (IsConversionAt file) file
