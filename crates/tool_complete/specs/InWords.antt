-- The completed file in the standard's words: which bytes of a file that another tool left unfinished it changes, and by what rule.
use Rattle.std.specs.Prelude.{ℕ, ◌≡◌, ◌+◌, ◌%◌, ◌≤◌, ◌<◌, ◌^◌, ◌⊎◌, List, [], ◌∷◌, ◌++◌, length, slice_get, get_or, map, Some}
use Rattle.std.specs.List.{AllByRecursion}
use Rattle.mdf_format.specs.Number.{le_number, bytes_at}
use Rattle.mdf_format.specs.Block.{name_of, links_at, header_size}
use Rattle.mdf_format.specs.declared.kind.Kind.TheVariants.{Dt}
use Rattle.mdf_block.specs.Limit.{IsListedBehind}
use Rattle.mdf_stream.specs.Link.{most_blocks}
use Rattle.mdf_data.specs.Bodies.{bodies}
use Rattle.mdf_data.specs.Split.{record_of}
use Rattle.mdf_group.specs.declared.row.DataRow.{DataRow}
use Rattle.mdf_model.specs.Contents.{IsDataSplit}
use Rattle.tool_complete.specs.declared.setting.Setting.{Setting}
use Rattle.tool_complete.specs.Completed.{Split, mended_file, settings_of}
use Rattle.tool_complete.specs.Ended.{end_settings, last_block}
use Rattle.tool_complete.specs.Records.{count_of}

-- the header of a DTBLOCK with its links stands at an address, whatever length it says
pub record IsHeaded (file : List ℕ) (at : ℕ) : Type 0 where
  pub on_eight : at % 8 ≡ 0
  pub named : bytes_at 4 file at ≡ name_of Dt
  pub inside : at + header_size (links_at file at) ≤ length file

-- a data link names the address itself, or a DLBLOCK of the chain from it on lists it, behind fewer blocks than a data link may lead to
abbrev pub IsDataNamed : List ℕ → ℕ → ℕ → Type 0
IsDataNamed file link at = (link ≡ at) ⊎ ((count : ℕ) × (count < most_blocks) × IsListedBehind file link count at)

-- the data link of one of these data groups names it, and a DTBLOCK is headed there
pub record IsNamedIn (file : List ℕ) (rows : List DataRow) (at : ℕ) : Type 0 where
  pub n : ℕ
  pub row : DataRow
  pub there : slice_get rows n ≡ Some row
  pub named : IsDataNamed file row.content at
  pub headed : IsHeaded file at

-- the last DTBLOCK: no other stands behind it
pub record IsLastBlock (file : List ℕ) (rows : List DataRow) (at : ℕ) : Type 0 where
  pub is_named : IsNamedIn file rows at
  pub last : (other : ℕ) → IsNamedIn file rows other → other ≤ at

-- two fields share no byte
abbrev pub IsApart : Setting → Setting → Type 0
IsApart one other = (one.at + 8 ≤ other.at) ⊎ (other.at + 8 ≤ one.at)

abbrev pub AreApart : List Setting → Type 0
AreApart [] = Unit {0}
AreApart (setting ∷ settings) = AllByRecursion (IsApart setting) settings × AreApart settings

-- a byte lies in no field
abbrev pub IsOutside : List Setting → ℕ → Type 0
IsOutside settings i = AllByRecursion (λ (setting : Setting). (i < setting.at) ⊎ (setting.at + 8 ≤ i)) settings

-- the numbers have 8 bytes
abbrev pub AreNumbers : List Setting → Type 0
AreNumbers settings = AllByRecursion (λ (setting : Setting). setting.value < 2 ^ 64) settings

-- a file in which these numbers are set: it is as long, each byte outside the fields is as before, and where the numbers have 8 bytes and no
-- two fields share a byte each number is read
pub record AreSetIn (file : List ℕ) (settings : List Setting) (now : List ℕ) : Type 0 where
  pub as_long : length now ≡ length file
  pub others : (i : ℕ) → IsOutside settings i → get_or now i 0 ≡ get_or file i 0
  pub read : AreNumbers settings → AreApart settings → AllByRecursion (λ (setting : Setting). le_number (bytes_at 8 now setting.at) ≡ setting.value) settings

-- the numbers that are set in a file that is marked as finalized: the length of the last DTBLOCK, that of the block that is cut, and the
-- cycle counts
abbrev pub changes : List ℕ → List Setting
changes file = end_settings (length file) (last_block file) ++ settings_of (mended_file file)

-- What is counted of a data group is of the split of its stream: its whole records are those of the split, and of each channel group as
-- many as it has there.
pub record IsCountOfSplit (file : List ℕ) (row : DataRow) (split : Split) : Type 0 where
  pub stream : List ℕ
  pub rest : List ℕ
  pub long : split.total ≡ length stream
  pub is_split : IsDataSplit file row (map (record_of stream) split.records) rest
  pub each : (k : ℕ) → count_of k split.records ≡ length (bodies row.id_size (map (record_of stream) split.records) k)
