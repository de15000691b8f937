-- What a sorted file keeps of the measurement of which it is made, and of which measurements one can be made.
use Rattle.std.specs.Prelude.{ℕ, ◌≡◌, false, List, map}
use Rattle.std.specs.List.{AllByRecursion, AllZip}
use Rattle.mdf_block.specs.Text.{IsNote}
use Rattle.mdf_head.specs.declared.entry.Head.{Head}
use Rattle.mdf_head.specs.declared.entry.History.{History}
use Rattle.mdf_head.specs.Head.{IsHead}
use Rattle.mdf_group.specs.declared.row.GroupRow.{GroupRow}
use Rattle.mdf_group.specs.Group.{is_variable}
use Rattle.mdf_group.specs.Standing.{IsGroup}
use Rattle.mdf_spell.specs.Standing.{AreBytes}
use Rattle.mdf_spell.specs.Titled.{titled_history}
use Rattle.mdf_content.specs.Layouts.{layout_of}
use Rattle.mdf_model.specs.declared.part.Measure.{Measure}
use Rattle.mdf_model.specs.Measurement.{Measured, HasSamples}
use Rattle.mdf_model.specs.Contents.{KeepsRules}
use Rattle.mdf_model.specs.InWords.{IsMeasurement, IsValidFile}
use Rattle.mdf_model.specs.Same.{SameHead, SameRows}

-- the channel group stands in the file, as does the comment of its data group; its records are samples, by its layout, which keeps
-- the rules, but they may be others than those of the file
pub record IsMeasureIn (file : List ℕ) (m : Measure) : Type 0 where
  pub row : IsGroup file m.part.row
  pub no_values : is_variable m.part.row ≡ false
  pub place : ℕ
  pub comment : IsNote file place m.part.comment
  pub ruled : KeepsRules (layout_of m.part.row)
  pub shape : m.shape ≡ layout_of m.part.row
  pub samples : HasSamples m

-- the header, the history and the groups stand in a file
pub record StandsIn (file : List ℕ) (m : Measured) : Type 0 where
  pub bytes : AreBytes file
  pub head : IsHead file m.head m.history
  pub groups : AllByRecursion (IsMeasureIn file) m.groups

-- entries of a history that say the same, wherever their blocks stand
abbrev pub plain_entry : History → History
plain_entry entry = record entry { at = 0 }

abbrev pub SameHistory : List History → List History → Type 0
SameHistory entries others = map plain_entry entries ≡ map plain_entry others

-- equal records of a group: by the same layout as many, with the same bytes and the same streams; so each sample is the same
pub record SameRecords (m other : Measure) : Type 0 where
  pub shape : m.shape ≡ other.shape
  pub count : m.count ≡ other.count
  pub content : m.part.content ≡ other.part.content
  pub streams : m.part.streams ≡ other.part.streams
  pub comment : m.part.comment ≡ other.part.comment

-- the channel groups of the groups
abbrev pub rows_of : List Measure → List GroupRow
rows_of groups = map (λ (m : Measure). m.part.row) groups

-- The bytes are a valid file. Its measurement has the same header, the history with one entry more, which says what was done at
-- a time in ns, the same channel groups, and the same records of each.
pub record IsSortedOf (m : Measured) (title : List ℕ) (now : ℕ) (bytes : List ℕ) : Type 0 where
  pub valid : IsValidFile bytes
  pub head : Head
  pub history : List History
  pub groups : List Measure
  pub measurement : IsMeasurement bytes head history groups
  pub same_head : SameHead m.head head
  pub same_history : SameHistory (titled_history m.history title now) history
  pub same_rows : SameRows (rows_of m.groups) (rows_of groups)
  pub same_records : AllZip SameRecords m.groups groups
