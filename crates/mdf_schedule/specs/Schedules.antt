-- Recordings of the same groups whose samples came in different orders.
use Rattle.std.specs.Prelude.{ℕ, ◌≡◌, ◌<◌, List, map}
use mathlib.Core.List.{IsPrefix}
use Rattle.mdf_format.specs.declared.form.Form.{Form}
use Rattle.mdf_group.specs.declared.row.GroupRow.{GroupRow}
use Rattle.mdf_layout.specs.History.{group_samples}
use Rattle.mdf_layout.specs.declared.sample.Sample.{Sample}
use Rattle.mdf_content.specs.Layouts.{layout_of}
use Rattle.mdf_spell.specs.Recording.{head_file}
use Rattle.mdf_spell.specs.Standing.{AreBytes}
use Rattle.mdf_gate.specs.Carried.{IsCarried, IsEncoded}

-- The file is a recording of these rows in this form, with this start time in ns and this history: it begins with the head of the rows, and
-- the data of its opened blocks are the records of the history as they are written, with the bits of no channel 0.
pub record IsRecordingOf (form : Form) (start : ℕ) (rows : List GroupRow) (history : List Sample) (file : List ℕ) : Type 0 where
  pub bytes : AreBytes file
  pub begins : IsPrefix (head_file form start rows) file
  pub encoded : IsEncoded (map layout_of rows) file history

-- The file is what a recording of these rows in this form, with this start time in ns, leaves of these samples: it begins with the head of the
-- rows, and the data of its opened blocks are read as records of the samples.
pub record IsLeftOf (form : Form) (start : ℕ) (rows : List GroupRow) (samples : List Sample) (file : List ℕ) : Type 0 where
  pub begins : IsPrefix (head_file form start rows) file
  pub carried : IsCarried (map layout_of rows) file samples

-- the samples of each of so many groups are the same, in the same order, whatever samples of other groups stand between them
abbrev pub AgreeByGroup : ℕ → List Sample → List Sample → Type 0
AgreeByGroup groups history other = (g : ℕ) → g < groups → group_samples history g ≡ group_samples other g
