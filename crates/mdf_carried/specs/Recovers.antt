-- A file that a reader reads as a recording, and of which a beginning of a history is recovered.
use Rattle.std.specs.Prelude.{ℕ, ◌≡◌, ◌≤◌, ◌⊎◌, List, ◌++◌, length, Ok}
use mathlib.Core.List.{IsPrefix}
use Rattle.mdf_format.specs.declared.form.Form.{Form}
use Rattle.mdf_group.specs.declared.row.GroupRow.{GroupRow}
use Rattle.mdf_layout.specs.declared.sample.Sample.{Sample}
use Rattle.mdf_session.specs.Session.{SessionParts, session}
use Rattle.mdf_spell.specs.Recording.{head_file, IsRecordingTree, FindsHead, FindsGroups}
use Rattle.mdf_gate.specs.Images.{IsNotMdf}
use Rattle.mdf_carried.specs.Recovered.{Recovery, IsRecovery, AreIdsApart}
use Rattle.mdf_carried.specs.Samples.{IsRecovered}

-- the file is read as a recording
pub record IsReadable (file : List ℕ) : Type 0 where
  pub found : SessionParts
  pub is_read : session file ≡ Ok found

-- it is, a beginning of the history is recovered of it, with at least so many samples, and no record id stands twice in it
pub record Recovers (history : List Sample) (through : ℕ) (file : List ℕ) : Type 0 where
  pub readable : IsReadable file
  pub samples : List Sample
  pub recovered : IsRecovered file samples
  pub beginning : IsPrefix samples history
  pub enough : through ≤ length samples
  pub apart : (found : Recovery) → IsRecovery file found → AreIdsApart found

-- no tool takes the file for MDF, or a beginning of the history is recovered of it
abbrev pub IsNoneOrRecovers : List Sample → List ℕ → Type 0
IsNoneOrRecovers history file = IsNotMdf file ⊎ Recovers history 0 file

-- in each file that begins with the head of these rows the head's tree stands, and a reader finds it there
pub record IsReadHead (form : Form) (start : ℕ) (rows : List GroupRow) : Type 0 where
  pub tree : (more : List ℕ) → IsRecordingTree (head_file form start rows ++ more) start rows
  pub head_found : (more : List ℕ) → FindsHead (head_file form start rows ++ more) start rows
  pub groups_found : (more : List ℕ) → FindsGroups (head_file form start rows ++ more) start rows
