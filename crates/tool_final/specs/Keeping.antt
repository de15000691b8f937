-- A finalized file keeps what its recording holds.
use Rattle.std.specs.Prelude.{ℕ, ◌≡◌, List, [], ◌∷◌, ◌++◌, map, filter, slice_get, Some, codes}
use Rattle.std.specs.List.{AllByRecursion}
use Rattle.mdf_block.specs.declared.note.Note.{Note}
use Rattle.mdf_head.specs.declared.entry.Head.{Head}
use Rattle.mdf_head.specs.declared.entry.History.{History}
use Rattle.mdf_group.specs.declared.row.GroupRow.{GroupRow}
use Rattle.mdf_layout.specs.History.{group_samples}
use Rattle.mdf_layout.specs.declared.sample.Sample.{Sample}
use Rattle.mdf_model.specs.declared.part.Measure.{Measure}
use Rattle.mdf_model.specs.Measurement.{holds_samples, contents_of}
use Rattle.mdf_model.specs.InWords.{IsMeasurement, IsValidFile}
use Rattle.mdf_model.specs.Same.{SameHead, SameRows}
use Rattle.mdf_carried.specs.Recovered.{Recovery, AreIdsApart}
use Rattle.mdf_carried.specs.Samples.{AreSamplesOf, IsRecovered}
use Rattle.mdf_tree.specs.Head.{new_entry}

-- an entry of the history without its address
abbrev pub plain_entry : History → History
plain_entry entry = record entry { at = 0 }

-- these entries, and one of a finalizing at a time in ns
abbrev pub AreOneMore : List History → List History → ℕ → Type 0
AreOneMore entries old now = map plain_entry entries ≡ map plain_entry (old ++ new_entry (codes "finalize") now ∷ [])

-- the row of a group, and what the group holds
abbrev pub row_of : Measure → GroupRow
row_of m = m.part.row

abbrev pub HasComment : Note → Measure → Type 0
HasComment comment m = m.part.comment ≡ comment

-- The file has a measurement: the header and the groups say the same as in the recording, the history has one entry more, and
-- each group holds what it held: the same layout, records, streams and samples. The file is valid where no record id of the
-- recording stands twice.
pub record KeepsRecovery (found : Recovery) (bytes : List ℕ) (now : ℕ) : Type 0 where
  pub head : Head
  pub history : List History
  pub groups : List Measure
  pub measurement : IsMeasurement bytes head history groups
  pub same_head : SameHead found.head head
  pub one_more : AreOneMore history found.history now
  pub same_rows : SameRows (filter holds_samples found.row.groups) (map row_of groups)
  pub comments : AllByRecursion (HasComment found.row.comment) groups
  pub contents : map contents_of groups ≡ found.groups
  pub valid : AreIdsApart found → IsValidFile bytes

-- each group of these has its own of the samples
abbrev pub HaveOwn : List Measure → List Sample → Type 0
HaveOwn groups samples = (g : ℕ) (m : Measure) → slice_get groups g ≡ Some m → AreSamplesOf (contents_of m) (group_samples samples g)

-- These bytes are a finalized file of the recording that this file is: they keep what it holds, and the samples of each group
-- are those of the group that are recovered of the recording.
pub record IsFinalizedRecording (file : List ℕ) (now : ℕ) (bytes : List ℕ) : Type 0 where
  pub samples : List Sample
  pub recovered : IsRecovered file samples
  pub keeps : KeepsRecovery recovered.found bytes now
  pub own : HaveOwn keeps.groups samples
