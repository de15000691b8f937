-- The finalized file of a session, and what is told of it.
use Rattle.std.specs.Prelude.{ℕ, ◌≡◌, ◌⊎◌, ◌+◌, ◌≤◌, ◌<◌, ◌^◌, if◌then◌else◌, List, [], ◌∷◌, sum_by, Some, Ok, slice_get}
use Rattle.std.specs.List.{AllByRecursion, zip}
use Rattle.mdf_block.specs.Draft.{Placed}
use Rattle.mdf_group.specs.declared.row.GroupRow.{GroupRow}
use Rattle.mdf_group.specs.declared.row.DataRow.{DataRow}
use Rattle.mdf_group.specs.Group.{is_variable}
use Rattle.mdf_session.specs.Session.{SessionParts, session}
use Rattle.mdf_spell.specs.declared.recovered.Recovered.{Recovered}
use Rattle.mdf_spell.specs.declared.finalized.Front.{Front}
use Rattle.mdf_spell.specs.Counts.{IsCounted}
use Rattle.mdf_spell.specs.Front.{IsFrontOf}
use Rattle.mdf_spell.specs.Session.{session_blocks, session_file}
use Rattle.mdf_spell.specs.Standing.{AreBytes}
use Rattle.mdf_tool.specs.declared.made.Made.{Made}
use Rattle.mdf_tool.specs.declared.made.Report.{Report}
use Rattle.tool_final.specs.Keeping.{IsFinalizedRecording}

-- what was recovered is what the session has, of its first data group
pub record IsOfSession (read : SessionParts) (recovered : Recovered) : Type 0 where
  pub head : recovered.head.now ≡ read.tree.head
  pub history : recovered.history.now ≡ read.tree.history
  pub row : slice_get read.tree.rows 0 ≡ Some recovered.row.now
  pub counts : recovered.counts.now ≡ read.kept.counts
  pub totals : recovered.totals.now ≡ read.kept.totals
  pub content : recovered.content.now ≡ read.kept.content
  pub streams : recovered.streams.now ≡ read.kept.streams

-- this is the front of the finalized file of what was recovered, at a time in ns: all that stands before its data
pub record IsSessionFront (read : SessionParts) (now : ℕ) (front : Front) : Type 0 where
  pub recovered : Recovered
  pub is_of : IsOfSession read recovered
  pub counted : IsCounted recovered
  pub fit : AllByRecursion (λ count. count < 2 ^ 64) recovered.counts.now
  pub front_is : IsFrontOf recovered now front

-- these are its blocks
pub record AreSessionBlocks (read : SessionParts) (now : ℕ) (blocks : List Placed) : Type 0 where
  pub recovered : Recovered
  pub is_of : IsOfSession read recovered
  pub counted : IsCounted recovered
  pub fit : AllByRecursion (λ count. count < 2 ^ 64) recovered.counts.now
  pub blocks_are : blocks ≡ session_blocks recovered now

-- these bytes are the finalized file of what was recovered, at a time in ns
pub record IsSessionFile (read : SessionParts) (now : ℕ) (bytes : List ℕ) : Type 0 where
  pub recovered : Recovered
  pub is_of : IsOfSession read recovered
  pub bytes_are : bytes ≡ session_file recovered now

-- whatever file the session is read of, these bytes keep what it holds
abbrev pub KeepsSession : SessionParts → ℕ → List ℕ → Type 0
KeepsSession read now bytes = (file : List ℕ) → AreBytes file → session file ≡ Ok read → IsFinalizedRecording file now bytes

-- the number of a group, which is 0 where it holds values of variable length
abbrev pub counted : GroupRow → ℕ → ℕ
counted group number = if is_variable group then 0 else number

-- how many groups hold no values of variable length
abbrev pub group_count : List GroupRow → ℕ
group_count groups = sum_by (λ (group : GroupRow). counted group 1) groups

-- how many records these have, where each group has so many
abbrev pub counted_pair : GroupRow × ℕ → ℕ
counted_pair pair = counted pair.0 pair.1

abbrev pub sample_count : List GroupRow → List ℕ → ℕ
sample_count groups counts = sum_by counted_pair (zip groups counts)

-- the groups of the first data group
abbrev pub first_groups : List DataRow → List GroupRow
first_groups [] = []
first_groups (row ∷ rows) = row.groups

-- what is told of the finalized file: its groups and samples, and how many links of the recording were passed over
abbrev pub report_for : SessionParts → Report
report_for read = record {
  groups = group_count (first_groups read.tree.rows);
  samples = sample_count (first_groups read.tree.rows) read.kept.counts;
  dropped = read.tree.dropped;
}

-- there are more groups than a u32 counts, or more samples than a u64 does
abbrev pub IsPastCount : SessionParts → Type 0
IsPastCount read =
    (2 ^ 32 ≤ group_count (first_groups read.tree.rows)) ⊎ (2 ^ 64 ≤ sample_count (first_groups read.tree.rows) read.kept.counts)

-- the finalized file and what is told of it
pub record IsMadeOf (read : SessionParts) (now : ℕ) (made : Made) : Type 0 where
  pub bytes_are : IsSessionFile read now made.bytes
  pub keeps : KeepsSession read now made.bytes
  pub report_is : made.report ≡ report_for read
