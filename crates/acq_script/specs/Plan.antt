-- The plan of a script.
use Rattle.std.specs.Prelude.{ℕ, ◌≡◌, ◌≢◌, ◌+◌, ◌/◌, ◌≤◌, ◌<◌, List, length, map, sum_by, All, AllPairs, slice_index}
use Rattle.mdf_format.specs.Field.{HasBit}
use Rattle.mdf_format.specs.Row.{RowNumbers, form_of, spot_of_row, IsPlaced, UsesInval}
use Rattle.mdf_group.specs.Recordable.{numbers_of, ArePlaced, AreRecordable}
use Rattle.mdf_group.specs.declared.row.GroupRow.{GroupRow}
use Rattle.mdf_layout.specs.Layout.{Layout}
use Rattle.mdf_layout.specs.Row.{field_row}
use Rattle.mdf_layout.specs.Written.{AreApart}
use Rattle.mdf_layout.specs.Record.{SampleFits, encoded_size}
use Rattle.mdf_layout.specs.Behind.{variables}
use Rattle.mdf_layout.specs.Stored.{IsStored}
use Rattle.acq_script.specs.declared.script.Plan.{Plan}
use Rattle.acq_script.specs.declared.script.Task.{Task}
use Rattle.acq_script.specs.declared.script.Task.TheVariants as task

-- how many sources a script can have
abbrev pub MOST_SOURCES : ℕ
MOST_SOURCES = 16

-- the layout of a group: the fields that its channels say
abbrev pub layout_of : GroupRow → Layout
layout_of row = record {
  rows = map (λ channel. field_row (numbers_of channel)) row.channels;
  data_bytes = row.data_bytes;
  inval_bytes = row.inval_bytes;
}

-- its channels keep the rules of layouts
abbrev pub HasPlace : GroupRow → Type 0
HasPlace row = ArePlaced row.data_bytes row.inval_bytes (map numbers_of row.channels)

-- a channel below a bit and a position
pub record IsBelow (free positions : ℕ) (row : RowNumbers) : Type 0 where
  pub placed : IsPlaced (form_of row) ((free + 7) / 8) (spot_of_row row)
  pub below : (p : ℕ) → HasBit (spot_of_row row) p → p < free
  pub position : UsesInval row → row.inval < positions

-- no bit and no position belongs to both channels
pub record LieApart (one other : RowNumbers) : Type 0 where
  pub bits : (p : ℕ) → HasBit (spot_of_row one) p → ¬ HasBit (spot_of_row other) p
  pub positions : UsesInval one → UsesInval other → one.inval ≢ other.inval

-- channels below a bit and a position, no two of which share one
pub record AreLaid (free positions : ℕ) (rows : List RowNumbers) : Type 0 where
  pub each : All (IsBelow free positions) rows
  pub apart : AllPairs LieApart rows

-- limits that a recording can keep
pub record AreLimits (block session : ℕ) : Type 0 where
  pub block_low : 1 ≤ block
  pub block_high : block ≤ 16777216
  pub session_low : 1 ≤ session
  pub session_high : session ≤ 268435456

-- a layout of channels that a recording stores, no two of which share a bit
pub record IsGroup (layout : Layout) : Type 0 where
  pub apart : AreApart layout.rows
  pub stored : All IsStored layout.rows

-- What every plan is: rows that can be recorded, and their layouts, which a book can begin with; a source for each group;
-- and limits that a recording can keep.
pub record IsPlan (plan : Plan) : Type 0 where
  pub planned : AreRecordable plan.rows
  pub shapes : plan.shapes ≡ map layout_of plan.rows
  pub groups : All IsGroup plan.shapes
  pub few_groups : length plan.shapes ≤ 64
  pub fields : sum_by (λ layout. length layout.rows) plan.shapes ≤ 1024
  pub variable : sum_by (λ layout. length (variables layout.rows)) plan.shapes ≤ 128
  pub owners : length plan.owners ≡ length plan.rows
  pub owned : All (λ source. source < plan.sources) plan.owners
  pub some_sources : 1 ≤ plan.sources
  pub few_sources : plan.sources ≤ MOST_SOURCES
  pub limits : AreLimits plan.block plan.session

-- a sample that the plan has room for; a flush always is
abbrev pub TaskFits : Plan → Task → Type 0
TaskFits plan (task.Sample sample) = SampleFits plan.shapes sample × (encoded_size plan.shapes sample ≤ plan.block)
TaskFits plan task.Flush = Unit {0}

-- a sample of a group of this source; a flush always is
abbrev pub IsTaskOf : Plan → ℕ → Task → Type 0
IsTaskOf plan source (task.Sample sample) = slice_index plan.owners sample.group ≡ source
IsTaskOf plan source task.Flush = Unit {0}
