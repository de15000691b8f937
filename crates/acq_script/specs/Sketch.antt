-- A plan whose groups are being named.
use Rattle.std.specs.Prelude.{ℕ, ◌≡◌, ◌≤◌, ◌<◌, ◌+◌, ◌*◌, Bool, ◌&&◌, not, nat_le, nat_lt, if◌then◌else◌, List, [], ◌∷◌, ◌++◌, length, map, filter, sum_by, replicate, All, Option, Some, None, unwrap_or}
use Rattle.std.specs.Option.{option_map}
use Rattle.std.specs.List.{AllByRecursion}
use Rattle.mdf_format.specs.declared.form.Form.{Form}
use Rattle.mdf_format.specs.declared.form.Form.TheVariants.{Bare}
use Rattle.mdf_group.specs.Recordable.{numbers_of, is_of_values, IsShortText, IsRecordableChannel, IsRecordableGroup}
use Rattle.mdf_group.specs.declared.row.GroupRow.{GroupRow}
use Rattle.acq_script.specs.Draft.{new_draft, with_channel, with_unit, group_row}
use Rattle.acq_script.specs.Plan.{AreLimits, AreLaid, MOST_SOURCES, layout_of}
use Rattle.script_line.specs.declared.line.ChannelForm.{ChannelForm}
use Rattle.acq_script.specs.declared.draft.Draft.{Draft}
use Rattle.acq_script.specs.declared.sketch.Opening.{Opening}
use Rattle.acq_script.specs.declared.sketch.Preamble.{Preamble}
use Rattle.acq_script.specs.declared.sketch.Counts.{Counts}
use Rattle.acq_script.specs.declared.sketch.Sketch.{Sketch}
use Rattle.acq_script.specs.declared.script.Plan.{Plan}
use Rattle.acq_script.specs.declared.script.Script.{Script}

-- what stands before the first group: the limits and the form where the script says them, and whether it says `live`
abbrev pub preamble_of : Option ℕ → Option ℕ → Option Form → Bool → Preamble
preamble_of block session form live = record { block = block; session = session; form = form; live = live }

abbrev pub opening_of : Preamble → Opening
opening_of said = record {
  block = unwrap_or said.block 65536;
  session = unwrap_or said.session 268435456;
  form = unwrap_or said.form Bare;
  live = said.live;
}

-- the plan of a first group
abbrev pub first_of : Opening → ℕ → List ℕ → Sketch
first_of opening source name = record {
  opening = opening;
  counts = record { channels = 0; variable = 0; sources = source + 1 };
  owners = source ∷ [];
  rows = [];
  draft = new_draft name;
}

abbrev pub first_sketch : Opening → ℕ → List ℕ → Option Sketch
first_sketch opening source name = if nat_lt source MOST_SOURCES then Some (first_of opening source name) else None

-- the sources with one more
abbrev pub more_sources : ℕ → ℕ → ℕ
more_sources sources source = if nat_le sources source then source + 1 else sources

-- the next group, where the last one has a channel: there are at most 64
abbrev pub grouped : Sketch → ℕ → List ℕ → Sketch
grouped sketch source name = record {
  opening = sketch.opening;
  counts = record {
    channels = sketch.counts.channels;
    variable = sketch.counts.variable;
    sources = more_sources sketch.counts.sources source;
  };
  owners = sketch.owners ++ source ∷ [];
  rows = sketch.rows ++ group_row sketch.draft ∷ [];
  draft = new_draft name;
}

abbrev pub with_group : Sketch → ℕ → List ℕ → Option Sketch
with_group sketch source name =
    if nat_lt source MOST_SOURCES && nat_lt 0 (length sketch.draft.channels) && nat_lt (length sketch.rows + 1) 64
    then Some (grouped sketch source name) else None

-- the next channel of the last group: there are at most 1,024 of all groups, and at most 128 of variable length
abbrev pub has_room : Counts → ChannelForm → Bool
has_room counts form = nat_lt counts.channels 1024 && not (form.kind.variable && nat_le 128 counts.variable)

abbrev pub counted : Counts → ChannelForm → Counts
counted counts form = record {
  channels = counts.channels + 1;
  variable = if form.kind.variable then counts.variable + 1 else counts.variable;
  sources = counts.sources;
}

abbrev pub sketch_with : Sketch → Counts → Draft → Sketch
sketch_with sketch counts draft = record {
  opening = sketch.opening;
  counts = counts;
  owners = sketch.owners;
  rows = sketch.rows;
  draft = draft;
}

abbrev pub channel_in : Sketch → List ℕ → ChannelForm → Option Sketch
channel_in sketch name form =
    if has_room sketch.counts form
    then option_map (sketch_with sketch (counted sketch.counts form)) (with_channel sketch.draft name form) else None

abbrev pub unit_in : Sketch → List ℕ → Option Sketch
unit_in sketch unit = option_map (sketch_with sketch sketch.counts) (with_unit sketch.draft unit)

-- the plan that has ended, where the last group has a channel; no source has done anything
abbrev pub all_rows : Sketch → List GroupRow
all_rows sketch = sketch.rows ++ group_row sketch.draft ∷ []

abbrev pub plan_with : Sketch → Plan
plan_with sketch = record {
  shapes = map layout_of (all_rows sketch);
  rows = all_rows sketch;
  owners = sketch.owners;
  sources = sketch.counts.sources;
  block = sketch.opening.block;
  session = sketch.opening.session;
  form = sketch.opening.form;
  live = sketch.opening.live;
}

abbrev pub script_with : Sketch → Script
script_with sketch = record { plan = plan_with sketch; lists = replicate sketch.counts.sources [] }

abbrev pub begun : Sketch → Option Script
begun sketch = if nat_lt 0 (length sketch.draft.channels) then Some (script_with sketch) else None

-- what holds of the last group: its channels can be recorded, and lie below the next free bit and the next position
pub record IsDraft (draft : Draft) : Type 0 where
  pub name : IsShortText draft.name
  pub few : length draft.channels ≤ 256
  pub each : AllByRecursion IsRecordableChannel draft.channels
  pub laid : AreLaid draft.free draft.positions (map numbers_of draft.channels)
  pub free : draft.free ≤ 2048 * length draft.channels
  pub positions : draft.positions ≤ length draft.channels

-- and of the plan so far
pub record IsSketch (sketch : Sketch) : Type 0 where
  pub limits : AreLimits sketch.opening.block sketch.opening.session
  pub few : length sketch.rows ≤ 63
  pub each : AllByRecursion IsRecordableGroup sketch.rows
  pub draft : IsDraft sketch.draft
  pub channels_are : sketch.counts.channels ≡ sum_by (λ row. length row.channels) sketch.rows + length sketch.draft.channels
  pub channels : sketch.counts.channels ≤ 1024
  pub variable_are : sketch.counts.variable ≡ sum_by (λ row. length (filter is_of_values row.channels)) sketch.rows + length (filter is_of_values sketch.draft.channels)
  pub variable : sketch.counts.variable ≤ 128
  pub owners : length sketch.owners ≡ length sketch.rows + 1
  pub owned : All (λ source. source < sketch.counts.sources) sketch.owners
  pub sources : (1 ≤ sketch.counts.sources) × (sketch.counts.sources ≤ MOST_SOURCES)
