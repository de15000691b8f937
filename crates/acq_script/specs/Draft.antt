-- A group whose channels are being named.
use Rattle.std.specs.Prelude.{ℕ, ◌+◌, ◌*◌, ◌/◌, ◌%◌, true, false, ◌&&◌, ◌||◌, not, nat_lt, if◌then◌else◌, List, [], ◌∷◌, ◌++◌, length, Option, Some, None}
use Rattle.mdf_block.specs.declared.note.Note.TheVariants.{Nothing, Plain}
use Rattle.mdf_group.specs.declared.row.ChannelRow.{ChannelRow}
use Rattle.mdf_group.specs.declared.row.GroupRow.{GroupRow}
use Rattle.script_line.specs.declared.kind.ValueType.{ValueType}
use Rattle.script_line.specs.declared.line.ChannelForm.{ChannelForm}
use Rattle.acq_script.specs.declared.draft.Draft.{Draft}

-- the first bit from this one on that begins a byte
abbrev pub whole : ℕ → ℕ
whole bit = (bit + 7) / 8 * 8

-- where a field begins, where this bit is the next free one: there, or at the next whole byte; and the next free bit behind
-- it: the next one, or that of the following whole byte
abbrev pub start_of : ValueType → ℕ → ℕ
start_of kind free = if kind.packed then free else whole free

abbrev pub free_behind : ValueType → ℕ → ℕ
free_behind kind free = if kind.packed then free + kind.bits else whole (whole free + kind.bits)

-- 1 for values of variable length, 2 for a master, else 0
abbrev pub channel_kind : ChannelForm → ℕ
channel_kind form = if form.kind.variable then 1 else (if form.master then 2 else 0)

-- a channel whose field begins at this bit; what the script does not say is 0 or nothing
abbrev pub channel_row : List ℕ → ChannelForm → ℕ → ℕ → ChannelRow
channel_row name form start position = record {
  at = 0;
  kind = channel_kind form;
  sync = if form.master then 1 else 0;
  data_type = form.kind.data_type;
  bit = start % 8;
  byte = start / 8;
  bits = form.kind.bits;
  flags = if form.inval then 2 else 0;
  inval = if form.inval then position else 0;
  precision = 0;
  ranges = 0 ∷ 0 ∷ 0 ∷ 0 ∷ 0 ∷ 0 ∷ [];
  name = Plain name;
  source = None;
  conv = None;
  unit = Nothing;
  comment = Nothing;
  values = 0;
  extra = 0;
}

-- a group without channels yet
abbrev pub new_draft : List ℕ → Draft
new_draft name = record { name = name; channels = []; free = 0; positions = 0; master = false; unit = false }

-- the next channel: there are at most 256, and at most one is the master
abbrev pub drawn : Draft → List ℕ → ChannelForm → Draft
drawn draft name form = record {
  name = draft.name;
  channels = draft.channels ++ channel_row name form (start_of form.kind draft.free) draft.positions ∷ [];
  free = free_behind form.kind draft.free;
  positions = if form.inval then draft.positions + 1 else draft.positions;
  master = draft.master || form.master;
  unit = true;
}

abbrev pub with_channel : Draft → List ℕ → ChannelForm → Option Draft
with_channel draft name form =
    if nat_lt (length draft.channels) 256 && not (draft.master && form.master) then Some (drawn draft name form) else None

-- the unit of the last channel, directly behind its line
abbrev pub measured : List ℕ → ChannelRow → ChannelRow
measured unit row = record row { unit = Plain unit }

abbrev pub set_unit : List ℕ → List ChannelRow → List ChannelRow
set_unit unit [] = []
set_unit unit (row ∷ []) = measured unit row ∷ []
set_unit unit (row ∷ next ∷ rows) = row ∷ set_unit unit (next ∷ rows)

abbrev pub unit_draft : Draft → List ℕ → Draft
unit_draft draft unit = record {
  name = draft.name;
  channels = set_unit unit draft.channels;
  free = draft.free;
  positions = draft.positions;
  master = draft.master;
  unit = false;
}

abbrev pub with_unit : Draft → List ℕ → Option Draft
with_unit draft unit = if draft.unit then Some (unit_draft draft unit) else None

-- the row of the group: its data bytes and its invalidation bytes are all begun ones
abbrev pub group_row : Draft → GroupRow
group_row draft = record {
  at = 0;
  id = 0;
  cycles = 0;
  flags = 0;
  separator = 0;
  data_bytes = (draft.free + 7) / 8;
  inval_bytes = (draft.positions + 7) / 8;
  name = Plain draft.name;
  source = None;
  comment = Nothing;
  channels = draft.channels;
}
