-- The generated script: four sources with a group each, and samples that follow from their numbers.
use Rattle.std.specs.Prelude.{ℕ, ◌+◌, ◌*◌, ◌-◌, ◌/◌, ◌%◌, ◌^◌, ◌==◌, zero, suc, true, false, if◌then◌else◌, List, [], ◌∷◌, ◌++◌, map, replicate, codes}
use Rattle.mdf_format.specs.declared.form.Form.TheVariants.{Bare}
use Rattle.mdf_group.specs.declared.row.ChannelRow.{ChannelRow}
use Rattle.mdf_group.specs.declared.row.GroupRow.{GroupRow}
use Rattle.mdf_layout.specs.declared.sample.Entry.{Entry}
use Rattle.mdf_layout.specs.declared.sample.Sample.{Sample}
use Rattle.mdf_layout.specs.declared.sample.Value.{Value}
use Rattle.mdf_layout.specs.declared.sample.Value.TheVariants.{Unsigned, Bytes}
use Rattle.script_line.specs.Kind.{packed, long}
use Rattle.acq_script.specs.Draft.{channel_row, group_row}
use Rattle.acq_script.specs.Plan.{layout_of}
use Rattle.acq_script.specs.declared.script.Plan.{Plan}
use Rattle.acq_script.specs.declared.script.Script.{Script}
use Rattle.acq_script.specs.declared.script.Task.{Task}
use Rattle.acq_script.specs.declared.script.Task.TheVariants as task

-- the channels `t u64 master`, `v u32` and `n var`
abbrev pub time_channel : ChannelRow
time_channel = channel_row (codes "t") (record { kind = packed 0 64; master = true; inval = false }) 0 0

abbrev pub number_channel : ChannelRow
number_channel = channel_row (codes "v") (record { kind = packed 0 32; master = false; inval = false }) 64 0

abbrev pub value_channel : ChannelRow
value_channel = channel_row (codes "n") (record { kind = long 10; master = false; inval = false }) 96 0

-- a group of this name and these channels, whose records have so many bytes
abbrev pub group_with : List ℕ → List ChannelRow → ℕ → GroupRow
group_with name channels bytes =
    group_row (record { name = name; channels = channels; free = 8 * bytes; positions = 0; master = true; unit = true })

-- a group with the time and a number, and group 3, which has values besides
abbrev pub first_group : List ℕ → GroupRow
first_group name = group_with name (time_channel ∷ number_channel ∷ []) 12

abbrev pub last_group : GroupRow
last_group = group_with (codes "g3") (time_channel ∷ number_channel ∷ value_channel ∷ []) 20

abbrev pub generated_rows : List GroupRow
generated_rows = first_group (codes "g0") ∷ first_group (codes "g1") ∷ first_group (codes "g2") ∷ last_group ∷ []

-- group s is that of source s
abbrev pub generated_plan : Plan
generated_plan = record {
  shapes = map layout_of generated_rows;
  rows = generated_rows;
  owners = 0 ∷ 1 ∷ 2 ∷ 3 ∷ [];
  sources = 4;
  block = 65536;
  session = 268435456;
  form = Bare;
  live = false;
}

-- the number of sample i, and its bytes, which only group 3 has
abbrev pub number_of : ℕ → ℕ
number_of i = (1664525 * i + 1013904223) % 2 ^ 32

abbrev pub bytes_of : ℕ → List ℕ
bytes_of i = replicate (i % 5) (i % 256)

abbrev pub valid : Value → Entry
valid value = record { value = value; valid = true }

-- sample i is of group i mod 4; its time is i
abbrev pub sample_of : ℕ → Sample
sample_of i = record {
  group = i % 4;
  values = valid (Unsigned i) ∷ valid (Unsigned (number_of i)) ∷ (if i % 4 == 3 then valid (Bytes (bytes_of i)) ∷ [] else []);
}

-- a source flushes behind each thousandth of its samples
abbrev pub flush_behind : ℕ → List Task
flush_behind count = if count % 1000 == 0 then task.Flush ∷ [] else []

-- what source s does with its sample k, counted from 0: that is sample 4 k + s of all
abbrev pub tasks_at : ℕ → ℕ → List Task
tasks_at s k = task.Sample (sample_of (4 * k + s)) ∷ flush_behind (k + 1)

-- and with its first samples, so many
unfoldable pub tasks_of : ℕ → ℕ → List Task
tasks_of s zero = []
tasks_of s (suc k) = tasks_of s k ++ tasks_at s k

-- how many of the first n samples are those of source s
abbrev pub count_of : ℕ → ℕ → ℕ
count_of n s = (n + 3 - s) / 4

abbrev pub generated_lists : ℕ → List (List Task)
generated_lists n = map (λ s. tasks_of s (count_of n s)) (0 ∷ 1 ∷ 2 ∷ 3 ∷ [])

-- the script with n samples
abbrev pub generated_script : ℕ → Script
generated_script n = record { plan = generated_plan; lists = generated_lists n }
