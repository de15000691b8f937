-- How a script is spelled: the lines that say a group with its channels, and what its source does.
use Rattle.std.specs.Prelude.{ℕ, ◌≡◌, ◌+◌, ◌*◌, ◌≤◌, Bool, true, false, if◌then◌else◌, List, [], ◌∷◌, ◌++◌, length, map, flat_map, count_by, codes, decimal, All, Option, Some, None, IfSome}
use Rattle.std.specs.List.{join_with_byte}
use Rattle.mdf_format.specs.Form.{form_number}
use Rattle.mdf_format.specs.declared.form.Form.{Form}
use Rattle.mdf_group.specs.declared.row.ChannelRow.{ChannelRow}
use Rattle.mdf_layout.specs.declared.sample.Value.{Value}
use Rattle.mdf_layout.specs.declared.sample.Value.TheVariants as value
use Rattle.script_line.specs.Text.{is_name}
use Rattle.script_line.specs.Kind.{packed}
use Rattle.acq_script.specs.Draft.{channel_row}
use Rattle.acq_script.specs.Sketch.{preamble_of, opening_of, plan_with}
use Rattle.acq_script.specs.Plan.{TaskFits}
use Rattle.script_line.specs.declared.line.ChannelForm.{ChannelForm}
use Rattle.acq_script.specs.declared.sketch.Opening.{Opening}
use Rattle.acq_script.specs.declared.sketch.Sketch.{Sketch}
use Rattle.acq_script.specs.declared.script.Plan.{Plan}
use Rattle.acq_script.specs.declared.script.Script.{Script}
use Rattle.acq_script.specs.declared.script.Task.{Task}
use Rattle.acq_script.specs.declared.script.Task.TheVariants as task

-- a channel: its name, and whether it is the master
pub record Channel : Type 0 where
  pub name : List ℕ
  pub master : Bool

-- the words of the lines
abbrev pub group_words : List ℕ → List (List ℕ)
group_words name = codes "group" ∷ codes "0" ∷ name ∷ []

abbrev pub channel_words : Channel → List (List ℕ)
channel_words channel =
    codes "channel" ∷ channel.name ∷ codes "u64" ∷ (if channel.master then codes "master" ∷ [] else [])

-- a number in decimal; no sample that fits has another value
abbrev pub value_word : Value → List ℕ
value_word (value.Unsigned n) = decimal n
value_word _ = []

abbrev pub task_words : Task → List (List ℕ)
task_words (task.Sample sample) = codes "0" ∷ map (λ entry. value_word entry.value) sample.values
task_words task.Flush = codes "!" ∷ codes "0" ∷ []

-- words with one blank between each two, and lines with an LF behind each
abbrev pub line_with : List (List ℕ) → List ℕ
line_with words = join_with_byte 32 words

abbrev pub text_with : List (List (List ℕ)) → List ℕ
text_with lines = flat_map (λ words. line_with words ++ 10 ∷ []) lines

-- the line of a limit, where it is said
abbrev pub limit_lines : List ℕ → Option ℕ → List (List (List ℕ))
limit_lines word None = []
limit_lines word (Some limit) = (word ∷ decimal limit ∷ []) ∷ []

-- the line of the form, where it is said
abbrev pub form_lines : Option Form → List (List (List ℕ))
form_lines None = []
form_lines (Some form) = (codes "form" ∷ decimal (form_number form) ∷ []) ∷ []

-- the line `live`, where it is said
abbrev pub live_lines : Bool → List (List (List ℕ))
live_lines true = (codes "live" ∷ []) ∷ []
live_lines false = []

-- what a script is spelled for: the limits and the form that it says, whether it says `live`, a group of this name and these channels of
-- 64-bit numbers, and what its source does
pub record Spelling : Type 0 where
  pub block : Option ℕ
  pub session : Option ℕ
  pub form : Option Form
  pub live : Bool
  pub name : List ℕ
  pub channels : List Channel
  pub tasks : List Task

abbrev pub spelled : Spelling → List ℕ
spelled s = text_with (limit_lines (codes "block") s.block ++ (limit_lines (codes "session") s.session
    ++ (form_lines s.form ++ (live_lines s.live ++ group_words s.name ∷ (map channel_words s.channels
    ++ (codes "begin" ∷ []) ∷ (map task_words s.tasks
    ++ (codes "end" ∷ []) ∷ []))))))

-- a 64-bit number, and such channels from this bit on
abbrev pub word_form : Bool → ChannelForm
word_form master = record { kind = packed 0 64; master = master; inval = false }

abbrev pub word_rows : ℕ → List Channel → List ChannelRow
word_rows bit [] = []
word_rows bit (channel ∷ channels) = channel_row channel.name (word_form channel.master) bit 0 ∷ word_rows (bit + 64) channels

-- the one group of source 0 with these rows, so many, up to this bit
abbrev pub sketch_of : Opening → List ℕ → List ChannelRow → ℕ → ℕ → Bool → Bool → Sketch
sketch_of opening name rows n free master unit = record {
  opening = opening;
  counts = record { channels = n; variable = 0; sources = 1 };
  owners = 0 ∷ [];
  rows = [];
  draft = record { name = name; channels = rows; free = free; positions = 0; master = master; unit = unit };
}

-- its plan, and the script
abbrev pub plan_said : Spelling → Plan
plan_said s = plan_with (sketch_of (opening_of (preamble_of s.block s.session s.form s.live)) s.name (word_rows 0 s.channels) (length s.channels) (64 * length s.channels) false false)

abbrev pub script_said : Spelling → Script
script_said s = record { plan = plan_said s; lists = s.tasks ∷ [] }

-- what can be spelled: limits that a recording can keep, names, 1 to 256 channels, of which at most one is the master,
-- and tasks that fit the plan
pub record IsSpellable (s : Spelling) : Type 0 where
  pub block : IfSome s.block (λ limit. (1 ≤ limit) × (limit ≤ 16777216))
  pub session : IfSome s.session (λ limit. (1 ≤ limit) × (limit ≤ 268435456))
  pub name : is_name s.name ≡ true
  pub some : 1 ≤ length s.channels
  pub few : length s.channels ≤ 256
  pub names : All (λ channel. is_name channel.name ≡ true) s.channels
  pub master : count_by (λ channel. channel.master) s.channels ≤ 1
  pub tasks : All (TaskFits (plan_said s)) s.tasks
