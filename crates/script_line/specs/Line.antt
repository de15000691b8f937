-- The lines of a script, each by itself.
use Rattle.std.specs.Prelude.{ℕ, ◌≡◌, not, Bool, true, false, ◌&&◌, ◌||◌, ◌==◌, if◌then◌else◌, List, [], ◌∷◌, length, slice_index, codes, Option, Some, None}
use Rattle.std.specs.Option.{option_map, option_and_then}
use Rattle.std.specs.Str.{bytes_eq}
use Rattle.script_line.specs.Text.{words_of, is_end, is_name}
use Rattle.script_line.specs.Number.{number_of}
use Rattle.script_line.specs.Kind.{type_of, is_number, IsType}
use Rattle.script_line.specs.declared.kind.ValueType.{ValueType}
use Rattle.script_line.specs.declared.line.ChannelForm.{ChannelForm}
use Rattle.script_line.specs.declared.line.Marks.{Marks}

-- what a line says
pub data Line : Type 0 where
  -- nothing: it is empty or a comment
  Passed : Line
  -- how many data bytes a block has at most, and what the samples cost in all at most
  Block : ℕ → Line
  Session : ℕ → Line
  -- the number of the form of the recording
  Form : ℕ → Line
  -- samples are to be shown while the recording is made
  Live : Line
  -- the source of the next group, and its name
  Group : ℕ → List ℕ → Line
  -- the name of the next channel, and what it says of its values
  Channel : List ℕ → ChannelForm → Line
  -- the unit of the last channel
  Measured : List ℕ → Line
  Begin : Line
  -- the group of a sample, and the words of its values
  Sample : ℕ → List (List ℕ) → Line
  -- the source that flushes
  Flush : ℕ → Line
  End : Line

-- `group SOURCE NAME`
unfoldable pub group_of : List (List ℕ) → Option Line
group_of (source ∷ name ∷ words) =
    if is_name name && is_end words then option_map (λ s. Group s name) (number_of source) else None
group_of _ = None

-- ` inv`, or nothing, and before it ` master`, or nothing
unfoldable pub inval_of : List (List ℕ) → Option Bool
inval_of [] = Some false
inval_of (word ∷ words) = if bytes_eq word (codes "inv") && is_end words then Some true else None

abbrev pub marks_with : Bool → Bool → Marks
marks_with master inval = record { master = master; inval = inval }

unfoldable pub marks_of : List (List ℕ) → Option Marks
marks_of [] = Some (marks_with false false)
marks_of (word ∷ words) =
    if bytes_eq word (codes "master") then option_map (marks_with true) (inval_of words)
    else option_map (marks_with false) (inval_of (word ∷ words))

-- the channel of a type; a master has numbers
abbrev pub form_with : ValueType → Marks → ChannelForm
form_with kind marks = record { kind = kind; master = marks.master; inval = marks.inval }

abbrev pub channel_with : List ℕ → ValueType → Marks → Option Line
channel_with name kind marks =
    if marks.master && not (is_number kind) then None else Some (Channel name (form_with kind marks))

-- `channel NAME TYPE` and then optionally ` master` and then optionally ` inv`
unfoldable pub channel_of : List (List ℕ) → Option Line
channel_of (name ∷ kind ∷ words) =
    if is_name name
    then option_and_then (λ k. option_and_then (channel_with name k) (marks_of words)) (type_of kind) else None
channel_of _ = None

-- `unit NAME`
unfoldable pub unit_of : List (List ℕ) → Option Line
unit_of (name ∷ words) = if is_name name && is_end words then Some (Measured name) else None
unit_of _ = None

-- one word, which is a number
unfoldable pub one_number : List (List ℕ) → Option ℕ
one_number (word ∷ words) = if is_end words then number_of word else None
one_number _ = None

-- `block LIMIT`, `session LIMIT`, `form NUMBER`, and `! SOURCE`
unfoldable pub block_of : List (List ℕ) → Option Line
block_of words = option_map Block (one_number words)

unfoldable pub session_of : List (List ℕ) → Option Line
session_of words = option_map Session (one_number words)

unfoldable pub form_of : List (List ℕ) → Option Line
form_of words = option_map Form (one_number words)

unfoldable pub flush_of : List (List ℕ) → Option Line
flush_of words = option_map Flush (one_number words)

-- `live`, `begin` or `end`
unfoldable pub alone : Line → List (List ℕ) → Option Line
alone line words = if is_end words then Some line else None

-- `begin`, `! SOURCE`, `end`, or `GROUP V V V`
unfoldable pub worded : List ℕ → List (List ℕ) → Option Line
worded word words =
    if bytes_eq word (codes "begin") then alone Begin words
    else (if bytes_eq word (codes "!") then flush_of words
    else (if bytes_eq word (codes "end") then alone End words
    else option_map (λ group. Sample group words) (number_of word)))

-- a line of the plan, or one of these
unfoldable pub worded_plan : List ℕ → List (List ℕ) → Option Line
worded_plan word words =
    if bytes_eq word (codes "block") then block_of words
    else (if bytes_eq word (codes "session") then session_of words
    else (if bytes_eq word (codes "form") then form_of words
    else (if bytes_eq word (codes "live") then alone Live words
    else (if bytes_eq word (codes "group") then group_of words
    else (if bytes_eq word (codes "channel") then channel_of words
    else (if bytes_eq word (codes "unit") then unit_of words
    else worded word words))))))

abbrev pub worded_list : List (List ℕ) → Option Line
worded_list [] = None
worded_list (word ∷ words) = worded_plan word words

-- an empty line, or one that begins with `;`
abbrev pub is_passed : List ℕ → Bool
is_passed line = length line == 0 || slice_index line 0 == 59

unfoldable pub line_of : List ℕ → Option Line
line_of line = if is_passed line then Some Passed else worded_list (words_of line)

-- what a line names has a name, and a channel's values have a type; a master has numbers
pub record IsForm (form : ChannelForm) : Type 0 where
  pub kind : IsType form.kind
  pub master : form.master ≡ true → is_number form.kind ≡ true

abbrev pub IsSaid : Line → Type 0
IsSaid (Group source name) = is_name name ≡ true
IsSaid (Channel name form) = (is_name name ≡ true) × IsForm form
IsSaid (Measured name) = is_name name ≡ true
IsSaid _ = Unit {0}
