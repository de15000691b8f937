-- The table of a channel group: a line with the names of its channels, and then a line for each sample.
use Rattle.std.specs.Prelude.{ℕ, zero, suc, ◌<◌, if◌then◌else◌, All, List, [], ◌∷◌, ◌++◌, map, codes, slice_get, Option, Some, None, Ok, Err}
use Rattle.std.specs.Option.{option_and_then, option_map_or}
use Rattle.std.specs.Fmt.{decimal, signed_decimal}
use Rattle.hex.specs.Hex.{encode_lower}
use Rattle.csv.specs.Writing.{comma, default_writer, row_text}
use Rattle.mdf_block.specs.declared.note.Note.{Note}
use Rattle.mdf_block.specs.declared.note.Note.TheVariants as note
use Rattle.mdf_block.specs.Refusal.{Read}
use Rattle.mdf_group.specs.declared.row.ChannelRow.{ChannelRow}
use Rattle.mdf_layout.specs.declared.sample.Value.{Value}
use Rattle.mdf_layout.specs.declared.sample.Value.TheVariants as value
use Rattle.mdf_layout.specs.declared.sample.Entry.{Entry}
use Rattle.mdf_model.specs.declared.part.Measure.{Measure}
use Rattle.mdf_model.specs.declared.whole.WholeFound.{WholeFound}
use Rattle.mdf_model.specs.Measurement.{Measured, sample_of}
use Rattle.mdf_paged.specs.Groups.{Located, groups_of}

-- a line of these fields, as the CSV writer writes it with its defaults: commas between the fields, quotes round a field
-- that needs them, and LF
unfoldable pub line_of : List (List ℕ) → List ℕ
line_of fields = row_text default_writer fields

-- a name, which is empty where there is none
abbrev pub name_text : Note → List ℕ
name_text note.Nothing = []
name_text (note.Plain text) = text
name_text (note.Xml text) = text

-- a value: a number in decimal, or `x` and two digits for each byte
abbrev pub value_text : Value → List ℕ
value_text (value.Unsigned n) = decimal n
value_text (value.Signed z) = signed_decimal z
value_text (value.Bytes bytes) = codes "x" ++ encode_lower bytes
value_text (value.Index n) = decimal n

-- and `?` behind an invalid one
abbrev pub entry_text : Entry → List ℕ
entry_text entry = if entry.valid then value_text entry.value else value_text entry.value ++ codes "?"

-- no byte of the field is one up to the comma, which all that the CSV writer sets apart are
abbrev pub IsPlain : List ℕ → Type 0
IsPlain field = All (λ b. comma < b) field

-- the first line
abbrev pub channel_text : ChannelRow → List ℕ
channel_text channel = name_text channel.name

abbrev pub names_line : List ChannelRow → List ℕ
names_line channels = line_of (codes "index" ∷ map channel_text channels)

-- the line of the sample with this index
abbrev pub sample_line : ℕ → List Entry → List ℕ
sample_line index entries = line_of (decimal index ∷ map entry_text entries)

abbrev pub line_at : ℕ → Option (List Entry) → List ℕ
line_at index None = []
line_at index (Some entries) = sample_line index entries

-- the lines of the first so many samples
unfoldable pub sample_lines : (ℕ → Option (List Entry)) → ℕ → List ℕ
sample_lines sample zero = []
sample_lines sample (suc n) = sample_lines sample n ++ line_at n (sample n)

-- the table of these channels with so many samples
abbrev pub table_text : List ChannelRow → (ℕ → Option (List Entry)) → ℕ → List ℕ
table_text channels sample count = names_line channels ++ sample_lines sample count

-- the table of a group
abbrev pub table_of : Measure → List ℕ
table_of m = table_text m.part.row.channels (sample_of m) m.count

-- the samples of a group of a measurement, and how many they are
abbrev pub sample_in : Measured → ℕ → ℕ → Option (List Entry)
sample_in found group i = option_and_then (λ (m : Measure). sample_of m i) (slice_get found.groups group)

-- and of a file
abbrev pub sample_read : Read Measured → ℕ → ℕ → Option (List Entry)
sample_read (Ok found) group = sample_in found group
sample_read (Err refusal) group = λ i. None

abbrev pub count_in : Measured → ℕ → ℕ
count_in found group = option_map_or (λ (m : Measure). m.count) (slice_get found.groups group) 0

-- how many samples a group has that is found
abbrev pub count_at : WholeFound → ℕ → ℕ
count_at all group = option_map_or (λ (place : Located). place.group.count) (slice_get (groups_of all) group) 0
