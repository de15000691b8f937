-- How long the records of samples are, and what samples cost.
use Rattle.std.specs.Prelude.{ℕ, ◌≡◌, ◌+◌, ◌*◌, if◌then◌else◌, List, [], ◌∷◌, length, sum_by, slice_get, Some}
use Rattle.std.specs.Option.{option_map_or}
use Rattle.mdf_layout.specs.Layout.{Layout, record_size}
use Rattle.mdf_layout.specs.Rule.{is_variable}
use Rattle.mdf_layout.specs.Values.{bytes_in}
use Rattle.mdf_layout.specs.Written.{AreEntriesOf}
use Rattle.mdf_layout.specs.declared.field.FieldRow.{FieldRow}
use Rattle.mdf_layout.specs.declared.sample.Entry.{Entry}
use Rattle.mdf_layout.specs.declared.sample.Sample.{Sample}

-- a sample of a group of these layouts, with an entry for each channel that it can have
pub record SampleFits (layouts : List Layout) (sample : Sample) : Type 0 where
  pub layout : Layout
  pub known : slice_get layouts sample.group ≡ Some layout
  pub entries : AreEntriesOf layout.rows sample.values

-- the values of the channels of variable length, in order
unfoldable pub long_values : List FieldRow → List Entry → List (List ℕ)
long_values [] entries = []
long_values (row ∷ rows) [] = []
long_values (row ∷ rows) (entry ∷ entries) =
    if is_variable row then bytes_in entry.value ∷ long_values rows entries else long_values rows entries

-- the value of a channel, where it is of variable length
abbrev pub long_value : FieldRow → Entry → List (List ℕ)
long_value row entry = if is_variable row then bytes_in entry.value ∷ [] else []

-- how long the record of a channel's value is, where it is of variable length: its id in a byte, its length in 4, and its
-- bytes; and those of all
abbrev pub value_record_size : FieldRow → Entry → ℕ
value_record_size row entry = if is_variable row then 5 + length (bytes_in entry.value) else 0

abbrev pub long_size : List FieldRow → List Entry → ℕ
long_size rows entries = sum_by (λ value. 5 + length value) (long_values rows entries)

-- how long the records of a sample are: that of its group with its id in a byte, and those of its values of variable length
abbrev pub encoded_size : List Layout → Sample → ℕ
encoded_size layouts sample = option_map_or (λ layout. 1 + record_size layout + long_size layout.rows sample.values) (slice_get layouts sample.group) 0

-- what the sample costs: about the memory that it takes, and more than it can add to a file
abbrev pub cost_of : List Layout → Sample → ℕ
cost_of layouts sample = encoded_size layouts sample + 96 + 40 * length sample.values

-- what samples cost in all, and how long their records are in all
abbrev pub history_cost : List Layout → List Sample → ℕ
history_cost layouts history = sum_by (cost_of layouts) history

abbrev pub history_size : List Layout → List Sample → ℕ
history_size layouts history = sum_by (encoded_size layouts) history
