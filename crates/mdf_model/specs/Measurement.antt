-- The measurement of a finalized file.
use Rattle.std.specs.Prelude.{ℕ, ◌≡◌, Bool, ◌&&◌, not, nat_eq, List, [], ◌∷◌, filter, slice_index_or, slice_set, Option, Result, Ok, Err}
use Rattle.std.specs.List.{flat_map, list_all, zip}
use Rattle.mdf_block.specs.declared.note.Note.{Note}
use Rattle.mdf_num.specs.declared.halt.Halt.{Halt}
use Rattle.mdf_block.specs.Refusal.{Halts, Read, Refusal, ◌>>=◌}
use Rattle.mdf_head.specs.declared.entry.Head.{Head}
use Rattle.mdf_head.specs.declared.identity.Ident.{Ident}
use Rattle.mdf_head.specs.declared.entry.History.{History}
use Rattle.mdf_group.specs.declared.row.GroupRow.{GroupRow}
use Rattle.mdf_group.specs.declared.row.DataRow.{DataRow}
use Rattle.mdf_group.specs.Group.{is_variable}
use Rattle.mdf_layout.specs.declared.sample.Entry.{Entry}
use Rattle.mdf_content.specs.Samples.{sample_at, AreSamples}
use Rattle.mdf_content.specs.declared.contents.Contents.{Contents}
use Rattle.mdf_content.specs.declared.contents.DataContents.{DataContents}
use Rattle.mdf_model.specs.declared.part.Measure.{Measure}
use Rattle.mdf_model.specs.declared.whole.Whole.{Whole}
use Rattle.mdf_model.specs.declared.whole.WholeFound.{WholeFound}
use Rattle.mdf_model.specs.Found.{whole, whole_fetched, whole_found}

-- the records of the group are samples, and not values of a channel of variable length
abbrev pub holds_samples : GroupRow → Bool
holds_samples row = not (is_variable row)

-- a group with the comment of its data group and with what it holds
abbrev pub measure_of : Note → GroupRow → Contents → Measure
measure_of comment row contents = record {
  part = record { row = row; comment = comment; content = contents.content; streams = contents.streams };
  shape = contents.shape;
  count = contents.count;
}

-- what a group holds
abbrev pub contents_of : Measure → Contents
contents_of m = record { shape = m.shape; count = m.count; content = m.part.content; streams = m.part.streams }

-- groups with what they hold, one by one
abbrev pub one_measure : Note → GroupRow × Contents → List Measure
one_measure comment pair = measure_of comment pair.0 pair.1 ∷ []

abbrev pub paired : Note → List GroupRow → List Contents → List Measure
paired comment rows found = flat_map (one_measure comment) (zip rows found)

abbrev pub data_measures : DataRow → DataContents → List Measure
data_measures row found = paired row.comment (filter holds_samples row.groups) found.groups

-- those of all data groups
abbrev pub pair_measures : DataRow × DataContents → List Measure
pair_measures pair = data_measures pair.0 pair.1

abbrev pub measures : List DataRow → List DataContents → List Measure
measures rows found = flat_map pair_measures (zip rows found)

-- each record of a group has a sample
abbrev pub HasSamples : Measure → Type 0
HasSamples m = AreSamples m.shape m.count m.part.content m.part.streams

-- the sample of record i of a group; the index is that of the record
abbrev pub sample_of : Measure → ℕ → Option (List Entry)
sample_of m i = sample_at m.shape m.part.content m.part.streams i

-- the group with other records
abbrev pub with_content : Measure → ℕ → List ℕ → List (List ℕ) → Measure
with_content m count content streams = record m { part = record m.part { content = content; streams = streams }; count = count }

-- the parts of a measurement: the header, the history, the groups whose records are samples in the order of the links, how
-- many links were passed over, and whether the file is as the standard has a finalized one
pub record Measured : Type 0 where
  pub head : Head
  pub history : List History
  pub groups : List Measure
  pub dropped : ℕ
  pub strict : Bool

-- no flag of an unfinalized file is set, and each data group is as the standard has it
abbrev pub are_strict : {A : Type 0} → (A → Bool) → Ident → List A → Bool
are_strict strict ident items = nat_eq ident.std_flags 0 && (nat_eq ident.custom_flags 0 && list_all strict items)

abbrev pub is_strict : Whole → Bool
is_strict all = are_strict (λ (found : DataContents). found.strict) all.ident all.contents

abbrev pub measured : Whole → Measured
measured all = record {
  head = all.tree.head;
  history = all.tree.history;
  groups = measures all.tree.rows all.contents;
  dropped = all.tree.dropped;
  strict = is_strict all;
}

-- the measurement with other records of one of its groups, and all else as it is
abbrev pub with_records : Measured → ℕ → ℕ → List ℕ → List (List ℕ) → Measure → Measured
with_records m group count content streams d =
    record m { groups = slice_set m.groups group (with_content (slice_index_or m.groups group d) count content streams) }

-- the measurement of a file, or the first reason to refuse it
unfoldable pub measurement : List ℕ → Read Measured
measurement file = whole file >>= λ all. Ok (measured all)

-- its measurement
abbrev pub measured_from : List ℕ → WholeFound → Measured
measured_from file all = measured (whole_fetched file all)

-- what is found of a file is measured, or it is refused
abbrev pub found_measurement : List ℕ → Read Measured
found_measurement file = whole_found file >>= λ all. Ok (measured_from file all)

-- an answer of a reader over a span is seen as what is found, or is the first reason to refuse
abbrev pub GivesSeen : {E A B : Type 0} → (E → Option Refusal) → (A → B) → Result A (Halt E) → Read B → Type 0
GivesSeen refusal see (Ok x) read = read ≡ Ok (see x)
GivesSeen refusal see (Err halt) read = Halts refusal halt read
