-- The head of a recording: identification, head with one entry of the history, and one data group with the groups to be
-- recorded, and behind them one group of values for each channel of variable length.
use Rattle.std.specs.Prelude.{ℕ, zero, suc, ◌≡◌, ◌≤◌, ◌+◌, Ok, pos, List, [], ◌∷◌, ◌++◌, length, filter, sum_by, replicate, codes, None}
use Rattle.std.specs.Int.{to_le_bytes, w16}
use Rattle.mdf_format.specs.Form.{custom_word, standard_word}
use Rattle.mdf_format.specs.declared.form.Form.{Form}
use Rattle.mdf_format.specs.declared.kind.Kind.TheVariants.{Dg}
use Rattle.mdf_block.specs.declared.link.Link.{Link}
use Rattle.mdf_block.specs.declared.link.Link.TheVariants as links
use Rattle.mdf_block.specs.declared.note.Note.TheVariants as notes
use Rattle.mdf_block.specs.Draft.{Placed, address_of, written}
use Rattle.mdf_head.specs.declared.entry.Head.{Head}
use Rattle.mdf_head.specs.declared.entry.History.{History}
use Rattle.mdf_head.specs.Head.{IsHead}
use Rattle.mdf_head.specs.Head as reading
use Rattle.mdf_group.specs.declared.row.GroupRow.{GroupRow}
use Rattle.mdf_group.specs.declared.row.DataRow.{DataRow}
use Rattle.mdf_conv.specs.declared.limits.Budget.{Budget}
use Rattle.mdf_group.specs.Group.{groups}
use Rattle.mdf_group.specs.Recordable.{is_of_values}
use Rattle.mdf_group.specs.Standing.{AreDataGroups}
use Rattle.mdf_tree.specs.Group.{past_groups, groups_blocks, data_group_blocks, placed_data_group}
use Rattle.mdf_tree.specs.Head.{head_blocks, placed_history, new_entry}

-- the identification: unfinalized, version 4.10, and the words of the form
abbrev pub recording_ident : Form → List ℕ
recording_ident form =
    codes "UnFinMF 4.10    mdf4rec " ++ replicate 4 0 ++ to_le_bytes w16 410 ++ replicate 30 0
    ++ to_le_bytes w16 (standard_word form) ++ to_le_bytes w16 (custom_word form)

-- a head with this start time in ns; all else is 0
abbrev pub start_head : ℕ → Head
start_head start = record {
  start = start;
  zone = pos 0;
  daylight = pos 0;
  time_flags = 0;
  time_class = 0;
  flags = 0;
  angle = 0;
  distance = 0;
  comment = notes.Nothing;
  first_dg = 0;
}

-- record ids counted from a first one, and no cycles yet
unfoldable pub numbered : ℕ → List GroupRow → List GroupRow
numbered id [] = []
numbered id (row ∷ rows) = record row { id = id; cycles = 0 } ∷ numbered (id + 1) rows

-- a group of values, and so many of them with ids counted from a first one
abbrev pub values_row : ℕ → GroupRow
values_row id = record {
  at = 0;
  id = id;
  cycles = 0;
  flags = 1;
  separator = 0;
  data_bytes = 0;
  inval_bytes = 0;
  name = notes.Nothing;
  source = None;
  comment = notes.Nothing;
  channels = [];
}

unfoldable pub values_rows : ℕ → ℕ → List GroupRow
values_rows id zero = []
values_rows id (suc count) = values_row id ∷ values_rows (id + 1) count

-- how many channels have values of variable length
abbrev pub variable_count : List GroupRow → ℕ
variable_count rows = sum_by (λ row. length (filter is_of_values row.channels)) rows

-- links to so many blocks one behind the other, from block n on
unfoldable pub block_links : ℕ → ℕ → List Link
block_links n zero = []
block_links n (suc count) = links.Block n ∷ block_links (n + 1) count

-- the channel groups of a recording: those to be recorded, and those of values
abbrev pub recording_groups : List GroupRow → List GroupRow
recording_groups rows = numbered 1 rows ++ values_rows (length rows + 1) (variable_count rows)

-- the groups to be recorded are placed, before so many groups of values, whatever links to values are left for those
abbrev pub ArePlacedBefore : List Placed → List Placed → List Link → List GroupRow → ℕ → Type 0
ArePlacedBefore old new values rows count =
    (left : List Link) → new ++ groups_blocks (length new) left (values_rows (length rows + 1) count)
    ≡ old ++ groups_blocks (length old) values (numbered 1 rows ++ values_rows (length rows + 1) count)

-- the data group of a recording: record ids of one byte, the groups, and the groups of values
abbrev pub recording_row : List GroupRow → DataRow
recording_row rows = record {
  at = 0;
  id_size = 1;
  comment = notes.Nothing;
  content = 0;
  groups = recording_groups rows;
}

-- HD is block 0, FH block 1 and its comment block 2, so the data group is block 3 and its first channel group block 4;
-- the first group of values stands behind the groups
abbrev pub first_values : List GroupRow → ℕ
first_values rows = past_groups 4 rows

abbrev pub value_links : List GroupRow → List Link
value_links rows = block_links (first_values rows) (variable_count rows)

-- the block of the data group alone
abbrev pub recording_data : Placed
recording_data = record {
  kind = Dg;
  links = links.Nothing ∷ links.Block 4 ∷ links.End ∷ links.Nothing ∷ [];
  body = 1 ∷ replicate 7 0;
}

unfoldable pub recording_blocks : ℕ → List GroupRow → List Placed
recording_blocks start rows =
    head_blocks (start_head start) (new_entry (codes "record") start ∷ []) (links.Block 3)
    ++ data_group_blocks 3 links.Nothing links.End (value_links rows) (recording_row rows)

-- the bytes that a recording of this form begins with
abbrev pub head_file : Form → ℕ → List GroupRow → List ℕ
head_file form start rows = written (recording_ident form) (recording_blocks start rows)

-- the data group as it stands then
abbrev pub recorded_row : ℕ → List GroupRow → DataRow
recorded_row start rows = placed_data_group (recording_blocks start rows) 3 links.End (value_links rows) (recording_row rows)

-- the header and the history as they stand then
abbrev pub recorded_head : ℕ → List GroupRow → Head
recorded_head start rows = record (start_head start) { first_dg = address_of (recording_blocks start rows) 3 }

abbrev pub recorded_history : ℕ → List GroupRow → List History
recorded_history start rows = placed_history (recording_blocks start rows) 1 (new_entry (codes "record") start ∷ [])

-- the head and the groups of a recording stand in the file, behind which its data begin
pub record IsRecordingTree (file : List ℕ) (start : ℕ) (rows : List GroupRow) : Type 0 where
  pub head : IsHead file (recorded_head start rows) (recorded_history start rows)
  pub groups : AreDataGroups file (address_of (recording_blocks start rows) 3) (recorded_row start rows ∷ [])

-- a reader of the file whose texts may still have so many bytes finds the header and the history: 125 for the entry
abbrev pub FindsHead : List ℕ → ℕ → List GroupRow → Type 0
FindsHead file start rows =
    (left : ℕ) → 125 ≤ left
    → (rest : ℕ) × (reading.head file left ≡ Ok ((recorded_head start rows, recorded_history start rows), rest))

-- a reader of the file whose texts may still have so many bytes finds these groups: 64 for each name and unit
abbrev pub FindsGroups : List ℕ → ℕ → List GroupRow → Type 0
FindsGroups file start rows =
    (left : Budget) → 135168 ≤ left.text
    → (rest : Budget) × (groups file (address_of (recording_blocks start rows) 3) left ≡ Ok (recorded_row start rows ∷ [], rest))
