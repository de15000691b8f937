-- The finalized file of a recording: its head, its history with one entry more, its first data group with true counts, one DT
-- with the records in their order, and an SD for each channel of variable length that names no group of values.
use Rattle.std.specs.Prelude.{ℕ, ◌+◌, List, [], ◌∷◌, ◌++◌, map, replicate, codes}
use Rattle.std.specs.Int.{to_le_bytes, w16}
use Rattle.mdf_format.specs.declared.kind.Kind.{Kind}
use Rattle.mdf_format.specs.declared.kind.Kind.TheVariants.{Dg, Dt, Sd}
use Rattle.mdf_block.specs.declared.link.Link.{Link}
use Rattle.mdf_block.specs.declared.link.Link.TheVariants as links
use Rattle.mdf_block.specs.declared.note.Note.{Note}
use Rattle.mdf_block.specs.Draft.{Placed, linked, written}
use Rattle.mdf_head.specs.declared.entry.History.{History}
use Rattle.mdf_group.specs.declared.row.DataRow.{DataRow}
use Rattle.mdf_tree.specs.Text.{note_link}
use Rattle.mdf_tree.specs.Group.{data_groups, past_data_group, data_group_blocks}
use Rattle.mdf_tree.specs.Head.{head_blocks, head_groups}
use Rattle.mdf_spell.specs.Titled.{titled_history}
use Rattle.mdf_spell.specs.Values.{group_numbers, named_groups, with_streams, own_streams}
use Rattle.mdf_spell.specs.declared.recovered.Recovered.{Recovered}
use Rattle.mdf_spell.specs.Counts.{counted_data}

-- the identification: finalized, version 4.10, no flags
abbrev pub finalized_ident : List ℕ
finalized_ident = codes "MDF     4.10    mdf4rec " ++ replicate 4 0 ++ to_le_bytes w16 410 ++ replicate 34 0

-- a block of data
abbrev pub data_block : Kind → List ℕ → Placed
data_block kind body = linked kind [] body

-- the links of the channels of variable length of the data group at block n to groups of values, where they name such
abbrev pub session_names : ℕ → DataRow → List Link
session_names n row = named_groups row.groups (group_numbers (data_groups n row) row.groups)

-- the block of a data group alone, at block n: with links to the next one, to its channel groups and to its data, and its comment
-- behind it
abbrev pub data_own : ℕ → ℕ → Link → Link → Link → Note → Placed
data_own n id_size next groups content comment = record {
  kind = Dg;
  links = next ∷ groups ∷ content ∷ note_link (n + 1) comment ∷ [];
  body = id_size ∷ replicate 7 0;
}

-- the data group from block n on, without its data, which is to stand behind it
abbrev pub session_tree : ℕ → Recovered → List Placed
session_tree n recovered =
    let row = recovered.row.now in
    let records = past_data_group n row in
    data_group_blocks n links.Nothing (links.Block records) (with_streams (records + 1) (session_names n row))
    (counted_data recovered.counts.now recovered.totals.now row)

-- the data: a block of the records, and one of the values of each channel of variable length that names no group of values
abbrev pub own_data : List Link → List ℕ → List (List ℕ) → List Placed
own_data names content streams = data_block Dt content ∷ map (data_block Sd) (own_streams names streams)

-- the data group from block n on, with its data behind it
unfoldable pub session_data : ℕ → Recovered → List Placed
session_data n recovered =
    session_tree n recovered ++ own_data (session_names n recovered.row.now) recovered.content.now recovered.streams.now

-- the history with the entry of this finalizing, at a time in ns
abbrev pub session_history : List History → ℕ → List History
session_history history now = titled_history history (codes "finalize") now

-- the blocks of the file before its data
unfoldable pub front_blocks : Recovered → ℕ → List Placed
front_blocks recovered now =
    let head = recovered.head.now in
    let entries = session_history recovered.history.now now in
    let n = head_groups head entries in
    head_blocks head entries (links.Block n) ++ session_tree n recovered

-- the blocks of the file
unfoldable pub session_blocks : Recovered → ℕ → List Placed
session_blocks recovered now =
    let head = recovered.head.now in
    let entries = session_history recovered.history.now now in
    let n = head_groups head entries in
    head_blocks head entries (links.Block n) ++ session_data n recovered

-- its bytes
abbrev pub session_file : Recovered → ℕ → List ℕ
session_file recovered now = written finalized_ident (session_blocks recovered now)
