-- The sorted file of a measurement: its header, its history with one entry more, and a data group for each of its groups, without
-- record ids: one DT with the records as they are, and behind it an SD with the values of each channel of variable length.
use Rattle.std.specs.Prelude.{ℕ, ◌≡◌, ◌⊎◌, ◌+◌, List, [], ◌∷◌, ◌++◌, length, map, codes}
use Rattle.mdf_format.specs.declared.kind.Kind.TheVariants.{Dt, Sd}
use Rattle.mdf_block.specs.declared.link.Link.{Link}
use Rattle.mdf_block.specs.declared.link.Link.TheVariants as links
use Rattle.mdf_block.specs.Draft.{Placed, written}
use Rattle.mdf_head.specs.declared.entry.History.{History}
use Rattle.mdf_group.specs.declared.row.GroupRow.{GroupRow}
use Rattle.mdf_group.specs.declared.row.DataRow.{DataRow}
use Rattle.mdf_tree.specs.Text.{note_blocks}
use Rattle.mdf_tree.specs.Group.{next_link, past_group, data_group_blocks}
use Rattle.mdf_tree.specs.Head.{head_blocks, head_groups}
use Rattle.mdf_spell.specs.Recording.{block_links}
use Rattle.mdf_spell.specs.Titled.{titled_history}
use Rattle.mdf_spell.specs.Session.{finalized_ident, data_block}
use Rattle.mdf_model.specs.declared.part.GroupPart.{GroupPart}
use Rattle.mdf_model.specs.declared.part.Measure.{Measure}
use Rattle.mdf_model.specs.Measurement.{Measured}

-- what is done when a sorted file is made
abbrev pub IsTitle : List ℕ → Type 0
IsTitle title = (title ≡ codes "sort") ⊎ ((title ≡ codes "cut") ⊎ ((title ≡ codes "concat") ⊎ ((title ≡ codes "attach") ⊎ (title ≡ codes "finalize"))))

-- a channel group without a record id, with as many records as it has
abbrev pub sorted_group : GroupPart → ℕ → GroupRow
sorted_group part count = record part.row { id = 0; cycles = count }

-- the data group of this channel group alone, with the comment of the data group in which it stood
abbrev pub sorted_row : GroupPart → ℕ → DataRow
sorted_row part count = record { at = 0; id_size = 0; comment = part.comment; content = 0; groups = sorted_group part count ∷ [] }

-- where the channel group stands if the data group is block n; its records stand behind it, and its values behind these
abbrev pub group_number : ℕ → GroupPart → ℕ
group_number n part = n + 1 + length (note_blocks part.comment)

abbrev pub records_number : ℕ → GroupPart → ℕ
records_number n part = past_group (group_number n part) part.row

abbrev pub values_number : ℕ → GroupPart → ℕ
values_number n part = records_number n part + 1

-- the block behind all of it
abbrev pub past_part : ℕ → GroupPart → ℕ
past_part n part = values_number n part + length part.streams

-- the links of its channels of variable length to their values, in order
abbrev pub values_links : ℕ → GroupPart → List Link
values_links n part = block_links (values_number n part) (length part.streams)

-- the data group at block n with its comment and its channel group
abbrev pub tree_blocks : ℕ → Link → GroupPart → ℕ → List Placed
tree_blocks n next part count =
    data_group_blocks n next (links.Block (records_number n part)) (values_links n part) (sorted_row part count)

-- the same with its data behind it: its records, and its values
unfoldable pub part_blocks : ℕ → Link → GroupPart → ℕ → List Placed
part_blocks n next part count =
    tree_blocks n next part count ++ (data_block Dt part.content ∷ map (data_block Sd) part.streams)

-- the groups from block n on, each linked to the next one
unfoldable pub measures_blocks : ℕ → List Measure → List Placed
measures_blocks n [] = []
measures_blocks n (m ∷ rest) =
    part_blocks n (next_link (past_part n m.part) rest) m.part m.count ++ measures_blocks (past_part n m.part) rest

-- the history with one entry more, which says what was done at a time in ns, and the first block behind the head
abbrev pub sorted_history : Measured → List ℕ → ℕ → List History
sorted_history m title now = titled_history m.history title now

abbrev pub first_measure : Measured → List ℕ → ℕ → ℕ
first_measure m title now = head_groups m.head (sorted_history m title now)

-- the blocks of the file
unfoldable pub sorted_blocks : Measured → List ℕ → ℕ → List Placed
sorted_blocks m title now =
    let n = first_measure m title now in
    head_blocks m.head (sorted_history m title now) (next_link n m.groups) ++ measures_blocks n m.groups

-- its bytes
abbrev pub sorted_file : Measured → List ℕ → ℕ → List ℕ
sorted_file m title now = written finalized_ident (sorted_blocks m title now)
