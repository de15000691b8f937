-- Measurements that say the same have the same sorted file.
use Rattle.std.proofs.Common.{◌≡◌, ◌+◌, ℕ, Bool, false, List, [], ◌∷◌, ◌++◌, length, map, refl, sym, ◌∙◌, ap}
use Rattle.std.proofs.lemmas.List.{map-append}
use Rattle.std.specs.Prelude.{if◌then◌else◌}
use Rattle.std.specs.List.{AllZip}
use Rattle.mdf_format.specs.declared.kind.Kind.TheVariants.{Dt, Sd}
use Rattle.mdf_block.specs.declared.link.Link.{Link}
use Rattle.mdf_block.specs.declared.link.Link.TheVariants as links
use Rattle.mdf_block.specs.declared.note.Note.{Note}
use Rattle.mdf_block.specs.Draft.{Placed, written}
use Rattle.mdf_head.specs.declared.entry.Head.{Head}
use Rattle.mdf_head.specs.declared.entry.History.{History}
use Rattle.mdf_group.specs.declared.row.ChannelRow.{ChannelRow}
use Rattle.mdf_group.specs.declared.row.GroupRow.{GroupRow}
use Rattle.mdf_group.specs.declared.row.DataRow.{DataRow}
use Rattle.mdf_group.specs.Group.{is_variable}
use Rattle.mdf_tree.specs.Text.{note_blocks, note_link}
use Rattle.mdf_tree.specs.Group.{next_link, past_channel, past_channels, value_link, values_behind, channel_blocks, channel_parts, channels_blocks, source_part, source_link, group_source, group_comment, group_channels, group_values, group_own, group_blocks, groups_blocks, data_group_blocks}
use Rattle.mdf_tree.specs.Head.{entry_block, past_entry, past_history, history_blocks, header_block, head_blocks, head_groups, new_entry}
use Rattle.mdf_spell.specs.Recording.{block_links}
use Rattle.mdf_spell.specs.Session.{finalized_ident, data_block, data_own}
use Rattle.mdf_model.specs.declared.part.GroupPart.{GroupPart}
use Rattle.mdf_model.specs.declared.part.Measure.{Measure}
use Rattle.mdf_model.specs.Measurement.{Measured}
use Rattle.mdf_model.specs.Same.{plain_head, plain_channel, plain_size, plain_group}
use Rattle.tool_sort.specs.Kept.{plain_entry, SameRecords, rows_of}
use Rattle.tool_sort.specs.Same.{AreOfSamples, SameMeasured}
use Rattle.tool_sort.specs.Sorted.{sorted_group, group_number, records_number, past_part, part_blocks, measures_blocks, sorted_history, first_measure, sorted_blocks, sorted_file}

-- lists of the same length
next_same : {A B : Type 0} (n : ℕ) (f : A → B) (xs : List A) → next_link n (map f xs) ≡ next_link n xs
next_same n f [] = refl
next_same n f (x ∷ xs) = refl

-- channels are placed by what they say
past_same : (n : ℕ) (rows : List ChannelRow) → past_channels n (map plain_channel rows) ≡ past_channels n rows
unfolding past_channels
past_same n [] = refl
past_same n (row ∷ rows) = past_same (past_channel n row) rows

channels_same : (n : ℕ) (values : List Link) (rows : List ChannelRow) → channels_blocks n values rows ≡ channels_blocks n values (map plain_channel rows)
unfolding channels_blocks channel_blocks channel_parts
channels_same n values [] = refl
channels_same n values (row ∷ rows) =
    let next = past_channel n row in
    let more = channels_blocks next (values_behind values row) rows in
    ap (λ (link : Link). channel_blocks n link (value_link values row) row ++ more) (sym (next_same next plain_channel rows))
    ∙ ap (λ (xs : List Placed). channel_blocks n (next_link next (map plain_channel rows)) (value_link values row) row ++ xs)
    (channels_same next (values_behind values row) rows)

-- so are channel groups
group_same : (n : ℕ) (next : Link) (values : List Link) (row : GroupRow)
    → group_blocks n next values row ≡ group_blocks n next values (record row { channels = map plain_channel row.channels })
unfolding group_blocks
group_same n next values row =
    let first = group_channels n row in
    let front : List Placed → List Placed = λ xs.
    note_blocks row.name ++ (source_part (group_source n row) row.source ++ (note_blocks row.comment ++ xs)) in
    let own : Link → Placed = λ link. record (group_own n next row) {
      links = next ∷ link ∷ note_link (n + 1) row.name ∷ source_link (group_source n row) row.source ∷ links.Nothing
          ∷ note_link (group_comment n row) row.comment ∷ [];
    } in
    ap (λ (link : Link). own link ∷ front (channels_blocks first (group_values values row) row.channels)) (sym (next_same first plain_channel row.channels))
    ∙ ap (λ (xs : List Placed). own (next_link first (map plain_channel row.channels)) ∷ front xs) (channels_same first (group_values values row) row.channels)

-- the group as it says of itself
abbrev plain_part : GroupPart → GroupPart
plain_part part = record part { row = plain_group part.row }

records_same : (n : ℕ) (part : GroupPart) → records_number n part ≡ records_number n (plain_part part)
records_same n part = sym (past_same (group_channels (group_number n part) part.row) part.row.channels)

behind_same : (n : ℕ) (part : GroupPart) → past_part n part ≡ past_part n (plain_part part)
behind_same n part = ap (λ (k : ℕ). k + 1 + length part.streams) (records_same n part)

-- a number that is the size of a record stays
size_kept : (of_values : Bool) (size : ℕ) → of_values ≡ false → (if of_values then 0 else size) ≡ size
size_kept of_values size samples = ap (λ (b : Bool). if b then 0 else size) samples

-- the data group of one channel group
abbrev one_row : Note → GroupRow → DataRow
one_row comment row = record { at = 0; id_size = 0; comment = comment; content = 0; groups = row ∷ [] }

row_same : (n : ℕ) (next content : Link) (values : List Link) (comment : Note) (row : GroupRow)
    → data_group_blocks n next content values (one_row comment row)
    ≡ data_group_blocks n next content values (one_row comment (record row { channels = map plain_channel row.channels }))
unfolding data_group_blocks groups_blocks
row_same n next content values comment row =
    let first = n + 1 + length (note_blocks comment) in
    ap (λ (xs : List Placed). data_own n 0 next (links.Block first) content comment ∷ (note_blocks comment ++ (xs ++ [])))
    (group_same first links.Nothing values row)

part_same : (n : ℕ) (next : Link) (part : GroupPart) (count : ℕ) → is_variable part.row ≡ false
    → part_blocks n next part count ≡ part_blocks n next (plain_part part) count
unfolding part_blocks data_group_blocks groups_blocks group_blocks
part_same n next part count samples =
    let row = part.row in
    let behind : List Placed = data_block Dt part.content ∷ map (data_block Sd) part.streams in
    let tree : ℕ → GroupRow → List Placed = λ records given.
    data_group_blocks n next (links.Block records) (block_links (records + 1) (length part.streams)) (one_row part.comment given) ++ behind in
    let sized : ℕ → ℕ → GroupRow = λ bytes inval. record row {
      at = 0;
      id = 0;
      cycles = count;
      data_bytes = bytes;
      inval_bytes = inval;
      channels = map plain_channel row.channels;
    } in
    let records = records_number n part in
    ap (λ (xs : List Placed). xs ++ behind)
    (row_same n next (links.Block records) (block_links (records + 1) (length part.streams)) part.comment (sorted_group part count))
    ∙ ap (λ (bytes : ℕ). tree records (sized bytes row.inval_bytes)) (sym (size_kept (is_variable row) row.data_bytes samples))
    ∙ ap (λ (inval : ℕ). tree records (sized (plain_size row row.data_bytes) inval)) (sym (size_kept (is_variable row) row.inval_bytes samples))
    ∙ ap (λ (r : ℕ). tree r (sized (plain_size row row.data_bytes) (plain_size row row.inval_bytes))) (records_same n part)

-- as long as one another
next_zip : {A B : Type 0} (R : A → B → Type 0) (n : ℕ) (xs : List A) (ys : List B) → AllZip R xs ys → next_link n xs ≡ next_link n ys
next_zip R n [] [] all = refl
next_zip R n [] (y ∷ ys) all = absurd all
next_zip R n (x ∷ xs) [] all = absurd all
next_zip R n (x ∷ xs) (y ∷ ys) all = refl

-- groups that say the same, and their records
module _ (m other : Measure) (row : plain_group m.part.row ≡ plain_group other.part.row) (records : SameRecords m other) where
  abbrev with_row : GroupRow → GroupPart
  with_row given = record m.part { row = given }

  part_is : plain_part m.part ≡ plain_part other.part
  part_is =
      ap (λ (given : GroupRow). record m.part { row = given }) row
      ∙ ap (λ (comment : Note). record m.part { row = plain_group other.part.row; comment = comment }) records.comment
      ∙ ap (λ (content : List ℕ). record m.part { row = plain_group other.part.row; comment = other.part.comment; content = content }) records.content
      ∙ ap (λ (streams : List (List ℕ)).
      record m.part { row = plain_group other.part.row; comment = other.part.comment; content = other.part.content; streams = streams }) records.streams

  past_is : (n : ℕ) → past_part n m.part ≡ past_part n other.part
  past_is n = behind_same n m.part ∙ ap (past_part n) part_is ∙ sym (behind_same n other.part)

  blocks_are : (n : ℕ) (next : Link) → is_variable m.part.row ≡ false → part_blocks n next m.part m.count ≡ part_blocks n next other.part other.count
  blocks_are n next samples =
      let others : is_variable other.part.row ≡ false = sym (ap (λ (given : GroupRow). is_variable given) row) ∙ samples in
      part_same n next m.part m.count samples
      ∙ ap (λ (part : GroupPart). part_blocks n next part m.count) part_is
      ∙ ap (part_blocks n next (plain_part other.part)) records.count
      ∙ sym (part_same n next other.part other.count others)

first_row : (one other : GroupRow) (rows others : List GroupRow) → one ∷ rows ≡ other ∷ others → (one ≡ other) × (rows ≡ others)
first_row one other rows others same = ((cc), (cc))

all_same : (n : ℕ) (groups others : List Measure) → map plain_group (rows_of groups) ≡ map plain_group (rows_of others)
    → AllZip SameRecords groups others → AreOfSamples groups → measures_blocks n groups ≡ measures_blocks n others
unfolding measures_blocks
all_same n [] [] rows records samples = refl
all_same n [] (other ∷ others) rows records samples = absurd records
all_same n (m ∷ rest) [] rows records samples = absurd records
all_same n (m ∷ rest) (other ∷ others) rows records samples =
    let first = first_row (plain_group m.part.row) (plain_group other.part.row) (map plain_group (rows_of rest)) (map plain_group (rows_of others)) rows in
    let past = past_part n m.part in
    let past_same = past_is m other first.0 records.0 n in
    ap (λ (link : Link). part_blocks n link m.part m.count ++ measures_blocks past rest) (next_zip SameRecords past rest others records.1)
    ∙ ap (λ (xs : List Placed). xs ++ measures_blocks past rest) (blocks_are m other first.0 records.0 n (next_link past others) samples.0)
    ∙ ap (λ (xs : List Placed). part_blocks n (next_link past others) other.part other.count ++ xs)
    (all_same past rest others first.1 records.1 samples.1)
    ∙ ap (λ (k : ℕ). part_blocks n (next_link k others) other.part other.count ++ measures_blocks k others) past_same

-- the history
past_plain : (n : ℕ) (entries : List History) → past_history n (map plain_entry entries) ≡ past_history n entries
unfolding past_history
past_plain n [] = refl
past_plain n (entry ∷ entries) = past_plain (past_entry n entry) entries

history_plain : (n : ℕ) (entries : List History) → history_blocks n entries ≡ history_blocks n (map plain_entry entries)
unfolding history_blocks
history_plain n [] = refl
history_plain n (entry ∷ entries) =
    let next = past_entry n entry in
    ap (λ (link : Link). (entry_block n link entry ∷ note_blocks entry.comment) ++ history_blocks next entries) (sym (next_same next plain_entry entries))
    ∙ ap (λ (xs : List Placed). (entry_block n (next_link next (map plain_entry entries)) entry ∷ note_blocks entry.comment) ++ xs) (history_plain next entries)

-- the head, by what it says
head_plain : (head : Head) (entries : List History) (link : Link) → head_blocks head entries link ≡ head_blocks (plain_head head) (map plain_entry entries) link
unfolding head_blocks
head_plain head entries link =
    let block : ℕ → Link → Placed = λ past first. header_block past first link head in
    ap (λ (past : ℕ). block past (next_link 1 entries) ∷ (history_blocks 1 entries ++ note_blocks head.comment)) (sym (past_plain 1 entries))
    ∙ ap (λ (first : Link). block (past_history 1 (map plain_entry entries)) first ∷ (history_blocks 1 entries ++ note_blocks head.comment))
    (sym (next_same 1 plain_entry entries))
    ∙ ap (λ (xs : List Placed). block (past_history 1 (map plain_entry entries)) (next_link 1 (map plain_entry entries)) ∷ (xs ++ note_blocks head.comment))
    (history_plain 1 entries)

groups_plain : (head : Head) (entries : List History) → head_groups head entries ≡ head_groups (plain_head head) (map plain_entry entries)
groups_plain head entries = ap (λ (past : ℕ). past + length (note_blocks head.comment)) (sym (past_plain 1 entries))

titled_plain : (m other : List History) (last : History) → map plain_entry m ≡ map plain_entry other
    → map plain_entry (m ++ last ∷ []) ≡ map plain_entry (other ++ last ∷ [])
titled_plain m other last same =
    map-append plain_entry m (last ∷ [])
    ∙ ap (λ (entries : List History). entries ++ plain_entry last ∷ []) same
    ∙ sym (map-append plain_entry other (last ∷ []))

pub file_same : (m other : Measured) (title : List ℕ) (now : ℕ) → SameMeasured m other → sorted_file m title now ≡ sorted_file other title now
unfolding sorted_blocks
file_same m other title now same =
    let entries = sorted_history m title now in
    let others = sorted_history other title now in
    let titled = titled_plain m.history other.history (new_entry title now) same.history in
    let number : first_measure m title now ≡ first_measure other title now =
    groups_plain m.head entries
    ∙ ap (λ (head : Head). head_groups head (map plain_entry entries)) same.head
    ∙ ap (head_groups (plain_head other.head)) titled
    ∙ sym (groups_plain other.head others) in
    let front : (link : Link) → head_blocks m.head entries link ≡ head_blocks other.head others link = λ link.
    head_plain m.head entries link
    ∙ ap (λ (head : Head). head_blocks head (map plain_entry entries) link) same.head
    ∙ ap (λ (given : List History). head_blocks (plain_head other.head) given link) titled
    ∙ sym (head_plain other.head others link) in
    let n = first_measure m title now in
    let link = next_link n m.groups in
    ap (written finalized_ident)
    (ap (λ (xs : List Placed). xs ++ measures_blocks n m.groups) (front link)
    ∙ ap (λ (given : Link). head_blocks other.head others given ++ measures_blocks n m.groups) (next_zip SameRecords n m.groups other.groups same.records)
    ∙ ap (λ (xs : List Placed). head_blocks other.head others (next_link n other.groups) ++ xs)
    (all_same n m.groups other.groups same.rows same.records same.samples)
    ∙ ap (λ (k : ℕ). head_blocks other.head others (next_link k other.groups) ++ measures_blocks k other.groups) number)
