-- The reader finds the groups of a recording's head.
use Rattle.std.proofs.Common.{◌≡◌, ◌+◌, ◌*◌, ◌≤◌, ℕ, zero, suc, List, [], ◌∷◌, ◌++◌, length, get_or, Result, Ok, Err, refl, ap, subst, arith, length-append}
use Rattle.std.proofs.lemmas.List.Sums.{sum_by-cons, sum_by-append}
use Rattle.std.specs.Prelude.{sum_by, IfOk}
use Rattle.std.specs.List.{AllByRecursion}
use Rattle.mdf_format.specs.declared.form.Form.{Form}
use Rattle.mdf_format.specs.Block.{name_of, IsBlock}
use Rattle.mdf_format.specs.declared.kind.Kind.{Kind}
use Rattle.mdf_format.specs.declared.kind.Kind.TheVariants.{Hd, Fh, Dg, Cg, Cn, Cc, Si, Tx, Md, Dt, Dl, Sd, At}
use Rattle.mdf_block.specs.declared.link.Link.{Link}
use Rattle.mdf_block.specs.declared.note.Note.{Note}
use Rattle.mdf_block.specs.declared.note.Note.TheVariants as notes
use Rattle.mdf_block.specs.Text.{note_size}
use Rattle.mdf_block.specs.Draft.{Placed, address_of}
use Rattle.mdf_group.specs.declared.row.ChannelRow.{ChannelRow}
use Rattle.mdf_group.specs.declared.row.GroupRow.{GroupRow}
use Rattle.mdf_group.specs.declared.row.DataRow.{DataRow}
use Rattle.mdf_group.specs.Recordable.{IsName, IsUnitName, IsRecordableChannel, IsRecordableGroup, AreRecordable}
use Rattle.mdf_group.proofs.Reached.{IsPlainChannel, IsPlainGroup, channel_text, group_text, group_size, data_size, data_text, groups_reached}
use Rattle.mdf_tree.specs.Text.{note_blocks}
use Rattle.mdf_tree.specs.Group.{past_channel, value_link, values_behind, placed_channel, placed_channels, group_channels, past_group, group_values, group_values_behind, placed_group, placed_groups}
use Rattle.mdf_spell.specs.Recording.{numbered, values_rows, variable_count, value_links, recording_groups, recording_blocks, recorded_row, recorded_head, recorded_history, head_file, IsRecordingTree, FindsHead, FindsGroups}
use Rattle.mdf_tree.specs.Head.{placed_history}
use Rattle.mdf_tree.proofs.Placing.{all_append}
use Rattle.mdf_head.proofs.Reached.{head_reached}

module _ (blocks : List Placed) where
  channels_plain : (n : ℕ) (values : List Link) (rows : List ChannelRow) → AllByRecursion IsPlainChannel rows
      → AllByRecursion IsPlainChannel (placed_channels blocks n values rows)
  unfolding placed_channels
  channels_plain n values [] are = tt
  channels_plain n values (row ∷ rows) are = (
    record { source = are.0.source; conv = are.0.conv },
    channels_plain (past_channel n row) (values_behind values row) rows are.1,
  )

  channels_many : (n : ℕ) (values : List Link) (rows : List ChannelRow) → length (placed_channels blocks n values rows) ≡ length rows
  unfolding placed_channels
  channels_many n values [] = refl
  channels_many n values (row ∷ rows) = ap suc (channels_many (past_channel n row) (values_behind values row) rows)

  channels_texts : (n : ℕ) (values : List Link) (rows : List ChannelRow)
      → sum_by channel_text (placed_channels blocks n values rows) ≡ sum_by channel_text rows
  unfolding placed_channels
  channels_texts n values [] = refl
  channels_texts n values (row ∷ rows) =
      let first = placed_channel blocks n (value_link values row) row in
      let rest = placed_channels blocks (past_channel n row) (values_behind values row) rows in
      omega (
        arith,
        sum_by-cons channel_text first rest,
        sum_by-cons channel_text row rows,
        channels_texts (past_channel n row) (values_behind values row) rows,
      )

  groups_plain : (n : ℕ) (values : List Link) (rows : List GroupRow) → AllByRecursion IsPlainGroup rows
      → AllByRecursion IsPlainGroup (placed_groups blocks n values rows)
  unfolding placed_groups
  groups_plain n values [] are = tt
  groups_plain n values (row ∷ rows) are = (
    record { source = are.0.source; channels = channels_plain (group_channels n row) (group_values values row) row.channels are.0.channels },
    groups_plain (past_group n row) (group_values_behind values row) rows are.1,
  )

  groups_many : (n : ℕ) (values : List Link) (rows : List GroupRow) → length (placed_groups blocks n values rows) ≡ length rows
  unfolding placed_groups
  groups_many n values [] = refl
  groups_many n values (row ∷ rows) = ap suc (groups_many (past_group n row) (group_values_behind values row) rows)

  groups_sizes : (n : ℕ) (values : List Link) (rows : List GroupRow)
      → sum_by group_size (placed_groups blocks n values rows) ≡ sum_by group_size rows
  unfolding placed_groups
  groups_sizes n values [] = refl
  groups_sizes n values (row ∷ rows) =
      let first = placed_group blocks n values row in
      let rest = placed_groups blocks (past_group n row) (group_values_behind values row) rows in
      omega (
        arith,
        sum_by-cons group_size first rest,
        sum_by-cons group_size row rows,
        channels_many (group_channels n row) (group_values values row) row.channels,
        groups_sizes (past_group n row) (group_values_behind values row) rows,
      )

  groups_texts : (n : ℕ) (values : List Link) (rows : List GroupRow)
      → sum_by group_text (placed_groups blocks n values rows) ≡ sum_by group_text rows
  unfolding placed_groups
  groups_texts n values [] = refl
  groups_texts n values (row ∷ rows) =
      let first = placed_group blocks n values row in
      let rest = placed_groups blocks (past_group n row) (group_values_behind values row) rows in
      omega (
        arith,
        sum_by-cons group_text first rest,
        sum_by-cons group_text row rows,
        channels_texts (group_channels n row) (group_values values row) row.channels,
        groups_texts (past_group n row) (group_values_behind values row) rows,
      )

-- a name and a unit are short
name_short : (note : Note) → IsName note → note_size note ≤ 64
name_short notes.Nothing is = absurd is
name_short (notes.Plain bytes) is = is.few
name_short (notes.Xml bytes) is = absurd is

unit_short : (note : Note) → IsUnitName note → note_size note ≤ 64
unit_short notes.Nothing is = omega arith
unit_short (notes.Plain bytes) is = is.few
unit_short (notes.Xml bytes) is = absurd is

nothing_short : (note : Note) → note ≡ notes.Nothing → note_size note ≡ 0
nothing_short note is = ap (λ (n : Note). note_size n) is

channels_short : (rows : List ChannelRow) → AllByRecursion IsRecordableChannel rows → sum_by channel_text rows ≤ 128 * length rows
channels_short [] are = omega arith
channels_short (row ∷ rows) are =
    omega (
      arith,
      sum_by-cons channel_text row rows,
      name_short row.name are.0.name,
      unit_short row.unit are.0.unit,
      nothing_short row.comment are.0.comment,
      channels_short rows are.1,
    )

channels_are_plain : (rows : List ChannelRow) → AllByRecursion IsRecordableChannel rows → AllByRecursion IsPlainChannel rows
channels_are_plain [] are = tt
channels_are_plain (row ∷ rows) are = (record { source = are.0.source; conv = are.0.conv }, channels_are_plain rows are.1)

-- the groups to be recorded
numbered_plain : (id : ℕ) (rows : List GroupRow) → AllByRecursion IsRecordableGroup rows → AllByRecursion IsPlainGroup (numbered id rows)
unfolding numbered
numbered_plain id [] are = tt
numbered_plain id (row ∷ rows) are =
    (record { source = are.0.source; channels = channels_are_plain row.channels are.0.each }, numbered_plain (id + 1) rows are.1)

pub numbered_many : (id : ℕ) (rows : List GroupRow) → length (numbered id rows) ≡ length rows
unfolding numbered
numbered_many id [] = refl
numbered_many id (row ∷ rows) = ap suc (numbered_many (id + 1) rows)

numbered_sizes : (id : ℕ) (rows : List GroupRow) → sum_by group_size (numbered id rows) ≡ sum_by group_size rows
unfolding numbered
numbered_sizes id [] = refl
numbered_sizes id (row ∷ rows) =
    omega (
      arith,
      sum_by-cons group_size (record row { id = id; cycles = 0 }) (numbered (id + 1) rows),
      sum_by-cons group_size row rows,
      numbered_sizes (id + 1) rows,
    )

numbered_short : (id : ℕ) (rows : List GroupRow) → AllByRecursion IsRecordableGroup rows
    → sum_by group_text (numbered id rows) ≤ 64 * length rows + 128 * sum_by group_size rows
unfolding numbered
numbered_short id [] are = omega arith
numbered_short id (row ∷ rows) are =
    omega (
      arith,
      sum_by-cons group_text (record row { id = id; cycles = 0 }) (numbered (id + 1) rows),
      sum_by-cons group_size row rows,
      name_short row.name are.0.name,
      nothing_short row.comment are.0.comment,
      channels_short row.channels are.0.each,
      numbered_short (id + 1) rows are.1,
    )

-- the groups of values
values_plain : (id count : ℕ) → AllByRecursion IsPlainGroup (values_rows id count)
unfolding values_rows
values_plain id zero = tt
values_plain id (suc count) = (record { source = refl; channels = tt }, values_plain (id + 1) count)

pub values_many : (id count : ℕ) → length (values_rows id count) ≡ count
unfolding values_rows
values_many id zero = refl
values_many id (suc count) = ap suc (values_many (id + 1) count)

values_sizes : (id count : ℕ) → sum_by group_size (values_rows id count) ≡ 0
unfolding values_rows
values_sizes id zero = refl
values_sizes id (suc count) = values_sizes (id + 1) count

values_short : (id count : ℕ) → sum_by group_text (values_rows id count) ≡ 0
unfolding values_rows
values_short id zero = refl
values_short id (suc count) = values_short (id + 1) count

-- no block stands where the identification does
first_sign : (kind : Kind) → get_or (name_of kind) 0 0 ≡ 35
first_sign Hd = refl
first_sign Fh = refl
first_sign Dg = refl
first_sign Cg = refl
first_sign Cn = refl
first_sign Cc = refl
first_sign Si = refl
first_sign Tx = refl
first_sign Md = refl
first_sign Dt = refl
first_sign Dl = refl
first_sign Sd = refl
first_sign At = refl

pub no_block_first : (rest : List ℕ) (kind : Kind) → IsBlock (85 ∷ 110 ∷ 70 ∷ 105 ∷ rest) 0 kind → ⊥
no_block_first rest kind is =
    let named : 85 ≡ get_or (name_of kind) 0 0 = ap (λ (xs : List ℕ). get_or xs 0 0) is.named in
    omega (arith, named, first_sign kind)

pub recording_head_found : (file : List ℕ) (start : ℕ) (rows : List GroupRow) → (IsBlock file 0 Fh → ⊥)
    → IsRecordingTree file start rows → FindsHead file start rows
unfolding placed_history
recording_head_found file start rows none tree = λ left enough.
    head_reached file left (recorded_head start rows) (recorded_history start rows) none tree.head (omega arith) (omega (arith, enough))

pub recording_found : (file : List ℕ) (start : ℕ) (rows : List GroupRow) → AreRecordable rows → ((kind : Kind) → IsBlock file 0 kind → ⊥)
    → IsRecordingTree file start rows → FindsGroups file start rows
unfolding note_blocks
recording_found file start rows are none tree = λ left enough.
    let blocks = recording_blocks start rows in
    let values = value_links rows in
    let whole = recording_groups rows in
    let front = numbered 1 rows in
    let count = variable_count rows in
    let back = values_rows (length rows + 1) count in
    let plain = groups_plain blocks 4 values whole
    (all_append IsPlainGroup front back (numbered_plain 1 rows are.each) (values_plain (length rows + 1) count)) in
    let many = groups_many blocks 4 values whole in
    let sizes = groups_sizes blocks 4 values whole in
    let texts = groups_texts blocks 4 values whole in
    let row = recorded_row start rows in
    let channels : sum_by group_size whole ≤ 1024 =
    omega (
      arith,
      sum_by-append group_size front back,
      numbered_sizes 1 rows,
      values_sizes (length rows + 1) count,
      are.channels,
    ) in
    let short : sum_by group_text whole ≤ 135168 =
    omega (
      arith,
      sum_by-append group_text front back,
      numbered_short 1 rows are.each,
      values_short (length rows + 1) count,
      are.few,
      are.channels,
    ) in
    let several : length whole ≤ 192 =
    omega (arith, length-append front back, numbered_many 1 rows, values_many (length rows + 1) count, are.few, are.variable) in
    groups_reached file (address_of blocks 3) left (row ∷ []) (none Cn) (none Cg) (none Dg) tree.groups (plain, tt) (omega arith)
    (omega (arith, sum_by-cons (λ (r : DataRow). length r.groups) row [], many, several))
    (omega (arith, sum_by-cons data_size row [], sizes, channels))
    (omega (arith, sum_by-cons data_text row [], texts, short, enough))

-- what follows from two facts of an answer
pub both_if : {A E : Type 0} (P Q R : A → Type 0) (result : Result A E) → ((x : A) → P x → Q x → R x) → IfOk result P → IfOk result Q → IfOk result R
both_if P Q R (Ok x) join p q = join x p q
both_if P Q R (Err e) join p q = tt

-- a recording's head begins with no block
pub head_first : (bytes more : List ℕ) (form : Form) (start : ℕ) (rows : List GroupRow) → bytes ≡ head_file form start rows → (kind : Kind) → IsBlock (bytes ++ more) 0 kind → ⊥
head_first bytes more form start rows is kind there =
    let begun = subst (λ (xs : List ℕ). IsBlock (xs ++ more) 0 kind) is there in no_block_first _ kind begun
