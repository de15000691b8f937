-- What is written anew says the same.
use Rattle.std.proofs.Common.{◌≡◌, ◌+◌, ◌/◌, ◌%◌, ◌^◌, ℕ, suc, List, [], ◌∷◌, length, map, refl, sym, ◌∙◌, ap, arith}
use Rattle.std.specs.Prelude.{Bool, true, false, cond, filter}
use Rattle.std.specs.List.{AllByRecursion, enumerate_from}
use Rattle.mdf_block.specs.declared.link.Link.{Link}
use Rattle.mdf_block.specs.declared.note.Note.{Note}
use Rattle.mdf_block.specs.Draft.{Placed}
use Rattle.mdf_data.specs.Split.{Record}
use Rattle.mdf_group.specs.declared.row.ChannelRow.{ChannelRow}
use Rattle.mdf_group.specs.declared.row.GroupRow.{GroupRow}
use Rattle.mdf_group.specs.Group.{is_variable}
use Rattle.mdf_content.specs.declared.contents.Contents.{Contents}
use Rattle.mdf_model.specs.Measurement.{holds_samples, paired, contents_of}
use Rattle.mdf_data.specs.Bodies.{bodies}
use Rattle.mdf_model.specs.Same.{plain_channel, plain_group}
use Rattle.mdf_tree.specs.Group.{values_behind, past_channel, placed_channels, group_channels, group_values, group_values_behind, past_group, placed_groups}
use Rattle.mdf_spell.specs.Counts.{counted_group, counted_groups}
use Rattle.tool_final.specs.Keeping.{row_of, HasComment}
use Rattle.tool_final.proofs.Fields.{anew, AreCounted}

-- channels and groups
channels_same : (blocks : List Placed) (rows : List ChannelRow) (n : ℕ) (values : List Link)
    → map plain_channel (placed_channels blocks n values rows) ≡ map plain_channel rows
unfolding placed_channels
channels_same blocks [] n values = refl
channels_same blocks (row ∷ rows) n values =
    ap (λ (rest : List ChannelRow). plain_channel row ∷ rest) (channels_same blocks rows (past_channel n row) (values_behind values row))

size_by : (b : Bool) (x size : ℕ) → cond b 0 (cond b x size) ≡ cond b 0 size
size_by true x size = refl
size_by false x size = refl

group_plain : (blocks : List Placed) (n : ℕ) (values : List Link) (count total : ℕ) (row : GroupRow)
    → plain_group row ≡ plain_group (anew blocks n values count total row)
group_plain blocks n values count total row =
    let made : ℕ → ℕ → List ChannelRow → GroupRow = λ data_bytes inval_bytes channels. record row {
      at = 0;
      id = 0;
      cycles = 0;
      data_bytes = data_bytes;
      inval_bytes = inval_bytes;
      channels = channels;
    } in
    let b = is_variable row in
    let placed = placed_channels blocks (group_channels n row) (group_values values row) row.channels in
    sym (ap (λ (size : ℕ). made size (cond b 0 (cond b (total / 2 ^ 32 % 2 ^ 32) row.inval_bytes)) (map plain_channel placed))
    (size_by b (total % 2 ^ 32) row.data_bytes)
    ∙ ap (λ (size : ℕ). made (cond b 0 row.data_bytes) size (map plain_channel placed)) (size_by b (total / 2 ^ 32 % 2 ^ 32) row.inval_bytes)
    ∙ ap (λ (channels : List ChannelRow). made (cond b 0 row.data_bytes) (cond b 0 row.inval_bytes) channels)
    (channels_same blocks row.channels (group_channels n row) (group_values values row)))

picked_by : (b : Bool) (one other : GroupRow) (rows others : List GroupRow) → plain_group one ≡ plain_group other → map plain_group rows ≡ map plain_group others
    → map plain_group (cond b (one ∷ rows) rows) ≡ map plain_group (cond b (other ∷ others) others)
picked_by true one other rows others same rest =
    ap (λ (first : GroupRow). first ∷ map plain_group rows) same ∙ ap (λ (left : List GroupRow). plain_group other ∷ left) rest
picked_by false one other rows others same rest = rest

module _ (id_size : ℕ) (records : List Record) (blocks : List Placed) where
  pub rows_plain : (k : ℕ) (rows : List GroupRow) (counts totals : List ℕ) (n : ℕ) (values : List Link) → AreCounted id_size records k rows counts totals
      → map plain_group (filter holds_samples rows) ≡ map plain_group (filter holds_samples (placed_groups blocks n values (counted_groups counts totals rows)))
  unfolding placed_groups counted_groups
  rows_plain k [] counts totals n values are = refl
  rows_plain k (row ∷ rows) [] totals n values are = absurd are
  rows_plain k (row ∷ rows) (count ∷ counts) [] n values are = absurd are
  rows_plain k (row ∷ rows) (count ∷ counts) (total ∷ totals) n values are =
      let one = counted_group count total row in
      let rest = placed_groups blocks (past_group n one) (group_values_behind values one) (counted_groups counts totals rows) in
      picked_by (holds_samples row) row (anew blocks n values count total row) (filter holds_samples rows) (filter holds_samples rest)
      (group_plain blocks n values count total row)
      (rows_plain (k + 1) rows counts totals (past_group n one) (group_values_behind values one) are.1)

  -- each group says how many records it has, and has its id
  pub said_true : (k : ℕ) (rows : List GroupRow) (counts totals : List ℕ) (n : ℕ) (values : List Link) → AreCounted id_size records k rows counts totals
      → AllByRecursion (λ (group : ℕ × GroupRow). group.1.cycles ≡ length (bodies id_size records group.0))
      (enumerate_from k (placed_groups blocks n values (counted_groups counts totals rows)))
  unfolding placed_groups counted_groups
  said_true k [] counts totals n values are = tt
  said_true k (row ∷ rows) [] totals n values are = absurd are
  said_true k (row ∷ rows) (count ∷ counts) [] n values are = absurd are
  said_true k (row ∷ rows) (count ∷ counts) (total ∷ totals) n values are =
      let one = counted_group count total row in
      (are.0, said_true (k + 1) rows counts totals (past_group n one) (group_values_behind values one) are.1)

  pub ids_same : (k : ℕ) (rows : List GroupRow) (counts totals : List ℕ) (n : ℕ) (values : List Link) → AreCounted id_size records k rows counts totals
      → map (λ (group : GroupRow). group.id) (placed_groups blocks n values (counted_groups counts totals rows)) ≡ map (λ (group : GroupRow). group.id) rows
  unfolding placed_groups counted_groups
  ids_same k [] counts totals n values are = refl
  ids_same k (row ∷ rows) [] totals n values are = absurd are
  ids_same k (row ∷ rows) (count ∷ counts) [] n values are = absurd are
  ids_same k (row ∷ rows) (count ∷ counts) (total ∷ totals) n values are =
      let one = counted_group count total row in
      ap (λ (rest : List ℕ). row.id ∷ rest) (ids_same (k + 1) rows counts totals (past_group n one) (group_values_behind values one) are.1)

  -- as many groups stand as stood
  pub count_same : (k : ℕ) (rows : List GroupRow) (counts totals : List ℕ) (n : ℕ) (values : List Link) → AreCounted id_size records k rows counts totals
      → length (placed_groups blocks n values (counted_groups counts totals rows)) ≡ length rows
  unfolding placed_groups counted_groups
  count_same k [] counts totals n values are = refl
  count_same k (row ∷ rows) [] totals n values are = absurd are
  count_same k (row ∷ rows) (count ∷ counts) [] n values are = absurd are
  count_same k (row ∷ rows) (count ∷ counts) (total ∷ totals) n values are =
      let one = counted_group count total row in
      ap (λ (m : ℕ). suc m) (count_same (k + 1) rows counts totals (past_group n one) (group_values_behind values one) are.1)

-- groups with what they hold, one by one
module _ (comment : Note) where
  pub paired_rows : (rows : List GroupRow) (found : List Contents) → length rows ≡ length found → map row_of (paired comment rows found) ≡ rows
  paired_rows [] found long = refl
  paired_rows (row ∷ rows) [] long = absurd (omega (arith, long))
  paired_rows (row ∷ rows) (contents ∷ found) long =
      let rest : length rows ≡ length found = omega (arith, long) in ap (λ (left : List GroupRow). row ∷ left) (paired_rows rows found rest)

  pub paired_contents : (rows : List GroupRow) (found : List Contents) → length rows ≡ length found → map contents_of (paired comment rows found) ≡ found
  paired_contents [] [] long = refl
  paired_contents [] (contents ∷ found) long = absurd (omega (arith, long))
  paired_contents (row ∷ rows) [] long = absurd (omega (arith, long))
  paired_contents (row ∷ rows) (contents ∷ found) long =
      let rest : length rows ≡ length found = omega (arith, long) in ap (λ (left : List Contents). contents ∷ left) (paired_contents rows found rest)

  pub paired_comments : (rows : List GroupRow) (found : List Contents) → AllByRecursion (HasComment comment) (paired comment rows found)
  paired_comments [] found = tt
  paired_comments (row ∷ rows) [] = tt
  paired_comments (row ∷ rows) (contents ∷ found) = (refl, paired_comments rows found)
