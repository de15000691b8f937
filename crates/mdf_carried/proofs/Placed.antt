-- The channel groups that stand in a recording are those of its rows, and behind them the groups of values that their channels
-- name.
use Rattle.std.proofs.Common.{◌≡◌, ◌+◌, ◌-◌, ◌%◌, ◌^◌, ◌≤◌, ℕ, zero, suc, true, false, List, [], ◌∷◌, ◌++◌, length, map, refl, sym, ◌∙◌, ap, subst, inl, inr, arith}
use Rattle.std.proofs.lemmas.Bool.{eq-eqb, cond-true, cond-false}
use Rattle.std.proofs.lemmas.List.{length-map}
use Rattle.std.proofs.lemmas.List.Sums.{sum_by-cons}
use Rattle.std.proofs.lemmas.Option.{slice_get-map}
use Rattle.std.specs.Option.{option_map}
use Rattle.std.specs.Prelude.{nat_eq, filter, slice_get, Some}
use Rattle.std.specs.List.{AllByRecursion}
use Rattle.mdf_format.specs.Row.{RowNumbers, BreaksRowRule}
use Rattle.mdf_block.specs.declared.link.Link.{Link}
use Rattle.mdf_block.specs.declared.link.Link.TheVariants as links
use Rattle.mdf_block.specs.Draft.{Placed, address_of, link_number}
use Rattle.mdf_group.specs.declared.row.ChannelRow.{ChannelRow}
use Rattle.mdf_group.specs.declared.row.GroupRow.{GroupRow}
use Rattle.mdf_group.specs.Group.{is_variable}
use Rattle.mdf_group.specs.Recordable.{numbers_of, is_of_values, ArePlaced, IsRecordableChannel, IsRecordableGroup, AreRecordable}
use Rattle.mdf_layout.specs.Row.{field_row}
use Rattle.mdf_layout.specs.Rule.{BreaksRule}
use Rattle.mdf_layout.specs.declared.field.FieldRow.{FieldRow}
use Rattle.mdf_content.specs.Layouts.{field_of, layout_of}
use Rattle.mdf_model.specs.Contents.{KeepsRules}
use Rattle.mdf_block.proofs.Cases.{two_ways}
use Rattle.mdf_tree.specs.Text.{note_blocks}
use Rattle.mdf_tree.specs.Group.{first_or_none, behind_first, past_channel, value_link, values_behind, values_past, placed_channel, placed_channels, group_channels, past_group, past_groups, group_values, group_values_behind, placed_group, placed_groups}
use Rattle.mdf_spell.specs.Recording.{numbered, values_row, values_rows, variable_count, block_links, first_values, value_links, recording_blocks, recorded_row, IsRecordingTree}
use Rattle.mdf_tree.specs.Group.{source_part, past_channels}
use Rattle.mdf_spell.proofs.Finding.{numbered_many, values_many}
use Rattle.mdf_carried.proofs.Lists.{numbered_along}
use Rattle.mdf_carried.proofs.Numbers.{AreNumbered}
use Rattle.mdf_carried.proofs.Rows.{NameFrom, values_in, all_values, IsFront, AreFronts, AreBacks, IsRecorded}
use Rattle.mdf_carried.proofs.Holds.{variable_fields}

-- the fields of channels, by their numbers
mapped : (channels : List ChannelRow) → map field_row (map numbers_of channels) ≡ map field_of channels
mapped [] = refl
mapped (channel ∷ channels) = ap (λ (fields : List FieldRow). field_of channel ∷ fields) (mapped channels)

zero_on : (n : ℕ) → 0 + n ≡ n
zero_on n = omega arith

mapped_at : (channels : List ChannelRow) (j : ℕ) (channel : ChannelRow) → slice_get channels j ≡ Some channel
    → slice_get (map numbers_of channels) (0 + j) ≡ Some (numbers_of channel)
mapped_at channels j channel there =
    ap (slice_get (map numbers_of channels)) (zero_on j) ∙ slice_get-map numbers_of channels j ∙ ap (option_map numbers_of) there

-- a channel that breaks a rule of its layout breaks one of the rows' rules
abbrev pub RulesAgree : Type 0
RulesAgree = (data_bytes inval_bytes : ℕ) (rows : List RowNumbers) (k : ℕ) (row : RowNumbers)
    → BreaksRule data_bytes inval_bytes (map field_row rows) k (field_row row) → BreaksRowRule data_bytes inval_bytes rows k row

-- the layout of a row keeps the rules
ruled : RulesAgree → (data_bytes inval_bytes : ℕ) (channels : List ChannelRow) → ArePlaced data_bytes inval_bytes (map numbers_of channels)
    → KeepsRules (record { rows = map field_of channels; data_bytes = data_bytes; inval_bytes = inval_bytes })
ruled agree data_bytes inval_bytes channels placed =
    let numbers = map numbers_of channels in
    let fields = map field_of channels in
    numbered_along (λ (channel : ℕ × FieldRow). ¬ BreaksRule data_bytes inval_bytes fields channel.0 channel.1) field_of 0 channels
    (λ j channel there breaks.
    placed.rules (0 + j) (numbers_of channel) (mapped_at channels j channel there)
    (agree data_bytes inval_bytes numbers (0 + j) (numbers_of channel)
    (subst (λ (fs : List FieldRow). BreaksRule data_bytes inval_bytes fs (0 + j) (field_of channel)) (sym (mapped channels)) breaks)))

-- a group to be recorded holds samples
row_samples : (row : GroupRow) → row.flags ≡ 0 → is_variable row ≡ false
row_samples row none = ap (λ (flags : ℕ). nat_eq (flags % 2) 1) none

laid_row : (row : GroupRow) → row.flags ≡ 0
    → layout_of row ≡ record { rows = map field_of row.channels; data_bytes = row.data_bytes; inval_bytes = row.inval_bytes }
laid_row row none =
    ap (λ (channels : List ChannelRow). record { rows = map field_of channels; data_bytes = row.data_bytes; inval_bytes = row.inval_bytes })
    (cond-false (is_variable row) [] row.channels (row_samples row none))

-- a group of values is one block
past_value : (n id : ℕ) → past_group n (values_row id) ≡ n + 1
unfolding past_channels note_blocks source_part
past_value n id = omega arith

module _ (agree : RulesAgree) (blocks : List Placed) (first : ℕ) where
  -- the address of the group of values with this number
  abbrev at : ℕ → ℕ
  at n = address_of blocks (first + n)

  step_on : (n : ℕ) → first + n + 1 ≡ first + (n + 1)
  step_on n = omega arith

  -- a link is taken where there are some
  some_links : (n count : ℕ) (values : List Link) → values ≡ block_links (first + n) count → 1 ≤ count
      → (less : ℕ) × (count ≡ suc less) × (values ≡ links.Block (first + n) ∷ block_links (first + (n + 1)) less)
  unfolding block_links
  some_links n zero values is some = absurd (omega (arith, some))
  some_links n (suc less) values is some =
      (less, refl, is ∙ ap (λ (m : ℕ). links.Block (first + n) ∷ block_links m less) (step_on n))

  -- what is left of the links behind a channel
  behind_one : (n count : ℕ) (values : List Link) (channel : ChannelRow) → values ≡ block_links (first + n) count → 1 ≤ count
      → is_of_values channel ≡ true
      → (less : ℕ) × (count ≡ suc less) × (values_behind values channel ≡ block_links (first + (n + 1)) less)
      × (link_number blocks (value_link values channel) ≡ at n)
  behind_one n count values channel is some variable =
      let taken = some_links n count values is some in (
        taken.0,
        taken.1,
        cond-true (nat_eq channel.kind 1) (behind_first values) values variable ∙ ap behind_first taken.2,
        ap (link_number blocks) (cond-true (nat_eq channel.kind 1) (first_or_none values) links.Nothing variable ∙ ap first_or_none taken.2),
      )

  behind_none : (values : List Link) (channel : ChannelRow) → is_of_values channel ≡ false → values_behind values channel ≡ values
  behind_none values channel other = cond-false (nat_eq channel.kind 1) (behind_first values) values other

  count_one : (channel : ChannelRow) (channels : List ChannelRow) → is_of_values channel ≡ true
      → length (filter is_of_values (channel ∷ channels)) ≡ length (filter is_of_values channels) + 1
  count_one channel channels is =
      let more = filter is_of_values channels in
      ap length (cond-true (is_of_values channel) (channel ∷ more) more is) ∙ (let same : suc (length more) ≡ length more + 1 = omega arith in same)

  count_none : (channel : ChannelRow) (channels : List ChannelRow) → is_of_values channel ≡ false
      → length (filter is_of_values (channel ∷ channels)) ≡ length (filter is_of_values channels)
  count_none channel channels other =
      let more = filter is_of_values channels in ap length (cond-false (is_of_values channel) (channel ∷ more) more other)

  -- the channels name the groups of values in order
  names : (m n count : ℕ) (values : List Link) (channels : List ChannelRow) → values ≡ block_links (first + n) count
      → length (filter is_of_values channels) ≤ count → NameFrom at n (filter is_of_values (placed_channels blocks m values channels))
  unfolding placed_channels
  names m n count values [] is few = tt
  names m n count values (channel ∷ channels) is few =
      let one = placed_channel blocks m (value_link values channel) channel in
      let more = filter is_of_values (placed_channels blocks (past_channel m channel) (values_behind values channel) channels) in
      elim (two_ways (is_of_values channel)) [
        | inl variable ↦
            let many = count_one channel channels variable in
            let taken = behind_one n count values channel is (omega (arith, few, many)) variable in
            let rest = names (past_channel m channel) (n + 1) taken.0 (values_behind values channel) channels taken.2
            (omega (arith, few, many, taken.1)) in
            subst (NameFrom at n) (sym (cond-true (is_of_values channel) (one ∷ more) more variable)) (taken.3, rest)
        | inr other ↦
            let rest = names (past_channel m channel) n count (values_behind values channel) channels (behind_none values channel other ∙ is)
            (omega (arith, few, count_none channel channels other)) in
            subst (NameFrom at n) (sym (cond-false (is_of_values channel) (one ∷ more) more other)) rest
      ]

  -- what is left behind them
  left_behind : (n count : ℕ) (values : List Link) (channels : List ChannelRow) → values ≡ block_links (first + n) count
      → length (filter is_of_values channels) ≤ count
      → values_past values channels ≡ block_links (first + (n + length (filter is_of_values channels))) (count - length (filter is_of_values channels))
  unfolding values_past
  left_behind n count values [] is few =
      let same : n ≡ n + 0 = omega arith in
      let all : count ≡ count - 0 = omega arith in
      is ∙ ap (λ (m : ℕ). block_links (first + m) count) same ∙ ap (block_links (first + (n + 0))) all
  left_behind n count values (channel ∷ channels) is few =
      let left = length (filter is_of_values channels) in
      let whole = length (filter is_of_values (channel ∷ channels)) in
      elim (two_ways (is_of_values channel)) [
        | inl variable ↦
            let many = count_one channel channels variable in
            let taken = behind_one n count values channel is (omega (arith, few, many)) variable in
            let place : n + 1 + left ≡ n + whole = omega (arith, many) in
            let fewer : taken.0 - left ≡ count - whole = omega (arith, many, taken.1) in
            left_behind (n + 1) taken.0 (values_behind values channel) channels taken.2 (omega (arith, few, many, taken.1))
            ∙ ap (λ (m : ℕ). block_links (first + m) (taken.0 - left)) place ∙ ap (block_links (first + (n + whole))) fewer
        | inr other ↦
            let many = count_none channel channels other in
            left_behind n count (values_behind values channel) channels (behind_none values channel other ∙ is) (omega (arith, few, many))
            ∙ ap (λ (m : ℕ). block_links (first + (n + m)) (count - m)) (sym many)
      ]

  -- a channel that stands says what its row says
  field_same : (m : ℕ) (value : Link) (channel : ChannelRow) → channel.extra ≡ 0 → field_of (placed_channel blocks m value channel) ≡ field_of channel
  field_same m value channel none =
      ap (λ (flags : ℕ). field_row (record (numbers_of channel) { flags = flags }))
      (cond-true (nat_eq channel.extra 0) channel.flags (channel.flags % 2 ^ 12) (eq-eqb channel.extra 0 none))

  fields_same : (m : ℕ) (values : List Link) (channels : List ChannelRow) → AllByRecursion IsRecordableChannel channels
      → map field_of (placed_channels blocks m values channels) ≡ map field_of channels
  unfolding placed_channels
  fields_same m values [] each = refl
  fields_same m values (channel ∷ channels) each =
      ap (λ (field : FieldRow). field ∷ map field_of (placed_channels blocks (past_channel m channel) (values_behind values channel) channels))
      (field_same m (value_link values channel) channel each.0.extra)
      ∙ ap (λ (fields : List FieldRow). field_of channel ∷ fields) (fields_same (past_channel m channel) (values_behind values channel) channels each.1)

  -- a group that stands
  front_is : (m id n count : ℕ) (values : List Link) (row : GroupRow) → IsRecordableGroup row → values ≡ block_links (first + n) count
      → length (filter is_of_values row.channels) ≤ count
      → IsFront at n (placed_group blocks m values (record row { id = id; cycles = 0 })) (layout_of row)
  front_is m id n count values row is values_are few =
      let none = row_samples row is.flags in
      let placed = placed_group blocks m values (record row { id = id; cycles = 0 }) in
      let own : group_values values row ≡ values = cond-false (is_variable row) [] values none in
      let start = group_channels m row in
      let fields : map field_of placed.channels ≡ map field_of row.channels = fields_same start (group_values values row) row.channels is.each in
      let laid : layout_of placed ≡ layout_of row =
      laid_row placed is.flags
      ∙ ap (λ (fs : List FieldRow). record { rows = fs; data_bytes = row.data_bytes; inval_bytes = row.inval_bytes }) fields
      ∙ sym (laid_row row is.flags) in
      let rules : KeepsRules (layout_of row) = subst KeepsRules (sym (laid_row row is.flags)) (ruled agree row.data_bytes row.inval_bytes row.channels is.placed) in
      record {
        samples = none;
        layout_is = laid;
        ruled = subst KeepsRules (sym laid) rules;
        named = names start n count (group_values values row) row.channels (own ∙ values_are) few;
      }

  -- how many channels of variable length a row has
  row_values : (row : GroupRow) → row.flags ≡ 0 → values_in (layout_of row) ≡ length (filter is_of_values row.channels)
  row_values row none =
      ap values_in (laid_row row none) ∙ ap length (variable_fields row.channels) ∙ length-map (filter is_of_values row.channels) field_of

  fronts_are : (m id n count : ℕ) (values : List Link) (rows : List GroupRow) → AllByRecursion IsRecordableGroup rows
      → values ≡ block_links (first + n) count → variable_count rows ≤ count
      → AreFronts at n (placed_groups blocks m values (numbered id rows)) (map layout_of rows)
  unfolding numbered placed_groups
  fronts_are m id n count values [] each values_are few = tt
  fronts_are m id n count values (row ∷ rows) each values_are few =
      let none = each.0.flags in
      let taken = length (filter is_of_values row.channels) in
      let all = sum_by-cons (λ (r : GroupRow). length (filter is_of_values r.channels)) row rows in
      let behind : group_values_behind values row ≡ block_links (first + (n + taken)) (count - taken) =
      cond-false (is_variable row) values (values_past values row.channels) (row_samples row none)
      ∙ left_behind n count values row.channels values_are (omega (arith, few, all)) in
      let rest = fronts_are (past_group m row) (id + 1) (n + taken) (count - taken) (group_values_behind values row) rows each.1 behind
      (omega (arith, few, all)) in
      let next : n + taken ≡ n + values_in (layout_of row) = ap (λ (k : ℕ). n + k) (sym (row_values row none)) in (
        front_is m id n count values row each.0 values_are (omega (arith, few, all)),
        subst (λ (k : ℕ). AreFronts at k (placed_groups blocks (past_group m row) (group_values_behind values row) (numbered (id + 1) rows)) (map layout_of rows)) next rest,
      )

  -- the groups of values
  backs_are : (m id n count : ℕ) (values : List Link) → m ≡ first + n → AreBacks at n (placed_groups blocks m values (values_rows id count))
  unfolding values_rows placed_groups
  backs_are m id n zero values here = tt
  backs_are m id n (suc count) values here = (
    (ap (address_of blocks) here, refl),
    backs_are (past_group m (values_row id)) (id + 1) (n + 1) count (group_values_behind values (values_row id))
        (past_value m id ∙ ap (λ (k : ℕ). k + 1) here ∙ step_on n),
  )

  -- groups keep their ids, and are as many
  ids_stay : (m id : ℕ) (values : List Link) (groups : List GroupRow) → AreNumbered id groups → AreNumbered id (placed_groups blocks m values groups)
  unfolding placed_groups
  ids_stay m id values [] are = tt
  ids_stay m id values (group ∷ groups) are = (are.0, ids_stay (past_group m group) (id + 1) (group_values_behind values group) groups are.1)

  many_stay : (m : ℕ) (values : List Link) (groups : List GroupRow) → length (placed_groups blocks m values groups) ≡ length groups
  unfolding placed_groups
  many_stay m values [] = refl
  many_stay m values (group ∷ groups) = ap suc (many_stay (past_group m group) (group_values_behind values group) groups)

  -- groups behind groups
  links_left : List Link → List GroupRow → List Link
  links_left values [] = values
  links_left values (group ∷ groups) = links_left (group_values_behind values group) groups

  parted : (m : ℕ) (values : List Link) (xs ys : List GroupRow)
      → placed_groups blocks m values (xs ++ ys) ≡ placed_groups blocks m values xs ++ placed_groups blocks (past_groups m xs) (links_left values xs) ys
  unfolding placed_groups past_groups links_left
  parted m values [] ys = refl
  parted m values (group ∷ xs) ys =
      ap (λ (groups : List GroupRow). placed_group blocks m values group ∷ groups) (parted (past_group m group) (group_values_behind values group) xs ys)

-- the ids of the rows
numbers_are : (id : ℕ) (rows : List GroupRow) → AreNumbered id (numbered id rows)
unfolding numbered
numbers_are id [] = tt
numbers_are id (row ∷ rows) = (refl, numbers_are (id + 1) rows)

values_numbered : (id count : ℕ) → AreNumbered id (values_rows id count)
unfolding values_rows
values_numbered id zero = tt
values_numbered id (suc count) = (refl, values_numbered (id + 1) count)

both_numbered : (id : ℕ) (xs ys : List GroupRow) → AreNumbered id xs → AreNumbered (id + length xs) ys → AreNumbered id (xs ++ ys)
both_numbered id [] ys one two = subst (λ (n : ℕ). AreNumbered n ys) (let same : id + 0 ≡ id = omega arith in same) two
both_numbered id (group ∷ xs) ys one two =
    let next : id + suc (length xs) ≡ id + 1 + length xs = omega arith in
    (one.0, both_numbered (id + 1) xs ys one.1 (subst (λ (n : ℕ). AreNumbered n ys) next two))

-- where the first group of values stands
numbered_past : (m id : ℕ) (rows : List GroupRow) → past_groups m (numbered id rows) ≡ past_groups m rows
unfolding numbered past_groups
numbered_past m id [] = refl
numbered_past m id (row ∷ rows) = numbered_past (past_group m row) (id + 1) rows

-- how many channels of variable length the layouts have
values_counted : RulesAgree → (rows : List GroupRow) → AllByRecursion IsRecordableGroup rows → variable_count rows ≡ all_values (map layout_of rows)
values_counted agree [] each = refl
values_counted agree (row ∷ rows) each =
    omega (
      arith,
      sum_by-cons (λ (r : GroupRow). length (filter is_of_values r.channels)) row rows,
      sum_by-cons values_in (layout_of row) (map layout_of rows),
      row_values agree [] 0 row each.0.flags,
      values_counted agree rows each.1,
    )

pub is_recorded : RulesAgree → (file : List ℕ) (start : ℕ) (rows : List GroupRow) → AreRecordable rows → IsRecordingTree file start rows
    → IsRecorded (map layout_of rows) (recorded_row start rows)
unfolding note_blocks
is_recorded agree file start rows are tree =
    let blocks = recording_blocks start rows in
    let first = first_values rows in
    let count = variable_count rows in
    let values = value_links rows in
    let fronts = numbered 1 rows in
    let backs = values_rows (length rows + 1) count in
    let past = past_groups 4 fronts in
    let left = links_left agree blocks first values fronts in
    let here : block_links first count ≡ block_links (first + 0) count =
    let same : first ≡ first + 0 = omega arith in ap (λ (m : ℕ). block_links m count) same in
    let begins : past ≡ first + 0 = let same : first ≡ first + 0 = omega arith in numbered_past 4 1 rows ∙ same in
    let ids : 1 + length fronts ≡ length rows + 1 = omega (arith, numbered_many 1 rows) in
    record {
      id_size = refl;
      at = λ n. address_of blocks (first + n);
      front = placed_groups blocks 4 values fronts;
      back = placed_groups blocks past left backs;
      groups_are = parted agree blocks first 4 values fronts backs;
      numbered = ids_stay agree blocks first 4 1 values (fronts ++ backs)
          (both_numbered 1 fronts backs (numbers_are 1 rows) (subst (λ (n : ℕ). AreNumbered n backs) (sym ids) (values_numbered (length rows + 1) count)));
      fronts = fronts_are agree blocks first 4 1 0 count values rows are.each here (omega arith);
      backs = backs_are agree blocks first past (length rows + 1) 0 count left begins;
      many = many_stay agree blocks first past left backs ∙ values_many (length rows + 1) count ∙ values_counted agree rows are.each;
      apart = tree.groups.each.0.groups.once;
    }
