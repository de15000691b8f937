-- Channels and groups that stand anew have the layouts and the records that they had.
use Rattle.std.proofs.Common.{◌≡◌, ◌+◌, ◌/◌, ◌%◌, ◌^◌, ℕ, List, [], ◌∷◌, length, map, refl, ◌∙◌, ap, inl, inr, arith}
use Rattle.std.specs.Prelude.{Bool, true, false, cond, nat_eq, if◌then◌else◌, Some, None}
use Rattle.std.specs.List.{enumerate_from}
use Rattle.std.proofs.lemmas.Bool.{cond-true, cond-false}
use Rattle.mdf_format.specs.Row.{form_of, is_big}
use Rattle.mdf_block.specs.declared.link.Link.{Link}
use Rattle.mdf_block.specs.Draft.{Placed}
use Rattle.mdf_data.specs.declared.known.Size.{Size}
use Rattle.mdf_data.specs.declared.known.Size.TheVariants as sizes
use Rattle.mdf_data.specs.declared.known.Known.{Known}
use Rattle.mdf_data.specs.Split.{Record}
use Rattle.mdf_group.specs.declared.row.ChannelRow.{ChannelRow}
use Rattle.mdf_group.specs.declared.row.GroupRow.{GroupRow}
use Rattle.mdf_group.specs.Group.{is_variable}
use Rattle.mdf_group.specs.Recordable.{numbers_of}
use Rattle.mdf_layout.specs.Layout.{Layout}
use Rattle.mdf_layout.specs.Row.{kind_in}
use Rattle.mdf_layout.specs.declared.field.FieldRow.{FieldRow}
use Rattle.mdf_content.specs.Layouts.{field_of, layout_of}
use Rattle.mdf_content.specs.Records.{known_of}
use Rattle.mdf_data.specs.Bodies.{bodies}
use Rattle.mdf_block.proofs.Cases.{two_ways}
use Rattle.mdf_tree.specs.Group.{written_flags, value_link, values_behind, past_channel, placed_channel, placed_channels, group_channels, group_values, group_values_behind, past_group, placed_group, placed_groups}
use Rattle.mdf_spell.specs.Counts.{counted_group, counted_groups}

-- flags without those of links that are passed over
low_bit : (n : ℕ) → n % 2 ^ 12 % 2 ≡ n % 2
low_bit n = omega arith

second_bit : (n : ℕ) → n % 2 ^ 12 / 2 % 2 ≡ n / 2 % 2
second_bit n = omega arith

flags_either : (row : ChannelRow) (F : ℕ → ℕ) → F (row.flags % 2 ^ 12) ≡ F row.flags → F (written_flags row) ≡ F row.flags
flags_either row F same = elim (two_ways (nat_eq row.extra 0)) [
  | inl none ↦ ap F (cond-true (nat_eq row.extra 0) row.flags (row.flags % 2 ^ 12) none)
  | inr some ↦ ap F (cond-false (nat_eq row.extra 0) row.flags (row.flags % 2 ^ 12) some) ∙ same
]

pub field_same : (blocks : List Placed) (n : ℕ) (values : Link) (row : ChannelRow) → field_of (placed_channel blocks n values row) ≡ field_of row
field_same blocks n values row =
    let made : ℕ → ℕ → FieldRow = λ second low. record {
      kind = kind_in (form_of (numbers_of row));
      big = is_big (numbers_of row);
      byte = row.byte;
      bit = row.bit;
      bits = row.bits;
      inval = if nat_eq second 1 then Some row.inval else None;
      all_invalid = nat_eq low 1;
    } in
    ap (λ (second : ℕ). made second (written_flags row % 2)) (flags_either row (λ flags. flags / 2 % 2) (second_bit row.flags))
    ∙ ap (λ (low : ℕ). made (row.flags / 2 % 2) low) (flags_either row (λ flags. flags % 2) (low_bit row.flags))

fields_same : (blocks : List Placed) (rows : List ChannelRow) (n : ℕ) (values : List Link)
    → map field_of (placed_channels blocks n values rows) ≡ map field_of rows
unfolding placed_channels
fields_same blocks [] n values = refl
fields_same blocks (row ∷ rows) n values =
    ap (λ (first : FieldRow). first ∷ map field_of (placed_channels blocks (past_channel n row) (values_behind values row) rows))
    (field_same blocks n (value_link values row) row)
    ∙ ap (λ (rest : List FieldRow). field_of row ∷ rest) (fields_same blocks rows (past_channel n row) (values_behind values row))

-- the layout of a group of samples
layout_by : (b : Bool) (placed channels : List ChannelRow) (x y data_bytes inval_bytes : ℕ) → b ≡ false → map field_of placed ≡ map field_of channels
    → ◌≡◌ {A = Layout} (record { rows = map field_of (cond b [] placed); data_bytes = cond b x data_bytes; inval_bytes = cond b y inval_bytes })
    (record { rows = map field_of (cond b [] channels); data_bytes = data_bytes; inval_bytes = inval_bytes })
layout_by true placed channels x y data_bytes inval_bytes is same = let wrong : true ≡ false = is in cc
layout_by false placed channels x y data_bytes inval_bytes is same =
    ap (λ (rows : List FieldRow). record { rows = rows; data_bytes = data_bytes; inval_bytes = inval_bytes }) same

abbrev pub anew : List Placed → ℕ → List Link → ℕ → ℕ → GroupRow → GroupRow
anew blocks n values count total row = placed_group blocks n values (counted_group count total row)

pub layout_same : (blocks : List Placed) (n : ℕ) (values : List Link) (count total : ℕ) (row : GroupRow) → is_variable row ≡ false
    → layout_of (anew blocks n values count total row) ≡ layout_of row
layout_same blocks n values count total row is =
    layout_by (is_variable row) (anew blocks n values count total row).channels row.channels (total % 2 ^ 32) (total / 2 ^ 32 % 2 ^ 32) row.data_bytes
    row.inval_bytes is (fields_same blocks row.channels (group_channels n row) (group_values values row))

-- the id and the size of its records
size_by : (b : Bool) (x y data_bytes inval_bytes : ℕ)
    → cond b sizes.Variable (sizes.Fixed (cond b x data_bytes + cond b y inval_bytes)) ≡ cond b sizes.Variable (sizes.Fixed (data_bytes + inval_bytes))
size_by true x y data_bytes inval_bytes = refl
size_by false x y data_bytes inval_bytes = refl

known_same : (blocks : List Placed) (n : ℕ) (values : List Link) (count total : ℕ) (row : GroupRow)
    → known_of (anew blocks n values count total row) ≡ known_of row
known_same blocks n values count total row =
    ap (λ (size : Size). record { id = row.id; size = size })
    (size_by (is_variable row) (total % 2 ^ 32) (total / 2 ^ 32 % 2 ^ 32) row.data_bytes row.inval_bytes)

-- there are numbers for each group, and those of records are those of its records
abbrev pub AreCounted : ℕ → List Record → ℕ → List GroupRow → List ℕ → List ℕ → Type 0
AreCounted id_size records k [] counts totals = Unit {0}
AreCounted id_size records k (row ∷ rows) [] totals = ⊥
AreCounted id_size records k (row ∷ rows) (count ∷ counts) [] = ⊥
AreCounted id_size records k (row ∷ rows) (count ∷ counts) (total ∷ totals) =
    (count ≡ length (bodies id_size records k)) × AreCounted id_size records (k + 1) rows counts totals

module _ (id_size : ℕ) (records : List Record) (blocks : List Placed) where
  pub are_counted : (k : ℕ) (rows : List GroupRow) (counts totals : List ℕ)
      → counts ≡ map (λ (group : ℕ × GroupRow). length (bodies id_size records group.0)) (enumerate_from k rows) → length totals ≡ length rows
      → AreCounted id_size records k rows counts totals
  are_counted k [] counts totals are long = tt
  are_counted k (row ∷ rows) [] totals are long = cc
  are_counted k (row ∷ rows) (count ∷ counts) [] are long = absurd (omega (arith, long))
  are_counted k (row ∷ rows) (count ∷ counts) (total ∷ totals) are long =
      let first : count ≡ length (bodies id_size records k) = cc in
      let rest : counts ≡ map (λ (group : ℕ × GroupRow). length (bodies id_size records group.0)) (enumerate_from (k + 1) rows) = cc in
      let shorter : length totals ≡ length rows = omega (arith, long) in
      (first, are_counted (k + 1) rows counts totals rest shorter)

  pub knowns_same : (k : ℕ) (rows : List GroupRow) (counts totals : List ℕ) (n : ℕ) (values : List Link) → AreCounted id_size records k rows counts totals
      → map known_of (placed_groups blocks n values (counted_groups counts totals rows)) ≡ map known_of rows
  unfolding placed_groups counted_groups
  knowns_same k [] counts totals n values are = refl
  knowns_same k (row ∷ rows) [] totals n values are = absurd are
  knowns_same k (row ∷ rows) (count ∷ counts) [] n values are = absurd are
  knowns_same k (row ∷ rows) (count ∷ counts) (total ∷ totals) n values are =
      let one = counted_group count total row in
      let rest = placed_groups blocks (past_group n one) (group_values_behind values one) (counted_groups counts totals rows) in
      ap (λ (first : Known). first ∷ map known_of rest) (known_same blocks n values count total row)
      ∙ ap (λ (others : List Known). known_of row ∷ others) (knowns_same (k + 1) rows counts totals (past_group n one) (group_values_behind values one) are.1)
