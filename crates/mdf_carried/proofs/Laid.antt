-- The layouts of a recording are found by a reader.
use Rattle.std.proofs.Common.{◌≡◌, ◌+◌, ℕ, suc, true, List, [], ◌∷◌, ◌++◌, map, Ok, Err, refl, sym, ◌∙◌, ap, subst, arith}
use Rattle.std.proofs.lemmas.Bool.{cond-true, cond-false, false_from_ne_true}
use Rattle.std.specs.Prelude.{slice_get, Option, Some, None}
use Rattle.std.specs.List.{AllByRecursion, enumerate_from}
use Rattle.std.specs.Option.{option_to_list}
use Rattle.mdf_block.specs.Refusal as refusals
use Rattle.mdf_block.specs.Refusal.{Read, ◌>>=◌}
use Rattle.mdf_group.specs.declared.row.ChannelRow.{ChannelRow}
use Rattle.mdf_group.specs.declared.row.GroupRow.{GroupRow}
use Rattle.mdf_group.specs.declared.row.DataRow.{DataRow}
use Rattle.mdf_group.specs.Group.{is_variable}
use Rattle.mdf_layout.specs.Layout.{Layout}
use Rattle.mdf_layout.specs.Rule.{breaks_row_rule, BreaksRule}
use Rattle.mdf_layout.specs.declared.field.FieldRow.{FieldRow}
use Rattle.mdf_block.specs.Every.{every}
use Rattle.mdf_content.specs.Layouts.{field_of, placed_channels, layout_of, first_unplaced, layout_unless, layout, laid_group, has_id_size, layouts}
use Rattle.mdf_model.specs.Contents.{KeepsRules}
use Rattle.mdf_tree.proofs.Placing.{all_append}
use Rattle.mdf_carried.proofs.Rows.{values_in, AreFronts, AreBacks, IsRecorded}

-- a channel that the test finds breaks a rule
abbrev pub TestTells : Type 0
TestTells = (data_bytes inval_bytes : ℕ) (rows : List FieldRow) (k : ℕ) (row : FieldRow) → breaks_row_rule data_bytes inval_bytes rows k row ≡ true
    → BreaksRule data_bytes inval_bytes rows k row

from_here : (n : ℕ) → n ≡ n + 0
from_here n = omega arith

one_on : (n k : ℕ) → n + suc k ≡ n + 1 + k
one_on n k = omega arith

-- what is read for each item of a list is read for all
pub every_found : {A B : Type 0} (item : ℕ → A → Unit {0} → Read (Option B × Unit {0})) (k : ℕ) (xs : List A)
    → ((j : ℕ) (x : A) → slice_get xs j ≡ Some x → (y : Option B) × (item (k + j) x tt ≡ Ok (y, tt)))
    → (ys : List B) × (every item k xs tt ≡ Ok (ys, tt))
unfolding every
every_found item k [] each = ([], refl)
every_found {A} {B} item k (x ∷ xs) each =
    let first = each 0 x refl in
    let here : item k x tt ≡ Ok (first.0, tt) = ap (λ (n : ℕ). item n x tt) (from_here k) ∙ first.1 in
    let rest = every_found item (k + 1) xs (λ j y there.
    let found = each (suc j) y there in (found.0, ap (λ (n : ℕ). item n y tt) (sym (one_on k j)) ∙ found.1)) in (
      option_to_list first.0 ++ rest.0,
      ap (λ (read : Read (Option B × Unit {0})). read >>= λ found. every item (k + 1) xs found.1 >>= λ more. Ok (option_to_list found.0 ++ more.0, more.1)) here
          ∙ ap (λ (read : Read (List B × Unit {0})). read >>= λ more. Ok (option_to_list first.0 ++ more.0, more.1)) rest.1,
    )

-- an id of one byte
one_byte : (row : DataRow) → row.id_size ≡ 1 → has_id_size row ≡ true
one_byte row one = ap (λ (n : ℕ). has_id_size (record row { id_size = n })) one

module _ (tells : TestTells) where
  none_unplaced : (l : Layout) (k : ℕ) (channels : List ChannelRow)
      → AllByRecursion (λ (channel : ℕ × FieldRow). ¬ BreaksRule l.data_bytes l.inval_bytes l.rows channel.0 channel.1) (enumerate_from k (map field_of channels))
      → first_unplaced l k channels ≡ None
  unfolding first_unplaced
  none_unplaced l k [] keeps = refl
  none_unplaced l k (channel ∷ channels) keeps =
      let test = breaks_row_rule l.data_bytes l.inval_bytes l.rows k (field_of channel) in
      cond-false test (Some channel) (first_unplaced l (k + 1) channels)
      (false_from_ne_true test (λ breaks. keeps.0 (tells l.data_bytes l.inval_bytes l.rows k (field_of channel) breaks)))
      ∙ none_unplaced l (k + 1) channels keeps.1

  pub laid : (group : GroupRow) → KeepsRules (layout_of group) → layout group ≡ Ok (layout_of group)
  unfolding layout
  laid group keeps = ap (layout_unless group) (none_unplaced (layout_of group) 0 (placed_channels group) keeps)

  pub laid_back : (group : GroupRow) → is_variable group ≡ true → layout group ≡ Ok (layout_of group)
  laid_back group is =
      let none : placed_channels group ≡ [] = cond-true (is_variable group) [] group.channels is in
      laid group (subst (λ (channels : List ChannelRow).
      AllByRecursion (λ (channel : ℕ × FieldRow). ¬ BreaksRule group.data_bytes group.inval_bytes (map field_of channels) channel.0 channel.1)
      (enumerate_from 0 (map field_of channels))) (sym none) tt)

  abbrev IsLaid : GroupRow → Type 0
  IsLaid group = layout group ≡ Ok (layout_of group)

  fronts_laid : (at : ℕ → ℕ) (n : ℕ) (groups : List GroupRow) (ls : List Layout) → AreFronts at n groups ls → AllByRecursion IsLaid groups
  fronts_laid at n [] [] are = tt
  fronts_laid at n [] (l ∷ ls) are = absurd are
  fronts_laid at n (group ∷ groups) [] are = absurd are
  fronts_laid at n (group ∷ groups) (l ∷ ls) are = (laid group are.0.ruled, fronts_laid at (n + values_in l) groups ls are.1)

  backs_laid : (at : ℕ → ℕ) (n : ℕ) (groups : List GroupRow) → AreBacks at n groups → AllByRecursion IsLaid groups
  backs_laid at n [] are = tt
  backs_laid at n (group ∷ groups) are = (laid_back group are.0.1, backs_laid at (n + 1) groups are.1)

  pub groups_laid : (ls : List Layout) (row : DataRow) → IsRecorded ls row → AllByRecursion IsLaid row.groups
  groups_laid ls row is =
      subst (AllByRecursion IsLaid) (sym is.groups_are)
      (all_append IsLaid is.front is.back (fronts_laid is.at 0 is.front ls is.fronts) (backs_laid is.at 0 is.back is.backs))

  laid_all : (k : ℕ) (groups : List GroupRow) → AllByRecursion IsLaid groups → every laid_group k groups tt ≡ Ok ([], tt)
  unfolding every
  laid_all k [] each = refl
  laid_all k (group ∷ groups) each =
      let seen : Read Layout → Read (Option (Unit {0}) × Unit {0}) = λ read. read >>= λ _. Ok (None, tt) in
      ap (λ (read : Read Layout). seen read >>= λ found. every laid_group (k + 1) groups found.1 >>= λ more. Ok (option_to_list found.0 ++ more.0, more.1)) each.0
      ∙ ap (λ (read : Read (List (Unit {0}) × Unit {0})). read >>= λ more. Ok (more.0, more.1)) (laid_all (k + 1) groups each.1)

  pub layouts_laid : (row : DataRow) → has_id_size row ≡ true → AllByRecursion IsLaid row.groups → layouts row ≡ Ok tt
  unfolding layouts
  layouts_laid row size each =
      cond-true (has_id_size row) (every laid_group 0 row.groups tt >>= λ _. Ok tt) (Err (refusals.Layout row.at)) size
      ∙ ap (λ (read : Read (List (Unit {0}) × Unit {0})). read >>= λ _. Ok tt) (laid_all 0 row.groups each)

  pub layouts_found : (ls : List Layout) (row : DataRow) → IsRecorded ls row → layouts row ≡ Ok tt
  layouts_found ls row is = layouts_laid row (one_byte row is.id_size) (groups_laid ls row is)
