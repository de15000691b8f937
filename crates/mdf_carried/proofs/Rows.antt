-- The channel groups of a recording: one for each layout, whose records are samples, and behind them a group of values for each
-- channel of variable length, which that channel names.
use Rattle.std.proofs.Common.{◌≡◌, ◌≢◌, ◌+◌, ◌<◌, ℕ, zero, suc, true, false, List, [], ◌∷◌, ◌++◌, length, get_or, take, map, refl, sym, ◌∙◌, ap, subst, arith}
use Rattle.std.proofs.lemmas.Bool.{eq-eqb, ne_eqb, cond-true, cond-false, and_from}
use Rattle.std.proofs.lemmas.List.{length-map, get_or-map}
use Rattle.std.proofs.lemmas.List.Sums.{sum_by-cons}
use Rattle.std.proofs.lemmas.Option.{same_Some}
use Rattle.std.specs.Prelude.{◌&&◌, nat_eq, filter, sum_by, slice_get, Option, Some, None}
use Rattle.mdf_data.specs.declared.known.Size.TheVariants as sizes
use Rattle.mdf_group.specs.declared.row.ChannelRow.{ChannelRow}
use Rattle.mdf_group.specs.declared.row.GroupRow.{GroupRow}
use Rattle.mdf_group.specs.declared.row.DataRow.{DataRow}
use Rattle.mdf_group.specs.Group.{is_variable}
use Rattle.mdf_group.specs.Recordable.{is_of_values}
use Rattle.mdf_group.specs.Standing.{AreDistinct}
use Rattle.mdf_layout.specs.Layout as layouts_
use Rattle.mdf_layout.specs.Layout.{Layout}
use Rattle.mdf_layout.specs.Behind.{variables}
use Rattle.mdf_content.specs.Layouts.{layout_of}
use Rattle.mdf_content.specs.Records.{record_size, size_of}
use Rattle.mdf_content.specs.Values.{values_group}
use Rattle.mdf_model.specs.Contents.{KeepsRules}
use Rattle.mdf_carried.proofs.Numbers.{AreNumbered}
use Rattle.mdf_carried.proofs.Lists.{both_false}
use Rattle.mdf_block.proofs.Items.{one_of}

-- channels of variable length have their values at these addresses, from number n on
abbrev pub NameFrom : (ℕ → ℕ) → ℕ → List ChannelRow → Type 0
NameFrom at n [] = Unit {0}
NameFrom at n (channel ∷ channels) = (channel.values ≡ at n) × NameFrom at (n + 1) channels

-- how many channels of variable length a layout has, and layouts have
abbrev pub values_in : Layout → ℕ
values_in layout = length (variables layout.rows)

abbrev pub all_values : List Layout → ℕ
all_values layouts = sum_by values_in layouts

-- a group of this layout, before whose channels of variable length so many stand
pub record IsFront (at : ℕ → ℕ) (n : ℕ) (group : GroupRow) (layout : Layout) : Type 0 where
  pub samples : is_variable group ≡ false
  pub layout_is : layout_of group ≡ layout
  pub ruled : KeepsRules (layout_of group)
  pub named : NameFrom at n (filter is_of_values group.channels)

abbrev pub AreFronts : (ℕ → ℕ) → ℕ → List GroupRow → List Layout → Type 0
AreFronts at n [] [] = Unit {0}
AreFronts at n [] (layout ∷ layouts) = ⊥
AreFronts at n (group ∷ groups) [] = ⊥
AreFronts at n (group ∷ groups) (layout ∷ layouts) = IsFront at n group layout × AreFronts at (n + values_in layout) groups layouts

-- groups of values at these addresses, from number n on
abbrev pub AreBacks : (ℕ → ℕ) → ℕ → List GroupRow → Type 0
AreBacks at n [] = Unit {0}
AreBacks at n (group ∷ groups) = ((group.at ≡ at n) × (is_variable group ≡ true)) × AreBacks at (n + 1) groups

pub record IsRecorded (layouts : List Layout) (row : DataRow) : Type 0 where
  pub id_size : row.id_size ≡ 1
  pub at : ℕ → ℕ
  pub front : List GroupRow
  pub back : List GroupRow
  pub groups_are : row.groups ≡ front ++ back
  pub numbered : AreNumbered 1 row.groups
  pub fronts : AreFronts at 0 front layouts
  pub backs : AreBacks at 0 back
  pub many : length back ≡ all_values layouts
  pub apart : AreDistinct (map (λ (group : GroupRow). group.at) row.groups)

-- by their numbers
pub fronts_many : (at : ℕ → ℕ) (n : ℕ) (groups : List GroupRow) (layouts : List Layout) → AreFronts at n groups layouts → length groups ≡ length layouts
fronts_many at n [] [] are = refl
fronts_many at n [] (layout ∷ layouts) are = absurd are
fronts_many at n (group ∷ groups) [] are = absurd are
fronts_many at n (group ∷ groups) (layout ∷ layouts) are = ap suc (fronts_many at (n + values_in layout) groups layouts are.1)

from_here : (n : ℕ) → n ≡ n + 0
from_here n = omega arith

pub front_at : (at : ℕ → ℕ) (n k : ℕ) (groups : List GroupRow) (layouts : List Layout) (group : GroupRow) (layout : Layout) → AreFronts at n groups layouts
    → slice_get groups k ≡ Some group → slice_get layouts k ≡ Some layout → IsFront at (n + all_values (take k layouts)) group layout
front_at at n k [] layouts group layout are known laid = let wrong : ◌≡◌ {A = Option GroupRow} None (Some group) = known in cc
front_at at n k (g ∷ groups) [] group layout are known laid = absurd are
front_at at n zero (g ∷ groups) (l ∷ layouts) group layout are known laid =
    subst (λ (m : ℕ). IsFront at m group layout) (from_here n)
    (subst (λ (y : Layout). IsFront at n group y) (same_Some l layout laid) (subst (λ (x : GroupRow). IsFront at n x l) (same_Some g group known) are.0))
front_at at n (suc k) (g ∷ groups) (l ∷ layouts) group layout are known laid =
    let more : n + values_in l + all_values (take k layouts) ≡ n + all_values (take (suc k) (l ∷ layouts)) =
    omega (arith, sum_by-cons values_in l (take k layouts)) in
    subst (λ (m : ℕ). IsFront at m group layout) more (front_at at (n + values_in l) k groups layouts group layout are.1 known laid)

one_on : (n k : ℕ) → n + 1 + k ≡ n + suc k
one_on n k = omega arith

pub back_at : (at : ℕ → ℕ) (n k : ℕ) (groups : List GroupRow) (d : GroupRow) → AreBacks at n groups → k < length groups
    → ((get_or groups k d).at ≡ at (n + k)) × (is_variable (get_or groups k d) ≡ true)
back_at at n k [] d are below = absurd (omega (arith, below))
back_at at n zero (group ∷ groups) d are below = (are.0.0 ∙ ap at (from_here n), are.0.1)
back_at at n (suc k) (group ∷ groups) d are below =
    let rest = back_at at (n + 1) k groups d are.1 (omega (arith, below)) in (rest.0 ∙ ap at (one_on n k), rest.1)

-- a group of values is found by its address
pub found_at : (groups : List GroupRow) (a from k : ℕ) (d : GroupRow) → k < length groups → (get_or groups k d).at ≡ a
    → is_variable (get_or groups k d) ≡ true → AreDistinct (map (λ (group : GroupRow). group.at) groups) → values_group groups a from ≡ Some (from + k)
unfolding values_group AreDistinct
found_at [] a from k d below here is apart = absurd (omega (arith, below))
found_at (group ∷ groups) a from zero d below here is apart =
    cond-true (is_variable group && nat_eq group.at a) (Some from) (values_group groups a (from + 1)) (and_from _ _ is (eq-eqb group.at a here))
    ∙ ap Some (from_here from)
found_at (group ∷ groups) a from (suc k) d below here is apart =
    let within : k < length groups = omega (arith, below) in
    let at_k : get_or (map (λ (g : GroupRow). g.at) groups) k d.at ≡ (get_or groups k d).at = get_or-map (λ (g : GroupRow). g.at) groups k d d.at within in
    let other : get_or (map (λ (g : GroupRow). g.at) groups) k d.at ≢ group.at =
    one_of (λ (n : ℕ). n ≢ group.at) (map (λ (g : GroupRow). g.at) groups) k d.at apart.0
    (subst (λ (n : ℕ). k < n) (sym (length-map groups (λ (g : GroupRow). g.at))) within) in
    let differs : group.at ≢ a = λ same. other (at_k ∙ here ∙ sym same) in
    cond-false (is_variable group && nat_eq group.at a) (Some from) (values_group groups a (from + 1))
    (ap (λ b. is_variable group && b) (ne_eqb group.at a differs) ∙ both_false (is_variable group))
    ∙ found_at groups a (from + 1) k d within here is apart.1
    ∙ ap Some (one_on from k)

-- how long the records of the groups are
pub front_size : (at : ℕ → ℕ) (n : ℕ) (group : GroupRow) (layout : Layout) → IsFront at n group layout
    → size_of group ≡ sizes.Fixed (layouts_.record_size layout)
front_size at n group layout is =
    cond-false (is_variable group) sizes.Variable (sizes.Fixed (record_size group)) is.samples
    ∙ ap (λ (l : Layout). sizes.Fixed (layouts_.record_size l)) is.layout_is

pub back_size : (group : GroupRow) → is_variable group ≡ true → size_of group ≡ sizes.Variable
back_size group is = cond-true (is_variable group) sizes.Variable (sizes.Fixed (record_size group)) is
