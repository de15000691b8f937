-- The groups of values by their addresses.
use Rattle.std.proofs.Common.{◌≡◌, ◌+◌, ◌-◌, ◌<◌, ◌≤◌, ℕ, suc, true, List, [], ◌∷◌, length, get_or, drop, map, Option, Some, None, inl, inr, sym, ◌∙◌, ap, subst, arith}
use Rattle.std.proofs.lemmas.List.{drop_all, length-map, get_or-map}
use Rattle.std.proofs.lemmas.Bool.{cond-true, and_parts}
use Rattle.std.specs.Prelude.{◌&&◌, nat_eq, if◌then◌else◌, slice_index_or}
use Rattle.std.specs.List.{AllByRecursion}
use Rattle.mdf_block.proofs.Wholes.{chosen}
use Rattle.mdf_data.specs.declared.known.Size.{Size}
use Rattle.mdf_data.specs.declared.known.Size.TheVariants as sizes
use Rattle.mdf_data.specs.declared.known.Known.{Known}
use Rattle.mdf_data.specs.Record.{least_size}
use Rattle.mdf_data.specs.Places.{HaveRoom}
use Rattle.mdf_content.specs.Records.{record_size, known_of}
use Rattle.mdf_block.proofs.Rests.{rest_is}
use Rattle.mdf_group.specs.declared.row.GroupRow.{GroupRow}
use Rattle.mdf_group.specs.Group.{is_variable}
use Rattle.mdf_content.specs.Values.{values_group}

pub values_none : (groups : List GroupRow) (at k : ℕ) → length groups ≤ k → values_group (drop k groups) at k ≡ None
unfolding values_group
values_none groups at k past = ap (λ (rest : List GroupRow). values_group rest at k) (drop_all k groups past)

values_step : (groups : List GroupRow) (at k : ℕ) (group : GroupRow) → k < length groups → group ≡ get_or groups k group
    → values_group (drop k groups) at k
    ≡ (if is_variable group && nat_eq group.at at then Some k else values_group (drop (k + 1) groups) at (k + 1))
unfolding values_group
values_step groups at k group below is = ap (λ (rest : List GroupRow). values_group rest at k) (rest_is groups k group below is)

-- a table of the groups behind one, with that one
pub table_more : (groups : List GroupRow) (find next : ℕ → Option ℕ) (k : ℕ) (group : GroupRow) → 0 < k → k ≤ length groups
    → group ≡ get_or groups (k - 1) group → ((at : ℕ) → find at ≡ values_group (drop k groups) at k)
    → ((at : ℕ) → next at ≡ (if is_variable group && nat_eq group.at at then Some (k - 1) else find at))
    → (at : ℕ) → next at ≡ values_group (drop (k - 1) groups) at (k - 1)
table_more groups find next k group some within is behind here at =
    let test = is_variable group && nat_eq group.at at in
    let one : k ≡ k - 1 + 1 = omega (arith, some) in
    let rest : find at ≡ values_group (drop (k - 1 + 1) groups) at (k - 1 + 1) =
    subst (λ (n : ℕ). find at ≡ values_group (drop n groups) at n) one (behind at) in
    here at
    ∙ ap (λ (other : Option ℕ). if test then Some (k - 1) else other) rest
    ∙ sym (values_step groups at (k - 1) group (omega (arith, some, within)) is)

-- a group that is found is one of values
some_is : (a b : ℕ) → ◌≡◌ {A = Option ℕ} (Some a) (Some b) → a ≡ b
some_is a b same = cc

pub values_found : (groups : List GroupRow) (at from k : ℕ) → values_group groups at from ≡ Some k
    → (j : ℕ) × (k ≡ from + j) × (j < length groups) × ((d : GroupRow) → is_variable (get_or groups j d) ≡ true)
unfolding values_group
values_found [] at from k found = let wrong : ◌≡◌ {A = Option ℕ} None (Some k) = found in cc
values_found (group ∷ groups) at from k found =
    elim (chosen (is_variable group && nat_eq group.at at) (Some from) (values_group groups at (from + 1)) (Some k) found) [
      | inl here ↦
          let same : from ≡ k = some_is from k here.1 in
          (0, sym same ∙ omega arith, omega arith, λ d. (and_parts (is_variable group) (nat_eq group.at at) here.0).0)
      | inr there ↦
          let rest = values_found groups at (from + 1) k there.1 in
          (suc rest.0, omega (arith, rest.1), omega (arith, rest.2), rest.3)
    ]

-- each of its records has room for the length of a value
room_there : (total : ℕ) (groups : List GroupRow) (lists : List (List ℕ)) (at k : ℕ) (d : GroupRow) → HaveRoom total (map known_of groups) lists
    → values_group groups at 0 ≡ Some k → AllByRecursion (λ place. place + 4 ≤ total) (slice_index_or lists k [])
room_there total groups lists at k d room found =
    let there = values_found groups at 0 k found in
    let same : k ≡ there.0 = omega (arith, there.1) in
    let below : k < length groups = subst (λ (n : ℕ). n < length groups) (sym same) there.2 in
    let variable : is_variable (get_or groups k d) ≡ true = subst (λ (n : ℕ). is_variable (get_or groups n d) ≡ true) (sym same) (there.3 d) in
    let known : get_or (map known_of groups) k (known_of d) ≡ known_of (get_or groups k d) =
    get_or-map known_of groups k d (known_of d) below in
    let size : (get_or (map known_of groups) k (known_of d)).size ≡ sizes.Variable =
    ap (λ (one : Known). one.size) known
    ∙ cond-true (is_variable (get_or groups k d)) sizes.Variable (sizes.Fixed (record_size (get_or groups k d))) variable in
    subst (λ (one : Size). AllByRecursion (λ place. place + least_size one ≤ total) (slice_index_or lists k [])) size
    (room k (known_of d) [] (subst (λ (n : ℕ). k < n) (sym (length-map groups known_of)) below))

pub values_room : (total : ℕ) (groups : List GroupRow) (lists : List (List ℕ)) (at k : ℕ) → HaveRoom total (map known_of groups) lists
    → values_group groups at 0 ≡ Some k → AllByRecursion (λ place. place + 4 ≤ total) (slice_index_or lists k [])
values_room total [] lists at k room found = absurd (omega (arith, (values_found [] at 0 k found).2))
values_room total (group ∷ groups) lists at k room found = room_there total (group ∷ groups) lists at k group room found
