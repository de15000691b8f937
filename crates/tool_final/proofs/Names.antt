-- Where the links of channels of variable length lead in a finalized file.
use Rattle.std.proofs.Common.{◌≡◌, ◌≢◌, ◌+◌, ◌<◌, ℕ, List, [], ◌∷◌, get_or, map, Option, Some, None, refl, sym, ◌∙◌, ap, subst, inl, inr, ◌⊎◌, lit<}
use Rattle.std.specs.Prelude.{Bool, true, false, ◌&&◌, nat_eq}
use Rattle.std.specs.List.{AllByRecursion}
use Rattle.std.proofs.lemmas.Bool.{cond-true, cond-false, and_parts, and_from, eqb-true, eq-eqb}
use Rattle.mdf_format.specs.Block.{IsBlock, IsChain, link_at}
use Rattle.mdf_format.specs.declared.kind.Kind.{Kind}
use Rattle.mdf_format.specs.declared.kind.Kind.TheVariants.{Cg, Sd}
use Rattle.mdf_block.specs.declared.link.Link.{Link}
use Rattle.mdf_block.specs.declared.link.Link.TheVariants as links
use Rattle.mdf_block.specs.Draft.{Placed, address_of}
use Rattle.mdf_block.proofs.Wholes.{chosen}
use Rattle.mdf_data.specs.Split.{Record}
use Rattle.mdf_group.specs.declared.row.GroupRow.{GroupRow}
use Rattle.mdf_group.specs.Group.{is_variable}
use Rattle.mdf_group.specs.Standing.{AreDistinct}
use Rattle.mdf_content.specs.Values.{values_group}
use Rattle.mdf_block.proofs.Cases.{two_ways}
use Rattle.mdf_tree.specs.Group.{group_values_behind, past_group, placed_groups}
use Rattle.mdf_spell.specs.Counts.{counted_group, counted_groups}
use Rattle.mdf_spell.specs.Values.{group_numbers}
use Rattle.mdf_spell.specs.Values as spelled
use Rattle.tool_final.proofs.Fields.{AreCounted}
use Rattle.mdf_block.proofs.Names.{differ}

abbrev address : GroupRow → ℕ
address row = row.at

and_off : (a b : Bool) → b ≡ false → (a && b) ≡ false
and_off true b is = is
and_off false b is = refl

-- a group of values that is found stands at one of the addresses
not_here : (rows : List GroupRow) (at from k x : ℕ) → values_group rows at from ≡ Some k → AllByRecursion (λ n. n ≢ x) (map address rows) → at ≢ x
unfolding values_group
not_here [] at from k x is others same = let wrong : ◌≡◌ {A = Option ℕ} None (Some k) = is in cc
not_here (row ∷ rows) at from k x is others same =
    elim (chosen (is_variable row && nat_eq row.at at) (Some from) (values_group rows at (from + 1)) (Some k) is) [
      | inl here ↦ others.0 (eqb-true row.at at (and_parts (is_variable row) (nat_eq row.at at) here.0).1 ∙ same)
      | inr there ↦ not_here rows at (from + 1) k x there.1 others.1 same
    ]

-- blocks of a chain stand
pub chain_blocks : (f : List ℕ) (at : ℕ) (kind : Kind) (places : List ℕ) → IsChain f at kind places → AllByRecursion (λ place. IsBlock f place kind) places
unfolding IsChain
chain_blocks f at kind [] chain = tt
chain_blocks f at kind (place ∷ places) chain =
    (subst (λ (n : ℕ). IsBlock f n kind) (sym chain.0) chain.1, chain_blocks f (link_at f at 0) kind places chain.2)

kinds_differ : (f : List ℕ) (at : ℕ) → IsBlock f at Cg → IsBlock f at Sd → ⊥
kinds_differ f at one other =
    let same : 67 ≡ 83 = ap (λ (xs : List ℕ). get_or xs 2 0) (sym one.named ∙ other.named) in differ 67 83 same (lit< tt)

-- no group stands where values do
pub none_named : (f : List ℕ) (rows : List GroupRow) (at from : ℕ) → AllByRecursion (λ place. IsBlock f place Cg) (map address rows) → IsBlock f at Sd
    → values_group rows at from ≡ None
unfolding values_group
none_named f [] at from stand here = refl
none_named f (row ∷ rows) at from stand here =
    let rest = none_named f rows at (from + 1) stand.1 here in
    elim (two_ways (nat_eq row.at at)) [
      | inl same ↦ absurd (kinds_differ f at (subst (λ (n : ℕ). IsBlock f n Cg) (eqb-true row.at at same) stand.0) here)
      | inr other ↦
          cond-false (is_variable row && nat_eq row.at at) (Some from) (values_group rows at (from + 1)) (and_off (is_variable row) (nat_eq row.at at) other) ∙ rest
    ]

-- a link names no group in the one file and in the other, or the same one
abbrev pub IsNamed : List Placed → List GroupRow → ℕ → Link → Option ℕ → Type 0
IsNamed blocks rows from name group =
    ((name ≡ links.Nothing) × (group ≡ None))
    ⊎ ((m : ℕ) × (k : ℕ) × (name ≡ links.Block m) × (group ≡ Some k) × (values_group rows (address_of blocks m) from ≡ Some k))

module _ (blocks : List Placed) (id_size : ℕ) (records : List Record) where
  pub named : (k : ℕ) (rows : List GroupRow) (counts totals : List ℕ) (n from at : ℕ) (values : List Link) → AreCounted id_size records k rows counts totals
      → AreDistinct (map address (placed_groups blocks n values (counted_groups counts totals rows)))
      → IsNamed blocks (placed_groups blocks n values (counted_groups counts totals rows)) from (spelled.values_group rows (group_numbers n rows) at)
      (values_group rows at from)
  unfolding spelled.values_group values_group group_numbers placed_groups counted_groups AreDistinct
  named k [] counts totals n from at values are apart = inl (refl, refl)
  named k (row ∷ rows) [] totals n from at values are apart = absurd are
  named k (row ∷ rows) (count ∷ counts) [] n from at values are apart = absurd are
  named k (row ∷ rows) (count ∷ counts) (total ∷ totals) n from at values are apart =
      let one = counted_group count total row in
      let behind = group_values_behind values one in
      let rest = placed_groups blocks (past_group n one) behind (counted_groups counts totals rows) in
      let later = named (k + 1) rows counts totals (past_group n row) (from + 1) at behind are.1 apart.1 in
      let test = is_variable row && nat_eq row.at at in
      let name = spelled.values_group rows (group_numbers (past_group n row) rows) at in
      elim (two_ways test) [
        | inl here ↦
            let found : (is_variable row && nat_eq (address_of blocks n) (address_of blocks n)) ≡ true =
            and_from (is_variable row) (nat_eq (address_of blocks n) (address_of blocks n)) (and_parts (is_variable row) (nat_eq row.at at) here).0
            (eq-eqb (address_of blocks n) (address_of blocks n) refl) in
            inr (
              n,
              from,
              cond-true test (links.Block n) name here,
              cond-true test (Some from) (values_group rows at (from + 1)) here,
              cond-true (is_variable row && nat_eq (address_of blocks n) (address_of blocks n)) (Some from) (values_group rest (address_of blocks n) (from + 1)) found,
            )
        | inr other ↦ elim later [
          | inl none ↦ inl (
            cond-false test (links.Block n) name other ∙ none.0,
            cond-false test (Some from) (values_group rows at (from + 1)) other ∙ none.1,
          )
          | inr some ↦
              let there = address_of blocks some.0 in
              let passes = is_variable row && nat_eq (address_of blocks n) there in
              elim (two_ways (nat_eq (address_of blocks n) there)) [
                | inl same ↦ absurd (not_here rest there (from + 1) some.1 (address_of blocks n) some.4 apart.0 (sym (eqb-true (address_of blocks n) there same)))
                | inr elsewhere ↦ inr (
                  some.0,
                  some.1,
                  cond-false test (links.Block n) name other ∙ some.2,
                  cond-false test (Some from) (values_group rows at (from + 1)) other ∙ some.3,
                  cond-false passes (Some from) (values_group rest there (from + 1)) (and_off (is_variable row) (nat_eq (address_of blocks n) there) elsewhere)
                      ∙ some.4,
                )
              ]
        ]
      ]
