-- A chain whose blocks do not stand at 0 has each of them once, since two chains from one address are as long.
use Rattle.std.proofs.Common.{◌≡◌, ◌≢◌, ◌<◌, ℕ, zero, suc, List, [], ◌∷◌, length, map, Ok, refl, sym, ◌∙◌, ap, subst, inl, inr, arith}
use Rattle.std.specs.Prelude.{nat_eq}
use Rattle.std.specs.List.{AllByRecursion}
use Rattle.std.proofs.lemmas.Bool.{eqb-false}
use Rattle.mdf_format.specs.Block.{link_at, IsChain}
use Rattle.mdf_format.specs.declared.kind.Kind.{Kind}
use Rattle.mdf_block.specs.Refusal.{Read, ◌>>=◌}
use Rattle.mdf_block.specs.Chain.{Step, chain}
use Rattle.mdf_block.proofs.Chains.{Follows}
use Rattle.mdf_block.proofs.Refusals.{bind_ok}
use Rattle.mdf_block.proofs.Wholes.{chosen}
use Rattle.mdf_conv.proofs.Founds.{ok_injective}
use Rattle.mdf_group.specs.Standing.{AreDistinct}

-- none of the places is 0
abbrev pub AreSome : List ℕ → Type 0
AreSome places = AllByRecursion (λ place. place ≢ 0) places

module _ (f : List ℕ) (kind : Kind) where
  -- chains from one address
  as_long : (at : ℕ) (xs ys : List ℕ) → IsChain f at kind xs → IsChain f at kind ys → AreSome xs → AreSome ys → length xs ≡ length ys
  unfolding IsChain
  as_long at [] [] chain_x chain_y some_x some_y = refl
  as_long at [] (y ∷ ys) chain_x chain_y some_x some_y = absurd (some_y.0 (chain_y.0 ∙ chain_x))
  as_long at (x ∷ xs) [] chain_x chain_y some_x some_y = absurd (some_x.0 (chain_x.0 ∙ chain_y))
  as_long at (x ∷ xs) (y ∷ ys) chain_x chain_y some_x some_y =
      ap suc (as_long (link_at f at 0) xs ys chain_x.2 chain_y.2 some_x.1 some_y.1)

  -- the first place of a chain is not among those of a shorter one
  not_among : (first : ℕ) (whole : List ℕ) → IsChain f first kind whole → AreSome whole
      → (at : ℕ) (rest : List ℕ) → IsChain f at kind rest → AreSome rest → length rest < length whole
      → AllByRecursion (λ place. place ≢ first) rest
  unfolding IsChain
  not_among first whole whole_chain whole_some at [] rest_chain rest_some less = tt
  not_among first whole whole_chain whole_some at (x ∷ rest) rest_chain rest_some less = (
    (λ same.
        let there : IsChain f first kind (x ∷ rest) = subst (λ (place : ℕ). IsChain f place kind (x ∷ rest)) (sym rest_chain.0 ∙ same) rest_chain in
        let long = as_long first (x ∷ rest) whole there whole_chain rest_some whole_some in
        omega (arith, long, less)),
    not_among first whole whole_chain whole_some (link_at f at 0) rest rest_chain.2 rest_some.1 (omega (arith, less)),
  )

  pub chain_once : (at : ℕ) (places : List ℕ) → IsChain f at kind places → AreSome places → AreDistinct places
  unfolding IsChain AreDistinct
  chain_once at [] is some = tt
  chain_once at (place ∷ places) is some =
      let whole : IsChain f place kind (place ∷ places) = subst (λ (a : ℕ). IsChain f a kind (place ∷ places)) (sym is.0) is in (
        not_among place (place ∷ places) whole some (link_at f at 0) places is.2 some.1 (omega arith),
        chain_once (link_at f at 0) places is.2 some.1,
      )

-- what is read along the links does not stand at 0
pub chain_some : {A S : Type 0} (f : List ℕ) (kind : Kind) (place : A → ℕ) (step : Step A S) (full_at : ℕ → Read (List A × ℕ × S))
    → Follows f kind place step → ((at : ℕ) (y : List A × ℕ × S) → full_at at ≡ Ok y → ⊥)
    → (room at : ℕ) (left : S) (found : List A × ℕ × S) → chain step full_at room at left ≡ Ok found
    → AreSome (map place found.0)
unfolding chain
chain_some {A} {S} f kind place step full_at follows none zero at left found is =
    elim (chosen (nat_eq at 0) (Ok ([], zero, left)) (full_at at) (Ok found) is) [
      | inl last ↦ subst (λ (y : List A × ℕ × S). AreSome (map place y.0)) (ok_injective ([], zero, left) found last.1) tt
      | inr more ↦ absurd (none at found more.1)
    ]
chain_some {A} {S} f kind place step full_at follows none (suc room) at left found is =
    elim (chosen (nat_eq at 0) (Ok ([], suc room, left))
    (step at left >>= λ first. chain step full_at room first.1 first.2 >>= λ rest. Ok (first.0 ∷ rest.0, rest.1, rest.2)) (Ok found) is) [
      | inl last ↦ subst (λ (y : List A × ℕ × S). AreSome (map place y.0)) (ok_injective ([], suc room, left) found last.1) tt
      | inr more ↦
          let parts = bind_ok (step at left) (λ first. chain step full_at room first.1 first.2 >>= λ rest. Ok (first.0 ∷ rest.0, rest.1, rest.2)) found more.1 in
          let there = follows.there at left parts.0.0 parts.0.1 parts.0.2 parts.1 in
          let rest = bind_ok (chain step full_at room parts.0.1 parts.0.2) (λ rest. Ok (parts.0.0 ∷ rest.0, rest.1, rest.2)) found parts.2 in
          let behind = chain_some f kind place step full_at follows none room parts.0.1 parts.0.2 rest.0 rest.1 in
          let away = eqb-false at 0 more.0 in
          let same : (parts.0.0 ∷ rest.0.0, rest.0.1, rest.0.2) ≡ found = ok_injective _ _ rest.2 in
          subst (λ (y : List A × ℕ × S). AreSome (map place y.0)) same ((λ zero_is. away (sym there.0 ∙ zero_is)), behind)
    ]
