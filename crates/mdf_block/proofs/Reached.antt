-- What stands is found: texts, and items along their links.
use Rattle.std.proofs.Common.{◌≡◌, ◌≢◌, ◌-◌, ◌≤◌, ℕ, zero, suc, List, [], ◌∷◌, length, map, Ok, refl, sym, ◌∙◌, ap, subst, arith}
use Rattle.std.proofs.lemmas.Bool.{le-leb, eq-eqb, ne_eqb, cond-true, cond-false, false_from_ne_true}
use Rattle.std.proofs.lemmas.Slice.Eq.{bytes_eq-Decides}
use Rattle.std.specs.Prelude.{nat_eq}
use Rattle.std.specs.List.{AllByRecursion}
use Rattle.mdf_format.specs.Number.{bytes_at}
use Rattle.mdf_format.specs.Block.{name_of, link_at, body_at, IsBlock, IsChain}
use Rattle.mdf_format.specs.declared.kind.Kind.{Kind}
use Rattle.mdf_format.specs.declared.kind.Kind.TheVariants as kinds
use Rattle.mdf_block.specs.declared.note.Note.{Note}
use Rattle.mdf_block.specs.declared.note.Note.TheVariants as notes
use Rattle.mdf_block.specs.Refusal.{Read, ◌>>=◌}
use Rattle.mdf_block.specs.Block.{is_block, is_named}
use Rattle.mdf_block.specs.Text.{text_of, text, note, note_size, IsNote}
use Rattle.mdf_block.specs.Chain.{Step, chain}
use Rattle.mdf_block.proofs.Wholes.{block_is_true}
use Rattle.mdf_block.proofs.Notes.{in_form, md_is_not_tx}
use Rattle.mdf_block.proofs.Chains.{rest_of}

pub text_reached : (f : List ℕ) (at : ℕ) (kind : Kind) (left : ℕ) → IsBlock f at kind → length (text_of (body_at f at)) ≤ left
    → text f at kind left ≡ Ok (text_of (body_at f at), left - length (text_of (body_at f at)))
unfolding text
text_reached f at kind left is short =
    cond-true (is_block f at kind) _ _ (block_is_true f at kind is)
    ∙ cond-true _ _ _ (le-leb (length (text_of (body_at f at))) left short)

-- the text in a form, where it is the text of the block
formed : (f : List ℕ) (at : ℕ) (kind : Kind) (left : ℕ) (form : List ℕ → Note) (bytes : List ℕ) → IsBlock f at kind
    → bytes ≡ text_of (body_at f at) → length bytes ≤ left → (text f at kind left >>= in_form form) ≡ Ok (form bytes, left - length bytes)
formed f at kind left form bytes is same short =
    ap (λ read. read >>= in_form form) (text_reached f at kind left is (omega (arith, short, ap length same)))
    ∙ ap (λ (body : List ℕ). Ok (form body, left - length body)) (sym same)

pub note_reached : (f : List ℕ) (at left : ℕ) (found : Note) → IsNote f at found → note_size found ≤ left
    → note f at left ≡ Ok (found, left - note_size found)
unfolding note
note_reached f at left notes.Nothing is short =
    let all : left ≡ left - 0 = omega arith in
    cond-true (nat_eq at 0) _ _ (eq-eqb at 0 is) ∙ ap (λ (n : ℕ). Ok (notes.Nothing, n)) all
note_reached f at left (notes.Plain bytes) is short =
    let other = false_from_ne_true (is_named f at kinds.Md)
    (λ yes. md_is_not_tx (sym ((bytes_eq-Decides (bytes_at 4 f at) (name_of kinds.Md)).0 yes) ∙ is.1.named)) in
    cond-false (nat_eq at 0) _ _ (ne_eqb at 0 is.0)
    ∙ cond-false (is_named f at kinds.Md) _ _ other
    ∙ formed f at kinds.Tx left notes.Plain bytes is.1 is.2 short
note_reached f at left (notes.Xml bytes) is short =
    cond-false (nat_eq at 0) _ _ (ne_eqb at 0 is.0)
    ∙ cond-true (is_named f at kinds.Md) _ _ ((bytes_eq-Decides (bytes_at 4 f at) (name_of kinds.Md)).1 is.1.named)
    ∙ formed f at kinds.Md left notes.Xml bytes is.1 is.2 short

-- one step after another gives these items, and this is left
unfoldable pub Steps : {A S : Type 0} → Step A S → ℕ → S → List A → S → Type 0
Steps step at left [] rest = (at ≡ 0) × (left ≡ rest)
Steps {A} {S} step at left (x ∷ xs) rest =
    (at ≢ 0) × ((next : ℕ) × (mid : S) × (step at left ≡ Ok (x, next, mid)) × Steps step next mid xs rest)

pub chain_reached : {A S : Type 0} (step : Step A S) (full_at : ℕ → Read (List A × ℕ × S)) (xs : List A) (room at : ℕ) (left rest : S)
    → length xs ≤ room → Steps step at left xs rest → chain step full_at room at left ≡ Ok (xs, room - length xs, rest)
unfolding chain Steps
chain_reached {A} {S} step full_at [] zero at left rest few steps =
    cond-true (nat_eq at 0) _ _ (eq-eqb at 0 steps.0) ∙ ap (λ (s : S). Ok ([], zero, s)) steps.1
chain_reached {A} {S} step full_at [] (suc room) at left rest few steps =
    let all : suc room ≡ suc room - 0 = omega arith in
    cond-true (nat_eq at 0) _ _ (eq-eqb at 0 steps.0)
    ∙ ap (λ (s : S). Ok ([], suc room, s)) steps.1
    ∙ ap (λ (n : ℕ). Ok ([], n, rest)) all
chain_reached {A} {S} step full_at (x ∷ xs) zero at left rest few steps = absurd (omega (arith, few))
chain_reached {A} {S} step full_at (x ∷ xs) (suc room) at left rest few steps =
    let count : room - length xs ≡ suc room - length (x ∷ xs) = omega arith in
    cond-false (nat_eq at 0) _ _ (ne_eqb at 0 steps.0)
    ∙ ap (λ (read : Read (A × ℕ × S)). read >>= rest_of step full_at room) steps.1.2
    ∙ ap (λ (read : Read (List A × ℕ × S)). read >>= λ found. Ok (x ∷ found.0, found.1, found.2))
    (chain_reached step full_at xs room steps.1.0 steps.1.1 rest (omega (arith, few)) steps.1.3)
    ∙ ap (λ (n : ℕ). Ok (x ∷ xs, n, rest)) count

-- What a step needs of what is left, for the items that still come, is there for the rest of them behind each step; then
-- all items of a chain are found one after another. A chain ends at the number 0, so no block of the kind stands there.
module _ {A S : Type 0} (f : List ℕ) (kind : Kind) (place : A → ℕ) (Is : A → Type 0) (step : Step A S) (Enough : List A → S → Type 0)
    (none : IsBlock f 0 kind → ⊥)
    (one : (x : A) (xs : List A) (left : S) → IsBlock f (place x) kind → Is x → Enough (x ∷ xs) left
    → (rest : S) × (step (place x) left ≡ Ok (x, link_at f (place x) 0, rest)) × Enough xs rest) where
  pub all_steps : (xs : List A) (at : ℕ) (left : S) → IsChain f at kind (map place xs) → AllByRecursion Is xs → Enough xs left
      → (rest : S) × Steps step at left xs rest × Enough [] rest
  unfolding IsChain Steps
  all_steps [] at left chain is enough = (left, (chain, refl), enough)
  all_steps (x ∷ xs) at left chain is enough =
      let here = subst (λ (a : ℕ). IsBlock f a kind) (sym chain.0) chain.1 in
      let first = one x xs left here is.0 enough in
      let next = ap (λ (a : ℕ). link_at f a 0) chain.0 in
      let read = ap (λ (a : ℕ). step a left) (sym chain.0) ∙ first.1 ∙ ap (λ (n : ℕ). Ok (x, n, first.0)) next in
      let behind = all_steps xs (link_at f at 0) first.0 chain.2 is.1 first.2 in
      let some : at ≢ 0 = λ is_zero. none (subst (λ (a : ℕ). IsBlock f a kind) is_zero chain.1) in
      (behind.0, (some, (link_at f at 0, first.0, read, behind.1)), behind.2)

  pub chain_all_reached : (full_at : ℕ → Read (List A × ℕ × S)) (xs : List A) (room at : ℕ) (left : S) → length xs ≤ room
      → IsChain f at kind (map place xs) → AllByRecursion Is xs → Enough xs left
      → (rest : S) × (chain step full_at room at left ≡ Ok (xs, room - length xs, rest)) × Enough [] rest
  chain_all_reached full_at xs room at left few chain is enough =
      let all = all_steps xs at left chain is enough in
      (all.0, chain_reached step full_at xs room at left all.0 few all.1, all.2)
