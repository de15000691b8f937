-- What stands at an address stands there alone: one text, one chain, and one list of items along it.
use Rattle.std.proofs.Common.{◌≡◌, ℕ, List, [], ◌∷◌, map, refl, sym, ◌∙◌, ap, subst}
use Rattle.std.specs.List.{AllByRecursion}
use Rattle.mdf_format.specs.Block.{link_at, IsBlock, IsChain}
use Rattle.mdf_format.specs.declared.kind.Kind.{Kind}
use Rattle.mdf_block.specs.declared.note.Note.{Note}
use Rattle.mdf_block.specs.declared.note.Note.TheVariants as notes
use Rattle.mdf_block.specs.Text.{IsNote}
use Rattle.mdf_block.proofs.Notes.{md_is_not_tx}

pub note_unique : (f : List ℕ) (at : ℕ) (a b : Note) → IsNote f at a → IsNote f at b → a ≡ b
note_unique f at notes.Nothing notes.Nothing is_a is_b = refl
note_unique f at notes.Nothing (notes.Plain other) is_a is_b = absurd (is_b.0 is_a)
note_unique f at notes.Nothing (notes.Xml other) is_a is_b = absurd (is_b.0 is_a)
note_unique f at (notes.Plain one) notes.Nothing is_a is_b = absurd (is_a.0 is_b)
note_unique f at (notes.Plain one) (notes.Plain other) is_a is_b = ap notes.Plain (is_a.2 ∙ sym is_b.2)
note_unique f at (notes.Plain one) (notes.Xml other) is_a is_b = absurd (md_is_not_tx (sym is_b.1.named ∙ is_a.1.named))
note_unique f at (notes.Xml one) notes.Nothing is_a is_b = absurd (is_a.0 is_b)
note_unique f at (notes.Xml one) (notes.Plain other) is_a is_b = absurd (md_is_not_tx (sym is_a.1.named ∙ is_b.1.named))
note_unique f at (notes.Xml one) (notes.Xml other) is_a is_b = ap notes.Xml (is_a.2 ∙ sym is_b.2)

-- a chain ends at the number 0, so no block of the kind may stand there
pub chain_unique : (f : List ℕ) (kind : Kind) → (IsBlock f 0 kind → ⊥) → (at : ℕ) (a b : List ℕ)
    → IsChain f at kind a → IsChain f at kind b → a ≡ b
unfolding IsChain
chain_unique f kind none at [] [] is_a is_b = refl
chain_unique f kind none at [] (q ∷ qs) is_a is_b = absurd (none (subst (λ (n : ℕ). IsBlock f n kind) is_a is_b.1))
chain_unique f kind none at (p ∷ ps) [] is_a is_b = absurd (none (subst (λ (n : ℕ). IsBlock f n kind) is_b is_a.1))
chain_unique f kind none at (p ∷ ps) (q ∷ qs) is_a is_b =
    ap (λ (n : ℕ). n ∷ ps) (is_a.0 ∙ sym is_b.0)
    ∙ ap (λ (ns : List ℕ). q ∷ ns) (chain_unique f kind none (link_at f at 0) ps qs is_a.2 is_b.2)

-- items at the same places are the same items, where one place has one item
pub items_unique : {A : Type 0} (place : A → ℕ) (Is : A → Type 0) → ((x y : A) → place x ≡ place y → Is x → Is y → x ≡ y)
    → (a b : List A) → map place a ≡ map place b → AllByRecursion Is a → AllByRecursion Is b → a ≡ b
items_unique place Is one [] [] same is_a is_b = refl
items_unique place Is one [] (y ∷ ys) same is_a is_b = cc
items_unique place Is one (x ∷ xs) [] same is_a is_b = cc
items_unique place Is one (x ∷ xs) (y ∷ ys) same is_a is_b =
    let first : place x ≡ place y = cc in
    let rest : map place xs ≡ map place ys = cc in
    ap (λ z. z ∷ xs) (one x y first is_a.0 is_b.0)
    ∙ ap (λ zs. y ∷ zs) (items_unique place Is one xs ys rest is_a.1 is_b.1)
