-- The first four bytes of a block.
use Rattle.std.proofs.Common.{◌≡◌, ◌+◌, ◌<◌, ◌≤◌, ℕ, Bool, true, false, IsTrue, ◌↔◌, List, [], ◌∷◌, get_or, lit<, length, drop, refl, sym, ◌∙◌, ap, arith, length-take, length-drop}
use Rattle.std.proofs.lemmas.Slice.Eq.{bytes_eq-Decides}
use Rattle.mdf_format.specs.Number.{bytes_at}
use Rattle.mdf_format.specs.Block.{name_of, IsBlock}
use Rattle.mdf_format.specs.declared.kind.Kind.{Kind}
use Rattle.mdf_format.specs.declared.kind.Kind.TheVariants.{Hd, Fh, Dg, Cg, Cn, Cc, Si, Tx, Md, Dt, Dl, Sd, At}
use Rattle.mdf_block.specs.Block.{has_name}
use Rattle.std.specs.Prelude.{codes}
use Rattle.mdf_format.specs.Identification.{IsFinalized}
use Rattle.mdf_block.proofs.Parts.{bytes_at-bytes_at}

-- past the end there are fewer than four bytes
pub length-bytes_at-short : (f : List ℕ) (at : ℕ) → length f < at + 4 → length (bytes_at 4 f at) < 4
length-bytes_at-short f at short = omega (arith, length-take 4 (drop at f), length-drop at f)

true_not_false : true ≡ false → ⊥
true_not_false same = cc

-- what is not there lies past the end
pub past_end : (file : List ℕ) (at count len size : ℕ) (b : Bool) → length file ≡ size → len ≡ size
    → IsTrue b ↔ (at + count ≤ len) → b ≡ false → length file < at + count
past_end file at count len size b whole is_len there out_of =
    let out : at + count ≤ len → ⊥ = λ fits. true_not_false (sym (there.1 fits) ∙ out_of) in
    omega (arith, whole, is_len, out)

pub not_true : (b : Bool) → (b ≡ true → ⊥) → false ≡ b
not_true true = λ no. absurd (no refl)
not_true false = λ no. refl

-- and so no name of four
pub short_name : (f : List ℕ) (at : ℕ) (name : List ℕ) → length name ≡ 4 → length f < at + 4 → false ≡ has_name f at name
short_name f at name four short =
    not_true (has_name f at name) (λ yes.
    let same = (bytes_eq-Decides (bytes_at 4 f at) name).0 yes in
    omega (arith, ap length same, length-bytes_at-short f at short))

pub length-name_of : (kind : Kind) → length (name_of kind) ≡ 4
length-name_of Hd = omega arith
length-name_of Fh = omega arith
length-name_of Dg = omega arith
length-name_of Cg = omega arith
length-name_of Cn = omega arith
length-name_of Cc = omega arith
length-name_of Si = omega arith
length-name_of Tx = omega arith
length-name_of Md = omega arith
length-name_of Dt = omega arith
length-name_of Dl = omega arith
length-name_of Sd = omega arith
length-name_of At = omega arith

-- and no kind's name
pub short_kind : (f : List ℕ) (at : ℕ) (kind : Kind) → length f < at + 4 → bytes_at 4 f at ≡ name_of kind → ⊥
short_kind f at kind short same = omega (arith, ap length same, length-name_of kind, length-bytes_at-short f at short)

-- every kind stands among these
pub none_of : (name : List ℕ)
    → ((k : ℕ) → k < 13 → name ≡ name_of (get_or (Hd ∷ Fh ∷ Dg ∷ Cg ∷ Cn ∷ Cc ∷ Si ∷ Tx ∷ Md ∷ Dt ∷ Dl ∷ Sd ∷ At ∷ []) k Hd) → ⊥)
    → (kind : Kind) → name ≡ name_of kind → ⊥
none_of name none Hd same = none 0 (lit< tt) same
none_of name none Fh same = none 1 (lit< tt) same
none_of name none Dg same = none 2 (lit< tt) same
none_of name none Cg same = none 3 (lit< tt) same
none_of name none Cn same = none 4 (lit< tt) same
none_of name none Cc same = none 5 (lit< tt) same
none_of name none Si same = none 6 (lit< tt) same
none_of name none Tx same = none 7 (lit< tt) same
none_of name none Md same = none 8 (lit< tt) same
none_of name none Dt same = none 9 (lit< tt) same
none_of name none Dl same = none 10 (lit< tt) same
none_of name none Sd same = none 11 (lit< tt) same
none_of name none At same = none 12 (lit< tt) same

-- a number is not below itself
pub differ : (m n : ℕ) → m ≡ n → m < n → ⊥
differ m n same below = omega arith

-- no block stands at the beginning of an MDF file
hashes : (kind : Kind) → get_or (name_of kind) 0 0 ≡ 35
hashes Hd = refl
hashes Fh = refl
hashes Dg = refl
hashes Cg = refl
hashes Cn = refl
hashes Cc = refl
hashes Si = refl
hashes Tx = refl
hashes Md = refl
hashes Dt = refl
hashes Dl = refl
hashes Sd = refl
hashes At = refl

pub none_behind : (f mark : List ℕ) (first : ℕ) → bytes_at 8 f 0 ≡ mark → get_or (bytes_at 4 mark 0) 0 0 ≡ first → 35 < first
    → (kind : Kind) → IsBlock f 0 kind → ⊥
none_behind f mark first is is_first above kind block =
    let front : bytes_at 4 (bytes_at 8 f 0) 0 ≡ bytes_at 4 f 0 = bytes_at-bytes_at 4 8 0 0 f (omega arith) in
    let four : bytes_at 4 mark 0 ≡ name_of kind = ap (λ (xs : List ℕ). bytes_at 4 xs 0) (sym is) ∙ front ∙ block.named in
    let wrong : first ≡ 35 = sym is_first ∙ ap (λ (xs : List ℕ). get_or xs 0 0) four ∙ hashes kind in
    differ 35 first (sym wrong) above

pub none_first : (f : List ℕ) → IsFinalized f → (kind : Kind) → IsBlock f 0 kind → ⊥
none_first f is = none_behind f (codes "MDF     ") 77 is refl (lit< tt)
