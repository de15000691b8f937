-- What `conv` finds, by its levels, and what the block of a conversion holds.
use Rattle.std.proofs.Common.{◌≡◌, ◌≢◌, ◌-◌, ℕ, zero, suc, List, Option, Result, Ok, Err, IfOk, refl, sym, ◌∙◌, ap, subst, arith}
use Rattle.mdf_format.specs.Block.{link_at}
use Rattle.mdf_format.specs.declared.kind.Kind.TheVariants.{Cc}
use Rattle.mdf_num.specs.declared.halt.Halt.{Halt}
use Rattle.mdf_block.specs.declared.place.BlockAt.{BlockAt}
use Rattle.mdf_block.specs.Refusal.{Refusal, Deep, Read, ◌>>=◌, Halts}
use Rattle.mdf_block.specs.Block.{block}
use Rattle.mdf_block.proofs.Refusals.{halts_then}
use Rattle.mdf_block.proofs.Wholes.{block_found}
use Rattle.mdf_conv.specs.declared.limits.Budget.{Budget}
use Rattle.mdf_conv.specs.declared.row.Conversion.{Conversion}
use Rattle.mdf_conv.specs.declared.row.Ref.{Ref}
use Rattle.mdf_conv.specs.Conv.{HoldsValues, ref_by, item_by, conv, conv_by}

-- a whole block of a conversion holds its numbers
pub holds_values : (f : List ℕ) (at : ℕ) (b : BlockAt) → block f at Cc ≡ Ok b → HoldsValues f b
holds_values f at b found =
    let here = block_found f at Cc b found in
    rw here.1 here.0.filled

-- one level less
pub conv_more : (levels : ℕ) (f : List ℕ) (at : ℕ) (left : Budget) → levels ≢ 0
    → conv levels f at left ≡ conv_by (conv (levels - 1) f) f at left
unfolding conv
conv_more zero f at left some = absurd (some refl)
conv_more (suc levels) f at left some =
    let one_less : levels ≡ suc levels - 1 = omega arith in
    ap (λ (n : ℕ). conv_by (conv n f) f at left) one_less

-- no level is left
module _ (levels : ℕ) (f : List ℕ) (at : ℕ) (left : Budget) (none : levels ≡ 0) where
  pub conv_halts : {E : Type 0} (refusal : E → Option Refusal) (halt : Halt E) → Halts refusal halt (block f at Cc)
      → Halts refusal halt (conv levels f at left)
  unfolding conv
  conv_halts refusal halt halted = rw none (halts_then refusal halt (block f at Cc) (λ _. Err (Deep at)) halted)

  pub conv_deep : (b : BlockAt) → block f at Cc ≡ Ok b → conv levels f at left ≡ Err (Deep at)
  unfolding conv
  conv_deep b found = rw none (ap (λ (read : Read BlockAt). read >>= λ _. Err (Deep at)) found)

-- what holds of each answer that is found
pub if_ok_from : {A E : Type 0} {P : A → Type 0} (result : Result A E) → ((x : A) → result ≡ Ok x → P x) → IfOk result P
if_ok_from (Ok x) holds = holds x refl
if_ok_from (Err e) holds = tt

-- what a link refers to, by its number in the block
module _ (inner : ℕ → Budget → Read (Conversion × Budget)) (f : List ℕ) (at k link : ℕ) (left : Budget) (is : link ≡ link_at f at k) where
  pub item_halts : {E : Type 0} (refusal : E → Option Refusal) (halt : Halt E) → Halts refusal halt (ref_by inner f link left)
      → Halts refusal halt (item_by inner f at k left)
  item_halts refusal halt halted = subst (λ (place : ℕ). Halts refusal halt (ref_by inner f place left)) is halted

  pub item_found : (found : Ref × Budget) → ref_by inner f link left ≡ Ok found → item_by inner f at k left ≡ Ok found
  item_found found is_found = ap (λ (place : ℕ). ref_by inner f place left) (sym is) ∙ is_found
