-- What is found is one, and a test goes one of two ways.
use Rattle.std.proofs.Common.{◌≡◌, ◌⊎◌, Bool, true, false, Option, Some, Ok, Err, refl, inl, inr, sym, ◌∙◌}
use Rattle.std.specs.Prelude.{if◌then◌else◌}
use Rattle.mdf_block.specs.Refusal.{Read, Refusal}

pub ok_injective : {A : Type 0} (x y : A) → ◌≡◌ {A = Read A} (Ok x) (Ok y) → x ≡ y
ok_injective x y same = cc

pub some_injective : {A : Type 0} (x y : A) → ◌≡◌ {A = Option A} (Some x) (Some y) → x ≡ y
some_injective x y same = cc

pub two_ways : (b : Bool) → (b ≡ true) ⊎ (b ≡ false)
two_ways true = inl refl
two_ways false = inr refl

-- what is read where a test holds, and is refused else
pub if_ok : {A : Type 0} (b : Bool) (read : Read A) (refusal : Refusal) (x : A) → ◌≡◌ {A = Read A} (if b then read else Err refusal) (Ok x)
    → (b ≡ true) × (read ≡ Ok x)
if_ok true read refusal x is = (refl, is)
if_ok {A} false read refusal x is = let wrong : ◌≡◌ {A = Read A} (Err refusal) (Ok x) = is in cc

-- something is found, or refused
pub found_or_not : {A : Type 0} (read : Read A) → ((x : A) × (read ≡ Ok x)) ⊎ ((refusal : Refusal) × (read ≡ Err refusal))
found_or_not (Ok x) = inl (x, refl)
found_or_not (Err refusal) = inr (refusal, refl)

-- what is read is not refused
pub not_both : {A : Type 0} (read : Read A) (x : A) (refusal : Refusal) → read ≡ Ok x → read ≡ Err refusal → ⊥
not_both {A} read x refusal found refused = let wrong : ◌≡◌ {A = Read A} (Ok x) (Err refusal) = sym found ∙ refused in cc
