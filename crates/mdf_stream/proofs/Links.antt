-- What the links of a DLBLOCK name, and what holds of all parts of a list.
use Rattle.std.proofs.Common.{◌≡◌, ℕ, List, [], ◌∷◌, ◌++◌, Option, Ok, sym, ◌∙◌, ap, subst}
use Rattle.std.specs.List.{AllByRecursion}
use Rattle.mdf_format.specs.Block.{link_at}
use Rattle.mdf_format.specs.declared.kind.Kind.{Kind}
use Rattle.mdf_num.specs.declared.halt.Halt.{Halt}
use Rattle.mdf_block.specs.Refusal.{Refusal, Halts}
use Rattle.mdf_stream.specs.declared.part.Part.{Part}
use Rattle.mdf_stream.specs.Parts.{ArePartsInside}
use Rattle.mdf_stream.specs.Link.{data_block, named_block, joined}

-- what a link names, by its number in the block
module _ (f : List ℕ) (want : Kind) (at k link left : ℕ) (is : link ≡ link_at f at k) where
  pub named_halts : {E : Type 0} (refusal : E → Option Refusal) (halt : Halt E) → Halts refusal halt (data_block f want link left)
      → Halts refusal halt (named_block f want at k left)
  named_halts refusal halt halted = subst (λ (place : ℕ). Halts refusal halt (data_block f want place left)) is halted

  pub named_found : (found : Part × ℕ) → data_block f want link left ≡ Ok found → named_block f want at k left ≡ Ok found
  named_found found is_found = ap (λ (place : ℕ). data_block f want place left) (sym is) ∙ is_found

-- what holds of each item holds of one more
pub all_more : {A : Type 0} (P : A → Type 0) (xs ys : List A) → AllByRecursion P xs → AllByRecursion P ys → AllByRecursion P (xs ++ ys)
all_more P [] ys front rest = rest
all_more P (x ∷ xs) ys front rest = (front.0, all_more P xs ys front.1 rest)

-- what lies inside list by list lies inside as one
pub all_joined : (size : ℕ) (lists : List (List Part)) → AllByRecursion (ArePartsInside size) lists → ArePartsInside size (joined lists)
all_joined size [] inside = tt
all_joined size (parts ∷ lists) inside = all_more _ parts (joined lists) inside.0 (all_joined size lists inside.1)
