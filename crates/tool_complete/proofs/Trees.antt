-- What is found of a file by its data groups, and nothing where these are not found.
use Rattle.std.proofs.Common.{◌≡◌, ℕ, Bool, List, [], Option, Some, None, Result, Ok, Err, sym, ◌∙◌, ap}
use Rattle.std.specs.Prelude.{IfOk}
use Rattle.std.specs.List.{flat_map}
use Rattle.mdf_block.specs.Refusal.{Read, Refusal, Refuses}
use Rattle.mdf_model.specs.declared.tree.Tree.{Tree}
use Rattle.mdf_model.specs.Tree.{tree}
use Rattle.tool_complete.specs.declared.cut.Cut.{Cut}
use Rattle.tool_complete.specs.declared.mended.Mended.{Mended}
use Rattle.tool_complete.specs.declared.setting.Setting.{Setting}
use Rattle.tool_complete.specs.Completed.{counts_if, first_cut, mended, mended_by}
use Rattle.tool_complete.specs.Ended.{last_by, last_of}

-- a fault is a refusal
refused : {A : Type 0} (fault : Option Refusal) (read : Read A) → Refuses fault read → (refusal : Refusal) × (read ≡ Err refusal)
refused None read refuses = absurd refuses
refused (Some refusal) read refuses = (refusal, refuses)

abbrev made : Option Cut → List Setting → Mended
made cut counts = record { cut = cut; counts = counts }

module _ (file : List ℕ) where
  pub last_none : (fault : Option Refusal) → Refuses fault (tree file) → 0 ≡ last_by file (tree file)
  last_none fault refuses = sym (ap (last_by file) (refused fault (tree file) refuses).1)

  pub last_there : {E : Type 0} (found : Tree) (result : Result ℕ E) → tree file ≡ Ok found → IfOk result (λ last. last ≡ last_of file found.rows)
      → IfOk result (λ last. last ≡ last_by file (tree file))
  last_there found (Ok last) there is = is ∙ sym (ap (last_by file) there)
  last_there found (Err problem) there is = tt

  module _ (last : ℕ) (counted : Bool) where
    pub mended_none : (fault : Option Refusal) → Refuses fault (tree file) → mended file last counted ≡ record { cut = None; counts = [] }
    unfolding mended
    mended_none fault refuses = ap (mended_by file last counted) (refused fault (tree file) refuses).1

    pub mended_there : {E : Type 0} (found : Tree) (result : Result Mended E) → tree file ≡ Ok found
        → IfOk result (λ one. one.counts ≡ flat_map (counts_if counted file) found.rows) → IfOk result (λ one. one.cut ≡ first_cut file last found.rows)
        → IfOk result (λ one. one ≡ mended file last counted)
    unfolding mended
    mended_there found (Ok one) there counts cut =
        ap (λ (first : Option Cut). made first one.counts) cut
        ∙ ap (made (first_cut file last found.rows)) counts
        ∙ sym (ap (mended_by file last counted) there)
    mended_there found (Err problem) there counts cut = tt
