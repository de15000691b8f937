-- The finalized file of what was recovered, by its blocks.
use Rattle.std.proofs.Common.{◌≡◌, ◌^◌, ◌<◌, ℕ, List, ◌∙◌, ap, subst}
use Rattle.std.specs.List.{AllByRecursion}
use Rattle.mdf_block.specs.Draft.{Placed, written, AllStand}
use Rattle.mdf_spell.specs.declared.recovered.Recovered.{Recovered}
use Rattle.mdf_spell.specs.Counts.{IsCounted}
use Rattle.mdf_spell.specs.Session.{finalized_ident, session_blocks, session_file}
use Rattle.mdf_spell.specs.Standing.{IsRecoveredOf, IsSessionTree}
use Rattle.mdf_spell.proofs.SessionTrees.{session_stands}
use Rattle.mdf_spell.proofs.Cleans.{recovered_clean}

-- its bytes are those of the blocks
pub blocks_written : (recovered : Recovered) (now : ℕ) (blocks : List Placed) (bytes : List ℕ) → blocks ≡ session_blocks recovered now
    → bytes ≡ written finalized_ident blocks → bytes ≡ session_file recovered now
blocks_written recovered now blocks bytes placed is = is ∙ ap (λ (given : List Placed). written finalized_ident given) placed

-- and what was read of a file stands in it
pub blocks_keep : (file : List ℕ) (recovered : Recovered) (now : ℕ) (blocks : List Placed) (bytes : List ℕ) → now < 2 ^ 64 → IsCounted recovered
    → AllByRecursion (λ count. count < 2 ^ 64) recovered.counts.now → blocks ≡ session_blocks recovered now → AllStand bytes blocks
    → IsRecoveredOf file recovered → IsSessionTree bytes recovered now
blocks_keep file recovered now blocks bytes in_time counted fit placed stand is =
    session_stands bytes recovered now in_time counted (recovered_clean file recovered fit is)
    (subst (λ (given : List Placed). AllStand bytes given) placed stand)
