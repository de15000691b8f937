-- The opened blocks of a file at rest.
use Rattle.std.proofs.Common.{◌≡◌, ℕ, List}
use Rattle.mdf_gate.specs.Recording.{IsOpened}
use Rattle.mdf_gate.specs.Gated.{Rests}
use Rattle.mdf_gate.proofs.Once.{opened_once}
use Rattle.mdf_gate.proofs.Resting.{rests_opens}

-- it has no others
pub rested_once : (first : ℕ) (blocks others : List (List ℕ)) (place : ℕ) (file : List ℕ) → Rests first blocks place file → IsOpened file others → blocks ≡ others
rested_once first blocks others place file rests opened = opened_once file blocks others (rests_opens first blocks place file rests).1 opened
