-- The front of a finalized file.
use Rattle.std.specs.Prelude.{ℕ, ◌≡◌}
use Rattle.mdf_spell.specs.declared.finalized.Front.{Front}
use Rattle.mdf_spell.specs.declared.recovered.Recovered.{Recovered}
use Rattle.mdf_spell.specs.Session.{session_names, front_blocks}
use Rattle.mdf_spell.specs.Standing.{data_number}

-- the front of the finalized file of what was recovered, at a time in ns
pub record IsFrontOf (recovered : Recovered) (now : ℕ) (front : Front) : Type 0 where
  pub blocks : front.blocks ≡ front_blocks recovered now
  pub names : front.names.items ≡ session_names (data_number recovered now) recovered.row.now
