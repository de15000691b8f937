-- What no part comes to.
use Rattle.std.specs.Prelude.{ℕ, ◌≡◌, replicate}
use Rattle.mdf_log.specs.declared.tally.Tally.{Tally}

pub record IsNone (sources : ℕ) (tally : Tally) : Type 0 where
  pub parts : tally.parts ≡ 0
  pub samples : tally.samples ≡ 0
  pub durable : tally.durable ≡ 0
  pub accepted : tally.accepted.items ≡ replicate sources 0
