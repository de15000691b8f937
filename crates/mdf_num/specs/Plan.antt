-- What a plan of faults has: the calls that are to fail, how many calls were begun, and how many failed.
use Rattle.std.specs.Prelude.{ℕ, List}

pub record Plan : Type 0 where
  pub failing : List ℕ
  pub calls : ℕ
  pub faults : ℕ
