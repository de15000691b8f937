-- A list with room that was found beforehand.
use Rattle.std.specs.Prelude.{ℕ, List}

-- the items, and how many more it can take without memory
pub record Stock (T : Type 0) : Type 0 where
  pub items : List T
  pub spare : ℕ
