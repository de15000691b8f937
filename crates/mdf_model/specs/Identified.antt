-- Files that are identified as finalized ones.
use Rattle.std.specs.Prelude.{ℕ, ◌≡◌, List, Ok}
use Rattle.mdf_head.specs.declared.identity.Ident.{Ident}
use Rattle.mdf_model.specs.Tree.{finalized}

-- the identification is not refused: it is that of a finalized file, of a version that is read
abbrev pub IsIdentified : List ℕ → Type 0
IsIdentified file = (id : Ident) × (finalized file ≡ Ok id)
