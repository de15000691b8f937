-- Files that are identified as recordings.
use Rattle.std.specs.Prelude.{ℕ, ◌≡◌, List, Ok}
use Rattle.mdf_head.specs.declared.identity.Ident.{Ident}
use Rattle.mdf_session.specs.Session.{recording}

-- the identification is not refused: it is that of a recording, of a version that is read
abbrev pub IsIdentifiedRecording : List ℕ → Type 0
IsIdentifiedRecording file = (id : Ident) × (recording file ≡ Ok id)
