-- Recordings whose opened blocks hold the same data.
use Rattle.std.specs.Prelude.{ℕ, ◌≡◌, List}
use Rattle.std.specs.List.{concat}
use Rattle.mdf_gate.specs.Recording.{IsOpened}

-- the data of the opened blocks of one file, one behind the other, are those of another, however they are cut into blocks
abbrev pub HaveSameData : List ℕ → List ℕ → Type 0
HaveSameData file second =
    (blocks others : List (List ℕ)) → IsOpened file blocks → IsOpened second others → concat blocks ≡ concat others
