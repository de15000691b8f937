-- The log of a view: the samples that its copies were handed, in one list that only grows.
use Rattle.std.specs.Prelude.{ℕ, ◌≡◌, ◌==◌, true, List, [], ◌∷◌, ◌++◌, length, MatchBool}
use Rattle.logbook.specs.Pages.{Book, Cell, Named, Step, View}
use Rattle.mdf_layout.specs.declared.sample.Sample.{Sample}

-- the first word of the book is the length of the log, and the second, which nobody has, is 0
abbrev pub IsKept : List Cell → List Sample → Type 0
IsKept cells log = cells ≡ (length log, true) ∷ (0, true) ∷ []

-- the first word of this book
abbrev pub head_of : Book → Named
head_of book = record { tracked = true; key = 0; book = book }

-- the sample was added to all that was seen, or the log has another length
abbrev pub Adds : Step Sample → View Sample ℕ → ℕ → View Sample ℕ → Type 0
Adds asked before found after =
    MatchBool (found == asked.old) (after.0 ≡ before.0 ++ asked.ask ∷ []) (length after.0 ≡ found)
