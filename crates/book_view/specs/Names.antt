-- Which log it is.
use Rattle.std.specs.Prelude.{ℕ, ◌+◌, ◌*◌, List, [], ◌∷◌}
use Rattle.logbook.specs.Pages.{Book}

-- as a list
abbrev pub name_of : Book → List ℕ
name_of book = book.number ∷ book.log_name ∷ book.cells_name ∷ []

-- one number for two; no other two have it
abbrev pub paired : ℕ → ℕ → ℕ
paired a b = (a + b) * (a + b) + a

-- as one number
abbrev pub code_of : Book → ℕ
code_of book = paired book.number (paired book.log_name book.cells_name)
