-- The words that ask for a rotation, and the names of its parts.
use Rattle.std.specs.Prelude.{ℕ, ◌≡◌, List, [], ◌∷◌, ◌++◌, codes}
use Rattle.std.specs.Fmt.{decimal}

-- `rotate OUT`
abbrev pub AsksToRotate : List (List ℕ) → List ℕ → Type 0
AsksToRotate words output = words ≡ codes "rotate" ∷ output ∷ []

-- other words
abbrev pub AsksNoRotation : List (List ℕ) → Type 0
AsksNoRotation words = (output : List ℕ) → ¬ AsksToRotate words output

-- the name of a part: that of the output, a dot and the part's number
abbrev pub part_name : List ℕ → ℕ → List ℕ
part_name output number = output ++ (codes "." ++ decimal number)
