-- A closed first byte, over the calls of a disk.
use Rattle.std.proofs.Common.{ℕ, List, ◌∙◌, arith}
use Rattle.mdf_disk.specs.Story.{Moment, MayLeave}
use Rattle.mdf_seal.specs.Images.{IsShut, IsClosed}

-- what may be left has the closed byte
pub shut_leaves : (moment : Moment) (file : List ℕ) → IsShut moment → MayLeave moment file → IsClosed file
shut_leaves moment file shut left = left.kept 0 (omega (arith, shut.some)) shut.untouched ∙ shut.shut
