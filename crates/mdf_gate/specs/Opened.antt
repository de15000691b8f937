-- How many opened blocks a recording has, and where.
use Rattle.std.specs.Prelude.{ℕ, ◌≡◌, List, length, sum_by}
use Rattle.mdf_gate.specs.Recording.{IsOpenedTo, first_place}
use Rattle.mdf_gate.specs.declared.answer.Opened.{Opened}

-- these are the number and the total length of the opened blocks, the first place and the last
pub record IsCountOf (file : List ℕ) (count : Opened) : Type 0 where
  pub bodies : List (List ℕ)
  pub opened : IsOpenedTo file bodies count.next
  pub number : count.blocks ≡ length bodies
  pub total : count.bytes ≡ sum_by length bodies
  pub from : count.first ≡ first_place file
