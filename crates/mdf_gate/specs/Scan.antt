-- The opened units from a place on, counted.
use Rattle.std.specs.Prelude.{ℕ, ◌≡◌, ◌+◌, List, [], ◌∷◌, length, Ok}
use Rattle.mdf_format.specs.Number.{aligned}
use Rattle.mdf_format.specs.declared.form.Form.{Form}
use Rattle.mdf_stream.specs.declared.part.Part.{Part}
use Rattle.mdf_stream.specs.Parts.{stream_size}
use Rattle.mdf_gate.specs.Units.{opened_from}
use Rattle.mdf_gate.specs.declared.answer.Opened.{Opened}

-- the place behind the units with these bodies, the first of which stands at this place
unfoldable pub place_after : ℕ → List Part → ℕ
place_after place [] = place
place_after place (part ∷ parts) = place_after (aligned (part.at + part.len)) parts

-- the opened units from a place on are so many, with so many bytes, up to the next place
pub record AreCounted (form : Form) (file : List ℕ) (place : ℕ) (count : Opened) : Type 0 where
  pub parts : List Part
  pub found : opened_from form file (length file) place ≡ Ok parts
  pub from : count.first ≡ place
  pub number : count.blocks ≡ length parts
  pub total : count.bytes ≡ stream_size parts
  pub next : count.next ≡ place_after place parts
