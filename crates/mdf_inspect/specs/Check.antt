-- The command `check IN`.
use Rattle.std.specs.Prelude.{ℕ, Bool, true, false, List, [], ◌∷◌, codes}
use Rattle.mdf_disk.specs.State.{DiskState}
use Rattle.mdf_port.specs.State.{SinkState}
use Rattle.mdf_command.specs.Texts.{line}
use Rattle.mdf_inspect.specs.Reading.{EndsReading, Reading}

-- whether the file is as the standard has a finalized one
abbrev pub verdict_line : Bool → List ℕ
verdict_line true = line (codes "valid" ∷ [])
verdict_line false = line (codes "readable" ∷ [])

abbrev pub verdict_text : Reading → List ℕ
verdict_text found = verdict_line found.strict

-- How the command ends.
abbrev pub EndsCheck : DiskState → DiskState → SinkState → SinkState → ℕ → Type 0
EndsCheck = EndsReading verdict_text
