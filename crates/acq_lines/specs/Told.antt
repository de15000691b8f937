-- The acknowledgements: how many samples of a source are durable.
use Rattle.std.specs.Prelude.{ℕ, ◌≡◌, ◌≤◌, ◌∷◌, [], Bool, true, false, List, codes}
use Rattle.std.specs.List.{flat_map}
use Rattle.std.specs.Fmt.{decimal}
use Rattle.std.specs.Io.KnownBytes.{Appends}
use Rattle.mdf_format.specs.Cause.{Rose}
use Rattle.mdf_port.specs.Sink.{AppendsFront}
use Rattle.mdf_port.specs.State.{SinkState}
use Rattle.mdf_command.specs.Texts.{line}

-- the line of so many samples of a source, and the lines of several
abbrev pub durable_line : ℕ → ℕ → List ℕ
durable_line source n = line (codes "source " ∷ decimal source ∷ codes " durable " ∷ decimal n ∷ [])

abbrev pub durable_lines : ℕ → List ℕ → List ℕ
durable_lines source numbers = flat_map (durable_line source) numbers

-- From one moment to another, where the sink had failed before, or not, and has by then: it was given just the lines of these
-- numbers; it failed meanwhile, and has a front of them; one that has failed is given no more.
abbrev pub TellsOn : Bool → Bool → SinkState → SinkState → ℕ → List ℕ → Type 0
TellsOn true deaf old new source numbers = (deaf ≡ true) × (new ≡ old)
TellsOn false false old new source numbers = Appends old.held new.held (durable_lines source numbers) × (old.faults ≤ new.faults)
TellsOn false true old new source numbers = AppendsFront old.held new.held (durable_lines source numbers) × Rose old.faults new.faults
