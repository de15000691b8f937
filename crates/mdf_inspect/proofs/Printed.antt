-- What is printed where the lines of a command were given, or not.
use Rattle.std.proofs.Common.{ℕ, List, Result, Ok, Err, refl, inl, inr}
use Rattle.mdf_port.specs.State.{SinkState}
use Rattle.mdf_command.specs.Texts.{Gives, Prints, status_after}

pub printed : {E : Type 0} (text : List ℕ) (status : ℕ) (old new : SinkState) (given : Result Unit E) → Gives text old new given
    → Prints text status old new (status_after given status)
printed text status old new (Ok done) gives = inl (gives.ok, refl)
printed text status old new (Err failed) gives = inr (gives.err, gives.cause.failed, refl)
