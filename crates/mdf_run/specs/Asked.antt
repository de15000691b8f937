-- What is asked for by the words, if anything, of the source and of which files.
use Rattle.std.specs.Prelude.{ℕ, List, Option, Some, None}
use Rattle.mdf_command.specs.Words.{IsInRange, Request, recorded}
use Rattle.mdf_command.specs.Commands.{request_of}
use Rattle.mdf_command.specs.declared.command.Command.{Command}
use Rattle.mdf_command.specs.declared.command.Origin.{Origin}
use Rattle.mdf_command.specs.declared.command.Origin.TheVariants.{Source}

-- what a command asks for, if there is one
abbrev pub asked_by : Option Command → Option Request
asked_by None = None
asked_by (Some command) = Some (request_of command)

-- the file of what is asked for that is read or made
abbrev pub file_asked : (Request → Option (List ℕ)) → Option Request → Option (List ℕ)
file_asked file_of None = None
file_asked file_of (Some request) = file_of request

-- nothing is recorded, and nothing is taken from the source
abbrev pub IsUnrecorded : Option Request → Type 0
IsUnrecorded (Some (recorded output origin)) = ⊥
IsUnrecorded _ = Unit {0}

abbrev pub TakesNone : Origin → Type 0
TakesNone Source = ⊥
TakesNone _ = Unit {0}

abbrev pub TakesNothing : Option Request → Type 0
TakesNothing (Some (recorded output origin)) = TakesNone origin
TakesNothing _ = Unit {0}

-- its numbers are such as it takes
abbrev pub HasNumbers : Option Request → Type 0
HasNumbers None = Unit {0}
HasNumbers (Some request) = IsInRange request
