-- What is done in place.
use Rattle.std.specs.Prelude.{Bool, if◌then◌else◌, Option, Some, None}

-- what was made, or nothing where it was not admitted
abbrev pub done_as : {A : Type 0} → Bool → A → Option A
done_as done new = if done then Some new else None
