-- What a call on the operating system answered.
use Rattle.std.specs.Prelude.{◌≡◌, Result, Ok, Err}

-- the same answer, where one error stands in place of another
abbrev pub IsAnswer : {A E F : Type 0} → Result A E → Result A F → Type 0
IsAnswer (Ok x) (Ok y) = y ≡ x
IsAnswer (Err e) (Err f) = Unit {0}
IsAnswer _ _ = ⊥
