-- What was asked for, of a disk that stands over another.
use Rattle.std.specs.Prelude.{◌≡◌, Bool, true, false, Option, Some, None, IsSome, refl}

-- what the first was asked for, or else what the second was
abbrev pub first_asked : {A : Type 0} → Option A → Option A → Option A
first_asked None asked = asked
first_asked (Some a) asked = Some a

-- where nothing was asked of both, the disk below is not attached
pub unasked_below : {A : Type 0} (refused asked : Option A) (attached : Bool) → (asked ≡ None → attached ≡ false)
    → first_asked refused asked ≡ None → attached ≡ false
unasked_below None asked attached below none = below none
unasked_below (Some a) asked attached below none = cc

-- what is attached was asked for
pub asked_for : {A : Type 0} (asked : Option A) (attached : Bool) → (asked ≡ None → attached ≡ false) → attached ≡ true
    → IsSome asked
asked_for (Some a) attached unasked is = refl
asked_for None true unasked is = cc (unasked refl)
asked_for None false unasked is = is
