-- The feed of a list hands in the front of what is left of it.
use Rattle.std.proofs.Common.{◌≡◌, ◌∙◌, sym, ap, refl, List, [], ◌++◌, append_assoc}
use Rattle.acq_run.specs.declared.feed.Fed.{Fed}

abbrev pub IsBehind : List Fed → List Fed → List Fed → Type 0
IsBehind old feds new = old ≡ feds ++ new

-- of what it handed in last a list says nothing
abbrev pub IsAny : List Fed → Fed → Type 0
IsAny left task = Unit {0}

abbrev pub IsEmpty : List Fed → Type 0
IsEmpty left = left ≡ []

pub behind_none : (left : List Fed) → IsBehind left [] left
behind_none left = refl

pub behind_more : (first second third : List Fed) (some more : List Fed) → IsBehind first some second → IsBehind second more third → IsBehind first (some ++ more) third
behind_more first second third some more one two = one ∙ ap (λ (rest : List Fed). some ++ rest) two ∙ sym (append_assoc some more third)
