-- What a span tells of its bytes.
use Rattle.std.specs.Prelude.{ℕ, ◌≡◌, List, Option, IfSome, length}

-- the bytes that are told are as many as the span says
abbrev pub IsTold : Option (List ℕ) → ℕ → Type 0
IsTold bytes size = IfSome bytes (λ file. length file ≡ size)
