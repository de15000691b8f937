-- Bytes in the place of others.
use Rattle.std.proofs.Common.{◌≡◌, ◌⊎◌, ⊎_elim, ℕ, ◌+◌, ◌-◌, ◌≤◌, ◌<◌, max, List, ◌++◌, length, get_or, take, drop, ◌∙◌, ap, arith, length-append, length-drop}
use Rattle.std.proofs.lemmas.List.{length-take-le, get_or_append_left, get_or-append_right, get_or-take, get_or-drop}
use Rattle.mdf_format.specs.Number.{patched}

module _ (at : ℕ) (part bytes : List ℕ) (within : at ≤ length bytes) where
  front : length (take at bytes ++ part) ≡ at + length part
  front = omega (arith, length-append (take at bytes) part, length-take-le at bytes within)

  pub length-patched : length (patched at part bytes) ≡ max (length bytes) (at + length part)
  length-patched =
      omega (arith, front, length-append (take at bytes ++ part) (drop (at + length part) bytes), length-drop (at + length part) bytes)

  before : (place : ℕ) → place < at → get_or (patched at part bytes) place 0 ≡ get_or bytes place 0
  before place below =
      get_or_append_left (take at bytes ++ part) (drop (at + length part) bytes) 0 place (omega (arith, front))
      ∙ get_or_append_left (take at bytes) part 0 place (omega (arith, length-take-le at bytes within))
      ∙ get_or-take at bytes place 0 below

  behind : (place : ℕ) → at + length part ≤ place → get_or (patched at part bytes) place 0 ≡ get_or bytes place 0
  behind place above =
      let same : at + length part + (place - (at + length part)) ≡ place = omega arith in
      get_or-append_right (take at bytes ++ part) (drop (at + length part) bytes) (at + length part) place 0 front above
      ∙ get_or-drop (at + length part) bytes (place - (at + length part)) 0
      ∙ ap (λ (p : ℕ). get_or bytes p 0) same

  -- outside the range each byte is as before
  pub get_or-patched : (place : ℕ) → (place < at) ⊎ (at + length part ≤ place) → get_or (patched at part bytes) place 0 ≡ get_or bytes place 0
  get_or-patched place = ⊎_elim (before place) (behind place)
