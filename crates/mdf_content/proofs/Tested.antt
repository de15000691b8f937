-- Whether a value stands at an offset.
use Rattle.std.proofs.Common.{◌≡◌, ◌+◌, ◌<◌, ◌≤◌, ℕ, Bool, false, List, length, sym, ◌∙◌, ap, arith}
use Rattle.std.proofs.lemmas.Bool.{le-leb, lt-leb}
use Rattle.std.specs.Prelude.{◌&&◌, nat_le}
use Rattle.mdf_vlsd.specs.Value.{size_there}
use Rattle.mdf_content.specs.Values.{has_value}

module _ (stream : List ℕ) (offset total : ℕ) (long : length stream ≡ total) where
  -- its length does not
  pub value_short : total < offset + 4 → false ≡ has_value stream offset
  value_short short =
      sym (ap (λ (b : Bool). b && nat_le (offset + 4 + size_there stream offset) (length stream))
      (lt-leb (offset + 4) (length stream) (omega (arith, long, short))))

  -- its length does
  pub value_tested : (place size : ℕ) → place ≡ offset + 4 → place ≤ total → size ≡ size_there stream offset
      → nat_le (place + size) total ≡ has_value stream offset
  value_tested place size begins within is =
      ap (λ (n : ℕ). nat_le (n + size) total) begins
      ∙ ap (λ (n : ℕ). nat_le (offset + 4 + n) total) is
      ∙ ap (nat_le (offset + 4 + size_there stream offset)) (sym long)
      ∙ sym (ap (λ (b : Bool). b && nat_le (offset + 4 + size_there stream offset) (length stream))
      (le-leb (offset + 4) (length stream) (omega (arith, long, begins, within))))
