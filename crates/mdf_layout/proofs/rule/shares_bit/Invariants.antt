use Rattle.std.proofs.Common.{◌≡◌, ◌+◌, false}
use Rattle.mdf_format.specs.Field.{place_of}
use Rattle.mdf_layout.specs.Rule.{any_below, has_bit, spot_in}
use Rattle.mdf_layout.proofs.rule.shares_bit.Given as goal

-- none of the bits so far is the other field's
abbrev pub invariant-loop-i : goal.invariant-loop-i
invariant-loop-i l = any_below l.i (λ i. has_bit (spot_in l.other) (place_of (spot_in l.one) (l.one.bit + i))) ≡ false
