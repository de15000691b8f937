use Rattle.std.proofs.Common.{◌≡◌, false}
use Rattle.mdf_layout.specs.Rule.{any_below, meets_at}
use Rattle.mdf_layout.proofs.rule.meets_another.Given as goal

-- it meets none of the channels so far
abbrev pub invariant-loop-j : goal.invariant-loop-j
invariant-loop-j l = any_below l.j (meets_at l.rows l.k l.row) ≡ false
