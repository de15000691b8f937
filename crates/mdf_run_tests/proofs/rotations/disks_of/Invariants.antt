use Rattle.std.proofs.Common.{◌≡◌, All, None}
use Rattle.mdf_run_tests.proofs.rotations.disks_of.Given as goal

-- nothing was asked of those so far
abbrev pub invariant-loop-number : goal.invariant-loop-number
invariant-loop-number l = All (λ disk. disk.asked ≡ None) l.disks.items
