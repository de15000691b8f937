use Rattle.std.proofs.Common.{◌≡◌, All, None, length}
use Rattle.mdf_program.proofs.parts.disks.Given as goal

-- so many were made
abbrev pub invariant-loop : goal.invariant-loop
invariant-loop g l = record {
  count : length l.disks.items ≡ l.counter;
  asked : All (λ disk. disk.asked ≡ None) l.disks.items;
}
