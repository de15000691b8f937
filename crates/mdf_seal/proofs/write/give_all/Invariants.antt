use Rattle.std.proofs.Common.{◌≡◌, ◌+◌, ◌-◌, ◌≤◌, length, take}
use Rattle.std.specs.Prelude.{IfSome}
use Rattle.std.specs.List.{concat}
use Rattle.mdf_disk.specs.Crash.{Adds}
use Rattle.mdf_disk.specs.Goes.{GoesOn}
use Rattle.mdf_seal.specs.Images.{IsClosed}
use Rattle.mdf_seal.specs.Seal.{Seals, synced}
use Rattle.mdf_seal.proofs.write.give_all.Given as goal

-- the pieces so far were given
abbrev pub invariant-loop-piece : goal.invariant-loop-piece
invariant-loop-piece g l =
    let disk = g.D.Disk in
    let old = l.initial.disk in
    record {
      seals : Seals l.seal (disk.content l.disk) (disk.story l.disk) (concat (take l.piece-index l.pieces));
      any_moment : Adds (disk.story old) (disk.story l.disk) IsClosed;
      calls : IfSome (disk.story old) (λ _. disk.moment l.disk ≤ disk.moment old + (length (concat (take l.piece-index l.pieces)) - 1));
      unsynced : synced (disk.story l.disk) ≡ synced (disk.story old);
      later : disk.faults old ≤ disk.faults l.disk;
      goes_on : GoesOn disk old l.disk;
    }
