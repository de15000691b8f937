use Rattle.std.proofs.Common.{◌≡◌, None}
use Rattle.std.proofs.lemmas.List.Elements.{All-push}
use Rattle.mdf_run_tests.proofs.rotations.disks_of.Goals as goal

pub loop-number-preserved : goal.loop-number-preserved
loop-number-preserved c = rw c.in_ok-push.ensures.items
    (All-push (λ disk. disk.asked ≡ None) c.loop-number.disks.items c.in_ok-disk_of.field-0 c.loop-number.invariant c.in_ok-disk_of.ensures)
