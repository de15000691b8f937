use Rattle.std.proofs.Common.{◌≡◌, arith, length-append, None}
use Rattle.std.proofs.lemmas.List.Elements.{All-push}
use Rattle.mdf_program.proofs.parts.disks.Goals as goal

pub loop-preserved : goal.loop-preserved
loop-preserved g c = rw c.in_ok-push.ensures.items (record {
  count = omega (arith, length-append c.loop.disks.items, c.loop.invariant.count);
  asked = All-push (λ disk. disk.asked ≡ None) c.loop.disks.items c.new.result c.loop.invariant.asked c.new.ensures.asked;
})
