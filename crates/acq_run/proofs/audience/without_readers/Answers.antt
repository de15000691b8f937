use Rattle.std.proofs.Common.{◌≡◌, arith, length-append, None}
use Rattle.std.proofs.lemmas.List.Elements.{All-push}
use Rattle.acq_run.specs.declared.watcher.Watcher.{Watcher}
use Rattle.acq_run.proofs.audience.without_readers.Goals as goal

pub loop-preserved : goal.loop-preserved
loop-preserved c = rw c.in_ok-push.ensures.items (record {
  count = omega (arith, length-append c.loop.made.items, c.loop.invariant.count);
  made = All-push (λ (watcher : Watcher). watcher ≡ record { reader = None; told = 0; flushes = 0 }) c.loop.made.items c.new.result c.loop.invariant.made c.new.ensures;
})
