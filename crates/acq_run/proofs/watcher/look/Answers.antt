use Rattle.std.proofs.Common.{inl, ◌∙◌, ◌+◌, ◌-◌, ◌^◌, min, ap}
use Rattle.mdf_gate.proofs.Carrying.{prefix_trans}
use Rattle.acq_run.proofs.watcher.look.Goals as goal

pub returns-in-Ok : goal.returns-in-Ok
returns-in-Ok c =
    let learnt = c.learn.ensures in
    let grows = c.in-Ok.ensures.view in
    rw c.leave.ensures (record {
      told = prefix_trans _ _ _ learnt.told grows.samples;
      seen = prefix_trans _ _ _ learnt.seen grows.samples;
      which = grows.which ∙ learnt.same.0;
      looked = inl (grows.views ∙ ap (λ n. min (n + 1) (2 ^ 64 - 1)) learnt.views, grows.refusals ∙ learnt.same.1);
    })
