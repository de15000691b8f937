use Rattle.std.proofs.Common.{ap, length, arith, length-append}
use mathlib.Core.List.{IsPrefix}
use Rattle.mdf_gate.proofs.Carrying.{prefix_trans}
use Rattle.acq_run.proofs.watcher.found.Goals as goal

pub returns-in-Ok : goal.returns-in-Ok
returns-in-Ok c =
    let told : IsPrefix c.args.note.samples c.in-Ok.view.samples = prefix_trans _ _ _ c.learn.ensures.told c.in-Ok.ensures.view.samples in
    omega (arith, ap length told.1, length-append c.args.note.samples told.0)
