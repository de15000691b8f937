use Rattle.mdf_disk.specs.Asked.{asked_for}
use Rattle.mdf_gate.proofs.gated.GatedFile.into_disk.Goals as goal

pub returns-clause-asked : goal.returns-clause-asked
returns-clause-asked g c =
    let disk = c.self.inside.disk in
    asked_for (g.D.Disk.asked disk) (g.D.Disk.attached disk) (g.met.D.Disk.unasked disk) c.self.invariant.0
