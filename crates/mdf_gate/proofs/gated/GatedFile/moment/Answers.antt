use Rattle.mdf_gate.proofs.Appends.{rests_leaves}
use Rattle.mdf_gate.proofs.gated.GatedFile.moment.Goals as goal

pub returns-clause-leaves : goal.returns-clause-leaves
returns-clause-leaves g c = rw (← c.self.view_is, c.moment.ensures) (λ blocks rests.
    let file = c.self.inside in
    let story = g.D.Disk.story file.disk in
    rests_leaves (g.D.Disk.content file.disk) story _ file.first blocks file.place (g.met.D.Disk.agrees file.disk) rests)
