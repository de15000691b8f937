use Rattle.mdf_disk.specs.State.{state_of}
use Rattle.tool_attach.specs.Carry.{IsCarrying}
use Rattle.mdf_make.specs.Attach.{carrying_of}
use Rattle.mdf_make.specs.Concat.{AreBothLoaded}
use Rattle.mdf_make.proofs.WithoutRest.{made_leaves}
use Rattle.mdf_make.proofs.attach.run_attach.Goals as goal

pub returns-clause-any_moment : goal.returns-clause-any_moment
returns-clause-any_moment g c =
    made_leaves (AreBothLoaded c.args.from.now.now_ns (state_of g.A.Disk c.args.first.now) (state_of g.B.Disk c.args.second.now)) (λ asked. IsCarrying (carrying_of asked))
    (state_of g.C.Disk c.args.out.now) (state_of g.C.Disk c.run_pair.new.out) c.run_pair.ensures.any_moment
