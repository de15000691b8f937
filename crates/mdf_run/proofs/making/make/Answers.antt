use Rattle.mdf_disk.specs.State.{state_of}
use Rattle.mdf_port.specs.State.{sink_state}
use Rattle.tool_cut.specs.Cut.{IsCutImage}
use Rattle.mdf_command.specs.Load.{IsLoaded}
use Rattle.mdf_make.specs.Cut.{EndsCut}
use Rattle.mdf_make.specs.Making.{LeavesOf}
use Rattle.mdf_run.proofs.Words.{passed}
use Rattle.mdf_run.proofs.making.make.Goals as goal

-- the range is passed on as it is
pub returns-in-Cut-clause-ends : goal.returns-in-Cut-clause-ends
returns-in-Cut-clause-ends g c =
    let m = c.in-Cut in
    let bounds = rw m.is at c.requires.numbers in
    rw m.is (passed (λ from to. EndsCut (record { from = from; to = to; now = c.args.from.now.now_ns }) (state_of g.A.Disk c.args.first.now) (state_of g.A.Disk c.run_cut.new.first)
    (state_of g.C.Disk c.args.out.now) (state_of g.C.Disk c.run_cut.new.out) (sink_state g.K.Sink c.args.sink.now) (sink_state g.K.Sink c.run_cut.new.sink) c.run_cut.result)
    m.start m.to bounds c.run_cut.ensures.ends)

pub returns-in-Cut-clause-any_moment : goal.returns-in-Cut-clause-any_moment
returns-in-Cut-clause-any_moment g c =
    let m = c.in-Cut in
    let bounds = rw m.is at c.requires.numbers in
    rw m.is (passed (λ from to. LeavesOf (IsLoaded (state_of g.A.Disk c.args.first.now))
    (λ file. IsCutImage file (record { from = from; to = to; now = c.args.from.now.now_ns })) (state_of g.C.Disk c.args.out.now) (state_of g.C.Disk c.run_cut.new.out))
    m.start m.to bounds c.run_cut.ensures.any_moment)

pub returns-in-Finalized-clause-any_moment : goal.returns-in-Finalized-clause-any_moment
returns-in-Finalized-clause-any_moment g c = rw c.in-Finalized.is c.run_finalize.ensures.any_moment
