use Rattle.std.proofs.Common.{to_z-of_z}
use Rattle.mdf_disk.specs.State.{state_of}
use Rattle.mdf_port.specs.State.{sink_state}
use Rattle.tool_cut.specs.Cut.{Cutting, IsCutOf}
use Rattle.mdf_command.specs.Load.{IsLoaded}
use Rattle.mdf_make.specs.Cut.{Cuts, EndsCut}
use Rattle.mdf_make.specs.Making.{LeavesOf}
use Rattle.mdf_make.specs.Tool.{IsImage}
use Rattle.mdf_make.proofs.Leaving.{same_range}
use Rattle.mdf_make.proofs.WithoutRest.{made_leaves}
use Rattle.mdf_make.proofs.cutting.run_cut.Goals as goal

pub returns-clause-ends : goal.returns-clause-ends
returns-clause-ends g c =
    same_range (λ (asked : Cutting). EndsCut asked (state_of g.A.Disk c.args.first.now) (state_of g.A.Disk c.run_tool.new.first)
    (state_of g.C.Disk c.args.out.now) (state_of g.C.Disk c.run_tool.new.out) (sink_state g.K.Sink c.args.sink.now) (sink_state g.K.Sink c.run_tool.new.sink) c.run_tool.result)
    c.args.from c.args.to _ _ c.args.of.now.now_ns (to_z-of_z c.ranges.from) (to_z-of_z c.ranges.to) c.run_tool.ensures.ends

pub returns-clause-any_moment : goal.returns-clause-any_moment
returns-clause-any_moment g c =
    let asked : Cutting = record { from = c.args.from; to = c.args.to; now = c.args.of.now.now_ns } in
    made_leaves (IsLoaded (state_of g.A.Disk c.args.first.now)) (λ file. IsCutOf file asked)
    (state_of g.C.Disk c.args.out.now) (state_of g.C.Disk c.run_tool.new.out)
    (same_range (λ (asked : Cutting). LeavesOf (IsLoaded (state_of g.A.Disk c.args.first.now)) (λ file. IsImage (Cuts asked file))
    (state_of g.C.Disk c.args.out.now) (state_of g.C.Disk c.run_tool.new.out))
    c.args.from c.args.to _ _ c.args.of.now.now_ns (to_z-of_z c.ranges.from) (to_z-of_z c.ranges.to) c.run_tool.ensures.any_moment)
