use Rattle.mdf_disk.specs.State.{state_of}
use Rattle.tool_sort.specs.Sort.{IsSorting}
use Rattle.mdf_command.specs.Load.{IsLoaded}
use Rattle.mdf_make.proofs.WithoutRest.{made_leaves}
use Rattle.mdf_make.proofs.sort.run_sort.Goals as goal

pub returns-clause-any_moment : goal.returns-clause-any_moment
returns-clause-any_moment g c =
    made_leaves (IsLoaded (state_of g.A.Disk c.args.first.now)) (λ file. IsSorting file c.args.from.now.now_ns)
    (state_of g.C.Disk c.args.out.now) (state_of g.C.Disk c.run_tool.new.out) c.run_tool.ensures.any_moment
