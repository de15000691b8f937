use Rattle.mdf_disk.specs.State.{state_of}
use Rattle.mdf_command.specs.Load.{IsLoaded}
use Rattle.mdf_make.specs.Finalize.{Finalizes, IsFinalImage}
use Rattle.mdf_make.specs.Tool.{IsImage}
use Rattle.mdf_make.proofs.Finalizing.{final_image}
use Rattle.mdf_make.proofs.WithoutRest.{leaves_more}
use Rattle.mdf_make.proofs.finalize.run_finalize.Goals as goal

pub returns-clause-any_moment : goal.returns-clause-any_moment
returns-clause-any_moment g c =
    leaves_more (IsLoaded (state_of g.A.Disk c.args.first.now)) (λ file. IsImage (Finalizes c.args.from.now.now_ns file)) (λ file. IsFinalImage file c.args.from.now.now_ns)
    (state_of g.C.Disk c.args.out.now) (state_of g.C.Disk c.run_tool.new.out) (λ file. final_image file c.args.from.now.now_ns) c.run_tool.ensures.any_moment
