use Rattle.std.proofs.lemmas.Result.{err_from_is_err_and}
use Rattle.mdf_disk.specs.State.{state_of}
use Rattle.mdf_disk.specs.Crash.{Adds}
use Rattle.tool_attach.specs.Carry.{Carrying, IsCarryImage}
use Rattle.tool_attach.proofs.Ends.{leaves, unwritten_ends, written_ends}
use Rattle.tool_attach.proofs.attaching.attach.Given as given
use Rattle.tool_attach.proofs.attaching.attach.Goals as goal
use Rattle.tool_attach.proofs.attaching.attach.Goals.{After-write_made}

pub returns-in_err-made-clause-ends : goal.returns-in_err-made-clause-ends
returns-in_err-made-clause-ends g c =
    let p = err_from_is_err_and c.from_residual.result c.from_residual.ensures.1 in
    rw (p.1, p.2) (c.in_err-made.ensures.refused (state_of g.C.Disk c.args.out.now))

-- no file joins but one of what was made, or one that is no MDF file
adds : (g : given.Over) (c : After-write_made g)
    → Adds (g.C.Disk.story c.args.out.now) (g.C.Disk.story c.write_made.new.out) (IsCarryImage (record { from = c.args.from.now; file = c.args.file; now = c.args.now_ns }))
adds g c =
    let asked : Carrying = record { from = c.args.from.now; file = c.args.file; now = c.args.now_ns } in
    leaves asked c.in_ok-made.made c.in_ok-made.ensures.made (g.C.Disk.story c.args.out.now) (g.C.Disk.story c.write_made.new.out) c.write_made.ensures.any_moment

pub returns-in-Ok-clause-ends : goal.returns-in-Ok-clause-ends
returns-in-Ok-clause-ends g c =
    let asked : Carrying = record { from = c.args.from.now; file = c.args.file; now = c.args.now_ns } in
    written_ends asked c.in_ok-made.made c.in_ok-made.ensures.made (state_of g.C.Disk c.args.out.now) (state_of g.C.Disk c.write_made.new.out)
    c.in-Ok.report c.in-Ok.ensures.ends

pub returns-in-Ok-clause-any_moment : goal.returns-in-Ok-clause-any_moment
returns-in-Ok-clause-any_moment g c = adds g (goal.at.returns-in-Ok-clause-any_moment g c).After-write_made

pub returns-in-Err-clause-ends : goal.returns-in-Err-clause-ends
returns-in-Err-clause-ends g c =
    let asked : Carrying = record { from = c.args.from.now; file = c.args.file; now = c.args.now_ns } in
    rw c.unwritten.ensures (
    unwritten_ends asked c.in_ok-made.made (state_of g.C.Disk c.args.out.now) (state_of g.C.Disk c.write_made.new.out) c.in-Err.fault c.in-Err.ensures.ends
    )

pub returns-in-Err-clause-any_moment : goal.returns-in-Err-clause-any_moment
returns-in-Err-clause-any_moment g c = adds g (goal.at.returns-in-Err-clause-any_moment g c).After-write_made
