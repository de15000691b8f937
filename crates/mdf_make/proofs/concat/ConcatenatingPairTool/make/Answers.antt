use Rattle.std.proofs.lemmas.Result.{err_from_is_err_and}
use Rattle.mdf_disk.specs.State.{state_of}
use Rattle.tool_concat.specs.Concat.{IsConcatOf, Joining}
use Rattle.mdf_make.specs.Concat.{AreNotJoined}
use Rattle.mdf_make.proofs.Blaming.{concat_is_of}
use Rattle.mdf_make.proofs.Leaving.{concat_fault}
use Rattle.mdf_make.proofs.WithoutRest.{told_adds, told_ends}
use Rattle.mdf_make.proofs.concat.ConcatenatingPairTool.make.Goals as goal

pub returns-in_err-concat-clause-ends : goal.returns-in_err-concat-clause-ends
returns-in_err-concat-clause-ends g c =
    let disk = g.C.Disk in
    let asked : Joining = record { first = c.args.one; second = c.args.two; now = c.args.now_ns } in
    let p = err_from_is_err_and c.from_residual.result c.from_residual.ensures.1 in
    rw (p.1, p.2) (concat_fault asked (state_of disk c.args.out.now) (state_of disk c.concat.new.out) c.in_err-concat.field-0.0 c.in_err-concat.ensures.ends)

pub returns-in_err-concat-clause-whose : goal.returns-in_err-concat-clause-whose
returns-in_err-concat-clause-whose g c =
    let disk = g.C.Disk in
    let asked : Joining = record { first = c.args.one; second = c.args.two; now = c.args.now_ns } in
    let p = err_from_is_err_and c.from_residual.result c.from_residual.ensures.1 in
    rw (p.1, p.2) (concat_is_of asked (state_of disk c.args.out.now) (state_of disk c.concat.new.out) c.in_err-concat.field-0.0 c.in_err-concat.ensures.ends)

pub returns-in_err-concat-clause-any_moment : goal.returns-in_err-concat-clause-any_moment
returns-in_err-concat-clause-any_moment g c =
    let asked : Joining = record { first = c.args.one; second = c.args.two; now = c.args.now_ns } in
    told_adds (IsConcatOf asked) (g.C.Disk.story c.args.out.now) (g.C.Disk.story c.concat.new.out) c.in_err-concat.ensures.any_moment

pub returns-clause-ends : goal.returns-clause-ends
returns-clause-ends g c =
    let disk = g.C.Disk in
    let asked : Joining = record { first = c.args.one; second = c.args.two; now = c.args.now_ns } in
    told_ends (IsConcatOf asked) (AreNotJoined asked) (state_of disk c.args.out.now) (state_of disk c.concat.new.out)
    c.in_ok-concat.field-0 c.from.result c.from.ensures c.in_ok-concat.ensures.ends

pub returns-clause-any_moment : goal.returns-clause-any_moment
returns-clause-any_moment g c =
    let asked : Joining = record { first = c.args.one; second = c.args.two; now = c.args.now_ns } in
    told_adds (IsConcatOf asked) (g.C.Disk.story c.args.out.now) (g.C.Disk.story c.concat.new.out) c.in_ok-concat.ensures.any_moment
