use Rattle.std.proofs.lemmas.Result.{err_from_is_err_and}
use Rattle.mdf_content.specs.Fault.{read_refusal}
use Rattle.mdf_disk.specs.State.{state_of}
use Rattle.mdf_make.proofs.Finalizing.{complete_adds, complete_ends, complete_fault, finalize_adds, finalize_ends, finalize_fault, refused_flags}
use Rattle.mdf_make.proofs.finalize.FinalizingTool.make.Goals as goal

pub returns-in_err-complete-in-Ok-clause-ends : goal.returns-in_err-complete-in-Ok-clause-ends
returns-in_err-complete-in-Ok-clause-ends g c =
    let known = rw c.as_slice.ensures at c.in-Ok.ensures.exact in
    let disk = g.C.Disk in
    let p = err_from_is_err_and c.from_residual.result c.from_residual.ensures.1 in
    rw (p.1, p.2) (complete_fault c.args.file c.args.self.now_ns c.in-Ok.field-0 known (state_of disk c.args.out.now) (state_of disk c.complete.new.out)
    c.in_err-complete-in-Ok.field-0.0 c.in_err-complete-in-Ok.ensures.ends)

pub returns-in_err-complete-in-Ok-clause-any_moment : goal.returns-in_err-complete-in-Ok-clause-any_moment
returns-in_err-complete-in-Ok-clause-any_moment g c =
    let known = rw c.as_slice.ensures at c.in-Ok.ensures.exact in
    complete_adds c.args.file c.args.self.now_ns c.in-Ok.field-0 (g.C.Disk.story c.args.out.now) (g.C.Disk.story c.complete.new.out) known
    c.in_err-complete-in-Ok.ensures.any_moment

pub returns-in_ok-complete-in-Ok-clause-ends : goal.returns-in_ok-complete-in-Ok-clause-ends
returns-in_ok-complete-in-Ok-clause-ends g c =
    let known = rw c.as_slice.ensures at c.in-Ok.ensures.exact in
    let disk = g.C.Disk in
    complete_ends c.args.file c.args.self.now_ns c.in-Ok.field-0 known (state_of disk c.args.out.now) (state_of disk c.complete.new.out)
    c.in_ok-complete-in-Ok.field-0 c.from.result c.from.ensures c.in_ok-complete-in-Ok.ensures.ends

pub returns-in_ok-complete-in-Ok-clause-any_moment : goal.returns-in_ok-complete-in-Ok-clause-any_moment
returns-in_ok-complete-in-Ok-clause-any_moment g c =
    let known = rw c.as_slice.ensures at c.in-Ok.ensures.exact in
    complete_adds c.args.file c.args.self.now_ns c.in-Ok.field-0 (g.C.Disk.story c.args.out.now) (g.C.Disk.story c.complete.new.out) known
    c.in_ok-complete-in-Ok.ensures.any_moment

pub returns-in_err-finalize-in-Err-clause-ends : goal.returns-in_err-finalize-in-Err-clause-ends
returns-in_err-finalize-in-Err-clause-ends g c =
    let disk = g.C.Disk in
    let p = err_from_is_err_and c.from_residual-in_err-finalize-in-Err.result c.from_residual-in_err-finalize-in-Err.ensures.1 in
    let refused = rw c.as_slice.ensures at c.in-Err.ensures.exact in
    let flags = refused_flags c.args.file (read_refusal c.in-Err.field-0) c.in-Err.ensures.plain refused in
    rw (p.1, p.2) (finalize_fault c.args.file c.args.self.now_ns flags.0 flags.1 (state_of disk c.args.out.now) (state_of disk c.finalize.new.out)
    c.in_err-finalize-in-Err.field-0.0 c.in_err-finalize-in-Err.ensures.ends)

pub returns-in_err-finalize-in-Err-clause-any_moment : goal.returns-in_err-finalize-in-Err-clause-any_moment
returns-in_err-finalize-in-Err-clause-any_moment g c =
    let refused = rw c.as_slice.ensures at c.in-Err.ensures.exact in
    let flags = refused_flags c.args.file (read_refusal c.in-Err.field-0) c.in-Err.ensures.plain refused in
    finalize_adds c.args.file c.args.self.now_ns flags.0 (g.C.Disk.story c.args.out.now) (g.C.Disk.story c.finalize.new.out) flags.1
    c.in_err-finalize-in-Err.ensures.any_moment

pub returns-in_ok-finalize-in-Err-clause-ends : goal.returns-in_ok-finalize-in-Err-clause-ends
returns-in_ok-finalize-in-Err-clause-ends g c =
    let disk = g.C.Disk in
    let refused = rw c.as_slice.ensures at c.in-Err.ensures.exact in
    let flags = refused_flags c.args.file (read_refusal c.in-Err.field-0) c.in-Err.ensures.plain refused in
    finalize_ends c.args.file c.args.self.now_ns flags.0 flags.1 (state_of disk c.args.out.now) (state_of disk c.finalize.new.out)
    c.in_ok-finalize-in-Err.field-0 c.from-in-Err.result c.from-in-Err.ensures c.in_ok-finalize-in-Err.ensures.ends

pub returns-in_ok-finalize-in-Err-clause-any_moment : goal.returns-in_ok-finalize-in-Err-clause-any_moment
returns-in_ok-finalize-in-Err-clause-any_moment g c =
    let refused = rw c.as_slice.ensures at c.in-Err.ensures.exact in
    let flags = refused_flags c.args.file (read_refusal c.in-Err.field-0) c.in-Err.ensures.plain refused in
    finalize_adds c.args.file c.args.self.now_ns flags.0 (g.C.Disk.story c.args.out.now) (g.C.Disk.story c.finalize.new.out) flags.1
    c.in_ok-finalize-in-Err.ensures.any_moment
