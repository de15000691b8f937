use Rattle.std.proofs.Common.{inl, inr, refl}
use Rattle.std.proofs.lemmas.Result.{err_from_is_err_and}
use Rattle.mdf_disk.specs.State.{state_of}
use Rattle.mdf_make.specs.Making.{one_input}
use Rattle.mdf_make.proofs.Leaving.{load_fault, making_ends, still_nothing}
use Rattle.mdf_make.proofs.by_tool.make_of.Goals as goal

pub returns-in_err-file-clause-comes : goal.returns-in_err-file-clause-comes
returns-in_err-file-clause-comes g c =
    let disk = g.C.Disk in
    let laws = g.met.C.Disk in
    let out = c.args.out.now in
    let p = err_from_is_err_and c.from_residual.result c.from_residual.ensures.1 in
    let old = state_of g.A.Disk c.args.first.now in
    let new = state_of g.A.Disk c.load.new.first in
    rw (p.1, p.2) (load_fault (one_input old new) (g.T.Tool.makes c.args.tool) (g.T.Tool.refuses c.args.tool)
    old new (state_of disk out) (λ failed. failed) (λ size limit over. over) (λ wants. wants) (laws.agrees out) (laws.unattached out (laws.unasked out c.requires.out)) c.in_err-file.field-0.0 c.in_err-file.ensures.comes)

pub returns-in_err-file-clause-any_moment : goal.returns-in_err-file-clause-any_moment
returns-in_err-file-clause-any_moment g c =
    let disk = g.C.Disk in
    let laws = g.met.C.Disk in
    let out = c.args.out.now in
    inl (still_nothing (disk.story out) (disk.story out) (disk.content out) (disk.moment out) (laws.agrees out)
    (laws.unattached out (laws.unasked out c.requires.out)) refl)

pub returns-clause-comes : goal.returns-clause-comes
returns-clause-comes g c =
    let disk = g.C.Disk in
    making_ends (one_input (state_of g.A.Disk c.args.first.now) (state_of g.A.Disk c.load.new.first)) (g.T.Tool.makes c.args.tool) (g.T.Tool.refuses c.args.tool)
    (state_of disk c.args.out.now) (state_of disk c.make.new.out)
    c.in_ok-file.file c.in_ok-file.ensures.comes c.in_ok-file.ensures.calm c.make.result c.make.ensures.comes

pub returns-clause-any_moment : goal.returns-clause-any_moment
returns-clause-any_moment g c = inr (c.in_ok-file.file, c.in_ok-file.ensures.comes, c.make.ensures.any_moment)
