use Rattle.std.proofs.Common.{inl, refl}
use Rattle.std.proofs.lemmas.Result.{err_from_is_err_and}
use Rattle.mdf_disk.specs.State.{state_of}
use Rattle.tool_concat.specs.Concat.{Joining}
use Rattle.mdf_make.specs.Blamed.{joining_end}
use Rattle.mdf_make.proofs.Leaving.{make_ends, make_leaves, still_nothing, still_no_mdf}
use Rattle.mdf_make.proofs.joining.make_joined.Goals as goal

pub returns-in_err-copy-clause-comes : goal.returns-in_err-copy-clause-comes
returns-in_err-copy-clause-comes g c =
    let disk = g.C.Disk in
    let laws = g.met.C.Disk in
    let out = c.args.out.now in
    let p = err_from_is_err_and c.from_residual.result c.from_residual.ensures.1 in
    rw (p.1, p.2) (
      still_nothing (disk.story out) (disk.story out) (disk.content out) (disk.moment out) (laws.agrees out)
          (laws.unattached out (laws.unasked out c.requires)) refl,
      inl refl,
    )

pub returns-in_err-copy-clause-any_moment : goal.returns-in_err-copy-clause-any_moment
returns-in_err-copy-clause-any_moment g c =
    let disk = g.C.Disk in
    let laws = g.met.C.Disk in
    let out = c.args.out.now in
    let asked : Joining = record { first = c.args.one; second = c.args.two; now = c.args.from.now.now_ns } in
    still_no_mdf (g.T.PairTool.makes c.args.tool asked) (disk.story out) (disk.story out) (disk.content out) (disk.moment out) (laws.agrees out)
    (laws.unattached out (laws.unasked out c.requires)) refl

pub returns-in_err-attach-clause-any_moment : goal.returns-in_err-attach-clause-any_moment
returns-in_err-attach-clause-any_moment g c =
    let disk = g.C.Disk in
    let laws = g.met.C.Disk in
    let out = c.args.out.now in
    let asked : Joining = record { first = c.args.one; second = c.args.two; now = c.args.from.now.now_ns } in
    still_no_mdf (g.T.PairTool.makes c.args.tool asked) (disk.story out) (disk.story c.attach.new.self) (disk.content out) (disk.moment out) (laws.agrees out)
    (laws.unattached out (laws.unasked out c.requires)) c.attach.ensures.story

pub returns-clause-comes : goal.returns-clause-comes
returns-clause-comes g c =
    let disk = g.C.Disk in
    let laws = g.met.C.Disk in
    let out = c.args.out.now in
    let asked : Joining = record { first = c.args.one; second = c.args.two; now = c.args.from.now.now_ns } in
    make_ends (g.T.PairTool.makes c.args.tool asked) (g.T.PairTool.refuses c.args.tool asked)
    (state_of disk out) (state_of disk c.attach.new.self) (state_of disk c.make.new.out)
    (laws.agrees out) (laws.unattached out (laws.unasked out c.requires)) c.attach.ensures.story c.attach.ensures.cause.later
    (c.in_ok-attach.ensures.attached.0 refl) c.in_ok-attach.ensures.calm (joining_end c.make.result) c.make.ensures.ends

pub returns-clause-any_moment : goal.returns-clause-any_moment
returns-clause-any_moment g c =
    let disk = g.C.Disk in
    let laws = g.met.C.Disk in
    let out = c.args.out.now in
    let asked : Joining = record { first = c.args.one; second = c.args.two; now = c.args.from.now.now_ns } in
    make_leaves (g.T.PairTool.makes c.args.tool asked) (g.T.PairTool.refuses c.args.tool asked)
    (state_of disk out) (state_of disk c.attach.new.self) (state_of disk c.make.new.out)
    (laws.agrees out) (laws.unattached out (laws.unasked out c.requires)) c.attach.ensures.story c.attach.ensures.cause.later
    c.make.ensures.any_moment
