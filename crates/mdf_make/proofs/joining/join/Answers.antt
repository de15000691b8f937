use Rattle.std.proofs.Common.{inl, inr, refl}
use Rattle.mdf_disk.specs.State.{state_of}
use Rattle.tool_concat.specs.Concat.{Joining}
use Rattle.mdf_make.specs.Blamed.{joining_end}
use Rattle.mdf_make.specs.Concat.{AreBothLoaded, two_inputs}
use Rattle.mdf_make.proofs.Blaming.{joined_is_of}
use Rattle.mdf_make.proofs.Leaving.{load_fault, making_ends, still_nothing}
use Rattle.mdf_make.proofs.joining.join.Goals as goal

pub returns-in-Err-clause-comes : goal.returns-in-Err-clause-comes
returns-in-Err-clause-comes g c =
    let disk = g.C.Disk in
    let laws = g.met.C.Disk in
    let out = c.args.out.now in
    let old = state_of g.A.Disk c.args.first.now in
    let new = state_of g.A.Disk c.load.new.first in
    let other = state_of g.B.Disk c.args.second.now in
    rw c.unread.ensures.fault (load_fault (two_inputs c.args.from.now.now_ns old new other other) (g.T.PairTool.makes c.args.tool) (g.T.PairTool.refuses c.args.tool) old new (state_of disk out)
    (λ failed. inl (failed, refl)) (λ size limit over. inl (over, refl)) (λ wants. inl (wants, refl)) (laws.agrees out) (laws.unattached out (laws.unasked out c.requires.out))
    c.in-Err.fault c.in-Err.ensures.comes)

pub returns-in-Err-load-clause-comes : goal.returns-in-Err-load-clause-comes
returns-in-Err-load-clause-comes g c =
    let disk = g.C.Disk in
    let laws = g.met.C.Disk in
    let out = c.args.out.now in
    let first = state_of g.A.Disk c.args.first.now in
    let old = state_of g.B.Disk c.args.second.now in
    let new = state_of g.B.Disk c.load-2.new.first in
    rw c.unread-in-Err-load.ensures.fault (load_fault (two_inputs c.args.from.now.now_ns first (state_of g.A.Disk c.load.new.first) old new) (g.T.PairTool.makes c.args.tool) (g.T.PairTool.refuses c.args.tool) old new (state_of disk out)
    (λ failed. inr ((c.in-Ok.one, c.in-Ok.ensures.comes), failed))
    (λ size limit over. inr ((c.in-Ok.one, c.in-Ok.ensures.comes), over)) (λ wants. inr ((c.in-Ok.one, c.in-Ok.ensures.comes), c.in-Ok.ensures.calm, wants))
    (laws.agrees out) (laws.unattached out (laws.unasked out c.requires.out))
    c.in-Err-load.fault c.in-Err-load.ensures.comes)

pub returns-in-Err-clause-any_moment : goal.returns-in-Err-clause-any_moment
returns-in-Err-clause-any_moment g c =
    let disk = g.C.Disk in
    let laws = g.met.C.Disk in
    let out = c.args.out.now in
    inl (still_nothing (disk.story out) (disk.story out) (disk.content out) (disk.moment out) (laws.agrees out)
    (laws.unattached out (laws.unasked out c.requires.out)) refl)

pub returns-in-Err-load-clause-any_moment : goal.returns-in-Err-load-clause-any_moment
returns-in-Err-load-clause-any_moment g c =
    let disk = g.C.Disk in
    let laws = g.met.C.Disk in
    let out = c.args.out.now in
    inl (still_nothing (disk.story out) (disk.story out) (disk.content out) (disk.moment out) (laws.agrees out)
    (laws.unattached out (laws.unasked out c.requires.out)) refl)

pub returns-clause-comes : goal.returns-clause-comes
returns-clause-comes g c =
    let disk = g.C.Disk in
    let old = state_of g.A.Disk c.args.first.now in
    let other = state_of g.B.Disk c.args.second.now in
    let asked : Joining = record { first = c.in-Ok.one; second = c.in-Ok-load.two; now = c.args.from.now.now_ns } in
    let loaded : AreBothLoaded c.args.from.now.now_ns old other asked = record { first = c.in-Ok.ensures.comes; second = c.in-Ok-load.ensures.comes; now = refl } in
    making_ends (two_inputs c.args.from.now.now_ns old (state_of g.A.Disk c.load.new.first) other (state_of g.B.Disk c.load-2.new.first)) (g.T.PairTool.makes c.args.tool) (g.T.PairTool.refuses c.args.tool)
    (state_of disk c.args.out.now) (state_of disk c.make_joined.new.out) asked loaded (c.in-Ok.ensures.calm, c.in-Ok-load.ensures.calm)
    (joining_end c.make_joined.result) c.make_joined.ensures.comes

pub returns-clause-blames : goal.returns-clause-blames
returns-clause-blames g c =
    let old = state_of g.A.Disk c.args.first.now in
    let other = state_of g.B.Disk c.args.second.now in
    let asked : Joining = record { first = c.in-Ok.one; second = c.in-Ok-load.two; now = c.args.from.now.now_ns } in
    let loaded : AreBothLoaded c.args.from.now.now_ns old other asked = record { first = c.in-Ok.ensures.comes; second = c.in-Ok-load.ensures.comes; now = refl } in
    joined_is_of (g.T.PairTool.makes c.args.tool asked) (g.T.PairTool.refuses c.args.tool asked) (g.T.PairTool.blames c.args.tool)
    (state_of g.C.Disk c.args.out.now) (state_of g.C.Disk c.make_joined.new.out) c.args.from.now.now_ns old other asked loaded
    c.make_joined.result c.make_joined.ensures.comes c.make_joined.ensures.blames

pub returns-clause-any_moment : goal.returns-clause-any_moment
returns-clause-any_moment g c =
    let asked : Joining = record { first = c.in-Ok.one; second = c.in-Ok-load.two; now = c.args.from.now.now_ns } in
    inr (asked, record { first = c.in-Ok.ensures.comes; second = c.in-Ok-load.ensures.comes; now = refl }, c.make_joined.ensures.any_moment)
