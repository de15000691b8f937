use Rattle.std.proofs.Common.{SFits, Ok, to_z-of_z, rules}
use mir.Syntax.{w128}
use Rattle.std.proofs.lemmas.Result.{err_from_is_err_and}
use Rattle.mdf_disk.specs.Crash.{Adds}
use Rattle.mdf_disk.specs.State.{state_of}
use Rattle.tool_cut.specs.Cut.{CutEnds, Cutting, IsCutImage, IsCutOf}
use Rattle.mdf_make.specs.Sort.{IsNotMeasured}
use Rattle.mdf_make.proofs.Leaving.{cut_fault, same_range}
use Rattle.mdf_make.proofs.WithoutRest.{told_adds, told_ends}
use Rattle.mdf_make.proofs.cutting.CuttingTool.make.Goals as goal

pub returns-in_err-cut-clause-ends : goal.returns-in_err-cut-clause-ends
returns-in_err-cut-clause-ends g c =
    let disk = g.C.Disk in
    let p = err_from_is_err_and c.from_residual.result c.from_residual.ensures.1 in
    rw (p.1, p.2) (cut_fault c.args.file (record { from = c.args.self.from; to = c.args.self.to; now = c.args.self.now_ns }) (state_of disk c.args.out.now) (state_of disk c.cut.new.out) c.in_err-cut.field-0.0 c.in_err-cut.ensures.ends)

pub returns-in_err-cut-clause-any_moment : goal.returns-in_err-cut-clause-any_moment
returns-in_err-cut-clause-any_moment g c =
    let first : SFits w128 c.args.self.from = search rules in
    let last : SFits w128 c.args.self.to = search rules in
    let asked : Cutting = record { from = c.args.self.from; to = c.args.self.to; now = c.args.self.now_ns } in
    told_adds (IsCutOf c.args.file asked) (g.C.Disk.story c.args.out.now) (g.C.Disk.story c.cut.new.out)
    (same_range (λ (asked : Cutting). Adds (g.C.Disk.story c.args.out.now) (g.C.Disk.story c.cut.new.out) (IsCutImage c.args.file asked))
    c.args.self.from c.args.self.to _ _ c.args.self.now_ns (to_z-of_z first) (to_z-of_z last) c.in_err-cut.ensures.any_moment)

pub returns-clause-ends : goal.returns-clause-ends
returns-clause-ends g c =
    let disk = g.C.Disk in
    let first : SFits w128 c.args.self.from = search rules in
    let last : SFits w128 c.args.self.to = search rules in
    let asked : Cutting = record { from = c.args.self.from; to = c.args.self.to; now = c.args.self.now_ns } in
    told_ends (IsCutOf c.args.file asked) (IsNotMeasured c.args.file) (state_of disk c.args.out.now) (state_of disk c.cut.new.out)
    c.in_ok-cut.field-0 c.from.result c.from.ensures
    (same_range (λ (asked : Cutting). CutEnds c.args.file asked (state_of disk c.args.out.now) (state_of disk c.cut.new.out) (Ok c.in_ok-cut.field-0))
    c.args.self.from c.args.self.to _ _ c.args.self.now_ns (to_z-of_z first) (to_z-of_z last) c.in_ok-cut.ensures.ends)

pub returns-clause-any_moment : goal.returns-clause-any_moment
returns-clause-any_moment g c =
    let first : SFits w128 c.args.self.from = search rules in
    let last : SFits w128 c.args.self.to = search rules in
    let asked : Cutting = record { from = c.args.self.from; to = c.args.self.to; now = c.args.self.now_ns } in
    told_adds (IsCutOf c.args.file asked) (g.C.Disk.story c.args.out.now) (g.C.Disk.story c.cut.new.out)
    (same_range (λ (asked : Cutting). Adds (g.C.Disk.story c.args.out.now) (g.C.Disk.story c.cut.new.out) (IsCutImage c.args.file asked))
    c.args.self.from c.args.self.to _ _ c.args.self.now_ns (to_z-of_z first) (to_z-of_z last) c.in_ok-cut.ensures.any_moment)
