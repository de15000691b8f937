use Rattle.std.proofs.lemmas.Result.{err_from_is_err_and}
use Rattle.mdf_disk.specs.State.{state_of}
use Rattle.tool_sort.specs.Sort.{IsSorting}
use Rattle.mdf_make.specs.Sort.{IsNotMeasured}
use Rattle.mdf_make.proofs.Leaving.{sort_fault}
use Rattle.mdf_make.proofs.WithoutRest.{told_adds, told_ends}
use Rattle.mdf_make.proofs.sort.SortingTool.make.Goals as goal

pub returns-in_err-sort-clause-ends : goal.returns-in_err-sort-clause-ends
returns-in_err-sort-clause-ends g c =
    let disk = g.C.Disk in
    let p = err_from_is_err_and c.from_residual.result c.from_residual.ensures.1 in
    rw (p.1, p.2) (sort_fault c.args.file c.args.self.now_ns (state_of disk c.args.out.now) (state_of disk c.sort.new.out) c.in_err-sort.field-0.0 c.in_err-sort.ensures.ends)

pub returns-in_err-sort-clause-any_moment : goal.returns-in_err-sort-clause-any_moment
returns-in_err-sort-clause-any_moment g c =
    told_adds (IsSorting c.args.file c.args.self.now_ns) (g.C.Disk.story c.args.out.now) (g.C.Disk.story c.sort.new.out) c.in_err-sort.ensures.any_moment

pub returns-clause-ends : goal.returns-clause-ends
returns-clause-ends g c =
    let disk = g.C.Disk in
    told_ends (IsSorting c.args.file c.args.self.now_ns) (IsNotMeasured c.args.file) (state_of disk c.args.out.now) (state_of disk c.sort.new.out)
    c.in_ok-sort.field-0 c.from.result c.from.ensures c.in_ok-sort.ensures.ends

pub returns-clause-any_moment : goal.returns-clause-any_moment
returns-clause-any_moment g c =
    told_adds (IsSorting c.args.file c.args.self.now_ns) (g.C.Disk.story c.args.out.now) (g.C.Disk.story c.sort.new.out) c.in_ok-sort.ensures.any_moment
