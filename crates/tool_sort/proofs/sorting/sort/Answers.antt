use Rattle.mdf_disk.specs.State.{state_of}
use Rattle.tool_sort.proofs.Ends.{ends, leaves}
use Rattle.std.proofs.Common.{Err, refl}
use Rattle.std.proofs.lemmas.Result.{err_from_is_err_and}
use Rattle.mdf_content.specs.Fault.{read_refusal}
use Rattle.mdf_tool.proofs.Unread.{unread}
use Rattle.mdf_tool.specs.declared.fault.ToolFault.{ToolFault}
use Rattle.mdf_model.specs.Identified.{IsIdentified}
use Rattle.mdf_model.proofs.Identified.{measured_is_identified}
use Rattle.mdf_model.specs.Measurement.{measurement}
use Rattle.tool_sort.specs.Sort.{SortEnds}
use Rattle.tool_sort.proofs.sorting.sort.Goals as goal

pub returns-clause-ends : goal.returns-clause-ends
returns-clause-ends g c =
    ends c.args.file c.args.now_ns c.in_ok-found.found c.in_ok-made.made c.in_ok-found.ensures.exact c.in_ok-made.ensures.made
    (c.in_ok-made.ensures.keeps c.args.file c.in_ok-found.ensures.stands)
    (state_of g.C.Disk c.args.out.now) (state_of g.C.Disk c.write_made.new.out) c.write_made.result c.write_made.ensures.ends

pub returns-clause-any_moment : goal.returns-clause-any_moment
returns-clause-any_moment g c =
    leaves c.args.file c.args.now_ns c.in_ok-found.found c.in_ok-made.made c.in_ok-found.ensures.exact c.in_ok-made.ensures.made
    (c.in_ok-made.ensures.keeps c.args.file c.in_ok-found.ensures.stands)
    (g.C.Disk.story c.args.out.now) (g.C.Disk.story c.write_made.new.out) c.write_made.ensures.any_moment

pub returns-in_err-found-clause-ends : goal.returns-in_err-found-clause-ends
returns-in_err-found-clause-ends g c =
    let state = state_of g.C.Disk c.args.out.now in
    let p = err_from_is_err_and c.from_residual.result c.from_residual.ensures.1 in
    let fault = c.in_err-found.field-0.0 in
    rw (p.1, p.2) (unread (measurement c.args.file) (IsIdentified c.args.file) (λ (problem : ToolFault). SortEnds c.args.file c.args.now_ns state state (Err problem))
    (λ fault some fails. (some, fails, refl)) (λ known. (known, refl)) fault (read_refusal fault) refl c.in_err-found.ensures.exact c.in_err-found.ensures.first)

pub returns-in_err-made-clause-ends : goal.returns-in_err-made-clause-ends
returns-in_err-made-clause-ends g c =
    let p = err_from_is_err_and c.from_residual-in_err-made.result c.from_residual-in_err-made.ensures.1 in
    rw (p.1, p.2) (measured_is_identified c.args.file c.in_ok-found.found c.in_ok-found.ensures.exact, refl)
