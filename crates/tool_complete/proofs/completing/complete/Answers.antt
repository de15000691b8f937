use Rattle.std.proofs.Common.{◌≡◌, Err, Ok, refl}
use Rattle.std.proofs.lemmas.Result.{err_from_is_err_and}
use Rattle.mdf_content.specs.Fault.{read_refusal}
use Rattle.mdf_disk.specs.Crash.{Adds}
use Rattle.mdf_disk.specs.State.{state_of}
use Rattle.mdf_tool.proofs.Unread.{unread}
use Rattle.mdf_tool.specs.declared.fault.ToolFault.{ToolFault}
use Rattle.tool_complete.specs.Completed.{completion}
use Rattle.tool_complete.specs.Flags.{IsUnfinished}
use Rattle.tool_complete.specs.Complete.{CompleteEnds, IsCompleteImage}
use Rattle.tool_complete.proofs.Ends.{completed_fails, completed_is, ends, fails, leaves, may_want, no_want, unfinished_fails}
use Rattle.tool_complete.proofs.completing.complete.Given as given
use Rattle.tool_complete.proofs.completing.complete.Goals as goal
use Rattle.tool_complete.proofs.completing.complete.Goals.{After-write_made}

pub returns-in_err-unfinished_of-clause-ends : goal.returns-in_err-unfinished_of-clause-ends
returns-in_err-unfinished_of-clause-ends g c =
    let state = state_of g.C.Disk c.args.out.now in
    let p = err_from_is_err_and c.from_residual.result c.from_residual.ensures.1 in
    let fault = c.in_err-unfinished_of.field-0.0 in
    let refused = rw c.as_slice.ensures at c.in_err-unfinished_of.ensures.exact in
    rw (p.1, p.2) (unread (completion c.args.file) (IsUnfinished c.args.file) (λ (problem : ToolFault). CompleteEnds c.args.file c.args.now_ns state state (Err problem))
    (λ fault some fails. (some, fails, refl)) (λ known. (known, refl)) fault (read_refusal fault) refl
    (unfinished_fails c.args.file (read_refusal fault) refused)
    (no_want (IsUnfinished c.args.file) (read_refusal fault) c.in_err-unfinished_of.ensures.plain))

pub returns-in_err-whole-clause-ends : goal.returns-in_err-whole-clause-ends
returns-in_err-whole-clause-ends g c =
    let p = err_from_is_err_and c.from_residual-in_err-whole.result c.from_residual-in_err-whole.ensures.1 in
    let known = rw c.as_slice.ensures at c.in_ok-unfinished_of.ensures.exact in
    rw (p.1, p.2) ((c.in_ok-unfinished_of.field-0, known), refl)

pub returns-in_err-found-clause-ends : goal.returns-in_err-found-clause-ends
returns-in_err-found-clause-ends g c =
    let state = state_of g.C.Disk c.args.out.now in
    let p = err_from_is_err_and c.from_residual-in_err-found.result c.from_residual-in_err-found.ensures.1 in
    let fault = c.in_err-found.field-0.0 in
    let id = c.in_ok-unfinished_of.field-0 in
    let known = rw c.as_slice.ensures at c.in_ok-unfinished_of.ensures.exact in
    rw (p.1, p.2) (unread (completion c.args.file) (IsUnfinished c.args.file) (λ (problem : ToolFault). CompleteEnds c.args.file c.args.now_ns state state (Err problem))
    (λ fault some fails. (some, fails, refl)) (λ known. (known, refl)) fault (read_refusal fault) refl
    (completed_fails c.args.file id c.in_ok-whole.whole.file known c.in_ok-whole.ensures.file (read_refusal fault) c.in_err-found.ensures.exact)
    (may_want (IsUnfinished c.args.file) (read_refusal fault) (id, known)))

pub returns-in_err-made-clause-ends : goal.returns-in_err-made-clause-ends
returns-in_err-made-clause-ends g c =
    let p = err_from_is_err_and c.from_residual-in_err-made.result c.from_residual-in_err-made.ensures.1 in
    let known = rw c.as_slice.ensures at c.in_ok-unfinished_of.ensures.exact in
    rw (p.1, p.2) ((c.in_ok-unfinished_of.field-0, known), refl)

-- what is found of the completed file
read : (g : given.Over) (c : After-write_made g) → completion c.args.file ≡ Ok (c.in_ok-found.found, c.in_ok-whole.whole.rest)
read g c =
    let known = rw c.as_slice.ensures at c.in_ok-unfinished_of.ensures.exact in
    completed_is c.args.file c.in_ok-unfinished_of.field-0 c.in_ok-whole.whole.file known c.in_ok-whole.ensures.file c.in_ok-found.found c.in_ok-whole.whole.rest
    c.in_ok-whole.ensures.rest c.in_ok-found.ensures.exact

-- and no file joins but the one that is made of it, or one that is no MDF file
adds : (g : given.Over) (c : After-write_made g)
    → Adds (g.C.Disk.story c.args.out.now) (g.C.Disk.story c.write_made.new.out) (IsCompleteImage c.args.file c.args.now_ns)
adds g c =
    leaves c.args.file c.args.now_ns c.in_ok-whole.whole.rest c.in_ok-found.found c.in_ok-made.made (read g c) c.in_ok-made.ensures.made
    (c.in_ok-made.ensures.keeps c.in_ok-whole.whole.file c.in_ok-found.ensures.stands) (g.C.Disk.story c.args.out.now) (g.C.Disk.story c.write_made.new.out)
    c.write_made.ensures.any_moment

pub returns-in_err-report-clause-ends : goal.returns-in_err-report-clause-ends
returns-in_err-report-clause-ends g c =
    let p = err_from_is_err_and c.from_residual-in_err-report.result c.from_residual-in_err-report.ensures.1 in
    rw (p.1, p.2) (fails c.args.file c.args.now_ns c.in_ok-whole.whole.rest c.in_ok-found.found c.in_ok-made.made
    (read g (goal.at.returns-in_err-report-clause-ends g c).After-write_made) c.in_ok-made.ensures.made
    (c.in_ok-made.ensures.keeps c.in_ok-whole.whole.file c.in_ok-found.ensures.stands) (state_of g.C.Disk c.args.out.now) (state_of g.C.Disk c.write_made.new.out)
    c.in_err-report.field-0.0 c.in_err-report.ensures.ends)

pub returns-in_err-report-clause-any_moment : goal.returns-in_err-report-clause-any_moment
returns-in_err-report-clause-any_moment g c = adds g (goal.at.returns-in_err-report-clause-any_moment g c).After-write_made

pub returns-clause-ends : goal.returns-clause-ends
returns-clause-ends g c =
    ends c.args.file c.args.now_ns c.in_ok-whole.whole.rest c.in_ok-found.found c.in_ok-made.made
    (read g (goal.at.returns-clause-ends g c).After-write_made) c.in_ok-made.ensures.made
    (c.in_ok-made.ensures.keeps c.in_ok-whole.whole.file c.in_ok-found.ensures.stands) (state_of g.C.Disk c.args.out.now) (state_of g.C.Disk c.write_made.new.out)
    c.in_ok-report.report c.in_ok-report.ensures.ends

pub returns-clause-any_moment : goal.returns-clause-any_moment
returns-clause-any_moment g c = adds g (goal.at.returns-clause-any_moment g c).After-write_made
