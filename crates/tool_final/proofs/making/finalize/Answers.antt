use Rattle.mdf_disk.specs.State.{state_of}
use Rattle.tool_final.proofs.Ends.{ends, leaves}
use Rattle.std.proofs.Common.{Err, refl}
use Rattle.std.proofs.lemmas.Result.{err_from_is_err_and}
use Rattle.mdf_content.specs.Fault.{read_refusal}
use Rattle.mdf_tool.proofs.Unread.{unread}
use Rattle.mdf_tool.specs.declared.fault.ToolFault.{ToolFault}
use Rattle.mdf_session.specs.Identified.{IsIdentifiedRecording}
use Rattle.mdf_session.specs.Session.{session}
use Rattle.mdf_session.proofs.Identified.{session_is_identified}
use Rattle.tool_final.specs.Finalize.{FinalizeEnds}
use Rattle.tool_final.proofs.making.finalize.Goals as goal

pub returns-clause-ends : goal.returns-clause-ends
returns-clause-ends g c =
    ends c.args.file c.args.now_ns c.in_ok-session.session c.in_ok-made.made c.in_ok-session.ensures.bytes c.in_ok-session.ensures.exact
    c.in_ok-made.ensures (state_of g.C.Disk c.args.out.now) (state_of g.C.Disk c.write_made.new.out) c.write_made.result c.write_made.ensures.ends

pub returns-clause-any_moment : goal.returns-clause-any_moment
returns-clause-any_moment g c =
    leaves c.args.file c.args.now_ns c.in_ok-session.session c.in_ok-made.made c.in_ok-session.ensures.bytes c.in_ok-session.ensures.exact
    c.in_ok-made.ensures (g.C.Disk.story c.args.out.now) (g.C.Disk.story c.write_made.new.out) c.write_made.ensures.any_moment

pub returns-in_err-session-clause-ends : goal.returns-in_err-session-clause-ends
returns-in_err-session-clause-ends g c =
    let state = state_of g.C.Disk c.args.out.now in
    let p = err_from_is_err_and c.from_residual.result c.from_residual.ensures.1 in
    let fault = c.in_err-session.field-0.0 in
    rw (p.1, p.2) (unread (session c.args.file) (IsIdentifiedRecording c.args.file) (λ (problem : ToolFault). FinalizeEnds c.args.file c.args.now_ns state state (Err problem))
    (λ fault some fails. (some, fails, refl)) (λ known. (known, refl)) fault (read_refusal fault) refl c.in_err-session.ensures.exact c.in_err-session.ensures.first)

pub returns-in_err-made-clause-ends : goal.returns-in_err-made-clause-ends
returns-in_err-made-clause-ends g c =
    let p = err_from_is_err_and c.from_residual-in_err-made.result c.from_residual-in_err-made.ensures.1 in
    rw (p.1, p.2) (session_is_identified c.args.file c.in_ok-session.session c.in_ok-session.ensures.exact, refl)
