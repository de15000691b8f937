use Rattle.std.proofs.Common.{◌≡◌, Ok, Err}
use Rattle.mdf_port.specs.State.{source_state}
use Rattle.mdf_record.specs.Script.{SaysScript, ScriptFaultComes}
use Rattle.mdf_record.proofs.Recording.{comes_as, of_err, of_ok}
use Rattle.mdf_record.proofs.record.run_record.Goals as goal

pub returns-clause-comes : goal.returns-clause-comes
returns-clause-comes g c =
    let old = source_state g.S.Source c.args.source.now in
    let new = source_state g.S.Source c.read_source-script.new.source in
    let answer = c.read_source-script.result in
    comes_as (λ said. answer ≡ Ok said) (SaysScript old new) (λ problem. answer ≡ Err problem) (ScriptFaultComes old new)
    (λ said is. of_ok (SaysScript old new) answer said c.read_source-script.ensures.says is)
    (λ problem is. of_err (ScriptFaultComes old new) answer problem c.read_source-script.ensures.fault is)
    _ _ _ _ _ c.record_script-recorded.ensures.comes
