use Rattle.std.proofs.Common.{◌≡◌, Ok, Err}
use Rattle.acq_script.specs.Generated.{generated_script}
use Rattle.mdf_command.specs.declared.fault.Fault.TheVariants.{Memory}
use Rattle.mdf_record.proofs.Recording.{comes_as, of_err, of_ok}
use Rattle.mdf_record.proofs.record.run_generated.Goals as goal

pub returns-clause-comes : goal.returns-clause-comes
returns-clause-comes g c =
    let n = c.args.samples in
    let answer = c.generate-script.result in
    comes_as (λ said. answer ≡ Ok said) (λ said. said ≡ generated_script n) (λ problem. answer ≡ Err problem) (λ problem. problem ≡ Memory)
    (λ said is. of_ok (λ script. script ≡ generated_script n) answer said c.generate-script.ensures.exact is)
    (λ problem is. of_err (λ fault. fault ≡ Memory) answer problem c.generate-script.ensures.fault is)
    _ _ _ _ _ c.record_script-recorded.ensures.comes
