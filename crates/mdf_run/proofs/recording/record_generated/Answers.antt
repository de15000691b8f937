use Rattle.std.proofs.Common.{◌≡◌}
use Rattle.mdf_port.specs.State.{sink_state}
use Rattle.mdf_disk.specs.State.{state_of}
use Rattle.acq_script.specs.Generated.{generated_script}
use Rattle.mdf_command.specs.declared.fault.Fault.TheVariants.{Memory}
use Rattle.mdf_run.proofs.Keeps.{recording_durable, recording_keeps}
use Rattle.mdf_run.proofs.recording.record_generated.Goals as goal

pub returns-clause-ends : goal.returns-clause-ends
returns-clause-ends g c =
    let r = c.run_generated in
    (r.result.1.end, r.ensures.comes, r.ensures.printed)

pub returns-clause-keeps : goal.returns-clause-keeps
returns-clause-keeps g c =
    let r = c.run_generated in
    let n = c.args.samples in
    recording_keeps (λ script. script ≡ generated_script n) (λ fault. fault ≡ Memory) _ c.args.means.now.now_ns (state_of g.C.Disk c.args.out)
    (state_of g.C.Disk r.result.1.out) _ _ (sink_state g.K.Sink c.args.sink.now) (sink_state g.K.Sink r.new.sink) r.result.0 (generated_script n) (λ other says. says)
    r.result.1.end r.ensures.comes r.ensures.printed

pub returns-clause-durable : goal.returns-clause-durable
returns-clause-durable g c =
    let r = c.run_generated in
    let n = c.args.samples in
    recording_durable (λ script. script ≡ generated_script n) (λ fault. fault ≡ Memory) _ c.args.means.now.now_ns (state_of g.C.Disk c.args.out)
    _ (sink_state g.K.Sink c.args.sink.now) (sink_state g.K.Sink r.new.sink) r.result.0 r.result.1.end r.ensures.comes r.ensures.printed
