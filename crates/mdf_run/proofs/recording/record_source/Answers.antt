use Rattle.mdf_port.specs.State.{sink_state, source_state}
use Rattle.mdf_disk.specs.State.{state_of}
use Rattle.mdf_record.specs.Script.{SaysScript, ScriptFaultComes}
use Rattle.mdf_run.proofs.Keeps.{recording_durable, recording_keeps, source_says}
use Rattle.mdf_run.proofs.recording.record_source.Goals as goal

pub returns-clause-ends : goal.returns-clause-ends
returns-clause-ends g c =
    let r = c.run_record in
    (r.result.1.end, r.ensures.comes, r.ensures.printed)

pub returns-clause-keeps : goal.returns-clause-keeps
returns-clause-keeps g c = λ text told script means.
    let r = c.run_record in
    let before = source_state g.S.Source c.args.source.now in
    let after = source_state g.S.Source r.new.source in
    recording_keeps (SaysScript before after) (ScriptFaultComes before after) _ c.args.means.now.now_ns (state_of g.C.Disk c.args.out)
    (state_of g.C.Disk r.result.1.out) _ _ (sink_state g.K.Sink c.args.sink.now) (sink_state g.K.Sink r.new.sink) r.result.0 script (λ other says. source_says before.left text script other told means says.text)
    r.result.1.end r.ensures.comes r.ensures.printed

pub returns-clause-durable : goal.returns-clause-durable
returns-clause-durable g c =
    let r = c.run_record in
    let before = source_state g.S.Source c.args.source.now in
    let after = source_state g.S.Source r.new.source in
    recording_durable (SaysScript before after) (ScriptFaultComes before after) _ c.args.means.now.now_ns (state_of g.C.Disk c.args.out)
    _ (sink_state g.K.Sink c.args.sink.now) (sink_state g.K.Sink r.new.sink) r.result.0 r.result.1.end r.ensures.comes r.ensures.printed
