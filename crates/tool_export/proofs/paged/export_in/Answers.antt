use Rattle.std.proofs.Common.{Err, ◌∙◌, subst, sym}
use Rattle.mdf_num.specs.declared.halt.Halt.{Halt}
use Rattle.mdf_model.specs.Kept.{wanted_for}
use Rattle.mdf_paged.proofs.Kepts.{found_by_halts}
use Rattle.mdf_paged.proofs.Measures.{seen_err}
use Rattle.mdf_port.specs.State.{sink_state}
use Rattle.tool_export.specs.declared.fault.ExportFault.{ExportFault}
use Rattle.tool_export.specs.Export.{ExportHalts}
use Rattle.tool_export.proofs.Ends.{read_halts}
use Rattle.tool_export.proofs.paged.export_in.Goals as goal

pub returns-in-Ok-clause-ends : goal.returns-in-Ok-clause-ends
returns-in-Ok-clause-ends g c = λ file told.
    c.give_numbered_in.ensures.ends file (c.in-Ok.ensures.reads.same ∙ told) (c.in-Ok.ensures.reads.found file told)

pub returns-in-Err-clause-ends : goal.returns-in-Err-clause-ends
returns-in-Err-clause-ends g c = λ file told.
    let state = sink_state g.K.Sink c.args.sink.now in
    subst (λ (end : Halt ExportFault). ExportHalts file c.args.group state state (Err end)) (sym c.halt_of_read.ensures)
    (read_halts file c.args.group state c.in-Err.halt c.in-Err.ensures.reads.plain
    (seen_err file c.in-Err.halt (found_by_halts (wanted_for c.args.group) file c.in-Err.halt (c.in-Err.ensures.reads.found file told))))
