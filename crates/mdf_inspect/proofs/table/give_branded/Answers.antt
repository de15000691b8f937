use Rattle.std.proofs.Common.{◌∙◌}
use Rattle.mdf_disk.specs.State.{state_of}
use Rattle.mdf_port.specs.State.{sink_state}
use Rattle.mdf_inspect.proofs.Tables.{table_comes}
use Rattle.mdf_inspect.proofs.table.give_branded.Goals as goal

pub returns-in-Ok-clause-comes : goal.returns-in-Ok-clause-comes
returns-in-Ok-clause-comes g c =
    let answers = rw (c.faults-before.ensures, c.faults-now.ensures) at c.end_of.ensures in
    table_comes c.args.group (state_of g.A.Disk c.args.first) (state_of g.A.Disk c.into_disk-first.result) c.into_disk-first.ensures.attached c.requires.short
    (sink_state g.S.Sink c.args.sink.now) (sink_state g.S.Sink c.export_in-table.new.sink) c.export_in-table.result c.end_of.result answers
    c.export_in-table.ensures.plain c.export_in-table.ensures.sink (λ file told. c.export_in-table.ensures.ends file (c.in-Ok.ensures.bytes ∙ told))
