use Rattle.std.proofs.Common.{refl}
use Rattle.mdf_disk.specs.State.{state_of}
use Rattle.mdf_port.specs.State.{sink_state}
use Rattle.mdf_inspect.proofs.Tables.{table_from, unopened_table}
use Rattle.mdf_inspect.proofs.table.give_table.Goals as goal

pub returns-in-Ok-clause-comes : goal.returns-in-Ok-clause-comes
returns-in-Ok-clause-comes g c =
    table_from c.args.group (state_of g.A.Disk c.args.first) (state_of g.A.Disk c.open.new.first) (state_of g.A.Disk c.give_kept.result.1)
    c.open.ensures.input.content c.in-Ok.ensures.calm (c.in-Ok.ensures.attached refl) c.in-Ok.ensures.short (sink_state g.S.Sink c.args.sink.now) (sink_state g.S.Sink c.give_kept.new.sink)
    c.give_kept.result.0 c.give_kept.ensures.comes

pub returns-in-Err-clause-comes : goal.returns-in-Err-clause-comes
returns-in-Err-clause-comes g c =
    unopened_table c.args.group (state_of g.A.Disk c.args.first) (state_of g.A.Disk c.open.new.first) (sink_state g.S.Sink c.args.sink.now) c.in-Err.fault c.in-Err.ensures.fault
