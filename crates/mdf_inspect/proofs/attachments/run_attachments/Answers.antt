use Rattle.mdf_port.specs.State.{sink_state}
use Rattle.mdf_command.specs.Faults.{end_status}
use Rattle.mdf_inspect.specs.Attachments.{listing_text}
use Rattle.mdf_inspect.proofs.Printed.{printed}
use Rattle.mdf_inspect.proofs.attachments.run_attachments.Goals as goal

pub returns-clause-ends : goal.returns-clause-ends
returns-clause-ends g c =
    let end = c.list-end.result.0 in (
      end,
      c.list-end.ensures.comes,
      rw (c.status_after-status.ensures, c.status_of.ensures) (printed (listing_text end) (end_status end) (sink_state g.K.Sink c.args.sink.now)
          (sink_state g.K.Sink c.give_end-given.new.sink) c.give_end-given.result c.give_end-given.ensures),
    )
