use Rattle.mdf_disk.specs.State.{state_of}
use Rattle.mdf_port.specs.State.{sink_state}
use Rattle.mdf_command.specs.Faults.{end_status}
use Rattle.mdf_inspect.specs.Question.{text_for}
use Rattle.mdf_inspect.specs.Reading.{answer_text, reading_end}
use Rattle.mdf_inspect.proofs.Printed.{printed}
use Rattle.mdf_inspect.proofs.Shows.{reading_shown, same_status}
use Rattle.mdf_inspect.proofs.answer.run_reading.Goals as goal

pub returns-clause-ends : goal.returns-clause-ends
returns-clause-ends g c =
    let end = reading_end c.read_input-end.result.0 in (
      end,
      reading_shown (state_of g.A.Disk c.args.first) (state_of g.A.Disk c.read_input-end.result.1) c.read_input-end.result.0 c.read_input-end.ensures.comes,
      rw (c.status_after-status.ensures, c.status_of.ensures, same_status c.read_input-end.result.0) (printed (answer_text (text_for c.args.question) end) (end_status end) (sink_state g.K.Sink c.args.sink.now)
          (sink_state g.K.Sink c.give_end-given.new.sink) c.give_end-given.result c.give_end-given.ensures),
    )
