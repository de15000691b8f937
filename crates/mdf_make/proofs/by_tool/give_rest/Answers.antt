use Rattle.std.proofs.Common.{arith}
use Rattle.mdf_port.proofs.Streams.{appends_none}
use Rattle.mdf_make.proofs.by_tool.give_rest.Goals as goal

pub returns-in-None : goal.returns-in-None
returns-in-None g c =
    rw c.in-None.is (record { ok = appends_none (g.K.Sink.held c.args.sink.now); err = tt; cause = record { later = omega arith; failed = tt } })

pub returns-in-Some : goal.returns-in-Some
returns-in-Some g c = rw c.in-Some.is c.give_line.ensures
