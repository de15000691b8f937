use Rattle.std.proofs.Common.{◌<◌, ◌+◌, ◌^◌}
use Rattle.mdf_port.specs.State.{sink_state}
use Rattle.mdf_log.specs.Course.{HasGone}
use Rattle.mdf_log.proofs.parts.log_parts.Given as goal

-- the parts so far were full, and there is a number for the next
abbrev pub invariant-loop : goal.invariant-loop
invariant-loop g l = record {
  gone : HasGone g.K.Sink l.log.plan.now l.log.output.now l.log.now_ns (λ served. g.D.Disks.serves l.fn.disks served l.disks) (sink_state g.E.Sink l.fn.sink) (sink_state g.E.Sink l.sink) l.fn.first.feeds.items l.course;
  room : l.course.tally.parts + 1 < 2 ^ 64;
}
