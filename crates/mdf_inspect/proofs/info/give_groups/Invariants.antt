use Rattle.std.proofs.Common.{◌≤◌, take}
use Rattle.std.specs.Io.KnownBytes.{Appends}
use Rattle.mdf_paged.specs.Groups.{shown_groups}
use Rattle.mdf_inspect.specs.Info.{group_line}
use Rattle.mdf_command.specs.Texts.{numbered}
use Rattle.mdf_inspect.proofs.info.give_groups.Given as goal

-- the lines so far were given
abbrev pub invariant-loop-group : goal.invariant-loop-group
invariant-loop-group g l = record {
  given : Appends (g.K.Sink.held l.initial.sink) (g.K.Sink.held l.sink) (numbered group_line 0 (take l.group (shown_groups l.found)));
  later : g.K.Sink.faults l.initial.sink ≤ g.K.Sink.faults l.sink;
}
