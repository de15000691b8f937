use Rattle.std.proofs.Common.{◌≡◌, ◌≤◌, ◌++◌, length}
use Rattle.std.specs.Prelude.{vec_capacity}
use Rattle.mdf_log.specs.Course.{AreFresh}
use Rattle.mdf_log.proofs.log.feeds_for.Given as goal

-- each tap so far has its feed
abbrev pub invariant-loop-tap : goal.invariant-loop-tap
invariant-loop-tap g l = record {
  parts : l.yielded ++ l.tap-iterator.rest.items ≡ l.fn.taps.items;
  number : l.number ≡ length l.yielded;
  count : length l.feeds.items ≡ length l.yielded;
  fresh : AreFresh g.K.Sink l.rules l.yielded l.feeds.items;
  room : length l.fn.taps.items ≤ vec_capacity l.feeds;
}
