use Rattle.std.proofs.Common.{◌≡◌, ◌++◌, length}
use Rattle.std.specs.Prelude.{vec_capacity}
use Rattle.mdf_log.specs.Course.{HaveLeft}
use Rattle.mdf_log.proofs.log.let_all_go.Given as goal

-- each feed so far was let go
abbrev pub invariant-loop-feed : goal.invariant-loop-feed
invariant-loop-feed g l = record {
  parts : l.yielded ++ l.feed-iterator.rest.items ≡ l.fn.feeds.items;
  number : l.number ≡ length l.yielded;
  ends : length l.ends.items ≡ length l.yielded;
  taps : length l.taps.items ≡ length l.yielded;
  left : HaveLeft g.K.Sink l.yielded l.accepted l.durable l.ends.items l.taps.items;
  ends_room : vec_capacity l.ends ≡ vec_capacity l.fn.ends;
  taps_room : vec_capacity l.taps ≡ vec_capacity l.fn.taps;
}
