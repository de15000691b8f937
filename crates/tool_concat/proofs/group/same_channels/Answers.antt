use borrow.Author.Count.{below_more}
use Rattle.std.proofs.Common.{ℕ, false, get_or, refl, arith}
use Rattle.std.proofs.lemmas.Bool.{both_ways}
use Rattle.mdf_group.specs.declared.row.ChannelRow.{ChannelRow}
use Rattle.tool_concat.specs.Same.{SameChannel}
use Rattle.tool_concat.proofs.Steps.{at_place, of_place}
use Rattle.tool_concat.proofs.group.same_channels.Goals as goal

pub returns-then-not-same_channel : goal.returns-then-not-same_channel
returns-then-not-same_channel c = (
  λ wrong. absurd (both_ways false refl wrong),
  λ same.
      let x = c.index-one-k.result in
      absurd (both_ways c.same_channel.result c.if-not-same_channel.true (c.same_channel.ensures.1
      (of_place SameChannel c.args.one.now c.args.other.now c.loop-k.k x c.index-other-k.result x (omega (arith, c.loop-k-test.true))
      (omega (arith, c.loop-k-test.true, c.if-one-other.false)) c.index-one-k.is c.index-other-k.is (same.each c.loop-k.k x (omega (arith, c.loop-k-test.true)))))),
)

pub loop-k-preserved : goal.loop-k-preserved
loop-k-preserved c = λ j d within.
    let one = c.args.one.now in
    let other = c.args.other.now in
    let k = c.loop-k.k in
    below_more (λ (i : ℕ). (e : ChannelRow) → SameChannel (get_or one i e) (get_or other i e)) k (λ i below e. c.loop-k.invariant i e below)
    (λ e. at_place SameChannel one other k c.index-one-k.result c.index-other-k.result e (omega (arith, c.loop-k-test.true))
    (omega (arith, c.loop-k-test.true, c.if-one-other.false)) c.index-one-k.is c.index-other-k.is (c.same_channel.ensures.0 c.if-not-same_channel.false)) j within d
