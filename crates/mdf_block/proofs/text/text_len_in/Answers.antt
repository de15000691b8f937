use Rattle.std.proofs.Common.{arith, ◌∙◌, rules}
use Rattle.mdf_block.proofs.Zeros.{zero_here, zero_behind}
use Rattle.mdf_block.proofs.Readers.{looks_of}
use Rattle.mdf_block.proofs.text.text_len_in.Goals as goal

pub returns-then-zero-count-clause-reads : goal.returns-then-zero-count-clause-reads
returns-then-zero-count-clause-reads g c = looks_of (search rules) (λ f told.
    let whole = rw told at (g.met.P.Span.whole c.args.span.now) in
    let block = c.args.block.now in
    zero_here f block.body_at block.body_len c.loop-done.done _ _ (omega (arith, whole)) (omega arith)
    (c.in_ok-zero.ensures.reads.seen f (c.loop-done.invariant.same ∙ told)) (c.loop-done.invariant.left f told) c.if-zero-count.true)

pub loop-done-preserved : goal.loop-done-preserved
loop-done-preserved g c = record {
  within = omega arith;
  left = λ f told.
      let whole = rw told at (g.met.P.Span.whole c.args.span.now) in
      let block = c.args.block.now in
      zero_behind f block.body_at block.body_len c.loop-done.done _ _ (omega (arith, whole)) (omega arith)
      (c.in_ok-zero.ensures.reads.seen f (c.loop-done.invariant.same ∙ told)) (c.loop-done.invariant.left f told) c.if-zero-count.false;
  same = c.in_ok-zero.ensures.reads.same ∙ c.loop-done.invariant.same;
  size = c.in_ok-zero.ensures.reads.size ∙ c.loop-done.invariant.size;
  later = omega (arith, c.in_ok-zero.ensures.reads.cause.later);
}
