use Rattle.std.proofs.Common.{◌+◌, ◌∙◌, ap, ℕ, arith}
use Rattle.std.proofs.lemmas.List.{length_push}
use Rattle.mdf_session.proofs.Counts.{counts_more, counts_done}
use Rattle.mdf_session.proofs.counted.counts_of.Goals as goal

pub loop-k-preserved : goal.loop-k-preserved
loop-k-preserved c = record {
  counts = rw c.in_ok-push.ensures.ok (
      counts_more c.args.lists.now c.args.groups.now c.loop-k.counts c.loop-k.k c.count_at.result (omega (arith, c.loop-k-test.true)) c.count_at.ensures
      c.loop-k.invariant.counts
      );
  count = rw c.in_ok-push.ensures.ok (
      length_push c.loop-k.counts c.count_at.result ∙ ap (λ (n : ℕ). n + 1) c.loop-k.invariant.count
      );
  within = omega (arith, c.loop-k-test.true);
}

pub returns-clause-counts : goal.returns-clause-counts
returns-clause-counts c = counts_done c.args.lists.now c.args.groups.now c.loop-k.counts c.loop-k.k (omega (arith, c.loop-k-test.false)) c.loop-k.invariant.counts
