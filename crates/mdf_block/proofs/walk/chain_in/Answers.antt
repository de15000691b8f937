use Rattle.std.proofs.Common.{ℕ, Some, sym, ◌∙◌, subst, arith, rules}
use Rattle.std.proofs.lemmas.Result.{err_from_is_err_and}
use Rattle.mdf_block.proofs.Chains.{is_done, goes_on, ends, ends_full}
use Rattle.mdf_block.proofs.Everys.{all_and}
use Rattle.mdf_block.proofs.Readers.{says_of}
use Rattle.mdf_block.proofs.walk.chain_in.Goals as goal

pub returns-then-room-eq0-clause-reads : goal.returns-then-room-eq0-clause-reads
returns-then-room-eq0-clause-reads g c = says_of (search rules) (λ f told.
    let loop = c.loop-at in
    let walk = c.args.walk.now in
    ends_full (g.W.Walk.step walk f) (g.W.Walk.full walk f) g.W.Walk.refusal _ loop.rows loop.room loop.at loop.left
    c.if-room-eq0.true c.loop-at-test.true
    (c.full_in.ensures.reads.found f (loop.invariant.same ∙ told)) _ (loop.invariant.found f told))

pub returns-in_err-row-clause-reads : goal.returns-in_err-row-clause-reads
returns-in_err-row-clause-reads g c = says_of (search rules) (λ f told.
    let p = err_from_is_err_and c.from_residual.result c.from_residual.ensures.1 in
    let loop = c.loop-at in
    let walk = c.args.walk.now in
    rw (p.1, p.2) (
    ends (g.W.Walk.step walk f) (g.W.Walk.full walk f) g.W.Walk.refusal _ loop.rows loop.room loop.at loop.left
    c.if-room-eq0.false c.loop-at-test.true
    (c.in_err-row.ensures.reads.found f (loop.invariant.same ∙ told)) _ (loop.invariant.found f told)
    ))

pub loop-at-preserved : goal.loop-at-preserved
loop-at-preserved g c = record {
  found = λ f told.
      let loop = c.loop-at in
      let walk = c.args.walk.now in
      let found = c.in_ok-row.ensures.reads.found f (loop.invariant.same ∙ told) in
      rw c.in_ok-push.ensures.ok (
      sym (goes_on (g.W.Walk.step walk f) (g.W.Walk.full walk f) loop.rows loop.room loop.at loop.left c.in_ok-row.row c.in_ok-row.next
      c.in_ok-row.rest c.if-room-eq0.false c.loop-at-test.true found)
      ∙ loop.invariant.found f told
      );
  given = rw c.in_ok-push.ensures.ok (
      all_and (g.W.Walk.gives c.args.walk.now (g.P.Span.size c.args.span.now)) c.loop-at.rows (Some c.in_ok-row.row) c.loop-at.invariant.given
      (subst (λ (n : ℕ). g.W.Walk.gives c.args.walk.now n c.in_ok-row.row) c.loop-at.invariant.size c.in_ok-row.ensures.given)
      );
  same = c.in_ok-row.ensures.reads.same ∙ c.loop-at.invariant.same;
  size = c.in_ok-row.ensures.reads.size ∙ c.loop-at.invariant.size;
  later = omega (arith, c.in_ok-row.ensures.reads.cause.later);
}

pub returns-clause-reads : goal.returns-clause-reads
returns-clause-reads g c = says_of (search rules) (λ f told.
    let loop = c.loop-at in
    let walk = c.args.walk.now in
    sym (loop.invariant.found f told)
    ∙ is_done (g.W.Walk.step walk f) (g.W.Walk.full walk f) loop.rows loop.room loop.at loop.left c.loop-at-test.false)
