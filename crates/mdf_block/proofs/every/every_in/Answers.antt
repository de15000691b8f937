use Rattle.std.proofs.Common.{ℕ, subst, sym, ◌∙◌, arith, rules}
use Rattle.std.specs.Prelude.{IfSome}
use Rattle.std.proofs.lemmas.Result.{err_from_is_err_and}
use Rattle.mdf_block.proofs.Everys.{is_done, goes_on, ends, all_and}
use Rattle.mdf_block.proofs.Readers.{says_of}
use Rattle.mdf_block.proofs.every.every_in.Goals as goal

pub returns-in_err-found-clause-reads : goal.returns-in_err-found-clause-reads
returns-in_err-found-clause-reads g c = says_of (search rules) (λ f told.
    let p = err_from_is_err_and c.from_residual.result c.from_residual.ensures.1 in
    let loop = c.loop-k in
    let visit = c.args.visit.now in
    let one = c.index-items-k in
    rw (p.1, p.2) (
    ends (g.V.Visit.read visit f) c.args.items.now g.V.Visit.refusal _ loop.all loop.k loop.state one.result c.loop-k-test.true one.is
    (c.in_err-found.ensures.reads.found f (loop.invariant.same ∙ told)) _ (loop.invariant.found f told)
    ))

pub loop-k-preserved : goal.loop-k-preserved
loop-k-preserved g c = record {
  found = λ f told.
      let loop = c.loop-k in
      let visit = c.args.visit.now in
      let one = c.index-items-k in
      let read = c.in_ok-found.ensures.reads.found f (loop.invariant.same ∙ told) in
      rw c.in_ok-push_some.ensures (
      sym (goes_on (g.V.Visit.read visit f) c.args.items.now loop.all loop.k loop.state one.result c.in_ok-found.found c.in_ok-found.next
      c.loop-k-test.true one.is read)
      ∙ loop.invariant.found f told
      );
  given = λ f told. rw c.in_ok-push_some.ensures (
      all_and (g.V.Visit.gives c.args.visit.now) c.loop-k.all c.in_ok-found.found (c.loop-k.invariant.given f told)
      (c.in_ok-found.ensures.given f (c.loop-k.invariant.same ∙ told))
      );
  kept = rw c.in_ok-push_some.ensures (
      all_and (g.V.Visit.keeps c.args.visit.now (g.P.Span.size c.args.span.now)) c.loop-k.all c.in_ok-found.found c.loop-k.invariant.kept
      (subst (λ (n : ℕ). IfSome c.in_ok-found.found (g.V.Visit.keeps c.args.visit.now n)) c.loop-k.invariant.size c.in_ok-found.ensures.kept)
      );
  same = c.in_ok-found.ensures.reads.same ∙ c.loop-k.invariant.same;
  size = c.in_ok-found.ensures.reads.size ∙ c.loop-k.invariant.size;
  later = omega (arith, c.in_ok-found.ensures.reads.cause.later);
}

pub returns-clause-reads : goal.returns-clause-reads
returns-clause-reads g c = says_of (search rules) (λ f told.
    let loop = c.loop-k in
    sym (loop.invariant.found f told)
    ∙ is_done (g.V.Visit.read c.args.visit.now f) c.args.items.now loop.all loop.k loop.state c.loop-k-test.false)
