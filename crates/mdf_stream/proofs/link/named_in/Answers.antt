use Rattle.std.proofs.Common.{[], ◌∷◌, sym, ◌∙◌, arith, rules}
use Rattle.std.proofs.lemmas.Result.{err_from_is_err_and}
use Rattle.mdf_block.proofs.Eachs.{is_done, goes_on, ends}
use Rattle.mdf_stream.specs.Link.{named_block, data_refusal}
use Rattle.mdf_stream.proofs.Links.{named_halts, named_found, all_more}
use Rattle.mdf_block.proofs.Readers.{says_of}
use Rattle.mdf_stream.proofs.link.named_in.Goals as goal

pub returns-in_err-part-clause-reads : goal.returns-in_err-part-clause-reads
returns-in_err-part-clause-reads g c = says_of (search rules) (λ f told.
    let p = err_from_is_err_and c.from_residual-in_err-part.result c.from_residual-in_err-part.ensures.1 in
    let loop = c.loop-k in
    let block = c.args.block.now in
    let here = loop.invariant.same ∙ told in
    let link = c.in_ok-link.ensures.reads.seen f here in
    let halted = c.in_err-part.ensures.reads.found f (c.in_ok-link.ensures.reads.same ∙ here) in
    rw (p.1, p.2) (
    ends (named_block f c.args.want block.at) data_refusal _ loop.parts loop.k block.links loop.left c.loop-k-test.true
    (named_halts f c.args.want block.at loop.k c.in_ok-link.link loop.left link data_refusal _ halted) _ (loop.invariant.found f told)
    ))

pub loop-k-preserved : goal.loop-k-preserved
loop-k-preserved g c = record {
  found = λ f told.
      let loop = c.loop-k in
      let block = c.args.block.now in
      let here = loop.invariant.same ∙ told in
      let link = c.in_ok-link.ensures.reads.seen f here in
      let found = c.in_ok-part.ensures.reads.found f (c.in_ok-link.ensures.reads.same ∙ here) in
      rw c.in_ok-push.ensures.ok (
      sym (goes_on (named_block f c.args.want block.at) loop.parts loop.k block.links loop.left c.in_ok-part.part c.in_ok-part.rest
      c.loop-k-test.true (named_found f c.args.want block.at loop.k c.in_ok-link.link loop.left link (c.in_ok-part.part, c.in_ok-part.rest) found))
      ∙ loop.invariant.found f told
      );
  inside = rw c.in_ok-push.ensures.ok (
      all_more _ c.loop-k.parts (c.in_ok-part.part ∷ []) c.loop-k.invariant.inside
      (omega (arith, c.in_ok-part.ensures.inside, c.in_ok-link.ensures.reads.size, c.loop-k.invariant.size), tt)
      );
  same = c.in_ok-part.ensures.reads.same ∙ c.in_ok-link.ensures.reads.same ∙ c.loop-k.invariant.same;
  size = c.in_ok-part.ensures.reads.size ∙ c.in_ok-link.ensures.reads.size ∙ c.loop-k.invariant.size;
  later = omega (arith, c.in_ok-link.ensures.reads.cause.later, c.in_ok-part.ensures.reads.cause.later);
}

pub returns-clause-reads : goal.returns-clause-reads
returns-clause-reads g c = says_of (search rules) (λ f told.
    let loop = c.loop-k in
    let block = c.args.block.now in
    sym (loop.invariant.found f told)
    ∙ is_done (named_block f c.args.want block.at) loop.parts loop.k block.links loop.left (omega (arith, c.loop-k-test.false)))
