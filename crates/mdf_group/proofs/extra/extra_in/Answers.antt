use Rattle.std.proofs.Common.{◌∙◌, arith, rules}
use Rattle.mdf_group.proofs.Extras.{at_most_one, one_more, all_counted}
use Rattle.mdf_block.proofs.Readers.{looks_of}
use Rattle.mdf_group.proofs.extra.extra_in.Goals as goal

pub loop-k-preserved : goal.loop-k-preserved
loop-k-preserved g c = record {
  few = omega (arith, at_most_one c.in_ok-link.link, c.link_count-extra.ensures);
  within = omega arith;
  found = λ f told.
      let loop = c.loop-k in
      let block = c.args.block.now in
      let link = c.in_ok-link.ensures.reads.seen f (loop.invariant.same ∙ told) in
      one_more f block.at loop.k block.links loop.extra _ (loop.invariant.found f told) c.in_ok-link.link c.link_count-extra.result c.loop-k-test.true
      link c.link_count-extra.ensures;
  same = c.in_ok-link.ensures.reads.same ∙ c.loop-k.invariant.same;
  size = c.in_ok-link.ensures.reads.size ∙ c.loop-k.invariant.size;
  later = omega (arith, c.in_ok-link.ensures.reads.cause.later);
}

pub returns-clause-reads : goal.returns-clause-reads
returns-clause-reads g c = looks_of (search rules) (λ f told.
    let loop = c.loop-k in
    let block = c.args.block.now in
    all_counted f block.at loop.k block.links loop.extra _ (loop.invariant.found f told) (omega (arith, c.loop-k-test.false)))
