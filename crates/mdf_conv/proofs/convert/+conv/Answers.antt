use Rattle.std.proofs.Common.{sym, ◌∙◌, subst, arith, rules}
use Rattle.std.proofs.lemmas.Result.{err_from_is_err_and}
use Rattle.mdf_block.specs.Refusal.{Gives}
use Rattle.mdf_block.proofs.Eachs.{is_done, goes_on, ends}
use Rattle.mdf_conv.specs.Conv.{item_by, conv, conv_refusal}
use Rattle.mdf_conv.proofs.Levels.{conv_more, conv_halts, conv_deep, item_halts, item_found}
use Rattle.mdf_block.proofs.Readers.{says_of}
use Rattle.mdf_conv.proofs.convert.+conv.Goals as goal

pub level_in-returns-in_err-block_with : goal.level_in-returns-in_err-block_with
level_in-returns-in_err-block_with g t c = record {
  reads = says_of (search rules) (λ f told.
      let p = err_from_is_err_and c.from_residual.result c.from_residual.ensures.1 in
      rw (p.1, p.2) (
      conv_halts c.args.levels f c.args.at c.args.budget c.if-levels-eq0.true conv_refusal _ (c.in_err-block_with.ensures.reads.found f told)
      ));
}

pub level_in-returns-then-levels-eq0 : goal.level_in-returns-then-levels-eq0
level_in-returns-then-levels-eq0 g t c = record {
  reads = says_of (search rules) (λ f told.
      conv_deep c.args.levels f c.args.at c.args.budget c.if-levels-eq0.true _ (c.in_ok-block_with.ensures.reads.found f told));
}

pub level_in-returns : goal.level_in-returns
level_in-returns g t c = record {
  reads = says_of (search rules) (λ f told.
      subst (Gives conv_refusal c.whole_in.result) (sym (conv_more c.args.levels f c.args.at c.args.budget c.if-levels-eq0.false))
      (c.whole_in.ensures.reads.found f told));
}

pub refs_in-returns-in_err-found : goal.refs_in-returns-in_err-found
refs_in-returns-in_err-found g t c = record {
  reads = says_of (search rules) (λ f told.
      let p = err_from_is_err_and c.from_residual-in_err-found.result c.from_residual-in_err-found.ensures.1 in
      let loop = c.loop-k in
      let here = loop.invariant.same ∙ told in
      let inner = conv c.args.levels f in
      let link = c.in_ok-link.ensures.reads.seen f here in
      let halted = c.in_err-found.ensures.reads.found f (c.in_ok-link.ensures.reads.same ∙ here) in
      rw (p.1, p.2) (
      ends (item_by inner f c.args.block.now.at) conv_refusal _ loop.refs loop.k c.args.block.now.links loop.left c.loop-k-test.true
      (item_halts inner f c.args.block.now.at loop.k c.in_ok-link.link loop.left link conv_refusal _ halted) _ (loop.invariant.found f told)
      ));
}

pub refs_in-loop-k-preserved : goal.refs_in-loop-k-preserved
refs_in-loop-k-preserved g t c = record {
  found = λ f told.
      let loop = c.loop-k in
      let here = loop.invariant.same ∙ told in
      let inner = conv c.args.levels f in
      let link = c.in_ok-link.ensures.reads.seen f here in
      let found = c.in_ok-found.ensures.reads.found f (c.in_ok-link.ensures.reads.same ∙ here) in
      rw c.in_ok-push.ensures.ok (
      sym (goes_on (item_by inner f c.args.block.now.at) loop.refs loop.k c.args.block.now.links loop.left c.in_ok-found.found c.in_ok-found.rest
      c.loop-k-test.true (item_found inner f c.args.block.now.at loop.k c.in_ok-link.link loop.left link (c.in_ok-found.found, c.in_ok-found.rest) found))
      ∙ loop.invariant.found f told
      );
  same = c.in_ok-found.ensures.reads.same ∙ c.in_ok-link.ensures.reads.same ∙ c.loop-k.invariant.same;
  size = c.in_ok-found.ensures.reads.size ∙ c.in_ok-link.ensures.reads.size ∙ c.loop-k.invariant.size;
  later = omega (arith, c.in_ok-link.ensures.reads.cause.later, c.in_ok-found.ensures.reads.cause.later);
}

pub refs_in-returns : goal.refs_in-returns
refs_in-returns g t c = record {
  reads = says_of (search rules) (λ f told.
      let loop = c.loop-k in
      let inner = conv c.args.levels f in
      sym (loop.invariant.found f told)
      ∙ is_done (item_by inner f c.args.block.now.at) loop.refs loop.k c.args.block.now.links loop.left (omega (arith, c.loop-k-test.false)));
}
