use Rattle.std.proofs.Common.{◌++◌, ◌∙◌, ℕ, ap, arith}
use Rattle.mdf_stream.specs.Stream.{links_from}
use Rattle.tool_complete.proofs.Listed.{links_done, links_more}
use Rattle.tool_complete.proofs.names.add_links.Goals as goal

pub loop-k-preserved : goal.loop-k-preserved
loop-k-preserved c = record {
  listed = links_more c.args.bytes.now c.loop-k.names _ c.args.list.now.at c.loop-k.k c.min-count.result c.link_of.result _ c.loop-k-test.true
      c.link_of.ensures c.in_ok-push.ensures.ok c.loop-k.invariant.listed;
}

pub returns : goal.returns
returns c =
    links_done c.args.bytes.now c.loop-k.names c.args.list.now.at c.loop-k.k c.min-count.result _ (omega (arith, c.loop-k-test.false)) c.loop-k.invariant.listed
    ∙ ap (λ (n : ℕ). c.args.names.now ++ links_from c.args.bytes.now c.args.list.now.at 1 n) c.min-count.ensures
