use Rattle.std.proofs.Common.{◌+◌, arith, rules}
use Rattle.mdf_block.proofs.Readers.{looks_of}
use Rattle.mdf_attach.proofs.Made.{entry_is}
use Rattle.mdf_attach.proofs.make.ListedMake.make_in.Goals as goal

pub returns : goal.returns
returns g c = record {
  reads = looks_of (search rules) (λ f told.
      let block = c.args.block.now in
      let whole = rw told at (g.met.P.Span.whole c.args.span.now) in
      entry_is f block.at c.args.fields c.args.texts (block.body_at + 40) _ (omega (arith, whole, c.requires.inside, c.requires.holds)) (c.in_ok-verdict.ensures.reads.seen f told));
}
