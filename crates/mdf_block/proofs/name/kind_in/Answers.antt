use Rattle.std.proofs.Common.{rules}
use Rattle.mdf_block.proofs.Names.{past_end, short_kind}
use Rattle.mdf_block.proofs.Readers.{looks_of}
use Rattle.mdf_block.proofs.name.kind_in.Goals as goal

pub returns-then-not-is_there : goal.returns-then-not-is_there
returns-then-not-is_there g c = record {
  reads = looks_of (search rules) (λ f told kind same.
      let whole = rw told at (g.met.P.Span.whole c.args.span.now) in
      short_kind f c.args.at kind
      (past_end f c.args.at 4 _ _ _ whole c.len.ensures c.is_there.ensures c.if-not-is_there.true) same);
}
