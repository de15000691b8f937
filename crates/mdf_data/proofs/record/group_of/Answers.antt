use Rattle.std.proofs.Common.{sym, ◌∙◌, arith}
use Rattle.mdf_data.proofs.Groups.{group_here, group_next, group_none}
use Rattle.mdf_data.proofs.record.group_of.Goals as goal

pub returns-then-first-id : goal.returns-then-first-id
returns-then-first-id c =
    sym (group_here c.args.known.now c.args.id c.loop-k.k _ c.loop-k-test.true c.if-first-id.true) ∙ c.loop-k.invariant.rest

pub loop-k-preserved : goal.loop-k-preserved
loop-k-preserved c = record {
  within = omega arith;
  rest = sym (group_next c.args.known.now c.args.id c.loop-k.k _ c.loop-k-test.true c.if-first-id.false) ∙ c.loop-k.invariant.rest;
}

pub returns : goal.returns
returns c = sym (group_none c.args.known.now c.args.id c.loop-k.k c.loop-k-test.false) ∙ c.loop-k.invariant.rest
