use Rattle.tool_complete.specs.Named.{is_headed}
use Rattle.tool_complete.proofs.Lasts.{headed_done, headed_more}
use Rattle.tool_complete.proofs.headed.last_headed.Goals as goal

pub loop-name-preserved : goal.loop-name-preserved
loop-name-preserved c = record {
  last = headed_more (is_headed c.args.bytes.now) c.args.names.now c.loop-name.name-index c.loop-name.last _ _ _ c.loop-name-test.true c.later-last.ensures.later
      c.loop-name.invariant.last;
  inside = c.later-last.ensures.inside;
}

pub returns-clause-last : goal.returns-clause-last
returns-clause-last c = headed_done (is_headed c.args.bytes.now) c.args.names.now c.loop-name.name-index c.loop-name.last _ c.loop-name-test.false c.loop-name.invariant.last
