use Rattle.tool_complete.proofs.Sets.{field_here, fields_next, set_done, set_more}
use Rattle.tool_complete.proofs.setting.set_all.Goals as goal

pub set_one-requires : goal.set_one-requires
set_one-requires c = field_here c.args.settings.now _ c.loop-setting.setting-index _ c.loop-setting-test.true c.loop-setting.invariant.inside

pub loop-setting-preserved : goal.loop-setting-preserved
loop-setting-preserved c = record {
  set = set_more c.args.settings.now c.loop-setting.setting-index _ c.loop-setting.bytes _ _ c.loop-setting-test.true c.set_one.ensures c.loop-setting.invariant.set;
  inside = fields_next c.args.settings.now c.loop-setting.setting-index _ c.loop-setting.bytes _ c.loop-setting-test.true c.loop-setting.invariant.inside c.set_one.ensures;
}

pub returns : goal.returns
returns c = set_done c.args.settings.now c.loop-setting.setting-index c.loop-setting.bytes _ c.loop-setting-test.false c.loop-setting.invariant.set
