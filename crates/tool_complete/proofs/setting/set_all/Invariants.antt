use Rattle.std.proofs.Common.{◌≡◌, length, drop}
use Rattle.tool_complete.specs.Settings.{AreFieldsIn, set_all}
use Rattle.tool_complete.proofs.setting.set_all.Given as goal

abbrev pub invariant-loop-setting : goal.invariant-loop-setting
invariant-loop-setting l = record {
  set : set_all (drop l.setting-index l.settings) l.bytes ≡ set_all l.settings l.initial.bytes;
  inside : AreFieldsIn (length l.bytes) (drop l.setting-index l.settings);
}
