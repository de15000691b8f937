use Rattle.std.proofs.Common.{◌≡◌, ◌≤◌, ◌-◌, length, take}
use Rattle.std.specs.List.{flat_map}
use Rattle.mdf_command.specs.Texts.{shown}
use Rattle.mdf_command.proofs.report.give_part.Given as goal

-- the bytes so far stand as they are printed
abbrev pub invariant-loop-i : goal.invariant-loop-i
invariant-loop-i g l = record {
  long : length l.bytes ≡ 256;
  most : l.i ≤ length l.part;
  filled : take l.i l.bytes ≡ flat_map shown (take l.i l.part);
}

abbrev pub decreases-loop-i : goal.decreases-loop-i
decreases-loop-i g l = length l.part - l.i
