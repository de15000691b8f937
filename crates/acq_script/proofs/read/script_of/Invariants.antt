use Rattle.std.proofs.Common.{◌≡◌, ◌+◌, ◌≤◌, ◌∷◌, length}
use Rattle.script_line.specs.Text.{parts_left, bytes_left}
use Rattle.acq_script.specs.Stage.{Sound}
use Rattle.acq_script.specs.Script.{WantsFrom, WantsIn, read_from, script_of}
use Rattle.acq_script.proofs.read.script_of.Given as goal

abbrev pub invariant-loop-rest : goal.invariant-loop-rest
invariant-loop-rest l = record {
  told : read_from l.stage l.line (l.text ∷ parts_left 10 l.rest) ≡ script_of l.bytes;
  sound : Sound l.stage;
  line : l.line + bytes_left l.rest ≤ length l.bytes + 1;
  wants : WantsFrom l.stage (l.text ∷ parts_left 10 l.rest) → WantsIn l.bytes;
}

abbrev pub decreases-loop-rest : goal.decreases-loop-rest
decreases-loop-rest l = bytes_left l.rest
