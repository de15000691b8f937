use Rattle.std.proofs.Common.{◌≡◌, ◌++◌, ℕ, List}
use Rattle.tool_concat.specs.Moved.{AreMoved}
use Rattle.tool_concat.proofs.moved.with_moved.Given as goal

-- the records so far stand behind the bytes
abbrev pub invariant-loop-i : goal.invariant-loop-i
invariant-loop-i l = (moved : List ℕ) × (l.content ≡ l.fn.before ++ moved) × AreMoved l.shape l.streams l.others l.i moved
