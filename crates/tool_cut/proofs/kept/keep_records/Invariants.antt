use Rattle.tool_cut.specs.Kept.{is_kept}
use Rattle.tool_cut.proofs.Places.{Keeps}
use Rattle.tool_cut.proofs.kept.keep_records.Given as goal

abbrev pub invariant-loop-i : goal.invariant-loop-i
invariant-loop-i g l = Keeps l.shape (is_kept l.range.from l.range.to l.shape l.field l.initial.content) l.initial.content l.i l.kept l.content
