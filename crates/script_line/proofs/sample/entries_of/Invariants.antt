use Rattle.std.proofs.Common.{◌≡◌, drop}
use Rattle.script_line.specs.Text.{words_left}
use Rattle.script_line.specs.Value.{entries_of}
use Rattle.script_line.proofs.Entries.{behind}
use Rattle.script_line.proofs.sample.entries_of.Given as goal

abbrev pub invariant-loop-row : goal.invariant-loop-row
invariant-loop-row l = behind l.entries.items (entries_of l.left (drop l.row-index l.rows) (words_left l.rest)) ≡ entries_of l.widths l.rows (words_left l.words)
