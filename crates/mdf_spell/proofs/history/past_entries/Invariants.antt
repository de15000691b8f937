use Rattle.std.proofs.Common.{◌≡◌, drop}
use Rattle.mdf_tree.specs.Head.{past_history}
use Rattle.mdf_spell.proofs.history.past_entries.Given as goal

abbrev pub invariant-loop-entry : goal.invariant-loop-entry
invariant-loop-entry l = past_history l.at (drop l.entry-index l.entries) ≡ past_history l.n l.entries
