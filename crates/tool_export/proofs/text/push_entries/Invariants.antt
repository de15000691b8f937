use Rattle.std.proofs.Common.{◌≡◌, ◌++◌, take, map}
use Rattle.csv.specs.Writing.{default_writer, fields_text}
use Rattle.tool_export.specs.Table.{entry_text}
use Rattle.tool_export.proofs.text.push_entries.Given as goal

abbrev pub invariant-loop-entry : goal.invariant-loop-entry
invariant-loop-entry l = l.out.items ≡ l.initial.out.items ++ fields_text default_writer (map entry_text (take l.entry-index l.entries))
