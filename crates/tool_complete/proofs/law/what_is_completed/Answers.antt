use Rattle.tool_complete.proofs.Marks.{completed_inside, completed_numbers, completed_reads}
use Rattle.tool_complete.proofs.law.what_is_completed.Goals as goal

pub returns-clause-inside : goal.returns-clause-inside
returns-clause-inside c = completed_inside

pub returns-clause-numbers : goal.returns-clause-numbers
returns-clause-numbers c = completed_numbers

pub returns-clause-set : goal.returns-clause-set
returns-clause-set c = completed_reads
