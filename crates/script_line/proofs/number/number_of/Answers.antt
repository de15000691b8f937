use Rattle.std.proofs.Common.{None, rules}
use Rattle.script_line.specs.Number.{number_of}
use Rattle.script_line.proofs.Numerals.{says_number}
use Rattle.script_line.proofs.number.number_of.Goals as goal

pub returns-then-is_empty-clause-number : goal.returns-then-is_empty-clause-number
unfolding number_of
returns-then-is_empty-clause-number c = search rules

pub returns-then-is_empty-clause-says : goal.returns-then-is_empty-clause-says
returns-then-is_empty-clause-says c = says_number c.args.word.now None (returns-then-is_empty-clause-number c)

pub returns-clause-number : goal.returns-clause-number
unfolding number_of
returns-clause-number c = search rules

pub returns-clause-says : goal.returns-clause-says
returns-clause-says c = says_number c.args.word.now c.value_of.result (returns-clause-number c)
