use Rattle.tool_complete.proofs.Marks.{last_stands, none_stands}
use Rattle.tool_complete.proofs.law.what_is_the_last_block.Goals as goal

pub returns-clause-last : goal.returns-clause-last
returns-clause-last c = λ file found long wanted there. last_stands file long found wanted there

pub returns-clause-none : goal.returns-clause-none
returns-clause-none c = λ file found at long wanted there. none_stands file long found wanted there at
