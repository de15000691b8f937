use Rattle.std.proofs.Common.{ap}
use Rattle.mdf_block.specs.Draft.{written}
use Rattle.mdf_spell.specs.Session.{finalized_ident}
use Rattle.tool_attach.proofs.Placing.{none_placed}
use Rattle.tool_attach.proofs.law.none_is_the_sorted_file.Goals as goal

pub returns : goal.returns
returns c = λ m now. ap (written finalized_ident) (none_placed m now)
