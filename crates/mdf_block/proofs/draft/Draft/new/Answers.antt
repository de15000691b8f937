use Rattle.std.proofs.Common.{lit<}
use Rattle.mdf_block.proofs.Laid.{laid_none}
use Rattle.mdf_block.proofs.draft.Draft.new.Goals as goal

pub invariant_of-result : goal.invariant_of-result
invariant_of-result c = (rw c.new.ensures.items (laid_none 64), lit< tt)
