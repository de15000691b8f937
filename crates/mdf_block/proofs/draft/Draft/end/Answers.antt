use Rattle.std.proofs.Common.{◌∙◌, ap}
use Rattle.mdf_block.specs.Draft.{end_of}
use Rattle.mdf_block.proofs.Laid.{laid_end}
use Rattle.mdf_block.proofs.draft.Draft.end.Goals as goal

pub returns-clause-end : goal.returns-clause-end
returns-clause-end c =
    laid_end 64 c.self.inside.items.items c.self.inside.end c.self.invariant.0 ∙ ap end_of c.self.view_is
