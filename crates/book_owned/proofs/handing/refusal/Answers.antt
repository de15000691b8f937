use Rattle.std.proofs.Common.{arith}
use Rattle.mdf_layout.proofs.Costs.{cost_small}
use Rattle.book_owned.proofs.handing.refusal.Goals as goal

pub cost_with-cost-requires-clause-room : goal.cost_with-cost-requires-clause-room
cost_with-cost-requires-clause-room g c =
    omega (arith, cost_small _ _ _ c.requires.fits c.requires.counted.fields c.requires.block c.requires.counted.block)

pub overflow_add-front : goal.overflow_add-front
overflow_add-front g c =
    omega (arith, cost_small _ _ _ c.requires.fits c.requires.counted.fields c.requires.block c.requires.counted.block, c.cost_with-cost.ensures, c.requires.counted.within, c.requires.counted.session)
