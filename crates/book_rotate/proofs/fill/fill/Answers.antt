use Rattle.std.proofs.Common.{◌∙◌, sym}
use Rattle.book_rotate.proofs.Fills.{fits_same, none_cost}
use Rattle.book_rotate.proofs.fill.fill.Goals as goal

pub take_all-requires-clause-cost : goal.take_all-requires-clause-cost
take_all-requires-clause-cost c =
    c.requires.cost ∙ sym (none_cost c.args.plan.now.shapes c.args.filling.shares.items c.requires.none)

pub take_all-requires-2-clause-fits : goal.take_all-requires-2-clause-fits
take_all-requires-2-clause-fits c =
    fits_same c.args.plan.now c.args.filling.shares.items c.in_ok-shared.shared.shares.items c.in_ok-shared.ensures.tasks c.requires.fits
