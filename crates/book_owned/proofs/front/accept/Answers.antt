use Rattle.std.proofs.Common.{◌<◌, ◌^◌, arith}
use Rattle.mdf_layout.specs.Record.{history_size}
use Rattle.book_owned.proofs.Costs.{ids_small, history_cost-least}
use Rattle.book_owned.proofs.front.accept.Goals as goal

pub put_sample-size-requires-clause-ids : goal.put_sample-size-requires-clause-ids
put_sample-size-requires-clause-ids g c = ids_small c.args.front.now.shapes c.requires.counted.groups c.requires.counted.variable

pub put_sample-size-requires-clause-next : goal.put_sample-size-requires-clause-next
put_sample-size-requires-clause-next g c = (c.args.front.now.history.items, c.requires.counted.next)

pub pass-requires-clause-next : goal.pass-requires-clause-next
pass-requires-clause-next g c =
    let front = c.args.front.now in
    let short : history_size front.shapes front.history.items < 2 ^ 62 =
    omega (arith, history_cost-least front.shapes front.history.items, c.requires.counted.held, c.requires.counted.within, c.requires.counted.session) in
    (front.history.items, c.requires.counted.next, short)
