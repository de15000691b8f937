use Rattle.std.proofs.Common.{rules}
use Rattle.book_owned.proofs.Sharing.{shown_first}
use Rattle.book_owned.proofs.front.show.Goals as goal

pub returns-clause-tells : goal.returns-clause-tells
returns-clause-tells g c =
    let front = c.publish.new.front in
    let first = shown_first g.V.Shown front.view front.history.chunks c.publish.ensures.shared front.history.items c.publish.ensures.begins in
    search (rules, first)
