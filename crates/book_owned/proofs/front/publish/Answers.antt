use Rattle.std.proofs.Common.{ap, sym, subst, arith}
use Rattle.book_owned.specs.Shared.{IsShared}
use Rattle.book_owned.proofs.Sharing.{shared_longer, shared_within}
use Rattle.book_owned.proofs.front.publish.Goals as goal

pub show_all-requires-clause-shared : goal.show_all-requires-clause-shared
show_all-requires-clause-shared g c = λ κs within.
    let front = c.args.front.now in
    subst (λ v. IsShared g.V.Shown v c.seal.new.front.history.chunks) (sym (ap (λ f. f.view) c.seal.ensures.rest))
    (shared_longer g.V.Shown front.view front.history.chunks c.requires.shared c.seal.new.front.history.chunks c.seal.ensures.stay)

pub returns-clause-count : goal.returns-clause-count
returns-clause-count g c = (
  omega (arith, c.show_all.ensures.more, ap (λ f. g.V.Shown.count f.view) c.seal.ensures.rest),
  omega (arith, shared_within g.V.Shown c.show_all.new.view c.seal.new.front.history.chunks c.show_all.ensures.shared, c.seal.ensures.upto),
)
