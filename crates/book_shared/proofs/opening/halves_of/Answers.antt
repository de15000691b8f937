use Rattle.std.proofs.Common.{◌∙◌, sym}
use Rattle.book_shared.specs.declared.half.Half.TheVariants.{TheFront, TheBack}
use Rattle.book_shared.proofs.Lists.{alone}
use Rattle.book_shared.proofs.Beginning.{two_left}
use Rattle.book_shared.proofs.opening.halves_of.Goals as goal

pub front_of-requires : goal.front_of-requires
front_of-requires g c =
    let halves = c.requires.halves in
    let two = two_left c.pop.new.self.items c.in-Some.second (TheFront halves.0) (TheBack halves.1) (sym halves.2 ∙ c.in-Some.ensures.items) in
    (halves.0, sym (alone c.pop-2.new.self.items c.in-Some-pop.first (TheFront halves.0) (two.1 ∙ c.in-Some-pop.ensures.items)).0)

pub back_of-requires : goal.back_of-requires
back_of-requires g c =
    let halves = c.requires.halves in
    (halves.1, sym (two_left c.pop.new.self.items c.in-Some.second (TheFront halves.0) (TheBack halves.1) (sym halves.2 ∙ c.in-Some.ensures.items)).0)
