use Rattle.std.proofs.Common.{◌+◌, ◌≤◌, ◌≡◌, ◌∙◌, ap, drop, false, sym, subst, arith, rules}
use Rattle.mdf_layout.specs.Record.{cost_of, encoded_size, history_size}
use Rattle.book_owned.specs.FrontHalf.{FrontFits, IsFront}
use Rattle.book_owned.proofs.Fronts.{front_put, front_reserved}
use Rattle.book_owned.proofs.Putting.{room_for}
use Rattle.book_owned.proofs.front_half.Front.put_sized.Given as given
use Rattle.book_owned.proofs.front_half.Front.put_sized.Goals as goal
use Rattle.book_owned.proofs.front_half.Front.put_sized.Goals.{After-reserve}

-- the front with what was reserved
reserved : (g : given.Over) (c : After-reserve g) → IsFront g.V.Shown c.reserve.new.front
reserved g c =
    front_reserved g.V.Shown c.self.inside.memory c.self.invariant
    c.reserve.new.front c.reserve.ensures.rest c.reserve.ensures.history c.reserve.ensures.chunks c.reserve.ensures.marks c.reserve.ensures.spare

-- it goes on, and the sample's records have room in the block
goes : (g : given.Over) (c : After-reserve g) → c.self.inside.memory.stopped ≡ false
goes g c = c.in_default.ensures.going

fits : (g : given.Over) (c : After-reserve g)
    → history_size c.self.inside.memory.shapes (drop c.self.inside.memory.from c.self.inside.memory.history.items) + encoded_size c.self.inside.memory.shapes c.args.sample
    ≤ c.self.inside.memory.block.limit
fits g c = subst (λ a. FrontFits a c.args.sample) (sym c.self.view_is) c.requires.room

pub accept-requires-clause-block : goal.accept-requires-clause-block
accept-requires-clause-block g c =
    let at = (goal.at.accept-requires-clause-block g c).After-reserve in
    room_for c.self.inside.memory c.reserve.new.front c.args.sample c.reserve.ensures.rest c.self.invariant.pending (goes g at) (fits g at)

pub invariant_of-self-2 : goal.invariant_of-self-2
invariant_of-self-2 g c =
    let front = c.reserve.new.front in
    let at = (goal.at.invariant_of-self-2 g c).After-reserve in
    let room : front.held + cost_of front.shapes c.args.sample ≤ front.session_limit = search rules in
    let small : history_size front.shapes (drop front.from front.history.items) + encoded_size front.shapes c.args.sample ≤ front.block.limit = omega (
      arith,
      fits g at,
      ap (λ f. history_size f.shapes (drop f.from front.history.items) + encoded_size f.shapes c.args.sample) c.reserve.ensures.rest,
      ap (λ h. history_size c.self.inside.memory.shapes (drop c.self.inside.memory.from h)) c.reserve.ensures.history,
      ap (λ f. f.block.limit) c.reserve.ensures.rest,
    ) in
    front_put g.V.Shown front (reserved g at) c.accept.new.front c.args.sample
    c.accept.ensures.put (ap (λ f. f.stopped) c.reserve.ensures.rest ∙ goes g at) (omega (arith, c.in-Ok.ensures.room.1)) (λ away. c.in-Ok.ensures.room.1) room small

pub returns-clause-steady : goal.returns-clause-steady
returns-clause-steady g c = (invariant_of-self-2 g c).steady

pub invariant_of-self : goal.invariant_of-self
invariant_of-self g c = reserved g (goal.at.invariant_of-self g c).After-reserve

pub returns-in_default-reserve-clause-steady : goal.returns-in_default-reserve-clause-steady
returns-in_default-reserve-clause-steady g c = (invariant_of-self g c).steady
