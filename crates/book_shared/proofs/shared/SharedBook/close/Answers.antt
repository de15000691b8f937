use Rattle.std.proofs.Common.{◌≡◌, ◌<◌, ap, ◌∙◌, sym, subst, arith}
use Rattle.std.specs.Mem.Slots.{slots_items}
use Rattle.mdf_gate.proofs.Carrying.{prefix_self}
use Rattle.book_owned.specs.Account.{Account}
use Rattle.book_shared.specs.Fixed.{basis_of}
use Rattle.book_shared.specs.Place.{Common}
use Rattle.book_shared.specs.Rule.{asks, AreOfSources}
use Rattle.book_shared.specs.Causes.{IsAmong, MarksCaused}
use Rattle.book_shared.specs.Ends.{Ended}
use Rattle.book_shared.specs.Seats.{AskedBy, Closes, DueBy}
use Rattle.book_shared.proofs.Causing.{caused_later}
use Rattle.book_shared.proofs.Covering.{finished, some_seat, are_halves, ended_terms, closes}
use Rattle.book_shared.proofs.shared.SharedBook.close.Given as given
use Rattle.book_shared.proofs.shared.SharedBook.close.Goals as goal
use Rattle.book_shared.proofs.shared.SharedBook.close.Goals.{After-close_with}

-- what lies in the slots
ended : (g : given.Over) (c : After-close_with g) → Ended g.D.Disk (basis_of g.D.Disk c.self.inside.table.shared.key) c.gather-whole.result.me.0 (slots_items c.close_with.result.slots)
ended g c =
    finished g.D.Disk (basis_of g.D.Disk c.self.inside.table.shared.key) c.gather-whole.result.id c.gather-whole.result.me.0
    (slots_items c.close_with.result.words) (slots_items c.close_with.result.slots) c.args.seats.items
    c.gather-whole.ensures.calm c.gather-whole.ensures.no_device c.gather-whole.ensures.covers
    (λ number less. c.requires.all number (subst (λ (b : Common). number < b.basis.sources) c.self.view_is less)) c.close_with.ensures.values.2

pub book_of-requires-clause-halves : goal.book_of-requires-clause-halves
book_of-requires-clause-halves g c =
    let basis = basis_of g.D.Disk c.self.inside.table.shared.key in
    let e = ended g (goal.at.book_of-requires-clause-halves g c).After-close_with in
    (e.front, e.back, e.front_is, e.back_is, are_halves g.D.Disk basis c.gather-whole.result.me.0 (slots_items c.close_with.result.slots) e)

pub returns-clause-terms : goal.returns-clause-terms
returns-clause-terms g c =
    let e = ended g (goal.at.returns-clause-terms g c).After-close_with in
    let basis = basis_of g.D.Disk c.self.inside.table.shared.key in
    subst (λ (b : Common). c.book_of.result.terms ≡ b.basis.terms) c.self.view_is
    (ap (λ (a : Account g.row.D.Denot g.row.V.Denot). a.terms) (c.book_of.ensures e.front e.back e.front_is e.back_is)
    ∙ ended_terms g.D.Disk basis c.gather-whole.result.me.0 (slots_items c.close_with.result.slots) e)

pub returns-clause-seats : goal.returns-clause-seats
returns-clause-seats g c =
    let e = ended g (goal.at.returns-clause-seats g c).After-close_with in
    let basis = basis_of g.D.Disk c.self.inside.table.shared.key in
    subst (λ (b : Common). Closes b.basis c.book_of.result c.args.seats.items) c.self.view_is
    (subst (λ a. Closes basis a c.args.seats.items) (sym (c.book_of.ensures e.front e.back e.front_is e.back_is))
    (closes g.D.Disk basis c.gather-whole.result.me.0 (slots_items c.close_with.result.slots) e c.args.seats.items c.gather-whole.ensures.covers))

pub returns-clause-sources : goal.returns-clause-sources
returns-clause-sources g c =
    let e = ended g (goal.at.returns-clause-sources g c).After-close_with in
    subst (λ (b : Common). AreOfSources b.basis c.book_of.result.history) c.self.view_is
    (subst (λ (a : Account g.row.D.Denot g.row.V.Denot). AreOfSources (basis_of g.D.Disk c.self.inside.table.shared.key) a.history) (sym (c.book_of.ensures e.front e.back e.front_is e.back_is)) e.only)

pub returns-clause-marks : goal.returns-clause-marks
returns-clause-marks g c =
    let e = ended g (goal.at.returns-clause-marks g c).After-close_with in
    let basis = basis_of g.D.Disk c.self.inside.table.shared.key in
    let whole = c.gather-whole.result.me.0 in
    let seats = c.args.seats.items in
    subst (λ (b : Common). MarksCaused (AskedBy seats) (DueBy seats) b.basis.terms.layouts b.basis.terms.block_limit c.book_of.result.history b.basis.begun c.book_of.result.marks) c.self.view_is
    (subst (λ (a : Account g.row.D.Denot g.row.V.Denot). MarksCaused (AskedBy seats) (DueBy seats) basis.terms.layouts basis.terms.block_limit a.history basis.begun a.marks) (sym (c.book_of.ensures e.front e.back e.front_is e.back_is))
    (caused_later (λ n. 0 < asks n whole) (AskedBy seats) (IsAmong whole.due) (DueBy seats) basis.terms.layouts basis.terms.block_limit e.front.history e.front.history
    (λ n is. omega (arith, is, c.gather-whole.ensures.asked n)) c.gather-whole.ensures.due (prefix_self e.front.history) basis.begun e.front.marks e.marks))

pub gather-whole-requires : goal.gather-whole-requires
gather-whole-requires g c = record {
  table = c.requires.table;
  some_seat = some_seat 0 c.args.seats.items (c.requires.all 0 (subst (λ (b : Common). 0 < b.basis.sources) c.self.view_is c.self.invariant.2));
}
