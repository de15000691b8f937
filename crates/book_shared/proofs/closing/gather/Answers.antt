use Rattle.std.proofs.Common.{rules, ◌≡◌, [], ◌++◌, sym, ap, subst, ◌∙◌, arith}
use Rattle.book_shared.specs.Fixed.{basis_of}
use Rattle.book_shared.specs.Parts.{joined}
use Rattle.book_shared.specs.Place.{Common}
use Rattle.book_shared.specs.Plays.{Here}
use Rattle.book_shared.specs.Seats.{AreOf, DueBy}
use Rattle.book_shared.proofs.Keeps.{seat_of}
use Rattle.book_shared.proofs.Ends.{joins}
use Rattle.book_shared.proofs.Covering.{Gathered, gathered_first, gathered_on, of_last}
use Rattle.book_shared.proofs.closing.gather.Goals as goal

pub loop-seat-init : goal.loop-seat-init
loop-seat-init g c =
    let table = c.args.book.now.table in
    let seats = c.args.seats.items in
    let left = c.pop.new.self.items in
    let seat = c.in-Some.seat in
    let chair = c.chair_of-whole.ensures in (
      chair.table ∙ of_last table left seat (subst (AreOf table) c.in-Some.ensures.items c.requires.table),
      ap (λ (x : Here g.row.D.Denot g.row.V.Denot). x.1) chair.know,
      subst (Gathered table seats left) (sym (ap (λ (x : Here g.row.D.Denot g.row.V.Denot). x.0) chair.know))
          (gathered_first table seats left seat c.requires.table c.in-Some.ensures.items chair.calm chair.no_device chair.single),
    )

pub join_seat-requires : goal.join_seat-requires
join_seat-requires g c =
    let table = c.args.book.now.table in
    let left = c.pop-in-loop-seat.new.self.items in
    let seat = c.in-Some-pop.seat in
    let chair = c.chair_of.ensures in
    let gathered = c.loop-seat.invariant.2 in
    let view_is = ap (λ (b : Common). b.table) c.book.view_is in (
      c.loop-seat.invariant.0 ∙ sym view_is,
      chair.table ∙ of_last table left seat (subst (AreOf table) c.in-Some-pop.ensures.items gathered.of_table) ∙ sym view_is,
      ap (λ (x : Here g.row.D.Denot g.row.V.Denot). x.1) chair.know,
      omega (arith, c.book.invariant.0),
      joins g.D.Disk (basis_of g.D.Disk c.book.inside.table.shared.key) c.loop-seat.whole.id c.loop-seat.whole.me.0 c.chair_of.result.id c.chair_of.result.me.0
          gathered.calm (ap (λ (x : Here g.row.D.Denot g.row.V.Denot). x.0.turn) chair.know ∙ chair.calm)
          gathered.no_device (ap (λ (x : Here g.row.D.Denot g.row.V.Denot). x.0.device) chair.know ∙ chair.no_device) gathered.some_source,
    )

pub loop-seat-preserved : goal.loop-seat-preserved
loop-seat-preserved g c =
    let table = c.args.book.now.table in
    let seats = c.args.seats.items in
    let whole = c.loop-seat.whole.me.0 in
    let seat = c.in-Some-pop.seat in
    let chair = c.chair_of.ensures in
    let now = seat_of (joined whole c.chair_of.result.me.0) c.loop-seat.whole.me.1 in (
      c.join_seat.ensures.0 ∙ c.loop-seat.invariant.0,
      ap (λ (x : Here g.row.D.Denot g.row.V.Denot). x.1) {y = now} c.join_seat.ensures.2 ∙ c.loop-seat.invariant.1,
      subst (Gathered table seats c.pop-in-loop-seat.new.self.items)
          (sym (ap (λ (x : Here g.row.D.Denot g.row.V.Denot). x.0) {y = now} c.join_seat.ensures.2 ∙ ap (λ (x : Here g.row.D.Denot g.row.V.Denot). joined whole x.0) {y = seat_of seat.know []} chair.know))
          (gathered_on table seats c.loop-seat.seats.items c.pop-in-loop-seat.new.self.items whole seat c.loop-seat.invariant.2 c.in-Some-pop.ensures.items chair.single),
    )

pub returns-clause-due : goal.returns-clause-due
returns-clause-due g c sample is =
    let gathered = c.loop-seat.invariant.2 in
    let none_left : c.loop-seat.seats.items ≡ [] = search rules in
    subst (λ seats. DueBy seats sample) (sym (gathered.parts ∙ ap (λ left. left ++ gathered.behind) none_left)) (gathered.due sample is)
