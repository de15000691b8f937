use Rattle.std.proofs.Common.{[], sym, ap, ◌∙◌, arith, length}
use Rattle.book_shared.specs.Fixed.{basis_of}
use Rattle.book_shared.specs.Place.{Common, known}
use Rattle.book_shared.specs.Plays.{Here}
use Rattle.book_shared.proofs.Keeps.{seat_of}
use Rattle.book_shared.proofs.Ends.{splits}
use Rattle.book_shared.proofs.Beginning.{new_seats-length, split_left, kept_left, pushed}
use Rattle.book_shared.proofs.opening.part.Goals as goal

pub split_seat-others-requires : goal.split_seat-others-requires
split_seat-others-requires g c = (
  c.loop-number.invariant.0 ∙ sym (ap (λ (b : Common). b.table) c.book.view_is),
  omega (arith, c.book.invariant.0),
  splits g.D.Disk (basis_of g.D.Disk c.book.inside.table.shared.key) c.loop-number.whole.id c.loop-number.whole.me.0
      (ap (λ (x : Here g.row.D.Denot g.row.V.Denot). x.0.turn) c.loop-number.invariant.1)
      (ap (λ (x : Here g.row.D.Denot g.row.V.Denot). x.0.device) c.loop-number.invariant.1),
)

pub push_reserved-requires : goal.push_reserved-requires
push_reserved-requires g c =
    let all = c.loop-number.invariant in
    omega (
      arith,
      c.loop-number.seats.ok.0,
      ap length all.2,
      new_seats-length c.args.book.now.table c.args.book.now.basis 0 c.loop-number.number,
      c.loop-number-test.true,
      all.4,
      c.requires.room,
    )

pub loop-number-preserved : goal.loop-number-preserved
loop-number-preserved g c =
    let all = c.loop-number.invariant in
    let table = c.args.book.now.table in
    let basis = c.args.book.now.basis in
    let n = c.loop-number.number in
    let whole = c.loop-number.whole.me.0 in
    let less = c.loop-number-test.true in
    let is = ap (λ (x : Here g.row.D.Denot g.row.V.Denot). x.0) all.1 in
    let cut = c.split_seat-others.ensures in
    let badge = c.into_badge.ensures in (
      cut.3 ∙ all.0,
      cut.4 ∙ ap (λ v. seat_of v []) (split_left basis n c.args.sources whole less is),
      pushed c.loop-number.seats.items c.push_reserved.new.self.items table c.into_badge.result.table_id basis n (known c.into_badge.result.views) all.2
          (badge.0 ∙ cut.0 ∙ all.0)
          (ap known badge.2 ∙ ap (λ (x : Here g.row.D.Denot g.row.V.Denot). x.0) cut.2 ∙ kept_left basis n c.args.sources whole less is)
          c.push_reserved.ensures.items,
      omega (arith, less),
      c.push_reserved.ensures.capacity ∙ all.4,
    )
