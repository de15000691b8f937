use Rattle.std.proofs.Common.{◌+◌, ◌≤◌, length, refl, inl, sym, subst, arith}
use Rattle.std.specs.Prelude.{OnOk, IfErr}
use Rattle.book_owned.specs.Answers.{FlushAnswers, MakesRoom, Passes}
use Rattle.book_owned.specs.Split.{HasFaultOf, book_of}
use Rattle.book_owned.proofs.Flushes.{made_room, pending_size, room_made}
use Rattle.book_owned.proofs.flushing.make_room.Given as given
use Rattle.book_owned.proofs.flushing.make_room.Goals as goal
use Rattle.book_owned.proofs.flushing.make_room.Goals.{Joined-this, in-Done, in-DiskFault}

pub returns-then-len-size-clause-makes : goal.returns-then-len-size-clause-makes
returns-then-len-size-clause-makes g c = inl (
  omega (arith, c.if-len-size.true, c.len.ensures.len, c.limit.ensures.limit, pending_size g.V.Shown c.args.front.now c.requires.front c.requires.going c.requires.halves.spare),
  refl,
  refl,
  refl,
)

-- it would pass the block limit
passes : (g : given.Over) (c : Joined-this g) → Passes (book_of g.D.Disk g.V.Shown c.args.front.now c.args.back.now) c.args.size
passes g c =
    omega (arith, c.if-len-size.false, c.len.ensures.len, c.limit.ensures.limit, pending_size g.V.Shown c.args.front.now c.requires.front c.requires.going c.requires.halves.spare)

pub returns-clause-makes : goal.returns-clause-makes
returns-clause-makes g c =
    let old = book_of g.D.Disk g.V.Shown c.args.front.now c.args.back.now in
    let new = book_of g.D.Disk g.V.Shown c.flush.new.front c.flush.new.back in
    elim c.match-flush.branch [
      | in-Done w ↦ subst (λ r. OnOk r (MakesRoom g.D.Disk g.V.Shown old new c.args.size)) (sym w.result-is)
          (room_made g.D.Disk g.V.Shown old new c.args.size (passes g c) c.requires.small _ _ _ (subst (FlushAnswers g.D.Disk g.V.Shown old new) w.in-Done.is c.flush.ensures.answer))
      | in-DiskFault w ↦ subst (λ r. OnOk r (MakesRoom g.D.Disk g.V.Shown old new c.args.size)) (sym w.result-is) tt
    ]

pub returns-clause-room : goal.returns-clause-room
returns-clause-room g c =
    let old = book_of g.D.Disk g.V.Shown c.args.front.now c.args.back.now in
    let front = c.flush.new.front in
    let new = book_of g.D.Disk g.V.Shown front c.flush.new.back in
    elim c.match-flush.branch [
      | in-Done w ↦ subst (λ r. OnOk r (length front.block.bytes + c.args.size ≤ front.block.limit)) (sym w.result-is)
          (made_room g.D.Disk g.V.Shown old new c.args.size (passes g c) c.requires.small front c.flush.new.back c.flush.ensures.front c.flush.ensures.halves refl c.flush.ensures.steps
          _ _ _ (subst (FlushAnswers g.D.Disk g.V.Shown old new) w.in-Done.is c.flush.ensures.answer))
      | in-DiskFault w ↦ subst (λ r. OnOk r (length front.block.bytes + c.args.size ≤ front.block.limit)) (sym w.result-is) tt
    ]

pub returns-clause-fault : goal.returns-clause-fault
returns-clause-fault g c =
    let old = book_of g.D.Disk g.V.Shown c.args.front.now c.args.back.now in
    let new = book_of g.D.Disk g.V.Shown c.flush.new.front c.flush.new.back in
    elim c.match-flush.branch [
      | in-Done w ↦ subst (λ r. IfErr r (HasFaultOf g.D.Disk old new c.args.size)) (sym w.result-is) tt
      | in-DiskFault w ↦
          let answer = subst (FlushAnswers g.D.Disk g.V.Shown old new) w.in-DiskFault.is c.flush.ensures.answer in
          subst (λ r. IfErr r (HasFaultOf g.D.Disk old new c.args.size)) (sym w.result-is)
          (record { fault_is = answer.0; marks = answer.1; view = answer.2; passes = passes g c })
    ]
