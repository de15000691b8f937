use Rattle.std.proofs.Common.{◌≤◌, ◌∙◌, [], length, refl, sym, ap, subst, arith, append-nil}
use Rattle.mdf_disk.specs.State.{state_of}
use Rattle.mdf_layout.specs.Record.{SampleFits}
use Rattle.book_owned.specs.Marks.{durable}
use Rattle.book_owned.specs.Account.{Steps}
use Rattle.book_owned.specs.Answers.{AppendAnswers, MakesRoom, accepted_by}
use Rattle.book_owned.specs.Events.{book_state_of}
use Rattle.book_owned.specs.FrontHalf.{IsSteady, PutTells, front_account}
use Rattle.book_owned.specs.Kept.{IsKept, IsShowing}
use Rattle.book_owned.specs.Split.{AreHalves, HasFaultOf, book_of, book_of_halves}
use Rattle.book_owned.specs.declared.answer.Append.TheVariants.{Accepted, DiskFault}
use Rattle.book_owned.proofs.Appends.{Appended, Reserved, append_failed, append_put, has_room, reserved_of, same_size}
use Rattle.book_owned.proofs.Happening.{append_happens, fault_happens, refused_events}
use Rattle.book_owned.proofs.Parting.{book_kept, put_steps, refused_answers}
use Rattle.book_owned.proofs.book.Book.append.Given as given
use Rattle.book_owned.proofs.book.Book.append.Goals as goal
use Rattle.book_owned.proofs.book.Book.append.Goals.{After-accept, After-drop-sample, After-drop-sample-in-Err, After-make_room, After-reserve}

-- what was reserved leaves all as it was
reserved : (g : given.Over) (c : After-reserve g)
    → Reserved g.D.Disk g.V.Shown c.args.self.now c.reserve.new.front c.self-inside.inside.0.1.0 c.args.sample c.encoded_size-size.result
reserved g c =
    reserved_of g.D.Disk g.V.Shown c.args.self.now c.self-inside.inside.0.0.memory c.reserve.new.front c.self-inside.inside.0.1.0 c.args.sample c.encoded_size-size.result
    c.self-inside.invariant (subst (λ i. AreHalves g.D.Disk i.front i.back) (sym c.self-inside.view_is) c.self.invariant)
    (ap (λ i. book_of_halves g.D.Disk i.front i.back) c.self-inside.view_is ∙ c.self.view_is)
    c.reserve.ensures.rest c.reserve.ensures.history c.reserve.ensures.chunks c.reserve.ensures.marks c.reserve.ensures.spare
    c.in_default.ensures.going c.in_default.ensures.room c.encoded_size-size.ensures

pub make_room-requires-clause-front : goal.make_room-requires-clause-front
make_room-requires-clause-front g c = λ κs within. (reserved g (goal.at.make_room-requires-clause-front g c).After-reserve).is

pub make_room-requires-clause-halves : goal.make_room-requires-clause-halves
make_room-requires-clause-halves g c = λ κs within. (reserved g (goal.at.make_room-requires-clause-halves g c).After-reserve).halves

pub accept-requires-clause-counted : goal.accept-requires-clause-counted
accept-requires-clause-counted g c = c.make_room.ensures.front.counted

pub accept-requires-clause-room : goal.accept-requires-clause-room
accept-requires-clause-room g c = omega (arith, c.make_room.ensures.samples, c.in-Ok.ensures.room.0)

-- room was made
steps : (g : given.Over) (c : After-make_room g) → Reserved g.D.Disk g.V.Shown c.args.self.now c.reserve.new.front c.self-inside.inside.0.1.0 c.args.sample c.encoded_size-size.result
    → Steps c.args.self.now (book_of g.D.Disk g.V.Shown c.make_room.new.front c.make_room.new.back) []
steps g c r = subst (λ a. Steps a (book_of g.D.Disk g.V.Shown c.make_room.new.front c.make_room.new.back) []) r.same c.make_room.ensures.steps

pub accept-requires-clause-fits : goal.accept-requires-clause-fits
accept-requires-clause-fits g c =
    let at = goal.at.accept-requires-clause-fits g c in
    subst (λ t. SampleFits t.layouts c.args.sample) (sym (steps g at.After-make_room (reserved g at.After-reserve)).terms) c.requires.fits

pub accept-requires-clause-block : goal.accept-requires-clause-block
accept-requires-clause-block g c =
    let at = goal.at.accept-requires-clause-block g c in
    let r = reserved g at.After-reserve in
    omega (
      arith,
      c.in_default-make_room.ensures.room,
      same_size g.D.Disk g.V.Shown c.args.self.now c.make_room.new.front c.make_room.new.back c.args.sample c.encoded_size-size.result c.make_room.ensures.front c.make_room.ensures.halves
          (steps g at.After-make_room r) r.going r.room r.size_is,
    )

pub accept-requires-clause-session : goal.accept-requires-clause-session
accept-requires-clause-session g c =
    let at = goal.at.accept-requires-clause-session g c in
    let r = reserved g at.After-reserve in
    omega (
      arith,
      c.make_room.ensures.front.counted.held,
      has_room g.D.Disk g.V.Shown c.args.self.now c.make_room.new.front c.make_room.new.back c.args.sample c.encoded_size-size.result c.make_room.ensures.front c.make_room.ensures.halves
          (steps g at.After-make_room r) r.going r.room r.size_is,
    )

-- it was accepted
done : (g : given.Over) (c : After-accept g) → Reserved g.D.Disk g.V.Shown c.args.self.now c.reserve.new.front c.self-inside.inside.0.1.0 c.args.sample c.encoded_size-size.result
    → Appended g.D.Disk g.V.Shown c.args.self.now c.accept.new.front c.make_room.new.back c.args.sample (Accepted c.len-place.result)
done g c r =
    let made = book_of g.D.Disk g.V.Shown c.make_room.new.front c.make_room.new.back in
    append_put g.D.Disk g.V.Shown c.args.self.now c.make_room.new.front c.make_room.new.back c.args.sample c.encoded_size-size.result c.make_room.ensures.front c.make_room.ensures.halves
    (subst (λ a. Steps a made []) r.same c.make_room.ensures.steps) r.going r.room r.size_is c.accept.new.front c.len-place.result c.accept.ensures.put
    (omega (arith, c.make_room.ensures.marks, c.in-Ok.ensures.room.1)) c.in_default-make_room.ensures.going c.in_default-make_room.ensures.room c.len-place.ensures
    (subst (λ a. MakesRoom g.D.Disk g.V.Shown a made c.encoded_size-size.result) r.same c.in_default-make_room.ensures.makes)

pub returns-clause-steps : goal.returns-clause-steps
returns-clause-steps g c = (done g c (reserved g (goal.at.returns-clause-steps g c).After-reserve)).steps

pub returns-clause-answer : goal.returns-clause-answer
returns-clause-answer g c = (done g c (reserved g (goal.at.returns-clause-answer g c).After-reserve)).answers

pub returns-clause-events : goal.returns-clause-events
returns-clause-events g c =
    let is = done g c (reserved g (goal.at.returns-clause-events g c).After-reserve) in
    let steady = subst (λ i. IsSteady g.V.Shown i.front) c.self-inside.view_is c.self-inside.invariant.steady in
    append_happens g.D.Disk g.V.Shown c.args.self.now (book_of g.D.Disk g.V.Shown c.accept.new.front c.make_room.new.back) c.args.sample is.steps.history
    (subst (λ a. durable a.marks ≤ length a.history) c.self.view_is (omega (arith, steady.low, steady.within)))
    (subst (λ a. g.V.Shown.count a.view ≤ durable a.marks) c.self.view_is steady.shown.most) c.len-place.result is.answers

pub returns-clause-kept : goal.returns-clause-kept
returns-clause-kept g c =
    let is = done g c (reserved g (goal.at.returns-clause-kept g c).After-reserve) in
    book_kept g.D.Disk g.V.Shown (front_account g.V.Shown c.accept.new.front) c.make_room.new.back is.halves is.front.steady

pub returns-clause-shown : goal.returns-clause-shown
returns-clause-shown g c = (done g c (reserved g (goal.at.returns-clause-shown g c).After-reserve)).front.steady.shown

pub invariant_of-self-2 : goal.invariant_of-self-2
invariant_of-self-2 g c = (done g c (reserved g (goal.at.invariant_of-self-2 g c).After-reserve)).halves

pub invariant_of-self-inside-2 : goal.invariant_of-self-inside-2
invariant_of-self-inside-2 g c = (done g c (reserved g (goal.at.invariant_of-self-inside-2 g c).After-reserve)).front

-- the disk failed
failed : (g : given.Over) (c : After-drop-sample-in-Err g) → Reserved g.D.Disk g.V.Shown c.args.self.now c.reserve.new.front c.self-inside.inside.0.1.0 c.args.sample c.encoded_size-size.result
    → Appended g.D.Disk g.V.Shown c.args.self.now c.make_room.new.front c.make_room.new.back c.args.sample (DiskFault c.in-Err.fault.before c.in-Err.fault.after)
failed g c r =
    let made = book_of g.D.Disk g.V.Shown c.make_room.new.front c.make_room.new.back in
    append_failed g.D.Disk g.V.Shown c.args.self.now c.make_room.new.front c.make_room.new.back c.args.sample c.encoded_size-size.result c.make_room.ensures.front c.make_room.ensures.halves
    (subst (λ a. Steps a made []) r.same c.make_room.ensures.steps) r.going r.room r.size_is c.in-Err.fault
    (subst (λ a. HasFaultOf g.D.Disk a made c.encoded_size-size.result c.in-Err.fault) r.same c.in-Err.ensures.fault)

pub returns-in-Err-clause-steps : goal.returns-in-Err-clause-steps
returns-in-Err-clause-steps g c = (failed g c (reserved g (goal.at.returns-in-Err-clause-steps g c).After-reserve)).steps

pub returns-in-Err-clause-answer : goal.returns-in-Err-clause-answer
returns-in-Err-clause-answer g c = (failed g c (reserved g (goal.at.returns-in-Err-clause-answer g c).After-reserve)).answers

pub returns-in-Err-clause-events : goal.returns-in-Err-clause-events
returns-in-Err-clause-events g c =
    let is = failed g c (reserved g (goal.at.returns-in-Err-clause-events g c).After-reserve) in (
      is.answers.3,
      fault_happens g.D.Disk g.V.Shown c.args.self.now (book_of g.D.Disk g.V.Shown c.make_room.new.front c.make_room.new.back)
          (is.steps.history ∙ append-nil c.args.self.now.history) is.answers.2 is.answers.4 is.answers.1.stopped,
    )

pub returns-in-Err-clause-kept : goal.returns-in-Err-clause-kept
returns-in-Err-clause-kept g c =
    book_kept g.D.Disk g.V.Shown (front_account g.V.Shown c.make_room.new.front) c.make_room.new.back c.make_room.ensures.halves c.make_room.ensures.front.steady

pub returns-in-Err-clause-shown : goal.returns-in-Err-clause-shown
returns-in-Err-clause-shown g c = c.make_room.ensures.front.steady.shown

-- no memory was found
pub invariant_of-self : goal.invariant_of-self
invariant_of-self g c = (reserved g (goal.at.invariant_of-self g c).After-reserve).halves

pub invariant_of-self-inside : goal.invariant_of-self-inside
invariant_of-self-inside g c = (reserved g (goal.at.invariant_of-self-inside g c).After-reserve).is

pub returns-in_default-reserve-clause-steps : goal.returns-in_default-reserve-clause-steps
returns-in_default-reserve-clause-steps g c =
    let old = c.args.self.now in
    subst (λ a. Steps old a []) (sym (reserved g (goal.at.returns-in_default-reserve-clause-steps g c).After-reserve).same)
    (record { history = sym (append-nil old.history); marks = ([], append-nil old.marks); stopped = λ stopped. stopped; terms = refl })

pub returns-in_default-reserve-clause-answer : goal.returns-in_default-reserve-clause-answer
returns-in_default-reserve-clause-answer g c =
    let r = reserved g (goal.at.returns-in_default-reserve-clause-answer g c).After-reserve in
    (r.going, r.same, r.room)

pub returns-in_default-reserve-clause-events : goal.returns-in_default-reserve-clause-events
returns-in_default-reserve-clause-events g c =
    ap (book_state_of g.V.Shown.count) (reserved g (goal.at.returns-in_default-reserve-clause-events g c).After-reserve).same

pub returns-in_default-reserve-clause-kept : goal.returns-in_default-reserve-clause-kept
returns-in_default-reserve-clause-kept g c =
    let r = reserved g (goal.at.returns-in_default-reserve-clause-kept g c).After-reserve in
    book_kept g.D.Disk g.V.Shown (front_account g.V.Shown c.reserve.new.front) c.self-inside.inside.0.1.0 r.halves r.is.steady

pub returns-in_default-reserve-clause-shown : goal.returns-in_default-reserve-clause-shown
returns-in_default-reserve-clause-shown g c = (reserved g (goal.at.returns-in_default-reserve-clause-shown g c).After-reserve).is.steady.shown

-- it was refused
steady : (g : given.Over) (c : After-drop-sample g) → IsSteady g.V.Shown c.self.inside.front
steady g c = subst (λ i. IsSteady g.V.Shown i.front) c.self-inside.view_is c.self-inside.invariant.steady

tells : (g : given.Over) (c : After-drop-sample g) → PutTells c.self.inside.front c.self.inside.front c.args.sample c.in-Some.refused
tells g c = subst (λ i. PutTells i.front i.front c.args.sample c.in-Some.refused) c.self-inside.view_is c.in-Some.ensures.refused

pub returns-in-Some-clause-steps : goal.returns-in-Some-clause-steps
returns-in-Some-clause-steps g c = subst (λ a. Steps a a (accepted_by c.in-Some.refused c.args.sample)) c.self.view_is
    (put_steps g.D.Disk g.V.Shown c.self.inside.front c.self.inside.back c.self.invariant c.self.inside.front c.args.sample c.in-Some.refused (tells g c))

pub returns-in-Some-clause-answer : goal.returns-in-Some-clause-answer
returns-in-Some-clause-answer g c = subst (λ a. AppendAnswers g.D.Disk g.V.Shown a a c.args.sample c.in-Some.refused) c.self.view_is
    (refused_answers g.D.Disk g.V.Shown c.self.inside.front c.self.inside.back c.self.invariant c.self.inside.front c.args.sample c.in-Some.refused (tells g c) c.in-Some.ensures.accepts)

pub returns-in-Some-clause-events : goal.returns-in-Some-clause-events
returns-in-Some-clause-events g c = refused_events g.V.Shown.count c.args.self.now c.args.sample c.in-Some.refused c.in-Some.ensures.before_memory

pub returns-in-Some-clause-kept : goal.returns-in-Some-clause-kept
returns-in-Some-clause-kept g c = subst (λ a. IsKept a.terms (state_of g.D.Disk a.disk) a.history a.marks) c.self.view_is
    (book_kept g.D.Disk g.V.Shown c.self.inside.front c.self.inside.back c.self.invariant (steady g c))

pub returns-in-Some-clause-shown : goal.returns-in-Some-clause-shown
returns-in-Some-clause-shown g c = subst (λ a. IsShowing g.V.Shown a.view a.history a.marks) c.self.view_is (steady g c).shown
