use Rattle.std.proofs.Common.{[], ◌++◌, ◌∙◌, length, map, take, drop, refl, sym, ap, subst, arith}
use Rattle.std.proofs.lemmas.List.{length-map}
use Rattle.std.specs.Prelude.{All}
use Rattle.mdf_gate.proofs.Carrying.{prefix_self}
use Rattle.book_owned.specs.Account.{Terms}
use Rattle.book_shared.specs.Causes.{MarksCaused}
use Rattle.book_shared.specs.Seats.{AskedBy, DueBy}
use Rattle.book_shared.proofs.Causing.{caused_later}
use Rattle.acq_run.specs.Ran.{AllHeard, AllMayHand, AllRan, AskedFor, DueFor}
use Rattle.acq_run.specs.Workers.{CanHand, IsReady}
use Rattle.acq_run.proofs.Groups.{handed_count, handed_may, ran_owned}
use Rattle.acq_run.proofs.Owning.{owned_same}
use Rattle.acq_run.proofs.Gathering.{all_ready, followers_of, handed_in, have_worked, seated, seats_count, worked_count, worked_follow, worked_asked, worked_due, worked_ended, worked_handed, worked_numbers, worked_of_table, worked_ran, worked_seen, HaveWorked}
use Rattle.acq_run.proofs.Telling.{worked_heard}
use Rattle.acq_run.specs.Watching.{Hears, Watches}
use Rattle.acq_run.specs.Stays.{watches_on}
use Rattle.acq_run.proofs.record.record_live.Given as given
use Rattle.acq_run.proofs.record.record_live.Goals as goal
use Rattle.acq_run.proofs.record.record_live.Goals.{After-drive_all}

pub seat_all-requires-clause-count : goal.seat_all-requires-clause-count
seat_all-requires-clause-count g c =
    let book = c.in-Ok-begin.begun.0 in
    omega (arith, seats_count book.table book.basis c.in-Ok-begin.begun.1.items _ c.in-Ok-begin.ensures.seats, c.len-count.ensures, c.args.feeds.ok.0, c.requires.sources.1)

pub drive_all-requires-clause-ready : goal.drive_all-requires-clause-ready
drive_all-requires-clause-ready g c κs within =
    let book = c.in-Ok-begin.begun.0 in
    let shared = c.in-Ok-begin.ensures.shared in
    let workers = c.seat_all.new.workers.items in
    let owners = c.args.owners.now in
    let terms = c.args.book.terms in
    subst (All (λ w. IsReady book.table w.seat (CanHand g.F.Feed.hands w.feed) (Watches w.follower))) (sym c.as_mut_slice.ensures.value)
    (all_ready g.F.Feed.hands g.F.Feed.waits g.F.Feed.ends Hears book.table book.basis Watches owners terms
    shared.owners_are shared.terms_are 0 workers
    (seated g.F.Feed.hands g.F.Feed.waits g.F.Feed.ends Hears book.table book.basis workers c.in-Ok-begin.begun.1.items _
    c.seat_all.ensures.seats c.in-Ok-begin.ensures.seats)
    (subst (AllMayHand g.F.Feed.hands owners terms 0) (sym c.seat_all.ensures.feeds) c.requires.may)
    (subst (All (λ l. Watches l terms.which [])) (sym c.seat_all.ensures.followers) c.requires.follow))

-- what the workers did
all_worked : (g : given.Over) (c : After-drive_all g)
    → HaveWorked g.F.Feed.hands g.F.Feed.waits g.F.Feed.ends Hears c.in-Ok-begin.begun.0.table c.in-Ok-begin.begun.0.basis c.as_mut_slice.result.now c.drive_all.new.workers
    (take c.seat_all.new.workers.len (c.drive_all.new.workers ++ drop (length c.drive_all.new.workers) c.seat_all.new.workers.items)) c.args.feeds.items
all_worked g c =
    let book = c.in-Ok-begin.begun.0 in
    have_worked g.F.Feed.hands g.F.Feed.waits g.F.Feed.ends Hears book.table book.basis c.seat_all.new.workers.items c.as_mut_slice.result.now c.drive_all.new.workers c.seat_all.new.workers.len _
    c.in-Ok-begin.begun.1.items c.args.feeds.items c.seat_all.ensures.seats c.in-Ok-begin.ensures.seats c.seat_all.ensures.feeds c.as_mut_slice.ensures.value
    c.drive_all.auto.workers c.as_mut_slice.ensures.len c.drive_all.ensures.worked

pub close-requires-clause-table : goal.close-requires-clause-table
close-requires-clause-table g c =
    let book = c.in-Ok-begin.begun.0 in
    let lent = c.as_mut_slice.result.now in
    let news = c.drive_all.new.workers in
    let worked = all_worked g (goal.at.close-requires-clause-table g c).After-drive_all in
    worked_of_table g.F.Feed.hands g.F.Feed.waits g.F.Feed.ends Hears book.table book.basis lent news _ c.args.feeds.items worked c.part_all.new.seats.items c.part_all.ensures.seats

pub close-requires-clause-all : goal.close-requires-clause-all
close-requires-clause-all g c number below =
    let book = c.in-Ok-begin.begun.0 in
    let lent = c.as_mut_slice.result.now in
    let news = c.drive_all.new.workers in
    let worked = all_worked g (goal.at.close-requires-clause-all g c).After-drive_all in
    worked_numbers g.F.Feed.hands g.F.Feed.waits g.F.Feed.ends Hears book.table book.basis lent news _ c.args.feeds.items worked c.part_all.new.seats.items c.part_all.ensures.seats number
    (omega (arith, below, c.in-Ok-begin.ensures.shared.sources_is, c.len-count.ensures, c.args.feeds.ok.0, c.requires.sources.1))

pub returns-clause-worked : goal.returns-clause-worked
returns-clause-worked g c =
    let book = c.in-Ok-begin.begun.0 in
    let shared = c.in-Ok-begin.ensures.shared in
    let lent = c.as_mut_slice.result.now in
    let news = c.drive_all.new.workers in
    let done = c.close.result in
    let seats = c.part_all.new.seats.items in
    let all = c.part_all.new.all.items in
    let worked = all_worked g (goal.at.returns-clause-worked g c).After-drive_all in
    let handed = handed_in g.F.Feed.hands g.F.Feed.waits g.F.Feed.ends Hears book.table book.basis lent news _ c.args.feeds.items worked in
    let asked = AskedFor c.args.owners.now 0 handed done.history in
    let due = DueFor handed in
    record {
      handed = handed;
      fed = worked_handed g.F.Feed.hands g.F.Feed.waits g.F.Feed.ends Hears book.table book.basis lent news _ c.args.feeds.items worked c.part_all.new.feeds.items c.part_all.ensures.feeds;
      ended = worked_ended g.F.Feed.hands g.F.Feed.waits g.F.Feed.ends Hears book.table book.basis lent news _ c.args.feeds.items worked c.part_all.new.feeds.items all c.part_all.ensures.feeds c.part_all.ensures.driven;
      ran = subst (λ seen. AllRan c.args.owners.now done seen 0 handed all) (sym c.by-seen.ensures)
          (worked_ran g.F.Feed.hands g.F.Feed.waits g.F.Feed.ends Hears book.table book.basis lent news _ c.args.feeds.items worked c.args.owners.now shared.owners_are done c.close.ensures.terms
          seats all c.part_all.ensures.seats c.part_all.ensures.driven c.close.ensures.seats);
      marks = subst (λ (t : Terms). MarksCaused asked due t.layouts t.block_limit done.history c.args.book.marks done.marks) shared.terms_are
          (subst (λ ms. MarksCaused asked due book.basis.terms.layouts book.basis.terms.block_limit done.history ms done.marks) c.in-Ok-begin.ensures.marks
          (caused_later (AskedBy seats) asked (DueBy seats) due book.basis.terms.layouts book.basis.terms.block_limit done.history done.history
          (worked_asked g.F.Feed.hands g.F.Feed.waits g.F.Feed.ends Hears book.table book.basis lent news _ c.args.feeds.items worked c.args.owners.now shared.owners_are done c.close.ensures.terms
          seats c.part_all.ensures.seats c.close.ensures.seats)
          (worked_due g.F.Feed.hands g.F.Feed.waits g.F.Feed.ends Hears book.table book.basis lent news _ c.args.feeds.items worked seats c.part_all.ensures.seats)
          (prefix_self done.history) book.basis.begun done.marks c.close.ensures.marks));
      heard = subst (λ seen. AllHeard g.F.Feed.waits Hears c.args.owners.now done seen 0 handed all c.part_all.new.feeds.items c.args.watchers.items c.part_all.new.followers.items) (sym c.by-seen.ensures)
          (worked_heard g.F.Feed.hands g.F.Feed.waits g.F.Feed.ends Hears book.table book.basis c.args.owners.now shared.owners_are done c.close.ensures.terms lent news _ c.args.feeds.items worked c.args.watchers.items
          (ap (followers_of g.F.Feed.hands g.F.Feed.waits g.F.Feed.ends Hears book.table book.basis) c.as_mut_slice.ensures.value ∙ c.seat_all.ensures.followers)
          seats all c.part_all.new.feeds.items c.part_all.new.followers.items c.part_all.ensures.seats c.part_all.ensures.driven c.part_all.ensures.feeds c.part_all.ensures.followers
          c.close.ensures.seats);
    }

pub returns-clause-followers : goal.returns-clause-followers
returns-clause-followers g c =
    let book = c.in-Ok-begin.begun.0 in
    let shared = c.in-Ok-begin.ensures.shared in
    let lent = c.as_mut_slice.result.now in
    let news = c.drive_all.new.workers in
    let worked = all_worked g (goal.at.returns-clause-followers g c).After-drive_all in
    worked_count g.F.Feed.hands g.F.Feed.waits g.F.Feed.ends Hears book.table book.basis lent news _ c.args.feeds.items worked (λ w. w.follower) c.part_all.new.followers.items c.part_all.ensures.followers

pub returns-clause-saw : goal.returns-clause-saw
returns-clause-saw g c =
    let book = c.in-Ok-begin.begun.0 in
    let worked = all_worked g (goal.at.returns-clause-saw g c).After-drive_all in
    ap length c.by-seen.ensures ∙ worked_seen g.F.Feed.hands g.F.Feed.waits g.F.Feed.ends Hears book.table book.basis c.as_mut_slice.result.now c.drive_all.new.workers _ c.args.feeds.items worked
    c.part_all.new.seats.items c.part_all.ensures.seats

pub returns-clause-follow : goal.returns-clause-follow
returns-clause-follow g c =
    let book = c.in-Ok-begin.begun.0 in
    let shared = c.in-Ok-begin.ensures.shared in
    let lent = c.as_mut_slice.result.now in
    let news = c.drive_all.new.workers in
    let worked = all_worked g (goal.at.returns-clause-follow g c).After-drive_all in
    worked_follow g.F.Feed.hands g.F.Feed.waits g.F.Feed.ends Hears book.table book.basis lent news _ c.args.feeds.items worked Watches watches_on c.close.result c.args.book.terms shared.terms_are
    c.part_all.new.seats.items c.part_all.new.followers.items c.part_all.ensures.seats c.part_all.ensures.followers c.close.ensures.seats c.drive_all.ensures.follow

pub part_all-requires-clause-room : goal.part_all-requires-clause-room
part_all-requires-clause-room g c =
    let book = c.in-Ok-begin.begun.0 in
    let shared = c.in-Ok-begin.ensures.shared in
    let lent = c.as_mut_slice.result.now in
    let news = c.drive_all.new.workers in
    let worked = all_worked g (goal.at.part_all-requires-clause-room g c).After-drive_all in
    let after = take c.seat_all.new.workers.len (news ++ drop (length news) c.seat_all.new.workers.items) in
    let followers = map (λ w. w.follower) after in
    let count = worked_count g.F.Feed.hands g.F.Feed.waits g.F.Feed.ends Hears book.table book.basis lent news after c.args.feeds.items worked (λ w. w.follower) followers refl in
    let long = length-map after (λ w. w.follower) in (
      omega (arith, count, long, c.in-Ok.ensures.wide.0, c.len-count.ensures, c.args.feeds.ok.0),
      omega (arith, count, long, c.in-Ok.ensures.wide.1, c.len-count.ensures, c.args.feeds.ok.0),
      omega (arith, count, long, c.in-Ok.ensures.wide.2, c.len-count.ensures, c.args.feeds.ok.0),
      omega (arith, count, long, c.in-Ok.ensures.wide.3, c.len-count.ensures, c.args.feeds.ok.0),
    )

pub returns-clause-owned : goal.returns-clause-owned
returns-clause-owned g c =
    let hands = g.F.Feed.hands in
    let book = c.in-Ok-begin.begun.0 in
    let shared = c.in-Ok-begin.ensures.shared in
    let lent = c.as_mut_slice.result.now in
    let news = c.drive_all.new.workers in
    let worked = all_worked g (goal.at.returns-clause-owned g c).After-drive_all in
    let handed = handed_in g.F.Feed.hands g.F.Feed.waits g.F.Feed.ends Hears book.table book.basis lent news _ c.args.feeds.items worked in
    let rest = c.part_all.new.feeds.items in
    let fed = worked_handed g.F.Feed.hands g.F.Feed.waits g.F.Feed.ends Hears book.table book.basis lent news _ c.args.feeds.items worked rest c.part_all.ensures.feeds in
    ran_owned c.args.owners.now c.args.book.terms c.close.result _ handed c.part_all.new.all.items _
    (omega (arith, handed_count hands c.args.feeds.items rest handed fed, c.args.feeds.ok.0))
    (worked_ran g.F.Feed.hands g.F.Feed.waits g.F.Feed.ends Hears book.table book.basis lent news _ c.args.feeds.items worked c.args.owners.now shared.owners_are c.close.result
    c.close.ensures.terms c.part_all.new.seats.items c.part_all.new.all.items c.part_all.ensures.seats c.part_all.ensures.driven c.close.ensures.seats)
    (handed_may hands c.args.owners.now c.args.book.terms 0 c.args.feeds.items rest handed fed c.requires.may)
    (owned_same book.basis.owners c.args.owners.now shared.owners_are 0 book.basis.sources _
    (omega (arith, shared.sources_is, c.len-count.ensures, c.args.feeds.ok.0, c.requires.sources.1)) c.close.result.history c.close.ensures.sources)
