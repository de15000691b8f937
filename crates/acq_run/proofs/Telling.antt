-- All sources have worked, and their followers were told of the flushes.
use Rattle.std.proofs.Common.{◌≡◌, ◌≤◌, ℕ, suc, List, [], ◌∷◌, length, map, sym, ◌∙◌, ap, subst, arith}
use Rattle.std.specs.Prelude.{slice_index}
use Rattle.atomic_table.specs.Seated.{TableId}
use Rattle.mdf_layout.specs.declared.sample.Sample.{Sample}
use Rattle.book_owned.specs.Account.{Account}
use Rattle.book_shared.specs.Basis.{Basis}
use Rattle.book_shared.specs.Place.{Place}
use Rattle.book_shared.specs.Seats.{new_seat, Closed, Closes}
use Rattle.acq_run.specs.Feeds.{flushes_of}
use Rattle.acq_run.specs.Works.{HasWorked}
use Rattle.acq_run.specs.Workers.{driven_of}
use Rattle.acq_run.specs.Ran.{AllHeard, Ran, seen_by}
use Rattle.acq_run.specs.declared.feed.Fed.{Fed}
use Rattle.acq_run.specs.declared.work.Driven.{Driven}
use Rattle.acq_run.specs.declared.work.Ended.TheVariants.{Done}
use Rattle.acq_run.specs.declared.work.Worker.{Worker}
use Rattle.acq_run.proofs.Gathering.{AllDriven, AllSaw, HaveWorked, all_saw, done_of, feeds_of, followers_of, handed_in, handed_of, ran_of, rest_of, seats_of}
use Rattle.acq_run.proofs.Owning.{done_same, ran_same, rest_same}

module _ {F L : Type 0} (hands : F → List Fed → F → Type 0) (waits : F → Fed → Type 0) (ends : F → Type 0) (hears : L → List ℕ → L → Type 0) (table : TableId) (basis : Basis) where
  module _ {D V : Type 0} (owners : List ℕ) (alike : (group : ℕ) → slice_index basis.owners group ≡ slice_index owners group) (book : Account D V) (terms : book.terms ≡ basis.terms) where
    -- what a source did and what its follower was told
    abbrev Told : ℕ → List Sample → List Fed → Driven → F → L → L → Type 0
    Told number seen feds driven feed first last =
        (ran : Ran owners book number seen feds driven) × (length ran.rest ≤ 1) × ((task : Fed) → ran.rest ≡ task ∷ [] → waits feed task)
        × (ran.rest ≡ [] → driven.ended ≡ Done) × (shown : List ℕ) × (length shown ≡ flushes_of ran.done) × hears first shown last

    one_heard : (number : ℕ) (old new : Worker F L) → Closed basis book new.seat
        → (worked : HasWorked hands waits ends hears (new_seat table basis number) new.seat new.accepted new.ended old.feed new.feed old.follower new.follower)
        → Told number new.seat.know.seen worked.handed (driven_of new) new.feed old.follower new.follower
    one_heard number old new closed worked =
        let ran = ran_of basis book terms table number new.seat closed worked.handed new.accepted new.ended worked.driven in
        let rest_is = rest_same basis.owners owners alike number book new.seat.know.seen worked.handed (driven_of new) ran
        ∙ rest_of basis book terms table number new.seat closed worked.handed new.accepted new.ended worked.driven in (
          ran_same basis.owners owners alike number book new.seat.know.seen worked.handed (driven_of new) ran,
          omega (arith, worked.one, ap length rest_is),
          (λ task is. worked.waiting task (sym rest_is ∙ is)),
          (λ none. worked.finished (sym rest_is ∙ none)),
          worked.shown,
          worked.count ∙ sym (ap flushes_of (done_same basis.owners owners alike number book new.seat.know.seen worked.handed (driven_of new) ran
              ∙ done_of basis book terms table number new.seat closed worked.handed new.accepted new.ended worked.driven)),
          worked.heard,
        )

    all_heard : (seen : List (List Sample)) (first : ℕ) (olds news : List (Worker F L)) → AllSaw hands waits ends hears table basis seen first news
        → (all : AllDriven hands waits ends hears table basis first olds news) → Closes basis book (seats_of hands waits ends hears table basis news)
        → AllHeard waits hears owners book seen first (handed_of hands waits ends hears table basis first olds news all) (map driven_of news) (feeds_of hands waits ends hears table basis news) (followers_of hands waits ends hears table basis olds)
        (followers_of hands waits ends hears table basis news)
    all_heard seen first [] [] saw all closes = tt
    all_heard seen first [] (new ∷ news) saw all closes = absurd all
    all_heard seen first (old ∷ olds) [] saw all closes = absurd all
    all_heard seen first (old ∷ olds) (new ∷ news) saw all closes = (
      subst (λ s. Told first s all.0.handed (driven_of new) new.feed old.follower new.follower) (sym saw.0) (one_heard first old new closes.0 all.0),
      all_heard seen (suc first) olds news saw.1 all.1 closes.1,
    )

    -- The vector of the workers was lent as a slice, and what was lent came back with what each did.
    pub worked_heard : (lent news after : List (Worker F L)) (feeds : List F) (worked : HaveWorked hands waits ends hears table basis lent news after feeds) (followers : List L)
        → followers_of hands waits ends hears table basis lent ≡ followers → (back : List Place) (all : List Driven) (feeds' : List F) (followers' : List L)
        → back ≡ seats_of hands waits ends hears table basis after → all ≡ map driven_of after → feeds' ≡ feeds_of hands waits ends hears table basis after
        → followers' ≡ followers_of hands waits ends hears table basis after → Closes basis book back
        → AllHeard waits hears owners book (seen_by back) 0 (handed_in hands waits ends hears table basis lent news after feeds worked) all feeds' followers followers'
    worked_heard lent news after feeds worked followers follow back all feeds' followers' back_is all_is feeds_is followers_is closes =
        let handed = handed_in hands waits ends hears table basis lent news after feeds worked in
        let seen = seen_by (seats_of hands waits ends hears table basis news) in
        let seats_are = back_is ∙ ap (seats_of hands waits ends hears table basis) worked.after_is in
        let heard = all_heard seen 0 lent news (all_saw hands waits ends hears table basis news) worked.all (subst (Closes basis book) seats_are closes) in
        subst (λ ss. AllHeard waits hears owners book (seen_by ss) 0 handed all feeds' followers followers') (sym seats_are)
        (subst (λ ds. AllHeard waits hears owners book seen 0 handed ds feeds' followers followers')
        (sym (all_is ∙ ap (λ (ws : List (Worker F L)). map driven_of ws) worked.after_is))
        (subst (λ left. AllHeard waits hears owners book seen 0 handed (map driven_of news) left followers followers')
        (sym (feeds_is ∙ ap (feeds_of hands waits ends hears table basis) worked.after_is))
        (subst (λ fs. AllHeard waits hears owners book seen 0 handed (map driven_of news) (feeds_of hands waits ends hears table basis news) fs followers') follow
        (subst (AllHeard waits hears owners book seen 0 handed (map driven_of news) (feeds_of hands waits ends hears table basis news) (followers_of hands waits ends hears table basis lent))
        (sym (followers_is ∙ ap (followers_of hands waits ends hears table basis) worked.after_is)) heard))))
