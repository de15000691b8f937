use Rattle.std.proofs.Common.{rules, ◌≡◌, ◌⊎◌, sym, subst}
use Rattle.book_shared.specs.Causes.{IsAmong}
use Rattle.book_shared.specs.Place.{known}
use Rattle.book_shared.specs.declared.view.View.{View}
use Rattle.book_shared.proofs.shared.SharedBook.append.Goals as goal

pub returns-clause-due : goal.returns-clause-due
returns-clause-due g c other is =
    let was : c.args.seat.now.know ≡ c.into_seat-chair.result.me.0 = search rules in
    let now : known c.into_badge.result.views ≡ c.append_at-answer.new.seat.me.0 = search rules in
    subst (λ (v : View). IsAmong v.due other ⊎ (c.args.sample ≡ other)) (sym was)
    (c.append_at-answer.ensures.due other (subst (λ (v : View). IsAmong v.due other) now is))
