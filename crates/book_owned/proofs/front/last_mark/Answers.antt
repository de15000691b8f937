use Rattle.std.proofs.Common.{◌-◌, ◌∙◌, sym, ap, refl, Some, slice_get}
use Rattle.book_owned.proofs.Lasts.{slice_get-last, slice_get-none}
use Rattle.book_owned.proofs.front.last_mark.Goals as goal

pub returns-in-Some : goal.returns-in-Some
returns-in-Some c =
    let place = c.saturating_sub.ensures ∙ ap (λ n. n - 1) c.len.ensures in
    slice_get-last c.args.marks.now.items (Some c.in-Some.mark.now)
    (ap (slice_get c.args.marks.now.items) (sym place) ∙ sym c.in-Some.ensures) c.in-Some.mark.now refl

pub returns-in-None : goal.returns-in-None
returns-in-None c =
    let place = c.saturating_sub.ensures ∙ ap (λ n. n - 1) c.len.ensures in
    sym (slice_get-none c.args.marks.now.items (ap (slice_get c.args.marks.now.items) (sym place) ∙ sym c.in-None.ensures))
