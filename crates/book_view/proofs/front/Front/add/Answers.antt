use Rattle.std.proofs.Common.{◌≡◌, sym, ◌∙◌, ap, length}
use Rattle.book_view.proofs.Adding.{adds}
use Rattle.book_view.proofs.front.Front.add.Goals as goal

pub compare_exchange-found-requires : goal.compare_exchange-found-requires
compare_exchange-found-requires c =
    let front = c.args.self.now in
    let head = c.requires.head in
    let offer = c.plain-offer.ensures in
    let pen = c.no_pen-pen.ensures in
    let seen = c.again-seen.ensures in
    let book : c.again-seen.result.book ≡ c.args.head.now.word.book = ap (λ s. s.book) seen ∙ sym (ap (λ w. w.book) head) in
    let counted : length c.again-seen.result.log ≡ front.count = ap (λ s. length s.log) seen ∙ sym front.counted in (
      ap (λ w. w.tracked) head,
      book,
      pen.0 ∙ book,
      offer.0,
      rw (ap (λ w. w.key) head, pen.1, offer.1, offer.3) (adds c.again-seen.result.log c.args.sample.now front.count counted),
    )
