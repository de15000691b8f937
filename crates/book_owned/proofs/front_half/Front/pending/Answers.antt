use Rattle.std.proofs.Common.{◌∙◌, ap, drop}
use Rattle.mdf_layout.specs.Record.{history_size}
use Rattle.mdf_layout.proofs.Sizes.{encodings-length}
use Rattle.book_owned.proofs.front_half.Front.pending.Goals as goal

pub returns : goal.returns
returns g c = c.len.ensures.len ∙ encodings-length _ _ _ _ (c.self.invariant.pending.records c.if-self.false)
    ∙ ap (λ a. history_size a.terms.layouts (drop a.from a.history)) c.self.view_is
