use Rattle.std.proofs.Common.{List, ap, subst}
use mathlib.Core.List.{IsPrefix}
use Rattle.mdf_layout.specs.declared.sample.Sample.{Sample}
use Rattle.book_view.proofs.Beginnings.{shorter_begins}
use Rattle.book_view.proofs.front.Front.is_begun_by.Goals as goal

pub returns : goal.returns
returns c =
    let one = c.args.self.now in
    let other = c.args.other.now in
    let both = c.learn.new.self.log in
    let first : IsPrefix one.seen.log both = subst (λ (l : List Sample). IsPrefix l both) (ap (λ s. s.log) c.again-both.ensures) c.learn.ensures.2 in
    shorter_begins one.seen.log other.seen.log both first c.learn.ensures.3 one.count other.count one.counted other.counted
