use Rattle.std.proofs.Common.{◌≡◌, [], false, subst}
use Rattle.std.specs.Prelude.{IfNone, IfSome}
use Rattle.book_owned.specs.Answers.{AppendAnswers, HasRoom, accepted_by}
use Rattle.book_owned.proofs.Parting.{refused_none, refused_some}
use Rattle.book_owned.proofs.book.Book.refusal.Goals as goal

pub returns-clause-none : goal.returns-clause-none
returns-clause-none g c = subst (λ a. IfNone c.refusal.result ((a.stopped ≡ false) × HasRoom a c.args.sample.now)) c.self.view_is
    (refused_none g.D.Disk g.V.Shown c.self.inside.front c.self.inside.back c.self.invariant c.args.sample.now c.refusal.result c.refusal.ensures.none)

pub returns-clause-refused : goal.returns-clause-refused
returns-clause-refused g c =
    subst (λ a. IfSome c.refusal.result (λ answer. AppendAnswers g.D.Disk g.V.Shown a a c.args.sample.now answer × (accepted_by answer c.args.sample.now ≡ []))) c.self.view_is
    (refused_some g.D.Disk g.V.Shown c.self.inside.front c.self.inside.back c.self.invariant c.args.sample.now c.refusal.result c.refusal.ensures.refused)
