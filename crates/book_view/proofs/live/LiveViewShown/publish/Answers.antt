use Rattle.std.proofs.Common.{◌≡◌, ◌+◌, ◌++◌, List, Result, Ok, Err, length, length-append, ◌∙◌, sym, ap, subst}
use Rattle.std.specs.Prelude.{MatchResult}
use Rattle.std.specs.Result.{OnOk}
use Rattle.std.specs.Arc.{arc_value}
use mathlib.Core.List.{IsPrefix}
use Rattle.book_view.proofs.live.LiveViewShown.publish.Goals as goal

pub publish_all-writer-requires-clause-begun : goal.publish_all-writer-requires-clause-begun
publish_all-writer-requires-clause-begun g c =
    let log = c.self.inside.fronts.log.seen.log in
    let handed = c.requires.handed in
    subst (λ shown. IsPrefix log (shown ++ arc_value c.args.chunk.now)) (handed.1 ∙ sym (ap (λ view. view.shown) c.self.view_is))
    (handed.2 log (ap (λ view. view.handed) c.self.view_is))

-- where the samples are shown, so many more are
longer : {A E X : Type 0} (refused : E → Type 0) (answer : Result A E) (before more now : List X) → MatchResult answer (λ _. now ≡ before ++ more) refused
    → OnOk answer (length now ≡ length before + length more)
longer refused (Ok _) before more now is = ap length is ∙ length-append before more
longer refused (Err _) before more now is = tt

pub returns-clause-counted : goal.returns-clause-counted
returns-clause-counted g c =
    let published = c.publish_all-writer in
    let fronts = c.self.inside.fronts in
    let now = published.new.fronts.shown.seen.log in
    let samples = arc_value c.args.chunk.now in
    subst (λ shown. OnOk published.result.1 (length now ≡ length shown + length samples)) (ap (λ view. view.shown) c.self.view_is)
    (longer _ published.result.1 fronts.shown.seen.log samples now published.ensures.shown)
