use Rattle.std.proofs.Common.{◌≡◌, ◌∷◌, All, subst, sym, ◌∙◌, arith}
use Rattle.acq_run.specs.Watching.{IsOf, Watches}
use Rattle.acq_run.proofs.watcher.first_reader.Goals as goal

pub returns-in-Some : goal.returns-in-Some
returns-in-Some c which seen all reader is =
    let items : c.args.watchers.items ≡ c.in-Some.field-0 ∷ c.next.new.self.rest.items = sym c.into_iter.ensures.rest ∙ c.in-Some.ensures.items in
    let watch : Watches c.in-Some.field-0 which seen = subst (All (λ w. Watches w which seen)) items all 0 c.in-Some.field-0 (omega arith) in
    subst (λ r. IsOf r which) is watch.of_view
