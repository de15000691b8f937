use Rattle.std.proofs.Common.{length, ap, ◌∙◌, suc, [], All, sym, subst}
use Rattle.std.proofs.lemmas.List.{length-map}
use Rattle.acq_run.specs.Watching.{IsFresh, Watches}
use Rattle.acq_run.proofs.Looks.{fresh_nobody, fresh_readers, watch_first, watch_nobody}
use Rattle.acq_run.proofs.audience.Audience.begin.Goals as goal

pub returns-in-Ok-clause-watch : goal.returns-in-Ok-clause-watch
returns-in-Ok-clause-watch g c =
    subst (All (λ watcher. Watches watcher (suc c.in_ok-view.view.which) [])) (sym c.in-Ok.ensures)
    (watch_first c.in_ok-view.view.which c.in_ok-view.readers.items c.in_ok-view.ensures.each)

pub returns-in-Ok-clause-fresh : goal.returns-in-Ok-clause-fresh
returns-in-Ok-clause-fresh g c = subst (All IsFresh) (sym c.in-Ok.ensures)
    (fresh_readers c.in_ok-view.view.which c.in_ok-view.readers.items c.in_ok-view.ensures.each)

pub returns-then-not-live-clause-watch : goal.returns-then-not-live-clause-watch
returns-then-not-live-clause-watch g c = watch_nobody c.in_ok-watchers.watchers.items c.in_ok-watchers.ensures.made

pub returns-then-not-live-clause-fresh : goal.returns-then-not-live-clause-fresh
returns-then-not-live-clause-fresh g c = fresh_nobody c.in_ok-watchers.watchers.items c.in_ok-watchers.ensures.made

pub returns-in-Ok-clause-count : goal.returns-in-Ok-clause-count
returns-in-Ok-clause-count g c = ap length c.in-Ok.ensures ∙ length-map c.in_ok-view.readers.items _ ∙ c.in_ok-view.ensures.count
