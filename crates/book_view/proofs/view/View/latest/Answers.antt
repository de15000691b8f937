use Rattle.std.proofs.Common.{◌≡◌, ◌+◌, ◌-◌, ◌∙◌, None, ap, arith, drop, subst}
use Rattle.mdf_layout.specs.Chunked.{joined}
use Rattle.book_view.specs.Latest.{latest_of}
use Rattle.book_view.specs.declared.store.Store.{Store}
use Rattle.book_view.proofs.Lasting.{latest_is, still_none}
use Rattle.book_view.proofs.view.View.latest.Goals as goal
use Rattle.book_view.proofs.view.View.latest.Goals.{After-latest_at}

-- no sample behind the chunk that is looked at is of the group
behind : (c : After-latest_at) → latest_of c.args.group (joined (drop (c.loop-behind.behind - 1 + 1) c.get.result.now.chunks)) ≡ None
behind c =
    subst (λ n. latest_of c.args.group (joined (drop n c.get.result.now.chunks)) ≡ None) (omega (arith, c.loop-behind-test.true)) c.loop-behind.invariant.none

pub returns-in-Some : goal.returns-in-Some
returns-in-Some c =
    latest_is c.args.group c.get.result.now.chunks (c.loop-behind.behind - 1)
    (omega (arith, c.loop-behind-test.true, c.loop-behind.invariant.within)) (behind (goal.at.returns-in-Some c).After-latest_at) c.in-Some.sample.now c.in-Some.ensures
    ∙ ap (latest_of c.args.group)
    (ap (λ (store : Store). joined store.chunks) c.get.ensures ∙ c.self.invariant.1 ∙ ap (λ view. view.samples) c.self.view_is)

pub loop-behind-preserved : goal.loop-behind-preserved
loop-behind-preserved c =
    record {
      within = omega (arith, c.loop-behind.invariant.within);
      none = still_none c.args.group c.get.result.now.chunks (c.loop-behind.behind - 1)
          (omega (arith, c.loop-behind-test.true, c.loop-behind.invariant.within)) (behind (goal.at.loop-behind-preserved c).After-latest_at) c.in-None.ensures;
    }
