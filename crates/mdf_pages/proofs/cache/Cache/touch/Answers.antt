use Rattle.std.proofs.Common.{◌≡◌, ℕ, List, true, sym, ◌∙◌, ap, subst, arith}
use Rattle.lru.specs.LruCache.{LruCache}
use Rattle.mdf_pages.specs.Page.{ArePages, is_kept}
use Rattle.mdf_pages.proofs.Held.{promoted_first, promoted_keeps, promoted_none, length-promoted, pages_promoted}
use Rattle.mdf_pages.proofs.cache.Cache.touch.Goals as goal

pub invariant_of-self : goal.invariant_of-self
invariant_of-self c =
    rw c.promote.ensures.entries (c.self.invariant.0, omega (arith, length-promoted c.args.page c.self.inside.pages.entries, c.self.invariant.1))

pub returns-clause-first : goal.returns-clause-first
returns-clause-first c = λ there.
    rw c.promote.ensures.entries (promoted_first c.args.page c.self.inside.pages.entries (sym c.promote.ensures.value ∙ there))

pub returns-clause-pages : goal.returns-clause-pages
returns-clause-pages c = λ told size pages.
    let order = ap (λ (cache : LruCache ℕ (List ℕ)). cache.entries) c.promote.ensures.entries in
    subst (ArePages told size) (sym order)
    (pages_promoted c.args.page c.self.inside.pages.entries told size (subst (ArePages told size) (sym c.self.view_is) pages))

pub returns-clause-others : goal.returns-clause-others
returns-clause-others c = λ other there.
    let was = subst (λ (es : List (ℕ × List ℕ)). is_kept other es ≡ true) (sym c.self.view_is) there in
    rw c.promote.ensures.entries (promoted_keeps c.args.page c.self.inside.pages.entries other was)

pub returns-clause-absent : goal.returns-clause-absent
returns-clause-absent c = λ none.
    ap (λ (cache : LruCache ℕ (List ℕ)). cache.entries) c.promote.ensures.entries
    ∙ promoted_none c.args.page c.self.inside.pages.entries (sym c.promote.ensures.value ∙ none)
    ∙ c.self.view_is

pub returns-clause-few : goal.returns-clause-few
returns-clause-few c =
    rw c.promote.ensures.entries (omega (arith, length-promoted c.args.page c.self.inside.pages.entries, c.self.invariant.1))
