use Rattle.std.proofs.Common.{◌≡◌, ℕ, List, false, length, sym, ◌∙◌, ap, subst, arith}
use Rattle.std.proofs.lemmas.List.{length-take}
use Rattle.lru.specs.LruCache.{LruCache}
use Rattle.mdf_pages.specs.Page.{is_kept, with_page}
use Rattle.mdf_pages.proofs.Held.{put_new}
use Rattle.mdf_pages.proofs.cache.Cache.put.Goals as goal

pub invariant_of-self-2 : goal.invariant_of-self-2
invariant_of-self-2 c =
    let pages = c.self.inside.pages in
    let none = subst (λ (es : List (ℕ × List ℕ)). is_kept c.args.page es ≡ false) (sym c.self.view_is) c.requires in
    let more = ap (λ (cache : LruCache ℕ (List ℕ)). cache.entries) c.in_ok-put.ensures.entries ∙ put_new c.args.page c.args.bytes pages c.self.invariant.0 none in (
      ap (λ (cache : LruCache ℕ (List ℕ)). cache.cap) c.in_ok-put.ensures.entries ∙ c.self.invariant.0,
      omega (arith, ap (λ (es : List (ℕ × List ℕ)). length es) more, length-take 255 pages.entries),
    )

pub returns-clause-ok : goal.returns-clause-ok
returns-clause-ok c =
    let none = subst (λ (es : List (ℕ × List ℕ)). is_kept c.args.page es ≡ false) (sym c.self.view_is) c.requires in
    ap (λ (cache : LruCache ℕ (List ℕ)). cache.entries) c.in_ok-put.ensures.entries
    ∙ put_new c.args.page c.args.bytes c.self.inside.pages c.self.invariant.0 none
    ∙ ap (with_page c.args.page c.args.bytes) c.self.view_is

pub returns-clause-few : goal.returns-clause-few
returns-clause-few c =
    let pages = c.self.inside.pages in
    let none = subst (λ (es : List (ℕ × List ℕ)). is_kept c.args.page es ≡ false) (sym c.self.view_is) c.requires in
    let more = ap (λ (cache : LruCache ℕ (List ℕ)). cache.entries) c.in_ok-put.ensures.entries ∙ put_new c.args.page c.args.bytes pages c.self.invariant.0 none in
    omega (arith, ap (λ (es : List (ℕ × List ℕ)). length es) more, length-take 255 pages.entries)
