use Rattle.std.proofs.Common.{◌≡◌, ◌-◌, ℕ, List, length, take, sym, ◌∙◌, ap, arith}
use Rattle.std.proofs.lemmas.List.{take_all}
use Rattle.lru.specs.LruCache.{LruCache}
use Rattle.mdf_pages.proofs.cache.Cache.take_room.Goals as goal

pub returns-then-len-lt-MOST : goal.returns-then-len-lt-MOST
returns-then-len-lt-MOST c =
    sym (take_all 255 c.args.self.now (omega (arith, c.len.ensures.len, ap (λ (es : List (ℕ × List ℕ)). length es) c.self.view_is)))

pub returns : goal.returns
returns c =
    let entries = c.self.inside.pages.entries in
    let long : length entries - 1 ≡ 255 = omega (arith, c.len.ensures.len, c.self.invariant.1) in
    ap (λ (cache : LruCache ℕ (List ℕ)). cache.entries) c.pop_lru.ensures.entries
    ∙ ap (λ (n : ℕ). take n entries) long
    ∙ ap (take 255) c.self.view_is
