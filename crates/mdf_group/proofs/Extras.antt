-- Links after the eighth, one by one.
use Rattle.std.proofs.Common.{◌≡◌, ◌+◌, ◌-◌, ◌≤◌, ◌<◌, ℕ, suc, Bool, true, false, cond, nat_eq, List, ◌∙◌, ap, arith}
use Rattle.mdf_format.specs.Block.{link_at}
use Rattle.mdf_conv.specs.Left.{link_count}
use Rattle.mdf_group.specs.Link.{links_named}

at_most_cond : (b : Bool) → cond b 0 1 ≤ 1
at_most_cond true = omega arith
at_most_cond false = omega arith

-- a link counts for one at most
pub at_most_one : (link : ℕ) → link_count link ≤ 1
at_most_one link = at_most_cond (nat_eq link 0)

module _ (f : List ℕ) (at k end extra total : ℕ) (is : extra + links_named f at k (end - k) ≡ total) where
  -- one link more is counted
  pub one_more : (link count : ℕ) → k < end → link ≡ link_at f at k → count ≡ link_count link
      → extra + count + links_named f at (k + 1) (end - (k + 1)) ≡ total
  unfolding links_named
  one_more link count below is_link is_count =
      let more : end - k ≡ suc (end - (k + 1)) = omega arith in
      let counted : count ≡ link_count (link_at f at k) = is_count ∙ ap link_count is_link in
      let rest : links_named f at k (end - k) ≡ link_count (link_at f at k) + links_named f at (k + 1) (end - (k + 1)) = ap (links_named f at k) more in
      omega (arith, counted, rest, is)

  -- all are counted
  pub all_counted : end ≤ k → extra ≡ total
  unfolding links_named
  all_counted past =
      let none : end - k ≡ 0 = omega arith in
      let rest : links_named f at k (end - k) ≡ 0 = ap (links_named f at k) none in
      omega (arith, rest, is)
