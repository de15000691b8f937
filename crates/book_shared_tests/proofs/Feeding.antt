-- What the sources of the tests may hand in.
use Rattle.std.proofs.Common.{◌≡◌, ◌<◌, ℕ, suc, List, [], ◌∷◌, ◌++◌, length, get_or, All, refl, ap, subst, ◌∙◌, arith, length-append}
use Rattle.std.specs.Prelude.{◌^◌, slice_index}
use Rattle.std.proofs.lemmas.List.{get_or_append_left}
use Rattle.mdf_layout.specs.Layout.{Layout}
use Rattle.book_owned.specs.Account.{Terms}
use Rattle.acq_run.specs.Tasks.{MayFeed}
use Rattle.acq_run.specs.Ran.{AllMayHand}
use Rattle.acq_run.specs.Feeds.{before_end}
use Rattle.acq_run.specs.Listed.{IsBehind}
use Rattle.acq_run.specs.declared.feed.Fed.{Fed}
use Rattle.acq_run.specs.declared.feed.Fed.TheVariants as fed
use Rattle.book_shared_tests.specs.Lists.{IsOf}

-- a list without an End is fed whole
pub whole : (layouts : List Layout) (group : ℕ) (list : List Fed) → All (IsOf layouts group) list → before_end list ≡ list
whole layouts group [] all = refl
whole layouts group (fed.Sample sample ∷ list) all = ap (λ l. fed.Sample sample ∷ l) (whole layouts group list (λ k d less. all (suc k) d (omega (arith, less))))
whole layouts group (fed.Flush ∷ list) all = ap (λ l. fed.Flush ∷ l) (whole layouts group list (λ k d less. all (suc k) d (omega (arith, less))))
whole layouts group (fed.End ∷ list) all = absurd (all 0 fed.End (omega arith))

-- a source may hand in what is of its group, and so what is handed in of a list of these
may_of : (owners : List ℕ) (terms : Terms) (group : ℕ) (layouts : List Layout) (task : Fed) → slice_index owners group ≡ group → terms.layouts ≡ layouts → terms.block_limit ≡ 9
    → IsOf layouts group task → MayFeed owners terms group task
may_of owners terms group layouts (fed.Sample sample) own are limit of = record {
  owned = ap (slice_index owners) of.0 ∙ own;
  fits = rw are of.1;
  size = rw (are, limit) of.2;
}
may_of owners terms group layouts fed.Flush own are limit of = tt
may_of owners terms group layouts fed.End own are limit of = absurd of

pub may_front : (owners : List ℕ) (terms : Terms) (group : ℕ) (layouts : List Layout) (list feds left : List Fed) → slice_index owners group ≡ group → terms.layouts ≡ layouts
    → terms.block_limit ≡ 9 → list ≡ feds ++ left → All (IsOf layouts group) list → length list < 2 ^ 64 → All (MayFeed owners terms group) feds × (length feds < 2 ^ 64)
may_front owners terms group layouts list feds left own are limit is all few = (
  λ k d within.
      may_of owners terms group layouts (get_or feds k d) own are limit
      (subst (IsOf layouts group) (get_or_append_left feds left d k within)
      (subst (All (IsOf layouts group)) is all k d (omega (arith, within, length-append feds left)))),
  omega (arith, length-append feds left, ap length is, few),
)

-- the two sources may hand in whatever their feeds can, each what stands next in its list
pub two_may : {F : Type 0} (list : F → List Fed) (terms : Terms) (layouts : List Layout) (first second : F) → terms.layouts ≡ layouts → terms.block_limit ≡ 9
    → All (IsOf layouts 0) (list first) → All (IsOf layouts 1) (list second) → length (list first) < 2 ^ 64 → length (list second) < 2 ^ 64
    → AllMayHand (λ (feed : F) (feds : List Fed) (later : F). IsBehind (list feed) feds (list later)) (0 ∷ 1 ∷ []) terms 0 (first ∷ second ∷ [])
two_may list terms layouts first second are limit one two few more = (
  λ feds can. may_front (0 ∷ 1 ∷ []) terms 0 layouts (list first) feds (list can.0) refl are limit can.1 one few,
  (λ feds can. may_front (0 ∷ 1 ∷ []) terms 1 layouts (list second) feds (list can.0) refl are limit can.1 two more, tt),
)
