-- Pages that are kept, after one is put first and after one more is.
use Rattle.std.proofs.Common.{◌≡◌, ◌+◌, ◌-◌, ◌≤◌, ◌<◌, ℕ, zero, suc, Bool, true, false, cond, List, [], ◌∷◌, length, take, Contains, Option, Some, None, is_some, Result, Ok, Err, OnOk, OnErr, slice_get, nat_eq, refl, sym, ◌∙◌, ap, subst, arith, inl, inr}
use Rattle.std.proofs.lemmas.Bool.{eqb-true, eq-eqb}
use Rattle.std.proofs.lemmas.List.{take_all}
use Rattle.std.specs.Option.{option_map_or}
use Rattle.std.specs.Map.{lookup, lookup_entry, remove_entry}
use Rattle.lru.specs.LruCache.{LruCache, promoted, put_entries}
use Rattle.lru.proofs.CallerLemmas.{Contains-lookup_entry, Contains-promoted, Contains-take}
use Rattle.lru.proofs.Splits.{Contains-head, Contains-cons}
use Rattle.mdf_pages.specs.Page.{IsPageOf, ArePages, StillKept, is_kept, first_page, with_page}

-- a key has a value where it has an entry
entry_there : {K V : Type 0} (test : K → Bool) (es : List (K × V)) → is_some (lookup test es) ≡ is_some (lookup_entry test es)
entry_there test [] = refl
entry_there test (e ∷ es) = elim (test e.0) as (λ b. is_some (cond b (Some e.1) (lookup test es)) ≡ is_some (cond b (Some e) (lookup_entry test es))) [
  | true ↦ refl
  | false ↦ entry_there test es
]

no_entry : {A : Type 0} (found : Option A) → is_some found ≡ false → found ≡ None
no_entry None none = refl
no_entry (Some a) none = cc

-- one entry less, where there is one
shorter : {K V : Type 0} (test : K → Bool) (es : List (K × V)) (e : K × V) → lookup_entry test es ≡ Some e
    → length (remove_entry test es) + 1 ≡ length es
shorter test [] e found = cc
shorter test (f ∷ es) e found = (elim (test f.0) as (λ b. test f.0 ≡ b → length (remove_entry test (f ∷ es)) + 1 ≡ length (f ∷ es)) [
  | true ↦ λ t. rw t (omega arith)
  | false ↦ λ t. rw t (omega (arith, shorter test es e (rw t at found)))
]) refl

module _ (page : ℕ) where
  -- a page that is taken out leaves the others
  without : (other : ℕ) (es : List (ℕ × List ℕ)) → nat_eq other page ≡ false → is_kept other es ≡ true
      → is_kept other (remove_entry (nat_eq page) es) ≡ true
  without other [] apart there = there
  without other (f ∷ es) apart there = (elim (nat_eq page f.0) as (λ b. nat_eq page f.0 ≡ b → is_kept other (remove_entry (nat_eq page) (f ∷ es)) ≡ true) [
    | true ↦ λ t.
        let not : nat_eq other f.0 ≡ false = subst (λ (k : ℕ). nat_eq other k ≡ false) (eqb-true page f.0 t) apart in
        rw t (rw not at there)
    | false ↦ λ t. rw t ((elim (nat_eq other f.0) as (λ b. nat_eq other f.0 ≡ b → is_kept other (f ∷ remove_entry (nat_eq page) es) ≡ true) [
      | true ↦ λ u. rw u refl
      | false ↦ λ u. rw u (without other es apart (rw u at there))
    ]) refl)
  ]) refl

  -- the page that is put first, by the entry that is found
  abbrev put_first : Option (ℕ × List ℕ) → List (ℕ × List ℕ) → List (ℕ × List ℕ)
  put_first found es = option_map_or (λ e. e ∷ remove_entry (nat_eq page) es) found es

  is_first : (es : List (ℕ × List ℕ)) (found : Option (ℕ × List ℕ)) → lookup_entry (nat_eq page) es ≡ found → is_some found ≡ true
      → first_page (put_first found es) ≡ Some page
  is_first es None is there = cc
  is_first es (Some e) is there = ap Some (sym (eqb-true page e.0 (Contains-lookup_entry (nat_eq page) es e is).1))

  still : (other : ℕ) (es : List (ℕ × List ℕ)) (found : Option (ℕ × List ℕ)) → lookup_entry (nat_eq page) es ≡ found → is_kept other es ≡ true
      → is_kept other (put_first found es) ≡ true
  still other es None is there = there
  still other es (Some e) is there =
      let key : page ≡ e.0 = eqb-true page e.0 (Contains-lookup_entry (nat_eq page) es e is).1 in
      (elim (nat_eq other e.0) as (λ b. nat_eq other e.0 ≡ b → is_kept other (e ∷ remove_entry (nat_eq page) es) ≡ true) [
        | true ↦ λ t. rw t refl
        | false ↦ λ t. rw t (without other es (subst (λ (k : ℕ). nat_eq other k ≡ false) (sym key) t) there)
      ]) refl

  no_longer : (es : List (ℕ × List ℕ)) (found : Option (ℕ × List ℕ)) → lookup_entry (nat_eq page) es ≡ found
      → length (put_first found es) ≤ length es
  no_longer es None is = omega arith
  no_longer es (Some e) is = omega (arith, shorter (nat_eq page) es e is)

  module _ (es : List (ℕ × List ℕ)) where
    pub promoted_first : is_kept page es ≡ true → first_page (promoted (nat_eq page) es) ≡ Some page
    promoted_first there = is_first es (lookup_entry (nat_eq page) es) refl (sym (entry_there (nat_eq page) es) ∙ there)

    pub promoted_keeps : (other : ℕ) → is_kept other es ≡ true → is_kept other (promoted (nat_eq page) es) ≡ true
    promoted_keeps other there = still other es (lookup_entry (nat_eq page) es) refl there

    pub length-promoted : length (promoted (nat_eq page) es) ≤ length es
    length-promoted = no_longer es (lookup_entry (nat_eq page) es) refl

    none_there : is_kept page es ≡ false → lookup_entry (nat_eq page) es ≡ None
    none_there none = no_entry (lookup_entry (nat_eq page) es) (sym (entry_there (nat_eq page) es) ∙ none)

    pub promoted_none : is_kept page es ≡ false → promoted (nat_eq page) es ≡ es
    promoted_none none = rw (none_there none) refl

    pub pages_promoted : (told : Option (List ℕ)) (size : ℕ) → ArePages told size es → ArePages told size (promoted (nat_eq page) es)
    pages_promoted told size pages p b among = pages p b (Contains-promoted (nat_eq page) es (p, b) among)

  -- one page more
  pub put_new : (bytes : List ℕ) (kept : LruCache ℕ (List ℕ)) → kept.cap ≡ 256 → is_kept page kept.entries ≡ false
      → put_entries nat_eq kept page bytes ≡ with_page page bytes kept.entries
  put_new bytes kept cap none =
      rw (none_there kept.entries none) (ap (λ (most : ℕ). (page, bytes) ∷ take (most - 1) kept.entries) cap)

-- pages stay pages with one more
pub pages_with : (told : Option (List ℕ)) (size page : ℕ) (bytes : List ℕ) (kept : List (ℕ × List ℕ)) → ArePages told size kept
    → IsPageOf told size page bytes → ArePages told size (with_page page bytes kept)
pages_with told size page bytes kept pages is p b c = elim (Contains-cons (page, bytes) (take 255 kept) (p, b) c) [
  | inl same ↦ subst (λ (entry : ℕ × List ℕ). IsPageOf told size entry.0 entry.1) same is
  | inr there ↦ pages p b (Contains-take 255 kept (p, b) there)
]

-- pages stay pages where those that were used least lately are taken out, and no page comes by it
pub pages_taken : (told : Option (List ℕ)) (size : ℕ) (kept : List (ℕ × List ℕ)) → ArePages told size kept → ArePages told size (take 255 kept)
pages_taken told size kept pages p b among = pages p b (Contains-take 255 kept (p, b) among)

pub none_taken : (page n : ℕ) (kept : List (ℕ × List ℕ)) → is_kept page kept ≡ false → is_kept page (take n kept) ≡ false
none_taken page zero kept none = refl
none_taken page (suc n) [] none = none
none_taken page (suc n) (e ∷ es) none = (elim (nat_eq page e.0) as (λ b. nat_eq page e.0 ≡ b → is_kept page (e ∷ take n es) ≡ false) [
  | true ↦ λ t. absurd (cc (rw t at none))
  | false ↦ λ t. rw t (none_taken page n es (rw t at none))
]) refl

-- the entry that stands first is kept
pub first_kept : (kept : List (ℕ × List ℕ)) (page : ℕ) (entry : ℕ × List ℕ) → Some entry ≡ slice_get kept 0 → first_page kept ≡ Some page
    → Contains kept (page, entry.1)
first_kept [] page entry is first = cc
first_kept (e ∷ es) page entry is first =
    let key : e.0 ≡ page = cc in
    let same : entry ≡ e = cc in
    subst (λ (k : ℕ). Contains (e ∷ es) (k, entry.1)) key (subst (λ (f : ℕ × List ℕ). Contains (e ∷ es) (e.0, f.1)) (sym same) (Contains-head e es))

-- the same after a page was put, where that may have failed
pub pages_after : {T E : Type 0} (result : Result T E) (told : Option (List ℕ)) (size page : ℕ) (bytes : List ℕ) (old new : List (ℕ × List ℕ))
    → OnOk result (new ≡ with_page page bytes old) → OnErr result (new ≡ old) → ArePages told size old → IsPageOf told size page bytes
    → ArePages told size new
pages_after (Ok x) told size page bytes old new ok err pages is =
    subst (ArePages told size) (sym ok) (pages_with told size page bytes old pages is)
pages_after (Err e) told size page bytes old new ok err pages is = subst (ArePages told size) (sym err) pages

-- the page that stands first is kept
pub first_is_kept : (kept : List (ℕ × List ℕ)) (page : ℕ) → first_page kept ≡ Some page → is_kept page kept ≡ true
first_is_kept [] page first = cc
first_is_kept (e ∷ es) page first =
    let key : e.0 ≡ page = cc in
    let same : nat_eq page e.0 ≡ true = eq-eqb page e.0 (sym key) in
    rw same refl

-- a page more lets no other go where there is room
with_keeps : (page : ℕ) (bytes : List ℕ) (old : List (ℕ × List ℕ)) → length old < 256 → StillKept old (with_page page bytes old)
with_keeps page bytes old few other there = (elim (nat_eq other page) as (λ b. nat_eq other page ≡ b → is_kept other (with_page page bytes old) ≡ true) [
  | true ↦ λ t. rw t refl
  | false ↦ λ t. rw t (subst (λ (es : List (ℕ × List ℕ)). is_kept other es ≡ true) (sym (take_all 255 old (omega (arith, few)))) there)
]) refl

pub still_after : {T E : Type 0} (result : Result T E) (page : ℕ) (bytes : List ℕ) (old new : List (ℕ × List ℕ))
    → OnOk result (new ≡ with_page page bytes old) → OnErr result (new ≡ old) → length old < 256 → StillKept old new
still_after (Ok x) page bytes old new ok err few = subst (StillKept old) (sym ok) (with_keeps page bytes old few)
still_after (Err e) page bytes old new ok err few = subst (StillKept old) (sym err) (λ other there. there)
