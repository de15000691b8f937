-- The last block by the greatest address that is named, and in words.
use Rattle.std.proofs.Common.{◌≡◌, ◌≢◌, ◌⊎◌, ⊎_elim, inl, inr, ℕ, zero, suc, Bool, true, false, cond, ◌+◌, ◌-◌, ◌≤◌, ◌<◌, List, [], ◌∷◌, ◌++◌, codes, get_or, Option, Some, None, Ok, Err, refl, sym, ◌∙◌, ap, subst, arith}
use Rattle.std.proofs.lemmas.Bool.{leb-true, leb-false, le-leb, eqb-true, eq-eqb, and_parts, and_from, false_from_ne_true, true≢false}
use Rattle.std.proofs.lemmas.List.Sums.{sum_by-cons}
use Rattle.std.proofs.lemmas.Slice.Eq.{bytes_eq-Decides}
use Rattle.std.specs.Prelude.{max, min, nat_le, filter, slice_get, sum_by}
use Rattle.mdf_format.specs.Block.{IsBlock, link_at, links_at, name_of}
use Rattle.mdf_format.specs.Number.{bytes_at}
use Rattle.mdf_format.specs.declared.kind.Kind.TheVariants.{Dl, Dt}
use Rattle.mdf_block.specs.Block.{block, is_compressed, the_block}
use Rattle.mdf_block.specs.Chain.{AreAlong}
use Rattle.mdf_block.specs.Limit.{IsListedBehind}
use Rattle.mdf_block.specs.Refusal.{Read}
use Rattle.mdf_block.specs.declared.place.BlockAt.{BlockAt}
use Rattle.mdf_block.proofs.Wholes.{block_found, block_some, is_compressed_true}
use Rattle.mdf_group.specs.declared.row.DataRow.{DataRow}
use Rattle.mdf_stream.specs.Link.{most_blocks}
use Rattle.mdf_stream.specs.Stream.{links_from}
use Rattle.tool_complete.specs.Ended.{last_of}
use Rattle.tool_complete.specs.InWords.{IsDataNamed, IsHeaded, IsLastBlock, IsNamedIn}
use Rattle.tool_complete.specs.Named.{data_names, greatest, is_headed, last_named, listed_by, listed_from}

-- a number is one of these
abbrev Has : List ℕ → ℕ → Type 0
Has [] n = ⊥
Has (first ∷ rest) n = (first ≡ n) ⊎ Has rest n

has_cases : (xs ys : List ℕ) (n : ℕ) → Has (xs ++ ys) n → Has xs n ⊎ Has ys n
has_cases [] ys n has = inr has
has_cases (x ∷ xs) ys n has = ⊎_elim (λ same. inl (inl same)) (λ behind. ⊎_elim (λ h. inl (inr h)) inr (has_cases xs ys n behind)) has

has_left : (xs ys : List ℕ) (n : ℕ) → Has xs n → Has (xs ++ ys) n
has_left [] ys n has = absurd has
has_left (x ∷ xs) ys n has = ⊎_elim inl (λ behind. inr (has_left xs ys n behind)) has

has_right : (xs ys : List ℕ) (n : ℕ) → Has ys n → Has (xs ++ ys) n
has_right [] ys n has = has
has_right (x ∷ xs) ys n has = inr (has_right xs ys n has)

-- the greater of two is one of them
max_is : (a b : ℕ) → (max a b ≡ a) ⊎ (max a b ≡ b)
max_is a b = by_test (nat_le a b) refl
  where
    by_test : (t : Bool) → nat_le a b ≡ t → (max a b ≡ a) ⊎ (max a b ≡ b)
    by_test true below = let le : a ≤ b = leb-true a b below in inr (omega (arith, le))
    by_test false above = let lt : b < a = leb-false a b above in inl (omega (arith, lt))

module _ (test : ℕ → Bool) where
  -- the greatest of those that stand the test is one of them
  greatest_has : (xs : List ℕ) → greatest (filter test xs) ≢ 0 → Has xs (greatest (filter test xs)) × (test (greatest (filter test xs)) ≡ true)
  greatest_has [] some = absurd (some refl)
  greatest_has (x ∷ xs) some = by_test (test x) refl (greatest_has xs) some
    where
      by_greater : (rest : ℕ) → test x ≡ true → (rest ≢ 0 → Has xs rest × (test rest ≡ true)) → max x rest ≢ 0
          → (max x rest ≡ x) ⊎ (max x rest ≡ rest) → Has (x ∷ xs) (max x rest) × (test (max x rest) ≡ true)
      by_greater rest stands behind some (inl is) = (inl (sym is), ap test is ∙ stands)
      by_greater rest stands behind some (inr is) =
          let found = behind (λ none. some (is ∙ none)) in (inr (subst (Has xs) (sym is) found.0), ap test is ∙ found.1)

      by_test : (b : Bool) → test x ≡ b → (greatest (filter test xs) ≢ 0 → Has xs (greatest (filter test xs)) × (test (greatest (filter test xs)) ≡ true))
          → greatest (cond b (x ∷ filter test xs) (filter test xs)) ≢ 0
          → Has (x ∷ xs) (greatest (cond b (x ∷ filter test xs) (filter test xs))) × (test (greatest (cond b (x ∷ filter test xs) (filter test xs))) ≡ true)
      by_test true stands behind some = by_greater (greatest (filter test xs)) stands behind some (max_is x (greatest (filter test xs)))
      by_test false fails behind some = let found = behind some in (inr found.0, found.1)

  -- and none that stands it is greater
  greatest_over : (xs : List ℕ) (n : ℕ) → Has xs n → test n ≡ true → n ≤ greatest (filter test xs)
  greatest_over [] n has stands = absurd has
  greatest_over (x ∷ xs) n has stands = by_test (test x) refl (greatest_over xs n) has
    where
      by_test : (b : Bool) → test x ≡ b → (Has xs n → test n ≡ true → n ≤ greatest (filter test xs)) → (x ≡ n) ⊎ Has xs n
          → n ≤ greatest (cond b (x ∷ filter test xs) (filter test xs))
      by_test true stands_too behind (inl same) = omega (arith, same)
      by_test true stands_too behind (inr has) = let below = behind has stands in omega (arith, below)
      by_test false fails behind (inl same) = absurd (true≢false (sym stands ∙ ap test (sym same) ∙ fails))
      by_test false fails behind (inr has) = behind has stands

-- two names that differ in a letter
names_apart : (k m n : ℕ) (one other : List ℕ) → get_or one k 0 ≡ m → get_or other k 0 ≡ n → m < n → one ≡ other → ⊥
names_apart k m n one other is_m is_n less same =
    let wrong : get_or one k 0 ≡ get_or other k 0 = ap (λ (name : List ℕ). get_or name k 0) same in omega (arith, is_m, is_n, less, wrong)

module _ (file : List ℕ) where
  links_have : (at k count n : ℕ) → Has (links_from file at k count) n → (i : ℕ) × (k ≤ i) × (i < k + count) × (link_at file at i ≡ n)
  unfolding links_from
  links_have at k zero n has = absurd has
  links_have at k (suc count) n has =
      ⊎_elim (λ same. (k, omega arith, omega arith, same))
      (λ behind. let found = links_have at (k + 1) count n behind in (found.0, omega (arith, found.1), omega (arith, found.2), found.3)) has

  has_link : (at k count i : ℕ) → k ≤ i → i < k + count → Has (links_from file at k count) (link_at file at i)
  unfolding links_from
  has_link at k zero i first last = absurd (omega (arith, first, last))
  has_link at k (suc count) i first last = by_test (nat_le i k) refl (has_link at (k + 1) count i)
    where
      by_test : (b : Bool) → nat_le i k ≡ b → (k + 1 ≤ i → i < k + 1 + count → Has (links_from file at (k + 1) count) (link_at file at i))
          → Has (link_at file at k ∷ links_from file at (k + 1) count) (link_at file at i)
      by_test true is behind =
          let le : i ≤ k = leb-true i k is in
          let same : k ≡ i = omega (arith, le, first) in inl (ap (link_at file at) same)
      by_test false is behind = let lt : k < i = leb-false i k is in inr (behind (omega (arith, lt)) (omega (arith, last)))

  -- a DLBLOCK that stands is found
  list_found : (at : ℕ) → IsBlock file at Dl → block file at Dl ≡ Ok (the_block file at Dl)
  list_found at is =
      block_some file at Dl (false_from_ne_true (is_compressed file at Dl) (λ packs. elim (is_compressed_true file at Dl packs).named [
        | inl dz ↦ names_apart 3 76 90 (name_of Dl) (codes "##DZ") refl refl (omega arith) (sym is.named ∙ dz)
        | inr hl ↦ names_apart 2 68 72 (name_of Dl) (codes "##HL") refl refl (omega arith) (sym is.named ∙ hl)
      ])) is

  -- what is listed is listed behind fewer blocks than may come
  listed_have : (fuel left at n : ℕ) → Has (listed_from file fuel left at) n → (count : ℕ) × (count < left) × IsListedBehind file at count n
  unfolding listed_from AreAlong
  listed_have zero left at n has = absurd has
  listed_have (suc fuel) left at n has = by_read (block file at Dl) refl (λ less next. listed_have fuel less next n) has
    where
      in_list : IsBlock file at Dl → Has (links_from file at 1 (min (left - 1) (links_at file at - 1))) n
          → (count : ℕ) × (count < left) × IsListedBehind file at count n
      in_list is has =
          let found = links_have at 1 (min (left - 1) (links_at file at - 1)) n has in (
            found.0,
            omega (arith, found.1, found.2),
            record {
              lists = [];
              list = at;
              k = found.0;
              along = refl;
              block = is;
              is = inr (found.1, omega (arith, found.1, found.2), found.3);
              many = omega arith;
            },
          )

      in_next : IsBlock file at Dl → (count : ℕ) × (count < left - links_at file at) × IsListedBehind file (link_at file at 0) count n
          → (count : ℕ) × (count < left) × IsListedBehind file at count n
      in_next is found =
          let one = found.2 in
          let sized = sum_by-cons (links_at file) at one.lists in (
            links_at file at + found.0,
            omega (arith, found.1),
            record {
              lists = at ∷ one.lists;
              list = one.list;
              k = one.k;
              along = (refl, is, one.along);
              block = one.block;
              is = one.is;
              many = omega (arith, sized, one.many);
            },
          )

      by_read : (read : Read BlockAt) → block file at Dl ≡ read
          → ((less next : ℕ) → Has (listed_from file fuel less next) n → (count : ℕ) × (count < less) × IsListedBehind file next count n)
          → Has (listed_by file (listed_from file fuel) left read) n → (count : ℕ) × (count < left) × IsListedBehind file at count n
      by_read (Err refusal) is behind has = absurd has
      by_read (Ok b) is behind has =
          let found = block_found file at Dl b is in
          let here = subst (λ (one : BlockAt). Has (listed_by file (listed_from file fuel) left (Ok one)) n) found.1 has in
          ⊎_elim (in_list found.0) (λ later. in_next found.0 (behind (left - links_at file at) (link_at file at 0) later))
          (has_cases (links_from file at 1 (min (left - 1) (links_at file at - 1))) (listed_from file fuel (left - links_at file at) (link_at file at 0)) n here)

  -- and what is listed so is among what is listed
  has_listed : (lists : List ℕ) (fuel left at list k n : ℕ) → left ≤ fuel → AreAlong file Dl at lists list → IsBlock file list Dl → 1 ≤ k → k < links_at file list
      → link_at file list k ≡ n → sum_by (links_at file) lists + k < left → Has (listed_from file fuel left at) n
  unfolding listed_from AreAlong
  has_listed lists zero left at list k n enough along is first last named before = absurd (omega (arith, enough, before))
  has_listed [] (suc fuel) left at list k n enough along is first last named before =
      let here = subst (λ (p : ℕ). IsBlock file p Dl) along is in
      let below = subst (λ (p : ℕ). k < links_at file p) along last in
      let there = subst (λ (p : ℕ). link_at file p k ≡ n) along named in
      subst (λ (read : Read BlockAt). Has (listed_by file (listed_from file fuel) left read) n) (sym (list_found at here))
      (has_left (links_from file at 1 (min (left - 1) (links_at file at - 1))) (listed_from file fuel (left - links_at file at) (link_at file at 0)) n
      (subst (Has (links_from file at 1 (min (left - 1) (links_at file at - 1)))) there
      (has_link at 1 (min (left - 1) (links_at file at - 1)) k first (omega (arith, first, below, before)))))
  has_listed (place ∷ places) (suc fuel) left at list k n enough along is first last named before =
      let linked : 1 ≤ links_at file at = along.1.linked in
      let sized : sum_by (links_at file) (place ∷ places) ≡ links_at file at + sum_by (links_at file) places =
      sum_by-cons (links_at file) place places ∙ ap (λ (p : ℕ). links_at file p + sum_by (links_at file) places) along.0 in
      subst (λ (read : Read BlockAt). Has (listed_by file (listed_from file fuel) left read) n) (sym (list_found at along.1))
      (has_right (links_from file at 1 (min (left - 1) (links_at file at - 1))) (listed_from file fuel (left - links_at file at) (link_at file at 0)) n
      (has_listed places fuel (left - links_at file at) (link_at file at 0) list k n (omega (arith, enough, linked)) along.2 is first last named
      (omega (arith, before, sized))))

  -- the test of a header says what it says
  headed_is : (at : ℕ) → is_headed file at ≡ true → IsHeaded file at
  headed_is at holds =
      let one = and_parts _ _ holds in
      let two = and_parts _ _ one.1 in record {
        on_eight = eqb-true _ _ one.0;
        named = (bytes_eq-Decides (bytes_at 4 file at) (name_of Dt)).0 two.0;
        inside = leb-true _ _ two.1;
      }

  is_headed_so : (at : ℕ) → IsHeaded file at → is_headed file at ≡ true
  is_headed_so at is =
      and_from _ _ (eq-eqb _ _ is.on_eight) (and_from _ _ ((bytes_eq-Decides (bytes_at 4 file at) (name_of Dt)).1 is.named) (le-leb _ _ is.inside))

  -- no DLBLOCK is a DTBLOCK
  two_names : (at : ℕ) → IsBlock file at Dl → IsHeaded file at → ⊥
  two_names at list headed = names_apart 3 76 84 (name_of Dl) (name_of Dt) refl refl (omega arith) (sym list.named ∙ headed.named)

  -- what a data link names
  named_have : (link n : ℕ) → Has (data_names file link) n → IsDataNamed file link n
  named_have link n has = ⊎_elim inl (λ listed. inr (listed_have most_blocks most_blocks link n listed)) has

  has_named : (link n : ℕ) → IsHeaded file n → IsDataNamed file link n → Has (data_names file link) n
  has_named link n headed (inl same) = inl same
  has_named link n headed (inr found) = by_place found.2.is
    where
      one : IsListedBehind file link found.0 n
      one = found.2

      by_place : ((one.k ≡ 0) × (one.list ≡ n)) ⊎ ((1 ≤ one.k) × (one.k < links_at file one.list) × (link_at file one.list one.k ≡ n)) → Has (data_names file link) n
      by_place (inl itself) = absurd (two_names n (subst (λ (p : ℕ). IsBlock file p Dl) itself.1 one.block) headed)
      by_place (inr listed) =
          inr (has_listed one.lists most_blocks most_blocks link one.list one.k n (omega arith) one.along one.block listed.0 listed.1 listed.2
          (omega (arith, found.1, one.many)))

  -- the last block of data groups
  last_is_named : (rows : List DataRow) → last_of file rows ≢ 0 → IsNamedIn file rows (last_of file rows)
  unfolding last_of
  last_is_named [] some = absurd (some refl)
  last_is_named (row ∷ rows) some = by_greater (max_is (last_named file row.content) (last_of file rows)) (last_is_named rows)
    where
      by_greater : (max (last_named file row.content) (last_of file rows) ≡ last_named file row.content)
          ⊎ (max (last_named file row.content) (last_of file rows) ≡ last_of file rows)
          → (last_of file rows ≢ 0 → IsNamedIn file rows (last_of file rows))
          → IsNamedIn file (row ∷ rows) (max (last_named file row.content) (last_of file rows))
      by_greater (inl is) behind =
          let found = greatest_has (is_headed file) (data_names file row.content) (λ none. some (is ∙ none)) in
          subst (IsNamedIn file (row ∷ rows)) (sym is) (record {
            n = 0;
            row = row;
            there = refl;
            named = named_have row.content (last_named file row.content) found.0;
            headed = headed_is (last_named file row.content) found.1;
          })
      by_greater (inr is) behind =
          let found = behind (λ none. some (is ∙ none)) in
          subst (IsNamedIn file (row ∷ rows)) (sym is) (record {
            n = suc found.n;
            row = found.row;
            there = found.there;
            named = found.named;
            headed = found.headed;
          })

  last_is_over : (rows : List DataRow) (other n : ℕ) (row : DataRow) → slice_get rows n ≡ Some row → IsDataNamed file row.content other → IsHeaded file other
      → other ≤ last_of file rows
  unfolding last_of
  last_is_over [] other n row there named headed = let wrong : ◌≡◌ {A = Option DataRow} None (Some row) = there in cc
  last_is_over (first ∷ rows) other zero row there named headed =
      let same : ◌≡◌ {A = Option DataRow} (Some first) (Some row) = there in
      let is : row ≡ first = cc in
      let link : IsDataNamed file first.content other = subst (λ (r : DataRow). IsDataNamed file r.content other) is named in
      let below = greatest_over (is_headed file) (data_names file first.content) other (has_named first.content other headed link) (is_headed_so other headed) in
      omega (arith, below)
  last_is_over (first ∷ rows) other (suc n) row there named headed =
      let below = last_is_over rows other n row there named headed in omega (arith, below)

  pub last_is_last : (rows : List DataRow) → last_of file rows ≢ 0 → IsLastBlock file rows (last_of file rows)
  last_is_last rows some = record {
    is_named = last_is_named rows some;
    last = λ other is. last_is_over rows other is.n is.row is.there is.named is.headed;
  }

  -- where it is 0 none is named but a block at 0
  pub none_is_last : (rows : List DataRow) (other : ℕ) → last_of file rows ≡ 0 → IsNamedIn file rows other → other ≡ 0
  none_is_last rows other none is =
      let below = last_is_over rows other is.n is.row is.there is.named is.headed in omega (arith, none, below)
