-- The blocks of a data link that stand are found, where they are no more than are read.
use Rattle.std.proofs.Common.{◌≡◌, ◌≢◌, ◌+◌, ◌-◌, ◌≤◌, ◌<◌, ◌⊎◌, ℕ, zero, suc, true, false, List, [], ◌∷◌, ◌++◌, length, codes, get_or, Ok, refl, sym, ◌∙◌, ap, subst, inl, inr, arith, lit<, length-append}
use Rattle.std.proofs.lemmas.Bool.{eq-eqb, ne_eqb, cond-true, cond-false, false_from_ne_true}
use Rattle.std.proofs.lemmas.Slice.Eq.{bytes_eq-Decides}
use Rattle.std.specs.Prelude.{nat_eq}
use Rattle.std.specs.List.{AllByRecursion}
use Rattle.mdf_format.specs.Number.{bytes_at}
use Rattle.mdf_format.specs.Block.{name_of, link_at, links_at, IsBlock, IsChain}
use Rattle.mdf_format.specs.declared.kind.Kind.{Kind}
use Rattle.mdf_format.specs.declared.kind.Kind.TheVariants.{Dt, Sd, Dl}
use Rattle.mdf_block.specs.declared.what.What.TheVariants as whats
use Rattle.mdf_block.specs.declared.place.BlockAt.{BlockAt}
use Rattle.mdf_block.specs.Refusal.{Read, ◌>>=◌}
use Rattle.mdf_block.specs.Block.{is_compressed, the_block, is_named}
use Rattle.mdf_block.specs.Chain.{chain, full}
use Rattle.mdf_block.specs.Each.{each}
use Rattle.mdf_block.proofs.Chains.{rest_of}
use Rattle.mdf_block.proofs.Wholes.{is_compressed_true, block_some}
use Rattle.mdf_stream.specs.declared.part.Part.{Part}
use Rattle.mdf_stream.specs.Link.{one_less, part_of, data_block, named_block, data_list, joined, data_parts}
use Rattle.mdf_stream.specs.Stream.{links_from, data_links, listed, IsStream, IsNothing, IsOne, IsListed, LeadsToFew}
use Rattle.mdf_stream.proofs.Streams.{not_list, first_listed}
use Rattle.mdf_block.proofs.Names.{differ}

-- a block of data is no compressed one
packed_not : (f : List ℕ) (at : ℕ) (kind : Kind) → IsBlock f at kind → (name_of kind ≡ codes "##DZ" → ⊥) → (name_of kind ≡ codes "##HL" → ⊥)
    → is_compressed f at kind ≡ false
packed_not f at kind is no_dz no_hl = false_from_ne_true (is_compressed f at kind) (λ packs. elim (is_compressed_true f at kind packs).named [
  | inl dz ↦ no_dz (sym is.named ∙ dz)
  | inr hl ↦ no_hl (sym is.named ∙ hl)
])

letter : ℕ → List ℕ → ℕ
letter k name = get_or name k 0

other_letter : (k m n : ℕ) (one other : List ℕ) → letter k one ≡ m → letter k other ≡ n → m < n → one ≡ other → ⊥
other_letter k m n one other is_m is_n less same = differ m n (sym is_m ∙ ap (letter k) same ∙ is_n) less

more_letter : (k m n : ℕ) (one other : List ℕ) → letter k one ≡ m → letter k other ≡ n → n < m → one ≡ other → ⊥
more_letter k m n one other is_m is_n less same = other_letter k n m other one is_n is_m less (sym same)

plain_dt : (f : List ℕ) (at : ℕ) → IsBlock f at Dt → is_compressed f at Dt ≡ false
unfolding letter
plain_dt f at is = packed_not f at Dt is
    (other_letter 3 84 90 (name_of Dt) (codes "##DZ") refl refl (lit< tt))
    (other_letter 2 68 72 (name_of Dt) (codes "##HL") refl refl (lit< tt))

plain_sd : (f : List ℕ) (at : ℕ) → IsBlock f at Sd → is_compressed f at Sd ≡ false
unfolding letter
plain_sd f at is = packed_not f at Sd is
    (more_letter 2 83 68 (name_of Sd) (codes "##DZ") refl refl (lit< tt))
    (more_letter 2 83 72 (name_of Sd) (codes "##HL") refl refl (lit< tt))

plain_dl : (f : List ℕ) (at : ℕ) → IsBlock f at Dl → is_compressed f at Dl ≡ false
unfolding letter
plain_dl f at is = packed_not f at Dl is
    (other_letter 3 76 90 (name_of Dl) (codes "##DZ") refl refl (lit< tt))
    (other_letter 2 68 72 (name_of Dl) (codes "##HL") refl refl (lit< tt))

plain_data : (f : List ℕ) (at : ℕ) (want : Kind) → (want ≡ Dt) ⊎ (want ≡ Sd) → IsBlock f at want → is_compressed f at want ≡ false
plain_data f at want (inl is_dt) is =
    subst (λ (k : Kind). is_compressed f at k ≡ false) (sym is_dt) (plain_dt f at (subst (IsBlock f at) is_dt is))
plain_data f at want (inr is_sd) is =
    subst (λ (k : Kind). is_compressed f at k ≡ false) (sym is_sd) (plain_sd f at (subst (IsBlock f at) is_sd is))

-- a block is counted
one_less_is : (at left : ℕ) → 1 ≤ left → one_less at left ≡ Ok (left - 1)
unfolding one_less
one_less_is at left some = cond-false (nat_eq left 0) _ _ (ne_eqb left 0 (λ none. omega (arith, some, none)))

links_long : (f : List ℕ) (at k count : ℕ) → length (links_from f at k count) ≡ count
unfolding links_from
links_long f at k zero = refl
links_long f at k (suc count) = ap suc (links_long f at (k + 1) count)

-- facts of two lists
all_apart : (P : ℕ → Type 0) (xs ys : List ℕ) → AllByRecursion P (xs ++ ys) → AllByRecursion P xs × AllByRecursion P ys
all_apart P [] ys all = (tt, all)
all_apart P (x ∷ xs) ys all = let rest = all_apart P xs ys all.1 in ((all.0, rest.0), rest.1)

module _ (f : List ℕ) (want : Kind) (data_kind : (want ≡ Dt) ⊎ (want ≡ Sd)) where
  abbrev AreBlocks : List ℕ → Type 0
  AreBlocks places = AllByRecursion (λ (at : ℕ). IsBlock f at want) places

  block_reached : (at left : ℕ) → IsBlock f at want → 1 ≤ left → data_block f want at left ≡ Ok (part_of (the_block f at want), left - 1)
  unfolding data_block
  block_reached at left is some =
      let first = block_some f at want (plain_data f at want data_kind is) is in
      let second = one_less_is at left some in rw (first, second) refl

  each_reached : (at k count left : ℕ) → AreBlocks (links_from f at k count) → count ≤ left
      → (found : List Part) × (each (named_block f want at) k count left ≡ Ok (found, left - count))
  unfolding each links_from
  each_reached at k zero left are few = let all : left ≡ left - 0 = omega arith in ([], ap (λ (n : ℕ). Ok ([], n)) all)
  each_reached at k (suc count) left are few =
      let first = block_reached (link_at f at k) left are.0 (omega (arith, few)) in
      let rest = each_reached at (k + 1) count (left - 1) are.1 (omega (arith, few)) in
      let spent : left - 1 - count ≡ left - suc count = omega arith in
      let part = part_of (the_block f (link_at f at k) want) in
      (part ∷ rest.0, rw (first, rest.1) (ap (λ (n : ℕ). Ok (part ∷ rest.0, n)) spent))

  list_reached : (at left : ℕ) → IsBlock f at Dl → AreBlocks (data_links f at) → 1 + length (data_links f at) ≤ left
      → (found : List Part) × (data_list f want at left ≡ Ok (found, link_at f at 0, left - (1 + length (data_links f at))))
  unfolding data_list
  list_reached at left is are few =
      let long = links_long f at 1 (links_at f at - 1) in
      let first = block_some f at Dl (plain_dl f at is) is in
      let second = one_less_is at left (omega (arith, few)) in
      let third = each_reached at 1 (links_at f at - 1) (left - 1) are (omega (arith, few, long)) in
      let spent : left - 1 - (links_at f at - 1) ≡ left - (1 + length (data_links f at)) = omega (arith, long) in
      (third.0, rw (first, second, third.1) (ap (λ (n : ℕ). Ok (third.0, link_at f at 0, n)) spent))

  lists_reached : (lists : List ℕ) (room at left : ℕ) → IsChain f at Dl lists → AllByRecursion (λ (place : ℕ). place ≢ 0) lists
      → AreBlocks (listed f lists) → length lists ≤ room → length lists + length (listed f lists) ≤ left
      → (found : List (List Part) × ℕ × ℕ) × (chain (data_list f want) (full whats.Block Dl f) room at left ≡ Ok found)
  unfolding chain IsChain
  lists_reached [] zero at left chained some are few enough = (([], 0, left), cond-true (nat_eq at 0) _ _ (eq-eqb at 0 chained))
  lists_reached [] (suc room) at left chained some are few enough = (([], suc room, left), cond-true (nat_eq at 0) _ _ (eq-eqb at 0 chained))
  lists_reached (place ∷ lists) zero at left chained some are few enough = absurd (omega (arith, few))
  lists_reached (place ∷ lists) (suc room) at left chained some are few enough =
      let own = all_apart (λ (a : ℕ). IsBlock f a want) (data_links f place) (listed f lists) are in
      let long = length-append (data_links f place) (listed f lists) in
      let here : AreBlocks (data_links f at) = subst (λ (a : ℕ). AreBlocks (data_links f a)) chained.0 own.0 in
      let same : length (data_links f place) ≡ length (data_links f at) = ap (λ (a : ℕ). length (data_links f a)) chained.0 in
      let first = list_reached at left chained.1 here (omega (arith, enough, long, same)) in
      let rest = lists_reached lists room (link_at f at 0) (left - (1 + length (data_links f at))) chained.2 some.1 own.1 (omega (arith, few))
      (omega (arith, enough, long, same)) in
      let named : at ≢ 0 = λ none. some.0 (chained.0 ∙ none) in (
        (first.0 ∷ rest.0.0, rest.0.1, rest.0.2),
        cond-false (nat_eq at 0) _ _ (ne_eqb at 0 named)
            ∙ ap (λ (read : Read (List Part × ℕ × ℕ)). read >>= rest_of (data_list f want) (full whats.Block Dl f) room) first.1
            ∙ ap (λ (read : Read (List (List Part) × ℕ × ℕ)). read >>= λ found. Ok (first.0 ∷ found.0, found.1, found.2)) rest.1,
      )

  pub parts_reached : (link : ℕ) (stream : List ℕ) → IsStream f link want stream → LeadsToFew f link
      → (parts : List Part) × (data_parts f want link ≡ Ok parts)
  unfolding data_parts
  parts_reached link stream (IsNothing none is) few = ([], cond-true (nat_eq link 0) _ _ (eq-eqb link 0 none))
  parts_reached link stream (IsOne some there is) few =
      let first = block_some f link want (plain_data f link want data_kind there) there in
      let other : is_named f link Dl ≡ false = false_from_ne_true (is_named f link Dl) (λ yes.
      not_list want data_kind (sym there.named ∙ (bytes_eq-Decides (bytes_at 4 f link) (name_of Dl)).0 yes)) in (
        part_of (the_block f link want) ∷ [],
        cond-false (nat_eq link 0) _ _ (ne_eqb link 0 some)
            ∙ cond-false (is_named f link Dl) _ _ other
            ∙ ap (λ (read : Read BlockAt). read >>= λ b. Ok (part_of b ∷ [])) first,
      )
  parts_reached link stream (IsListed lists some chained away blocks is) few =
      let named : is_named f link Dl ≡ true = (bytes_eq-Decides (bytes_at 4 f link) (name_of Dl)).1 (first_listed f link lists some chained) in
      let enough = few lists chained in
      let read = lists_reached lists 1048576 link 1048576 chained away blocks (omega (arith, enough)) enough in (
        joined read.0.0,
        cond-false (nat_eq link 0) _ _ (ne_eqb link 0 some)
            ∙ cond-true (is_named f link Dl) _ _ named
            ∙ ap (λ (y : Read (List (List Part) × ℕ × ℕ)). y >>= λ found. Ok (joined found.0)) read.1,
      )
