-- How many blocks fewer may come behind those that a data link has led to, and so how many it leads to and how many bytes they have.
use Rattle.std.proofs.Common.{◌≡◌, ◌+◌, ◌-◌, ◌*◌, ◌≤◌, ℕ, zero, suc, List, [], ◌∷◌, length, Ok, Err, sym, ◌∙◌, ap, subst, inl, inr, arith, length-append}
use Rattle.std.proofs.lemmas.Bool.{eqb-false}
use Rattle.std.proofs.lemmas.List.Sums.{sum_by-cons}
use Rattle.std.specs.Prelude.{nat_eq, sum_by, if◌then◌else◌}
use Rattle.mdf_format.specs.Block.{link_at, links_at}
use Rattle.mdf_format.specs.declared.kind.Kind.{Kind}
use Rattle.mdf_format.specs.declared.kind.Kind.TheVariants.{Dl}
use Rattle.mdf_block.specs.declared.what.What.TheVariants as whats
use Rattle.mdf_block.specs.declared.place.BlockAt.{BlockAt}
use Rattle.mdf_block.specs.Refusal.{Read, TooMany, ◌>>=◌}
use Rattle.mdf_block.specs.Block.{block, is_named}
use Rattle.mdf_block.specs.Chain.{full}
use Rattle.mdf_block.specs.Each.{each}
use Rattle.mdf_block.proofs.Cases.{ok_injective}
use Rattle.mdf_block.proofs.Chains.{chain_spends, full_none}
use Rattle.mdf_block.proofs.Refusals.{bind_ok}
use Rattle.mdf_block.proofs.Wholes.{chosen, block_found}
use Rattle.mdf_stream.specs.declared.part.Part.{Part}
use Rattle.mdf_stream.specs.Link.{one_less, part_of, data_block, named_block, data_list, data_lists, joined, listed_parts, one_part, data_parts}
use Rattle.mdf_stream.specs.Parts.{ArePartsInside, stream_size}
use Rattle.mdf_stream.proofs.Insides.{data_inside}

pub one_less_counts : (at left less : ℕ) → one_less at left ≡ Ok less → less + 1 ≡ left
unfolding one_less
one_less_counts at left less is =
    elim (chosen (nat_eq left 0) (Err (TooMany whats.Block at)) (Ok (left - 1)) (Ok less) is) [
      | inl none ↦ let wrong : ◌≡◌ {A = Read ℕ} (Err (TooMany whats.Block at)) (Ok less) = none.1 in cc
      | inr some ↦ omega (arith, eqb-false left 0 some.0, ok_injective (left - 1) less some.1)
    ]

pub block_counts : (f : List ℕ) (want : Kind) (at left : ℕ) (found : Part × ℕ) → data_block f want at left ≡ Ok found → found.1 + 1 ≡ left
unfolding data_block
block_counts f want at left found is =
    let first = bind_ok (block f at want) (λ b. one_less at left >>= λ less. Ok (part_of b, less)) found is in
    let second = bind_ok (one_less at left) (λ less. Ok (part_of first.0, less)) found first.2 in
    let last : second.0 ≡ found.1 = ap (λ (y : Part × ℕ). y.1) (ok_injective (part_of first.0, second.0) found second.2) in
    omega (arith, one_less_counts at left second.0 second.1, last)

each_counts : (f : List ℕ) (want : Kind) (list k count left : ℕ) (found : List Part × ℕ) → each (named_block f want list) k count left ≡ Ok found
    → found.1 + count ≡ left
unfolding each
each_counts f want list k zero left found is =
    let last : left ≡ found.1 = ap (λ (y : List Part × ℕ). y.1) (ok_injective ([], left) found is) in omega (arith, last)
each_counts f want list k (suc count) left found is =
    let first = bind_ok (named_block f want list k left)
    (λ found. each (named_block f want list) (k + 1) count found.1 >>= λ rest. Ok (found.0 ∷ rest.0, rest.1)) found is in
    let second = bind_ok (each (named_block f want list) (k + 1) count first.0.1) (λ rest. Ok (first.0.0 ∷ rest.0, rest.1)) found first.2 in
    let here = block_counts f want (link_at f list k) left first.0 first.1 in
    let rest = each_counts f want list (k + 1) count first.0.1 second.0 second.1 in
    let last : second.0.1 ≡ found.1 = ap (λ (y : List Part × ℕ). y.1) (ok_injective (first.0.0 ∷ second.0.0, second.0.1) found second.2) in
    omega (arith, here, rest, last)

-- as many items as are to be read
each_long : {A S : Type 0} (item : ℕ → S → Read (A × S)) (k count : ℕ) (left : S) (found : List A × S) → each item k count left ≡ Ok found
    → length found.0 ≡ count
unfolding each
each_long {A} {S} item k zero left found is = ap (λ (y : List A × S). length y.0) (sym (ok_injective ([], left) found is))
each_long {A} {S} item k (suc count) left found is =
    let first = bind_ok (item k left) (λ found. each item (k + 1) count found.1 >>= λ rest. Ok (found.0 ∷ rest.0, rest.1)) found is in
    let second = bind_ok (each item (k + 1) count first.0.1) (λ rest. Ok (first.0.0 ∷ rest.0, rest.1)) found first.2 in
    ap (λ (y : List A × S). length y.0) (sym (ok_injective (first.0.0 ∷ second.0.0, second.0.1) found second.2))
    ∙ ap suc (each_long item (k + 1) count first.0.1 second.0 second.1)

-- a DLBLOCK counts with what its links after the first name
pub list_counts : (f : List ℕ) (want : Kind) (at left : ℕ) (found : List Part × ℕ × ℕ) → data_list f want at left ≡ Ok found
    → (found.2 + links_at f at ≡ left) × (length found.0 + 1 ≡ links_at f at)
unfolding data_list
list_counts f want at left found is =
    let first = bind_ok (block f at Dl)
    (λ b. one_less at left >>= λ less. each (named_block f want b.at) 1 (b.links - 1) less >>= λ parts. Ok (parts.0, link_at f b.at 0, parts.1)) found is in
    let b = first.0 in
    let second = bind_ok (one_less at left)
    (λ less. each (named_block f want b.at) 1 (b.links - 1) less >>= λ parts. Ok (parts.0, link_at f b.at 0, parts.1)) found first.2 in
    let third = bind_ok (each (named_block f want b.at) 1 (b.links - 1) second.0) (λ parts. Ok (parts.0, link_at f b.at 0, parts.1)) found second.2 in
    let here = block_found f at Dl b first.1 in
    let itself = one_less_counts at left second.0 second.1 in
    let parts = each_counts f want b.at 1 (b.links - 1) second.0 third.0 third.1 in
    let long = each_long (named_block f want b.at) 1 (b.links - 1) second.0 third.0 third.1 in
    let same : ◌≡◌ {A = List Part × ℕ × ℕ} (third.0.0, link_at f b.at 0, third.0.1) found = ok_injective (third.0.0, link_at f b.at 0, third.0.1) found third.2 in
    let last : third.0.1 ≡ found.2 = ap (λ (y : List Part × ℕ × ℕ). y.2) same in
    let listed : length third.0.0 ≡ length found.0 = ap (λ (y : List Part × ℕ × ℕ). length y.0) same in
    let links : b.links ≡ links_at f at = ap (λ (block : BlockAt). block.links) here.1 in (
      omega (arith, itself, parts, last, links, here.0.linked),
      omega (arith, long, listed, links, here.0.linked),
    )

joined_long : (lists : List (List Part)) → length (joined lists) ≤ sum_by (λ (parts : List Part). length parts + 1) lists
joined_long [] = omega arith
joined_long (parts ∷ lists) =
    let one = sum_by-cons (λ (parts : List Part). length parts + 1) parts lists in
    omega (arith, one, length-append parts (joined lists), joined_long lists)

lists_few : (f : List ℕ) (want : Kind) (at : ℕ) (found : List (List Part) × ℕ × ℕ) → data_lists f want at ≡ Ok found
    → length (joined found.0) ≤ 1048576
lists_few f want at found is =
    let item : (place left : ℕ) (x : List Part) (next rest : ℕ) → data_list f want place left ≡ Ok (x, next, rest) → rest + (length x + 1) ≡ left =
    λ place left x next rest read.
    let counts = list_counts f want place left (x, next, rest) read in
    omega (arith, counts.0, counts.1) in
    let spent = chain_spends (data_list f want) (full whats.Block Dl f) (λ (parts : List Part). length parts + 1) (λ (left : ℕ). left) item
    (λ place y. full_none (List (List Part) × ℕ × ℕ) whats.Block Dl f place y) 1048576 at 1048576 found is in
    omega (arith, spent.1, joined_long found.0)

-- a data link leads to no more blocks than it may
pub parts_few : (f : List ℕ) (want : Kind) (at : ℕ) (parts : List Part) → data_parts f want at ≡ Ok parts → length parts ≤ 1048576
unfolding data_parts
parts_few f want at parts is =
    elim (chosen (nat_eq at 0) (Ok []) (if is_named f at Dl then listed_parts f want at else one_part f want at) (Ok parts) is) [
      | inl nothing ↦ subst (λ (ps : List Part). length ps ≤ 1048576) (ok_injective [] parts nothing.1) (omega arith)
      | inr some ↦ elim (chosen (is_named f at Dl) (listed_parts f want at) (one_part f want at) (Ok parts) some.1) [
        | inl lists ↦
            let first = bind_ok (data_lists f want at) (λ found. Ok (joined found.0)) parts lists.1 in
            subst (λ (ps : List Part). length ps ≤ 1048576) (ok_injective (joined first.0.0) parts first.2) (lists_few f want at first.0 first.1)
        | inr one ↦
            let first = bind_ok (block f at want) (λ b. Ok (part_of b ∷ [])) parts one.1 in
            subst (λ (ps : List Part). length ps ≤ 1048576) (ok_injective (part_of first.0 ∷ []) parts first.2) (omega arith)
      ]
    ]

-- so many parts inside a file have no more bytes than it has as often
size_few : (size n : ℕ) (parts : List Part) → ArePartsInside size parts → length parts ≤ n → stream_size parts ≤ n * size
size_few size n [] inside few = omega arith
size_few size zero (part ∷ parts) inside few = absurd (omega (arith, few))
size_few size (suc n) (part ∷ parts) inside few =
    let one = sum_by-cons (λ (p : Part). p.len) part parts in
    let more : suc n * size ≡ size + n * size = grind arith in
    omega (arith, one, more, inside.0, size_few size n parts inside.1 (omega (arith, few)))

-- nor has the stream of a data link
pub stream_few : (f : List ℕ) (want : Kind) (at : ℕ) (parts : List Part) → data_parts f want at ≡ Ok parts → stream_size parts ≤ 1048576 * length f
stream_few f want at parts is = size_few (length f) 1048576 parts (data_inside f want at parts is) (parts_few f want at parts is)
