-- The parts that a data link leads to lie inside the file.
use Rattle.std.proofs.Common.{◌≡◌, ◌+◌, ◌-◌, ℕ, zero, suc, List, [], ◌∷◌, length, Ok, sym, subst, inl, inr, arith}
use Rattle.std.specs.Prelude.{nat_eq, if◌then◌else◌}
use Rattle.std.specs.List.{AllByRecursion, flat_map}
use Rattle.mdf_format.specs.Block.{link_at}
use Rattle.mdf_format.specs.declared.kind.Kind.{Kind}
use Rattle.mdf_format.specs.declared.kind.Kind.TheVariants.{Dl}
use Rattle.mdf_block.specs.declared.what.What.TheVariants as whats
use Rattle.mdf_block.specs.declared.place.BlockAt.{BlockAt}
use Rattle.mdf_block.specs.Refusal.{◌>>=◌}
use Rattle.mdf_block.specs.Block.{block, is_named}
use Rattle.mdf_block.specs.Chain.{full}
use Rattle.mdf_block.specs.Each.{each}
use Rattle.mdf_block.proofs.Refusals.{bind_ok}
use Rattle.mdf_block.proofs.Wholes.{chosen, block_found}
use Rattle.mdf_block.proofs.Chains.{full_none, chain_each}
use Rattle.mdf_stream.specs.declared.part.Part.{Part}
use Rattle.mdf_stream.specs.Parts.{IsPartInside, ArePartsInside}
use Rattle.mdf_stream.specs.Link.{one_less, part_of, data_block, named_block, data_list, data_lists, joined, listed_parts, one_part, data_parts}
use Rattle.mdf_stream.proofs.Links.{all_joined, all_more}
use Rattle.mdf_block.proofs.Cases.{ok_injective}
use Rattle.mdf_stream.specs.Range.{parts_between}
use Rattle.mdf_stream.proofs.Ranges.{range_inside}

-- the body of a block
pub body_inside : (f : List ℕ) (want : Kind) (at : ℕ) (b : BlockAt) → block f at want ≡ Ok b → IsPartInside (length f) (part_of b)
body_inside f want at b found =
    let here = block_found f at want b found in
    subst (λ (x : BlockAt). IsPartInside (length f) (part_of x)) (sym here.1) (omega (arith, here.0.whole, here.0.headed))

block_inside : (f : List ℕ) (want : Kind) (at left : ℕ) (found : Part × ℕ) → data_block f want at left ≡ Ok found → IsPartInside (length f) found.0
unfolding data_block
block_inside f want at left found is =
    let first = bind_ok (block f at want) (λ b. one_less at left >>= λ less. Ok (part_of b, less)) found is in
    let second = bind_ok (one_less at left) (λ less. Ok (part_of first.0, less)) found first.2 in
    subst (λ (y : Part × ℕ). IsPartInside (length f) y.0) (ok_injective (part_of first.0, second.0) found second.2)
    (body_inside f want at first.0 first.1)

each_inside : (f : List ℕ) (want : Kind) (list k count left : ℕ) (found : List Part × ℕ) → each (named_block f want list) k count left ≡ Ok found
    → ArePartsInside (length f) found.0
unfolding each
each_inside f want list k zero left found is =
    subst (λ (y : List Part × ℕ). ArePartsInside (length f) y.0) (ok_injective ([], left) found is) tt
each_inside f want list k (suc count) left found is =
    let first = bind_ok (named_block f want list k left)
    (λ found. each (named_block f want list) (k + 1) count found.1 >>= λ rest. Ok (found.0 ∷ rest.0, rest.1)) found is in
    let second = bind_ok (each (named_block f want list) (k + 1) count first.0.1) (λ rest. Ok (first.0.0 ∷ rest.0, rest.1)) found first.2 in
    subst (λ (y : List Part × ℕ). ArePartsInside (length f) y.0) (ok_injective (first.0.0 ∷ second.0.0, second.0.1) found second.2)
    (block_inside f want (link_at f list k) left first.0 first.1, each_inside f want list (k + 1) count first.0.1 second.0 second.1)

list_inside : (f : List ℕ) (want : Kind) (at left : ℕ) (parts : List Part) (next rest : ℕ) → data_list f want at left ≡ Ok (parts, next, rest)
    → ArePartsInside (length f) parts
unfolding data_list
list_inside f want at left parts next rest is =
    let found : List Part × ℕ × ℕ = (parts, next, rest) in
    let first = bind_ok (block f at Dl)
    (λ b. one_less at left >>= λ less. each (named_block f want b.at) 1 (b.links - 1) less >>= λ parts. Ok (parts.0, link_at f b.at 0, parts.1)) found is in
    let b = first.0 in
    let second = bind_ok (one_less at left)
    (λ less. each (named_block f want b.at) 1 (b.links - 1) less >>= λ parts. Ok (parts.0, link_at f b.at 0, parts.1)) found first.2 in
    let third = bind_ok (each (named_block f want b.at) 1 (b.links - 1) second.0) (λ parts. Ok (parts.0, link_at f b.at 0, parts.1)) found second.2 in
    subst (λ (y : List Part × ℕ × ℕ). ArePartsInside (length f) y.0) (ok_injective (third.0.0, link_at f b.at 0, third.0.1) found third.2)
    (each_inside f want b.at 1 (b.links - 1) second.0 third.0 third.1)

lists_inside : (f : List ℕ) (want : Kind) (at : ℕ) (found : List (List Part) × ℕ × ℕ) → data_lists f want at ≡ Ok found
    → AllByRecursion (ArePartsInside (length f)) found.0
lists_inside f want at found is =
    chain_each (data_list f want) (full whats.Block Dl f) (ArePartsInside (length f)) (list_inside f want)
    (λ at y. full_none (List (List Part) × ℕ × ℕ) whats.Block Dl f at y) 1048576 at 1048576 found is

-- what a data link leads to
pub data_inside : (f : List ℕ) (want : Kind) (at : ℕ) (parts : List Part) → data_parts f want at ≡ Ok parts → ArePartsInside (length f) parts
unfolding data_parts
data_inside f want at parts is =
    elim (chosen (nat_eq at 0) (Ok []) (if is_named f at Dl then listed_parts f want at else one_part f want at) (Ok parts) is) [
      | inl nothing ↦ subst (ArePartsInside (length f)) (ok_injective [] parts nothing.1) tt
      | inr some ↦ elim (chosen (is_named f at Dl) (listed_parts f want at) (one_part f want at) (Ok parts) some.1) [
        | inl lists ↦
            let first = bind_ok (data_lists f want at) (λ found. Ok (joined found.0)) parts lists.1 in
            subst (ArePartsInside (length f)) (ok_injective (joined first.0.0) parts first.2)
            (all_joined (length f) first.0.0 (lists_inside f want at first.0 first.1))
        | inr one ↦
            let first = bind_ok (block f at want) (λ b. Ok (part_of b ∷ [])) parts one.1 in
            subst (ArePartsInside (length f)) (ok_injective (part_of first.0 ∷ []) parts first.2)
            (body_inside f want at first.0 first.1, tt)
      ]
    ]

-- the parts of values lie where the stream's parts do
pub values_inside : (size : ℕ) (parts : List Part) (long : ℕ → ℕ) (places : List ℕ) → ArePartsInside size parts
    → ArePartsInside size (flat_map (λ (place : ℕ). parts_between parts place (long place)) places)
values_inside size parts long [] inside = tt
values_inside size parts long (place ∷ places) inside =
    all_more (IsPartInside size) (parts_between parts place (long place)) (flat_map (λ (p : ℕ). parts_between parts p (long p)) places)
    (range_inside size parts place (long place) inside) (values_inside size parts long places inside)
