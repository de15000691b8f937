-- What is read along a data link is its stream, and a link has one stream.
use Rattle.std.proofs.Common.{◌≡◌, ◌≢◌, ◌+◌, ◌-◌, ℕ, zero, suc, List, [], ◌∷◌, ◌++◌, get_or, Ok, refl, sym, ◌∙◌, ap, subst, inl, inr, ◌⊎◌, append-nil, lit<}
use Rattle.std.proofs.lemmas.Bool.{eqb-true, eqb-false}
use Rattle.std.proofs.lemmas.List.Concat.{flat_map-append}
use Rattle.std.specs.Prelude.{nat_eq, if◌then◌else◌}
use Rattle.std.specs.List.{flat_map, AllByRecursion}
use Rattle.mdf_format.specs.Number.{bytes_at}
use Rattle.mdf_format.specs.Block.{name_of, link_at, body_at, IsBlock, IsChain}
use Rattle.mdf_format.specs.declared.kind.Kind.{Kind}
use Rattle.mdf_format.specs.declared.kind.Kind.TheVariants.{Dt, Sd, Dl}
use Rattle.mdf_block.specs.declared.what.What.TheVariants as whats
use Rattle.mdf_block.specs.declared.place.BlockAt.{BlockAt}
use Rattle.mdf_block.specs.Refusal.{Read, ◌>>=◌}
use Rattle.mdf_block.specs.Block.{block, is_named}
use Rattle.mdf_block.specs.Chain.{chain, full}
use Rattle.mdf_block.specs.Each.{each}
use Rattle.mdf_block.proofs.Refusals.{bind_ok}
use Rattle.mdf_block.proofs.Wholes.{chosen, block_found}
use Rattle.mdf_block.proofs.Chains.{full_none, rest_of}
use Rattle.mdf_stream.specs.declared.part.Part.{Part}
use Rattle.mdf_stream.specs.Parts.{part_bytes, stream_of}
use Rattle.mdf_stream.specs.Link.{one_less, part_of, data_block, named_block, data_list, data_lists, joined, data_parts}
use Rattle.mdf_stream.specs.Stream.{links_from, data_links, listed, IsStream, IsNothing, IsOne, IsListed}
use Rattle.mdf_stream.proofs.Links.{all_more}
use Rattle.mdf_block.proofs.Cases.{ok_injective}
use Rattle.mdf_block.proofs.Names.{differ}

-- the addresses where blocks of the kind stand, and their bodies
abbrev AreBlocks : List ℕ → Kind → List ℕ → Type 0
AreBlocks f kind places = AllByRecursion (λ (at : ℕ). IsBlock f at kind) places

abbrev bodies : List ℕ → List ℕ → List ℕ
bodies f places = flat_map (body_at f) places

abbrev AreSome : List ℕ → Type 0
AreSome places = AllByRecursion (λ (place : ℕ). place ≢ 0) places

-- one block
block_of_data : (f : List ℕ) (want : Kind) (at left : ℕ) (found : Part × ℕ) → data_block f want at left ≡ Ok found
    → IsBlock f at want × (part_bytes f found.0 ≡ body_at f at)
unfolding data_block
block_of_data f want at left found is =
    let first = bind_ok (block f at want) (λ b. one_less at left >>= λ less. Ok (part_of b, less)) found is in
    let second = bind_ok (one_less at left) (λ less. Ok (part_of first.0, less)) found first.2 in
    let here = block_found f at want first.0 first.1 in
    let same : (part_of first.0, second.0) ≡ found = ok_injective _ _ second.2 in (
      here.0,
      ap (λ (y : Part × ℕ). part_bytes f y.0) (sym same) ∙ ap (λ (b : BlockAt). part_bytes f (part_of b)) here.1,
    )

-- the blocks that so many links name
each_found : (f : List ℕ) (want : Kind) (list k count left : ℕ) (found : List Part × ℕ) → each (named_block f want list) k count left ≡ Ok found
    → AreBlocks f want (links_from f list k count) × (stream_of f found.0 ≡ bodies f (links_from f list k count))
unfolding each links_from
each_found f want list k zero left found is =
    let same : ([], left) ≡ found = ok_injective _ _ is in (tt, ap (λ (y : List Part × ℕ). stream_of f y.0) (sym same))
each_found f want list k (suc count) left found is =
    let first = bind_ok (named_block f want list k left)
    (λ found. each (named_block f want list) (k + 1) count found.1 >>= λ rest. Ok (found.0 ∷ rest.0, rest.1)) found is in
    let second = bind_ok (each (named_block f want list) (k + 1) count first.0.1) (λ rest. Ok (first.0.0 ∷ rest.0, rest.1)) found first.2 in
    let here = block_of_data f want (link_at f list k) left first.0 first.1 in
    let rest = each_found f want list (k + 1) count first.0.1 second.0 second.1 in
    let same : (first.0.0 ∷ second.0.0, second.0.1) ≡ found = ok_injective _ _ second.2 in (
      (here.0, rest.0),
      ap (λ (y : List Part × ℕ). stream_of f y.0) (sym same)
          ∙ ap (λ (xs : List ℕ). xs ++ stream_of f second.0.0) here.1
          ∙ ap (λ (xs : List ℕ). body_at f (link_at f list k) ++ xs) rest.1,
    )

-- a DLBLOCK
pub record IsList (f : List ℕ) (want : Kind) (at : ℕ) (found : List Part × ℕ × ℕ) : Type 0 where
  pub there : IsBlock f at Dl
  pub next : found.1 ≡ link_at f at 0
  blocks : AreBlocks f want (data_links f at)
  stream : stream_of f found.0 ≡ bodies f (data_links f at)

pub list_found : (f : List ℕ) (want : Kind) (at left : ℕ) (found : List Part × ℕ × ℕ) → data_list f want at left ≡ Ok found → IsList f want at found
unfolding data_list
list_found f want at left found is =
    let first = bind_ok (block f at Dl)
    (λ b. one_less at left >>= λ less. each (named_block f want b.at) 1 (b.links - 1) less >>= λ parts. Ok (parts.0, link_at f b.at 0, parts.1)) found is in
    let b = first.0 in
    let second = bind_ok (one_less at left)
    (λ less. each (named_block f want b.at) 1 (b.links - 1) less >>= λ parts. Ok (parts.0, link_at f b.at 0, parts.1)) found first.2 in
    let third = bind_ok (each (named_block f want b.at) 1 (b.links - 1) second.0) (λ parts. Ok (parts.0, link_at f b.at 0, parts.1)) found second.2 in
    let here = block_found f at Dl b first.1 in
    let parts = each_found f want b.at 1 (b.links - 1) second.0 third.0 third.1 in
    let same : (third.0.0, link_at f b.at 0, third.0.1) ≡ found = ok_injective _ _ third.2 in
    let links : links_from f b.at 1 (b.links - 1) ≡ data_links f at =
    ap (λ (block : BlockAt). links_from f block.at 1 (block.links - 1)) here.1 in
    record {
      there = here.0;
      next = ap (λ (y : List Part × ℕ × ℕ). y.1) (sym same) ∙ ap (λ (block : BlockAt). link_at f block.at 0) here.1;
      blocks = subst (AreBlocks f want) links parts.0;
      stream = ap (λ (y : List Part × ℕ × ℕ). stream_of f y.0) (sym same) ∙ parts.1 ∙ ap (bodies f) links;
    }

-- a chain of them
record IsDataChain (f : List ℕ) (want : Kind) (at : ℕ) (lists : List (List Part)) (places : List ℕ) : Type 0 where
  chained : IsChain f at Dl places
  some : AreSome places
  blocks : AreBlocks f want (listed f places)
  stream : stream_of f (joined lists) ≡ bodies f (listed f places)

chain_ends : (f : List ℕ) (want : Kind) (at room left : ℕ) (found : List (List Part) × ℕ × ℕ) → at ≡ 0 → ◌≡◌ {A = Read (List (List Part) × ℕ × ℕ)} (Ok ([], room, left)) (Ok found)
    → (places : List ℕ) × IsDataChain f want at found.0 places
unfolding IsChain
chain_ends f want at room left found none is =
    let same : ([], room, left) ≡ found = ok_injective _ _ is in
    subst (λ (y : List (List Part) × ℕ × ℕ). (places : List ℕ) × IsDataChain f want at y.0 places) same
    ([], record { chained = none; some = tt; blocks = tt; stream = refl })

chain_goes_on : (f : List ℕ) (want : Kind) (at next : ℕ) (parts : List Part) (lists : List (List Part)) (places : List ℕ) (found : List Part × ℕ × ℕ)
    → at ≢ 0 → IsList f want at found → found.0 ≡ parts → found.1 ≡ next → IsDataChain f want next lists places
    → IsDataChain f want at (parts ∷ lists) (at ∷ places)
unfolding IsChain
chain_goes_on f want at next parts lists places found some here is_parts is_next rest = record {
  chained = (refl, here.there, subst (λ (place : ℕ). IsChain f place Dl places) (sym is_next ∙ here.next) rest.chained);
  some = (some, rest.some);
  blocks = all_more (λ (place : ℕ). IsBlock f place want) (data_links f at) (listed f places) here.blocks rest.blocks;
  stream =
      flat_map-append (part_bytes f) parts (joined lists)
      ∙ ap (λ (xs : List ℕ). xs ++ stream_of f (joined lists)) (ap (stream_of f) (sym is_parts) ∙ here.stream)
      ∙ ap (λ (xs : List ℕ). bodies f (data_links f at) ++ xs) rest.stream
      ∙ sym (flat_map-append (body_at f) (data_links f at) (listed f places));
}

lists_found : (f : List ℕ) (want : Kind) (room at left : ℕ) (found : List (List Part) × ℕ × ℕ)
    → chain (data_list f want) (full whats.Block Dl f) room at left ≡ Ok found → (places : List ℕ) × IsDataChain f want at found.0 places
unfolding chain
lists_found f want zero at left found is =
    elim (chosen (nat_eq at 0) (Ok ([], zero, left)) (full whats.Block Dl f at) (Ok found) is) [
      | inl last ↦ chain_ends f want at zero left found (eqb-true at 0 last.0) last.1
      | inr more ↦ absurd (full_none (List (List Part) × ℕ × ℕ) whats.Block Dl f at found more.1)
    ]
lists_found f want (suc room) at left found is =
    elim (chosen (nat_eq at 0) (Ok ([], suc room, left)) (data_list f want at left >>= rest_of (data_list f want) (full whats.Block Dl f) room) (Ok found) is) [
      | inl last ↦ chain_ends f want at (suc room) left found (eqb-true at 0 last.0) last.1
      | inr more ↦
          let first = bind_ok (data_list f want at left) (rest_of (data_list f want) (full whats.Block Dl f) room) found more.1 in
          let second = bind_ok (chain (data_list f want) (full whats.Block Dl f) room first.0.1 first.0.2)
          (λ rest. Ok (first.0.0 ∷ rest.0, rest.1, rest.2)) found first.2 in
          let here = list_found f want at left first.0 first.1 in
          let rest = lists_found f want room first.0.1 first.0.2 second.0 second.1 in
          let same : (first.0.0 ∷ second.0.0, second.0.1, second.0.2) ≡ found = ok_injective _ _ second.2 in
          subst (λ (y : List (List Part) × ℕ × ℕ). (places : List ℕ) × IsDataChain f want at y.0 places) same (
            at ∷ rest.0,
            chain_goes_on f want at first.0.1 first.0.0 second.0.0 rest.0 first.0 (eqb-false at 0 more.0) here refl refl rest.1,
          )
    ]

-- what a data link leads to is its stream
pub stream_found : (f : List ℕ) (want : Kind) (at : ℕ) (parts : List Part) → data_parts f want at ≡ Ok parts → IsStream f at want (stream_of f parts)
unfolding data_parts
stream_found f want at parts is =
    elim (chosen (nat_eq at 0) (Ok [])
    (if is_named f at Dl then (data_lists f want at >>= λ lists. Ok (joined lists.0)) else (block f at want >>= λ b. Ok (part_of b ∷ [])))
    (Ok parts) is) [
      | inl nothing ↦ IsNothing (eqb-true at 0 nothing.0) (ap (stream_of f) (sym (ok_injective [] parts nothing.1)))
      | inr some ↦ elim (chosen (is_named f at Dl) (data_lists f want at >>= λ lists. Ok (joined lists.0))
          (block f at want >>= λ b. Ok (part_of b ∷ [])) (Ok parts) some.1) [
            | inl lists ↦
                let first = bind_ok (data_lists f want at) (λ found. Ok (joined found.0)) parts lists.1 in
                let found = lists_found f want 1048576 at 1048576 first.0 first.1 in
                let same : joined first.0.0 ≡ parts = ok_injective _ _ first.2 in
                IsListed found.0 (eqb-false at 0 some.0) found.1.chained found.1.some found.1.blocks
                (ap (stream_of f) (sym same) ∙ found.1.stream)
            | inr one ↦
                let first = bind_ok (block f at want) (λ b. Ok (part_of b ∷ [])) parts one.1 in
                let here = block_found f at want first.0 first.1 in
                let same : part_of first.0 ∷ [] ≡ parts = ok_injective _ _ first.2 in
                IsOne (eqb-false at 0 some.0) here.0
                (ap (stream_of f) (sym same) ∙ append-nil (part_bytes f (part_of first.0))
                ∙ ap (λ (b : BlockAt). part_bytes f (part_of b)) here.1)
          ]
    ]

-- a chain of blocks that do not stand at 0 is one
chain_same : (f : List ℕ) (at : ℕ) (kind : Kind) (xs ys : List ℕ) → IsChain f at kind xs → AreSome xs → IsChain f at kind ys → AreSome ys → xs ≡ ys
unfolding IsChain
chain_same f at kind [] [] chain_x some_x chain_y some_y = refl
chain_same f at kind [] (y ∷ ys) chain_x some_x chain_y some_y = absurd (some_y.0 (chain_y.0 ∙ chain_x))
chain_same f at kind (x ∷ xs) [] chain_x some_x chain_y some_y = absurd (some_x.0 (chain_x.0 ∙ chain_y))
chain_same f at kind (x ∷ xs) (y ∷ ys) chain_x some_x chain_y some_y =
    ap (λ (place : ℕ). place ∷ xs) (chain_x.0 ∙ sym chain_y.0)
    ∙ ap (λ (places : List ℕ). y ∷ places) (chain_same f (link_at f at 0) kind xs ys chain_x.2 some_x.1 chain_y.2 some_y.1)

-- a DLBLOCK holds no data
pub not_list : (kind : Kind) → (kind ≡ Dt) ⊎ (kind ≡ Sd) → name_of kind ≡ name_of Dl → ⊥
not_list kind data_kind same =
    elim data_kind [
      | inl is ↦
          let wrong : name_of Dt ≡ name_of Dl = ap name_of (sym is) ∙ same in
          let byte : 84 ≡ 76 = ap (λ (xs : List ℕ). get_or xs 3 0) wrong in differ 76 84 (sym byte) (lit< tt)
      | inr is ↦
          let wrong : name_of Sd ≡ name_of Dl = ap name_of (sym is) ∙ same in
          let byte : 68 ≡ 76 = ap (λ (xs : List ℕ). get_or xs 3 0) wrong in differ 68 76 byte (lit< tt)
    ]

pub first_listed : (f : List ℕ) (at : ℕ) (lists : List ℕ) → at ≢ 0 → IsChain f at Dl lists → bytes_at 4 f at ≡ name_of Dl
unfolding IsChain
first_listed f at [] some chained = absurd (some chained)
first_listed f at (place ∷ places) some chained = chained.1.named

-- the stream of a link to data is one
pub streams_agree : (f : List ℕ) (link : ℕ) (kind : Kind) (xs ys : List ℕ) → (kind ≡ Dt) ⊎ (kind ≡ Sd)
    → IsStream f link kind xs → IsStream f link kind ys → xs ≡ ys
streams_agree f link kind xs ys data_kind (IsNothing none_x is_x) (IsNothing none_y is_y) = is_x ∙ sym is_y
streams_agree f link kind xs ys data_kind (IsNothing none is_x) (IsOne some there is_y) = absurd (some none)
streams_agree f link kind xs ys data_kind (IsNothing none is_x) (IsListed lists some chained away blocks is_y) = absurd (some none)
streams_agree f link kind xs ys data_kind (IsOne some there is_x) (IsNothing none is_y) = absurd (some none)
streams_agree f link kind xs ys data_kind (IsOne some_x there_x is_x) (IsOne some_y there_y is_y) = is_x ∙ sym is_y
streams_agree f link kind xs ys data_kind (IsOne some_x there is_x) (IsListed lists some_y chained away blocks is_y) =
    absurd (not_list kind data_kind (sym there.named ∙ first_listed f link lists some_y chained))
streams_agree f link kind xs ys data_kind (IsListed lists some chained away blocks is_x) (IsNothing none is_y) = absurd (some none)
streams_agree f link kind xs ys data_kind (IsListed lists some_x chained away blocks is_x) (IsOne some_y there is_y) =
    absurd (not_list kind data_kind (sym there.named ∙ first_listed f link lists some_x chained))
streams_agree f link kind xs ys data_kind (IsListed lists_x some_x chained_x away_x blocks_x is_x) (IsListed lists_y some_y chained_y away_y blocks_y is_y) =
    is_x ∙ ap (λ (lists : List ℕ). bodies f (listed f lists)) (chain_same f link Dl lists_x lists_y chained_x away_x chained_y away_y) ∙ sym is_y
