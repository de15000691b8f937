-- Lengths and addresses of the blocks of a draft.
use Rattle.std.proofs.Common.{◌≡◌, ◌+◌, ◌*◌, ◌%◌, ◌^◌, ◌<◌, ◌≤◌, ℕ, zero, suc, List, [], ◌∷◌, ◌++◌, length, get_or, take, refl, sym, ◌∙◌, ap, arith, length-append, append_assoc}
use Rattle.std.proofs.lemmas.List.{take_at, drop_at, length-replicate}
use Rattle.std.proofs.lemmas.List.Sums.{sum_by-cons, sum_by-take-le}
use Rattle.std.specs.Prelude.{sum_by}
use Rattle.std.specs.List.{flat_map}
use Rattle.std.specs.Int.{to_le_bytes, w64}
use Rattle.mdf_format.specs.Number.{le_number, bytes_at}
use Rattle.mdf_block.specs.declared.link.Link.{Link}
use Rattle.mdf_block.specs.declared.link.Link.TheVariants as links
use Rattle.mdf_block.specs.Draft.{Placed, size_of, room_of, end_of, link_number, link_bytes, block_bytes, written}
use Rattle.mdf_block.proofs.Names.{length-name_of}

-- a number that is written reads back
pub le_number-to_le_bytes : (n : ℕ) → n < 2 ^ 64 → le_number (to_le_bytes w64 n) ≡ n
le_number-to_le_bytes n small = omega (arith, small)

-- a part between others is found at its place
pub bytes_at-part : (pre part post : List ℕ) (at n : ℕ) → length pre ≡ at → length part ≡ n → bytes_at n (pre ++ (part ++ post)) at ≡ part
bytes_at-part pre part post at n is_at is_n = ap (take n) (drop_at pre (part ++ post) at is_at) ∙ take_at part post n is_n

-- a block with its filler is as long as its room
pub le_room : (b : Placed) → size_of b ≤ room_of b
le_room b = omega arith

pub length-links : (blocks : List Placed) (xs : List Link) → length (flat_map (link_bytes blocks) xs) ≡ 8 * length xs
length-links blocks [] = refl
length-links blocks (x ∷ xs) = omega (arith, length-append (link_bytes blocks x) (flat_map (link_bytes blocks) xs), length-links blocks xs)

pub length-block_bytes : (blocks : List Placed) (b : Placed) → length (block_bytes blocks b) ≡ room_of b
length-block_bytes blocks b = simp (length-append, length-replicate) (omega (arith, length-name_of b.kind, length-links blocks b.links, le_room b))

pub length-blocks : (all blocks : List Placed) → length (flat_map (block_bytes all) blocks) ≡ sum_by room_of blocks
length-blocks all [] = refl
length-blocks all (b ∷ blocks) =
    omega (arith, length-append (block_bytes all b) (flat_map (block_bytes all) blocks), length-block_bytes all b, length-blocks all blocks, sum_by-cons room_of b blocks)

pub length-written : (ident : List ℕ) (blocks : List Placed) → length ident ≡ 64 → length (written ident blocks) ≡ end_of blocks
length-written ident blocks is = omega (arith, is, length-append ident (flat_map (block_bytes blocks) blocks), length-blocks blocks blocks)

-- addresses are multiples of 8
pub rooms_on_eight : (blocks : List Placed) → sum_by room_of blocks % 8 ≡ 0
rooms_on_eight [] = refl
rooms_on_eight (b ∷ blocks) = omega (arith, sum_by-cons room_of b blocks, rooms_on_eight blocks)

pub end_on_eight : (blocks : List Placed) → end_of blocks % 8 ≡ 0
end_on_eight blocks = omega (arith, rooms_on_eight blocks)

-- no link names an address past the end
pub link_within : (blocks : List Placed) (link : Link) → link_number blocks link ≤ end_of blocks
link_within blocks links.Nothing = omega arith
link_within blocks (links.Block n) = omega (arith, sum_by-take-le room_of blocks n)
link_within blocks links.End = omega arith

-- link k lies 8 bytes behind the one before it
pub bytes_at-link : (blocks : List Placed) (xs : List Link) (k : ℕ) (pre post : List ℕ) (at : ℕ) → k < length xs → length pre ≡ at
    → bytes_at 8 (pre ++ (flat_map (link_bytes blocks) xs ++ post)) (at + 8 * k) ≡ link_bytes blocks (get_or xs k links.Nothing)
bytes_at-link blocks [] k pre post at below is = absurd (omega arith)
bytes_at-link blocks (x ∷ xs) zero pre post at below is =
    ap (λ (file : List ℕ). bytes_at 8 (pre ++ file) (at + 8 * 0)) (append_assoc (link_bytes blocks x) (flat_map (link_bytes blocks) xs) post)
    ∙ bytes_at-part pre (link_bytes blocks x) (flat_map (link_bytes blocks) xs ++ post) (at + 8 * 0) 8 (omega (arith, is)) refl
bytes_at-link blocks (x ∷ xs) (suc k) pre post at below is =
    let moved : at + 8 * suc k ≡ at + 8 + 8 * k = omega arith in
    let regrouped : pre ++ (flat_map (link_bytes blocks) (x ∷ xs) ++ post) ≡ (pre ++ link_bytes blocks x) ++ (flat_map (link_bytes blocks) xs ++ post) =
    ap (λ (rest : List ℕ). pre ++ rest) (append_assoc (link_bytes blocks x) (flat_map (link_bytes blocks) xs) post)
    ∙ sym (append_assoc pre (link_bytes blocks x) (flat_map (link_bytes blocks) xs ++ post)) in
    ap (λ (file : List ℕ). bytes_at 8 file (at + 8 * suc k)) regrouped
    ∙ ap (bytes_at 8 ((pre ++ link_bytes blocks x) ++ (flat_map (link_bytes blocks) xs ++ post))) moved
    ∙ bytes_at-link blocks xs k (pre ++ link_bytes blocks x) post (at + 8) (omega (arith, below)) (omega (arith, is, length-append pre (link_bytes blocks x)))
