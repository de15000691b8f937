-- Each block of a draft stands whole in the file that is written.
use Rattle.std.proofs.Common.{◌≡◌, ◌+◌, ◌*◌, ◌%◌, ◌^◌, ◌<◌, ◌≤◌, ℕ, List, ◌∷◌, ◌++◌, length, get_or, replicate, refl, sym, ◌∙◌, ap, subst, arith, length-append, append_assoc}
use Rattle.std.proofs.lemmas.List.{length-replicate}
use Rattle.std.proofs.lemmas.List.Concat.{flat_map-append}
use Rattle.std.proofs.lemmas.List.Sums.{sum_by-cons, sum_by-append}
use Rattle.std.specs.Prelude.{sum_by}
use Rattle.std.specs.List.{flat_map}
use Rattle.std.specs.Int.{to_le_bytes, w64}
use Rattle.mdf_format.specs.Number.{le_number, bytes_at}
use Rattle.mdf_format.specs.Block.{name_of, least_body, size_at, links_at, header_size, body_size, body_at}
use Rattle.mdf_block.specs.declared.link.Link.TheVariants as links
use Rattle.mdf_block.specs.Draft.{Placed, size_of, room_of, end_of, link_number, link_bytes, filler_of, block_bytes, written, Stands, AllStand}
use Rattle.mdf_block.proofs.Names.{length-name_of}
use Rattle.mdf_block.proofs.Laying.{le_number-to_le_bytes, bytes_at-part, le_room, length-links, length-written, end_on_eight, link_within, bytes_at-link, length-blocks}

-- seven parts between two others
module _ (pre name zeros size count links_part body fill post : List ℕ) (at : ℕ) (is_at : length pre ≡ at) (four : length name ≡ 4)
    (blank : length zeros ≡ 4) (eight : length size ≡ 8) (next : length count ≡ 8) where
  abbrev pub in_file : List ℕ
  in_file = pre ++ ((name ++ zeros ++ size ++ count ++ links_part ++ body ++ fill) ++ post)

  pub name_part : bytes_at 4 in_file at ≡ name
  name_part =
      let regrouped : in_file ≡ pre ++ (name ++ (zeros ++ (size ++ (count ++ (links_part ++ (body ++ (fill ++ post))))))) = simp append_assoc in
      ap (λ (file : List ℕ). bytes_at 4 file at) regrouped ∙ bytes_at-part pre name _ at 4 is_at four

  pub size_part : bytes_at 8 in_file (at + 8) ≡ size
  size_part =
      let regrouped : in_file ≡ (pre ++ name ++ zeros) ++ (size ++ (count ++ (links_part ++ (body ++ (fill ++ post))))) = simp append_assoc in
      ap (λ (file : List ℕ). bytes_at 8 file (at + 8)) regrouped
      ∙ bytes_at-part (pre ++ name ++ zeros) size _ (at + 8) 8
      (omega (arith, is_at, four, blank, length-append (pre ++ name) zeros, length-append pre name)) eight

  pub count_part : bytes_at 8 in_file (at + 16) ≡ count
  count_part =
      let regrouped : in_file ≡ (pre ++ name ++ zeros ++ size) ++ (count ++ (links_part ++ (body ++ (fill ++ post)))) = simp append_assoc in
      ap (λ (file : List ℕ). bytes_at 8 file (at + 16)) regrouped
      ∙ bytes_at-part (pre ++ name ++ zeros ++ size) count _ (at + 16) 8
      (omega (arith, is_at, four, blank, eight, length-append (pre ++ name ++ zeros) size, length-append (pre ++ name) zeros, length-append pre name)) next

  abbrev pub header : List ℕ
  header = pre ++ name ++ zeros ++ size ++ count

  pub length-header : length header ≡ at + 24
  length-header =
      omega (
        arith,
        is_at,
        four,
        blank,
        eight,
        next,
        length-append (pre ++ name ++ zeros ++ size) count,
        length-append (pre ++ name ++ zeros) size,
        length-append (pre ++ name) zeros,
        length-append pre name,
      )

  pub before_links : in_file ≡ header ++ (links_part ++ (body ++ (fill ++ post)))
  before_links = simp append_assoc

  pub body_part : (n : ℕ) → length links_part ≡ n → bytes_at (length body) in_file (at + 24 + n) ≡ body
  body_part n is_n =
      let regrouped : in_file ≡ (header ++ links_part) ++ (body ++ (fill ++ post)) = simp append_assoc in
      ap (λ (file : List ℕ). bytes_at (length body) file (at + 24 + n)) regrouped
      ∙ bytes_at-part (header ++ links_part) body _ (at + 24 + n) (length body)
      (omega (arith, is_n, length-header, length-append header links_part)) refl

  pub fill_part : (n : ℕ) → length links_part ≡ n → bytes_at (length fill) in_file (at + (24 + n + length body)) ≡ fill
  fill_part n is_n =
      let regrouped : in_file ≡ (header ++ links_part ++ body) ++ (fill ++ post) = simp append_assoc in
      ap (λ (file : List ℕ). bytes_at (length fill) file (at + (24 + n + length body))) regrouped
      ∙ bytes_at-part (header ++ links_part ++ body) fill _ (at + (24 + n + length body)) (length fill)
      (omega (arith, is_n, length-header, length-append header links_part, length-append (header ++ links_part) body)) refl

-- the file, parted round one block
around : (ident : List ℕ) (front : List Placed) (b : Placed) (rest : List Placed) (all : List Placed)
    → ident ++ flat_map (block_bytes all) (front ++ b ∷ rest)
    ≡ (ident ++ flat_map (block_bytes all) front) ++ (block_bytes all b ++ flat_map (block_bytes all) rest)
around ident front b rest all =
    ap (λ (bytes : List ℕ). ident ++ bytes) (flat_map-append (block_bytes all) front (b ∷ rest))
    ∙ sym (append_assoc ident (flat_map (block_bytes all) front) (block_bytes all b ++ flat_map (block_bytes all) rest))

-- what follows from the parts of a block that is where it is
module _ (file : List ℕ) (blocks : List Placed) (at : ℕ) (b : Placed) (on_eight : at % 8 ≡ 0) (small : room_of b < 2 ^ 64)
    (ends : at + room_of b ≤ length file) (links_small : (k : ℕ) → link_number blocks (get_or b.links k links.Nothing) < 2 ^ 64)
    (named : bytes_at 4 file at ≡ name_of b.kind)
    (sized : bytes_at 8 file (at + 8) ≡ to_le_bytes w64 (size_of b))
    (counted : bytes_at 8 file (at + 16) ≡ to_le_bytes w64 (length b.links))
    (linked : (k : ℕ) → k < length b.links → bytes_at 8 file (at + 24 + 8 * k) ≡ link_bytes blocks (get_or b.links k links.Nothing))
    (bodied : bytes_at (length b.body) file (at + 24 + 8 * length b.links) ≡ b.body)
    (filled : bytes_at (filler_of b) file (at + size_of b) ≡ replicate (filler_of b) 0) where
  size_is : size_at file at ≡ size_of b
  size_is = ap le_number sized ∙ le_number-to_le_bytes (size_of b) (omega (arith, small, le_room b))

  count_is : links_at file at ≡ length b.links
  count_is = ap le_number counted ∙ le_number-to_le_bytes (length b.links) (omega (arith, small, le_room b))

  body_size_is : body_size file at ≡ length b.body
  body_size_is = omega (arith, size_is, count_is)

  body_is : body_at file at ≡ b.body
  body_is =
      ap (λ (n : ℕ). bytes_at n file (at + header_size (links_at file at))) body_size_is
      ∙ ap (bytes_at (length b.body) file) (omega (arith, count_is)) ∙ bodied

  pub stands_so : Stands file blocks at b
  stands_so = record {
    on_eight = on_eight;
    named = named;
    size = size_is;
    ends = ends;
    count = count_is;
    link = λ k below. ap le_number (linked k below) ∙ le_number-to_le_bytes _ (links_small k);
    body = body_is;
    filler = filled;
    whole = λ readable. record {
      on_eight = on_eight;
      named = named;
      headed = omega (arith, size_is, count_is);
      whole = omega (arith, size_is, ends, le_room b);
      linked = omega (arith, count_is, readable.linked);
      filled = omega (arith, body_size_is, ap (least_body b.kind) body_is, readable.filled);
    };
  }

-- every block stands at its address
pub all_stand : (ident : List ℕ) (blocks : List Placed) → length ident ≡ 64 → end_of blocks < 2 ^ 62 → AllStand (written ident blocks) blocks
all_stand ident blocks is_ident small front b rest split =
    let all = front ++ b ∷ rest in
    let file = written ident blocks in
    let pre = ident ++ flat_map (block_bytes blocks) front in
    let post = flat_map (block_bytes blocks) rest in
    let is_file : file ≡ pre ++ (block_bytes blocks b ++ post) =
    ap (λ (xs : List Placed). ident ++ flat_map (block_bytes blocks) xs) split ∙ around ident front b rest blocks in
    let is_at : length pre ≡ end_of front =
    omega (arith, is_ident, length-append ident (flat_map (block_bytes blocks) front), length-blocks blocks front) in
    let all_rooms : end_of blocks ≡ end_of front + (room_of b + sum_by room_of rest) =
    omega (arith, ap (sum_by room_of) split, sum_by-append room_of front (b ∷ rest), sum_by-cons room_of b rest) in
    let name = name_of b.kind in
    let size = to_le_bytes w64 (size_of b) in
    let count = to_le_bytes w64 (length b.links) in
    let links_part = flat_map (link_bytes blocks) b.links in
    let fill : List ℕ = replicate (filler_of b) 0 in
    let four = length-name_of b.kind in
    let is_n = length-links blocks b.links in
    let is_fill = length-replicate {A = ℕ} (filler_of b) 0 in
    stands_so file blocks (end_of front) b (end_on_eight front) (omega (arith, small, all_rooms))
    (omega (arith, all_rooms, length-written ident blocks is_ident))
    (λ k. omega (arith, small, link_within blocks (get_or b.links k links.Nothing)))
    (ap (λ (f : List ℕ). bytes_at 4 f (end_of front)) is_file
    ∙ name_part pre name (replicate 4 0) size count links_part b.body fill post (end_of front) is_at four refl refl refl)
    (ap (λ (f : List ℕ). bytes_at 8 f (end_of front + 8)) is_file
    ∙ size_part pre name (replicate 4 0) size count links_part b.body fill post (end_of front) is_at four refl refl refl)
    (ap (λ (f : List ℕ). bytes_at 8 f (end_of front + 16)) is_file
    ∙ count_part pre name (replicate 4 0) size count links_part b.body fill post (end_of front) is_at four refl refl refl)
    (λ k below. ap (λ (f : List ℕ). bytes_at 8 f (end_of front + 24 + 8 * k)) (is_file
    ∙ before_links pre name (replicate 4 0) size count links_part b.body fill post (end_of front) is_at four refl refl refl)
    ∙ bytes_at-link blocks b.links k _ (b.body ++ (fill ++ post)) (end_of front + 24) below
    (length-header pre name (replicate 4 0) size count links_part b.body fill post (end_of front) is_at four refl refl refl))
    (ap (λ (f : List ℕ). bytes_at (length b.body) f (end_of front + 24 + 8 * length b.links)) is_file
    ∙ body_part pre name (replicate 4 0) size count links_part b.body fill post (end_of front) is_at four refl refl refl (8 * length b.links) is_n)
    (ap (λ (f : List ℕ). bytes_at (filler_of b) f (end_of front + size_of b)) is_file
    ∙ subst (λ (n : ℕ). bytes_at n (pre ++ (block_bytes blocks b ++ post)) (end_of front + size_of b) ≡ fill) is_fill
    (fill_part pre name (replicate 4 0) size count links_part b.body fill post (end_of front) is_at four refl refl refl (8 * length b.links) is_n))
