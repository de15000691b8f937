-- Parts of parts of a file, and the least body of a kind.
use Rattle.std.proofs.Common.{◌≡◌, ◌+◌, ◌-◌, ◌/◌, ◌≤◌, ◌<◌, ◌↔◌, ℕ, IsTrue, List, get_or, take, drop, sym, ◌∙◌, ap, arith, lit≤}
use Rattle.std.proofs.Math.Dec.{leb}
use Rattle.std.proofs.lemmas.Bool.{leb-true, le-leb}
use Rattle.std.proofs.lemmas.List.{drop-take, take-take, drop-drop, get_or-take}
use Rattle.mdf_format.specs.Number.{le_number, bytes_at}
use Rattle.mdf_format.specs.Block.{least_body, body_at, body_size, links_at, header_size}
use Rattle.mdf_format.specs.declared.kind.Kind.TheVariants.{Cc}

-- bytes of a part of the file are bytes of the file
pub bytes_at-bytes_at : (n m k at : ℕ) (f : List ℕ) → k + n ≤ m → bytes_at n (bytes_at m f at) k ≡ bytes_at n f (at + k)
bytes_at-bytes_at n m k at f within =
    let whole : m ≡ k + (m - k) = omega arith in
    let room : n ≤ m - k = omega arith in
    ap (λ (count : ℕ). take n (drop k (take count (drop at f)))) whole
    ∙ ap (take n) (drop-take k (m - k) (drop at f))
    ∙ take-take n (m - k) (drop k (drop at f)) room
    ∙ ap (take n) (drop-drop k at f)

-- fields of the front of a part are fields of the part
module _ (f : List ℕ) (place front len : ℕ) (least : front ≤ len) where
  pub part_same : (n k : ℕ) → k + n ≤ front → bytes_at n (bytes_at front f place) k ≡ bytes_at n (bytes_at len f place) k
  part_same n k within =
      bytes_at-bytes_at n front k place f within ∙ sym (bytes_at-bytes_at n len k place f (omega (arith, within)))

  pub byte_same : (k : ℕ) → k < front → get_or (bytes_at front f place) k 0 ≡ get_or (bytes_at len f place) k 0
  byte_same k within =
      get_or-take front (drop place f) k 0 within ∙ sym (get_or-take len (drop place f) k 0 (omega (arith, within)))

-- the values of a CCBLOCK fit into its body
pub values_fit : (f : List ℕ) (at values len place : ℕ) → len ≡ body_size f at → place ≡ at + header_size (links_at f at)
    → 24 ≤ len → values ≡ le_number (bytes_at 2 (bytes_at 8 f place) 6)
    → IsTrue (leb values ((len - 24) / 8)) ↔ (least_body Cc (body_at f at) ≤ body_size f at)
values_fit f at values len place is_len is_place least is_values =
    let near = bytes_at-bytes_at 2 8 6 place f (lit≤ tt) in
    let far = bytes_at-bytes_at 2 (body_size f at) 6 (at + header_size (links_at f at)) f (omega (arith, is_len, least)) in
    let same : values ≡ le_number (bytes_at 2 (body_at f at) 6) =
    is_values ∙ ap le_number near ∙ ap (λ (p : ℕ). le_number (bytes_at 2 f (p + 6))) is_place ∙ ap le_number (sym far) in (
      λ fits. omega (arith, leb-true values ((len - 24) / 8) fits, same, is_len),
      λ fits. le-leb values ((len - 24) / 8) (omega (arith, fits, same, is_len)),
    )
