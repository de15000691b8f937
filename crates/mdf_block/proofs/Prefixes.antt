-- What stands in a file stands in every file that begins with it.
use Rattle.std.proofs.Common.{◌≡◌, ◌+◌, ◌*◌, ◌<◌, ◌≤◌, ℕ, List, [], ◌∷◌, ◌++◌, length, take, drop, sym, ◌∙◌, ap, subst, arith, length-append}
use Rattle.std.proofs.lemmas.List.{drop-append-le, take-append-le, length-drop}
use Rattle.mdf_format.specs.Number.{le_number, bytes_at}
use Rattle.mdf_format.specs.Block.{least_links, least_body, size_at, links_at, link_at, header_size, body_size, body_at, IsBlock, IsChain}
use Rattle.mdf_format.specs.declared.kind.Kind.{Kind}
use Rattle.mdf_block.specs.Draft.{Placed, size_of, end_of, filler_of, Stands, AllStand}
use Rattle.mdf_block.proofs.Laying.{le_room}

module _ (file more : List ℕ) where
  pub bytes_kept : (n at : ℕ) → at + n ≤ length file → bytes_at n (file ++ more) at ≡ bytes_at n file at
  bytes_kept n at within =
      ap (take n) (drop-append-le at file more (omega (arith, within)))
      ∙ take-append-le n (drop at file) more (omega (arith, within, length-drop at file))

  -- where the header and the whole lie inside the file
  module _ (at : ℕ) (headed : header_size (links_at file at) ≤ size_at file at) (whole : at + size_at file at ≤ length file) where
    pub size_kept : size_at (file ++ more) at ≡ size_at file at
    size_kept = ap le_number (bytes_kept 8 (at + 8) (omega (arith, headed, whole)))

    pub count_kept : links_at (file ++ more) at ≡ links_at file at
    count_kept = ap le_number (bytes_kept 8 (at + 16) (omega (arith, headed, whole)))

    pub link_kept : (k : ℕ) → k < links_at file at → link_at (file ++ more) at k ≡ link_at file at k
    link_kept k below = ap le_number (bytes_kept 8 (at + 24 + 8 * k) (omega (arith, headed, whole, below)))

    pub body_size_kept : body_size (file ++ more) at ≡ body_size file at
    body_size_kept = omega (arith, size_kept, count_kept)

    pub body_kept : body_at (file ++ more) at ≡ body_at file at
    body_kept =
        ap (λ (n : ℕ). bytes_at n (file ++ more) (at + header_size (links_at (file ++ more) at))) body_size_kept
        ∙ ap (λ (links : ℕ). bytes_at (body_size file at) (file ++ more) (at + header_size links)) count_kept
        ∙ bytes_kept (body_size file at) (at + header_size (links_at file at)) (omega (arith, headed, whole))

  pub block_kept : (at : ℕ) (kind : Kind) → IsBlock file at kind → IsBlock (file ++ more) at kind
  block_kept at kind is =
      let size = size_kept at is.headed is.whole in
      let count = count_kept at is.headed is.whole in
      let body = body_kept at is.headed is.whole in
      let long = body_size_kept at is.headed is.whole in record {
        on_eight = is.on_eight;
        named = bytes_kept 4 at (omega (arith, is.headed, is.whole)) ∙ is.named;
        headed = omega (arith, size, count, is.headed);
        whole = omega (arith, size, is.whole, length-append file more);
        linked = omega (arith, count, is.linked);
        filled = omega (arith, long, ap (least_body kind) body, is.filled);
      }

  -- a chain of blocks that have a link is kept
  pub chain_kept : (kind : Kind) → 1 ≤ least_links kind → (at : ℕ) (places : List ℕ)
      → IsChain file at kind places → IsChain (file ++ more) at kind places
  unfolding IsChain
  chain_kept kind linked at [] chain = chain
  chain_kept kind linked at (place ∷ places) chain =
      let is = chain.1 in
      let next = link_kept at is.headed is.whole 0 (omega (arith, linked, is.linked)) in (
        chain.0,
        block_kept at kind is,
        subst (λ (n : ℕ). IsChain (file ++ more) n kind places) (sym next) (chain_kept kind linked (link_at file at 0) places chain.2),
      )

  -- so is a block of a draft, with its links and its filler
  pub stands_kept : (blocks : List Placed) (at : ℕ) (b : Placed) → Stands file blocks at b → Stands (file ++ more) blocks at b
  stands_kept blocks at b stands =
      let headed : header_size (links_at file at) ≤ size_at file at = omega (arith, stands.size, stands.count) in
      let whole : at + size_at file at ≤ length file = omega (arith, stands.size, stands.ends, le_room b) in record {
        on_eight = stands.on_eight;
        named = bytes_kept 4 at (omega (arith, headed, whole)) ∙ stands.named;
        size = size_kept at headed whole ∙ stands.size;
        ends = omega (arith, stands.ends, length-append file more);
        count = count_kept at headed whole ∙ stands.count;
        link = λ k below. link_kept at headed whole k (omega (arith, below, stands.count)) ∙ stands.link k below;
        body = body_kept at headed whole ∙ stands.body;
        filler = bytes_kept (filler_of b) (at + size_of b) (omega (arith, stands.ends, le_room b)) ∙ stands.filler;
        whole = λ readable. block_kept at b.kind (stands.whole readable);
      }

  -- all blocks of a draft stand in every file that begins with its bytes
  pub all_kept : (blocks : List Placed) → AllStand file blocks → AllStand (file ++ more) blocks
  all_kept blocks all front b rest split = stands_kept blocks (end_of front) b (all front b rest split)
