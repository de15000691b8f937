-- Fields of the front of a body are fields of the body.
use Rattle.std.proofs.Common.{◌≡◌, ◌+◌, ◌≤◌, ℕ, List, ◌++◌, length, take, drop, ◌∙◌, ap, arith}
use Rattle.std.proofs.Math.Seq.{take-add, drop-drop}
use Rattle.std.proofs.lemmas.List.{length-take-le, length-drop}
use Rattle.mdf_format.specs.Number.{le_number, bytes_at}
use Rattle.mdf_format.specs.Block.{body_at}
use Rattle.mdf_format.specs.declared.kind.Kind.{Kind}
use Rattle.mdf_block.specs.declared.place.BlockAt.{BlockAt}
use Rattle.mdf_block.specs.Block.{body_of, the_block}
use Rattle.mdf_block.proofs.Parts.{part_same}
use Rattle.mdf_attach.specs.Listed.{fields_of}

module _ (f : List ℕ) (place front len : ℕ) (least : front ≤ len) where
  number_same : (n k : ℕ) → k + n ≤ front → le_number (bytes_at n (bytes_at front f place) k) ≡ le_number (bytes_at n (bytes_at len f place) k)
  number_same n k within = ap le_number (part_same f place front len least n k within)

  pub fields_of-front : 40 ≤ front → fields_of (bytes_at front f place) ≡ fields_of (bytes_at len f place)
  fields_of-front room =
      let flags = number_same 2 0 (omega (arith, room)) in
      let creator = number_same 2 2 (omega (arith, room)) in
      let md5 = part_same f place front len least 16 8 (omega (arith, room)) in
      let original = number_same 8 24 (omega (arith, room)) in
      let embedded = number_same 8 32 (omega (arith, room)) in
      rw (flags, creator, md5, original, embedded)

-- what a block that is found says of its place
pub body_is : (f : List ℕ) (at : ℕ) (kind : Kind) (b : BlockAt) → b ≡ the_block f at kind → body_of f b ≡ body_at f at
body_is f at kind b is = ap (λ (block : BlockAt). body_of f block) is

-- bytes that are there are so many
pub length-bytes : (n at : ℕ) (bytes : List ℕ) → at + n ≤ length bytes → length (bytes_at n bytes at) ≡ n
length-bytes n at bytes within = length-take-le n (drop at bytes) (omega (arith, length-drop at bytes, within))

-- bytes, and those behind them
pub bytes_more : (m n : ℕ) (bytes : List ℕ) (at : ℕ) → bytes_at (m + n) bytes at ≡ bytes_at m bytes at ++ bytes_at n bytes (at + m)
bytes_more m n bytes at = take-add m n (drop at bytes) ∙ ap (λ (xs : List ℕ). bytes_at m bytes at ++ take n xs) (drop-drop m at bytes)
