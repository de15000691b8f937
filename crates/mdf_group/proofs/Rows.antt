-- The rows that are read are those of their bodies.
use Rattle.std.proofs.Common.{◌≡◌, ◌+◌, ◌≤◌, ℕ, List, sym, ◌∙◌, ap, arith}
use Rattle.mdf_format.specs.Number.{le_number, bytes_at}
use Rattle.mdf_conv.specs.Conv.{numbers_at}
use Rattle.mdf_block.proofs.Parts.{part_same, byte_same}
use Rattle.mdf_conv.proofs.Fronts.{numbers_same}
use Rattle.mdf_group.specs.Channel.{channel_front}
use Rattle.mdf_group.specs.Group.{group_front}

module _ (f : List ℕ) (place front len : ℕ) (least : front ≤ len) where
  -- numbers of the front, of any width
  number_same : (n k : ℕ) → k + n ≤ front → le_number (bytes_at n (bytes_at front f place) k) ≡ le_number (bytes_at n (bytes_at len f place) k)
  number_same n k within = ap le_number (part_same f place front len least n k within)

  pub channel_front-same : 72 ≤ front → channel_front (bytes_at front f place) ≡ channel_front (bytes_at len f place)
  channel_front-same room =
      let kind = byte_same f place front len least 0 (omega (arith, room)) in
      let sync = byte_same f place front len least 1 (omega (arith, room)) in
      let data_type = byte_same f place front len least 2 (omega (arith, room)) in
      let bit = byte_same f place front len least 3 (omega (arith, room)) in
      let byte = number_same 4 4 (omega (arith, room)) in
      let bits = number_same 4 8 (omega (arith, room)) in
      let flags = number_same 4 12 (omega (arith, room)) in
      let inval = number_same 4 16 (omega (arith, room)) in
      let precision = byte_same f place front len least 20 (omega (arith, room)) in
      let ranges : numbers_at (bytes_at front f place) 24 6 ≡ numbers_at (bytes_at len f place) 24 6 =
      sym (numbers_same f place front 24 6 (omega (arith, room))) ∙ numbers_same f place len 24 6 (omega (arith, room, least)) in
      rw (kind, sync, data_type, bit, byte, bits, flags, inval, precision, ranges)

  pub group_front-same : 32 ≤ front → group_front (bytes_at front f place) ≡ group_front (bytes_at len f place)
  group_front-same room =
      let id = number_same 8 0 (omega (arith, room)) in
      let cycles = number_same 8 8 (omega (arith, room)) in
      let flags = number_same 2 16 (omega (arith, room)) in
      let separator = number_same 2 18 (omega (arith, room)) in
      let data_bytes = number_same 4 24 (omega (arith, room)) in
      let inval_bytes = number_same 4 28 (omega (arith, room)) in
      rw (id, cycles, flags, separator, data_bytes, inval_bytes)
