-- Fields of the front of a body are fields of the body.
use Rattle.std.proofs.Common.{◌≡◌, ◌+◌, ◌*◌, ◌-◌, ◌/◌, ◌≤◌, ◌<◌, ℕ, zero, suc, List, ◌∷◌, get_or, refl, sym, ◌∙◌, ap, arith}
use Rattle.mdf_format.specs.Number.{le_number, bytes_at}
use Rattle.mdf_format.specs.Block.{link_at}
use Rattle.mdf_block.specs.declared.place.BlockAt.{BlockAt}
use Rattle.mdf_block.specs.Block.{body_of}
use Rattle.mdf_block.proofs.Parts.{bytes_at-bytes_at, part_same, byte_same}
use Rattle.mdf_conv.specs.declared.front.ConvFront.{ConvFront}
use Rattle.mdf_conv.specs.Left.{link_count}
use Rattle.mdf_conv.specs.Conv.{HoldsValues, numbers_at, the_front, conv_numbers}

-- numbers of the file are numbers of the body
pub numbers_same : (f : List ℕ) (place len k count : ℕ) → k + 8 * count ≤ len
    → numbers_at f (place + k) count ≡ numbers_at (bytes_at len f place) k count
numbers_same f place len k zero within = refl
numbers_same f place len k (suc count) within =
    let first : bytes_at 8 f (place + k) ≡ bytes_at 8 (bytes_at len f place) k = sym (bytes_at-bytes_at 8 len k place f (omega (arith, within))) in
    let next : place + k + 8 ≡ place + (k + 8) = omega arith in
    let rest : numbers_at f (place + k + 8) count ≡ numbers_at (bytes_at len f place) (k + 8) count =
    ap (λ (n : ℕ). numbers_at f n count) next ∙ numbers_same f place len (k + 8) count (omega (arith, within)) in
    ap (λ (bytes : List ℕ). le_number bytes ∷ numbers_at f (place + k + 8) count) first
    ∙ ap (λ (numbers : List ℕ). le_number (bytes_at 8 (bytes_at len f place) k) ∷ numbers) rest

-- one number more
pub numbers_next : (f : List ℕ) (start k count : ℕ) → k < count
    → numbers_at f (start + 8 * k) (count - k)
    ≡ le_number (bytes_at 8 f (start + 8 * k)) ∷ numbers_at f (start + 8 * (k + 1)) (count - (k + 1))
numbers_next f start k count below =
    let more : count - k ≡ suc (count - (k + 1)) = omega arith in
    let next : start + 8 * k + 8 ≡ start + 8 * (k + 1) = omega arith in
    ap (numbers_at f (start + 8 * k)) more
    ∙ ap (λ (place : ℕ). le_number (bytes_at 8 f (start + 8 * k)) ∷ numbers_at f place (count - (k + 1))) next

-- the front that is read is that of the body
abbrev pub made_front : List ℕ → ℕ → ℕ → ℕ → ℕ → ConvFront
made_front front flags count low high = record {
  kind = get_or front 0 0;
  precision = get_or front 1 0;
  flags = flags;
  count = count;
  low = low;
  high = high;
}

module _ (f front : List ℕ) (b : BlockAt) (least : 24 ≤ b.body_len) (is_front : front ≡ bytes_at 24 f b.body_at) where
  -- a number in the front
  number_is : (n k value : ℕ) → k + n ≤ 24 → value ≡ le_number (bytes_at n front k) → value ≡ le_number (bytes_at n (body_of f b) k)
  number_is n k value within is =
      is ∙ ap (λ (bytes : List ℕ). le_number (bytes_at n bytes k)) is_front ∙ ap le_number (part_same f b.body_at 24 b.body_len least n k within)

  byte_is : (k : ℕ) → k < 24 → get_or front k 0 ≡ get_or (body_of f b) k 0
  byte_is k within = ap (λ (bytes : List ℕ). get_or bytes k 0) is_front ∙ byte_same f b.body_at 24 b.body_len least k within

  pub same_front : (flags count low high : ℕ) → flags ≡ le_number (bytes_at 2 front 2) → count ≡ le_number (bytes_at 2 front 6)
      → low ≡ le_number (bytes_at 8 front 8) → high ≡ le_number (bytes_at 8 front 16)
      → made_front front flags count low high ≡ the_front (body_of f b)
  same_front flags count low high is_flags is_count is_low is_high =
      let flags_is = number_is 2 2 flags (omega arith) is_flags in
      let count_is = number_is 2 6 count (omega arith) is_count in
      let low_is = number_is 8 8 low (omega arith) is_low in
      let high_is = number_is 8 16 high (omega arith) is_high in
      let kind_is = byte_is 0 (omega arith) in
      let precision_is = byte_is 1 (omega arith) in
      rw (kind_is, precision_is, flags_is, count_is, low_is, high_is)

module _ (f : List ℕ) (b : BlockAt) (front : ConvFront) (is : front ≡ the_front (body_of f b)) (holds : HoldsValues f b) where
  pub same_numbers : (numbers : List ℕ) (inverse : ℕ) → numbers ≡ numbers_at f (b.body_at + 24) front.count
      → inverse ≡ link_count (link_at f b.at 3) → conv_numbers f b ≡ record { front = front; numbers = numbers; inverse = inverse }
  same_numbers numbers inverse is_numbers is_inverse =
      let count : front.count ≡ le_number (bytes_at 2 (body_of f b) 6) = ap (λ (x : ConvFront). x.count) is in
      let numbers_are : numbers ≡ numbers_at (body_of f b) 24 (le_number (bytes_at 2 (body_of f b) 6)) =
      is_numbers ∙ numbers_same f b.body_at b.body_len 24 front.count (omega (arith, holds, count))
      ∙ ap (numbers_at (body_of f b) 24) count in
      sym (rw (is, numbers_are, is_inverse) refl)

  -- more numbers are counted than there is room for
  pub counts_past : 24 ≤ b.body_len → (b.body_len - 24) / 8 < front.count → ⊥
  counts_past least past =
      let count : front.count ≡ le_number (bytes_at 2 (body_of f b) 6) = ap (λ (x : ConvFront). x.count) is in
      omega (arith, holds, count, past, least)

-- a word that was read alone
pub word_is : (f word : List ℕ) (place : ℕ) → word ≡ bytes_at 8 f place → le_number (bytes_at 8 word 0) ≡ le_number (bytes_at 8 f place)
word_is f word place is =
    let same : place + 0 ≡ place = omega arith in
    ap (λ (bytes : List ℕ). le_number (bytes_at 8 bytes 0)) is
    ∙ ap le_number (bytes_at-bytes_at 8 8 0 place f (omega arith)) ∙ ap (λ (n : ℕ). le_number (bytes_at 8 f n)) same
