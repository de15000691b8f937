-- A run of bits of a word, and a word with a run of its bits replaced.
use Rattle.std.proofs.Common.{◌≡◌, ◌<◌, ◌≤◌, ◌+◌, ◌-◌, ◌*◌, ◌/◌, ◌%◌, ◌^◌, ℕ, min, max, bit_and, bit_or, sym, ◌∙◌, ap, arith, inl, inr}
use Rattle.std.proofs.Math.Nat.{add-zero, pow-le-pow_right}
use Rattle.std.proofs.lemmas.Bool.{cases_lt}
use Rattle.std.proofs.lemmas.Nat.{and_le_l, one_shl, or_lt, pow_pos, shl_below, shl_whole, shr-shr}
use Rattle.std.proofs.lemmas.Nat.Bits.{bit_at-lt, bit_at-zero, bit_at_above, bit_at_and, bit_at_cat_high, bit_at_cat_low, bit_at_not, bit_at_ones, bit_at_ones_above, bit_at_or}
use Rattle.std.specs.Int.{Width, bit_at, bit_not}
use mir.Val.{bits as width}

-- bits bits of the word from bit on
pub bit_at-run : (word bit bits k : ℕ) → bits ≤ 64 → k < bits
    → bit_at (bit_and (word / 2 ^ bit) (1 * 2 ^ bits % 2 ^ 128 - 1)) k ≡ bit_at word (bit + k)
bit_at-run word bit bits k most within =
    let one = one_shl bits 128 (omega arith) in
    let ones = bit_at_ones bits k within in
    let bound = bit_at-lt (word / 2 ^ bit) k in
    let moved : bit_at (word / 2 ^ bit) k ≡ bit_at word (bit + k) = ap (λ (n : ℕ). n % 2) (shr-shr word bit k) in
    rw (one, bit_at_and, ones) (omega arith)

-- a shifted number: no bit below, then its own
bit_at-shl_low : (n bit i : ℕ) → i < bit → bit_at (n * 2 ^ bit) i ≡ 0
bit_at-shl_low n bit i low = rw (add-zero (n * 2 ^ bit)) at (bit_at_cat_low n bit 0 i low) ∙ bit_at-zero i

bit_at-shl_high : (n bit k : ℕ) → bit_at (n * 2 ^ bit) (bit + k) ≡ bit_at n k
bit_at-shl_high n bit k =
    let back : bit + k - bit ≡ k = omega arith in
    rw (add-zero (n * 2 ^ bit), back) at (bit_at_cat_high n bit 0 (bit + k) (pow_pos bit) (omega arith))

module _ (w : Width) (word bit bits value : ℕ) (low : bit + bits ≤ width w) (most : bits < width w) (word_fits : word < 2 ^ width w) (value_fits : value < 2 ^ bits) where
  -- the mask and the shifted value, as the code has them
  abbrev mask : ℕ
  mask = (1 * 2 ^ bits % 2 ^ width w - 1) * 2 ^ bit % 2 ^ width w

  abbrev moved : ℕ
  moved = value * 2 ^ bit % 2 ^ width w

  abbrev replaced : ℕ
  replaced = bit_or (bit_and word (bit_not w mask)) moved

  mask_is : mask ≡ (2 ^ bits - 1) * 2 ^ bit
  mask_is =
      let one = one_shl bits (width w) (omega arith) in
      let positive = pow_pos bits in
      rw one (shl_whole (2 ^ bits - 1) bits bit (width w) (omega arith) (omega arith))

  moved_is : moved ≡ value * 2 ^ bit
  moved_is = shl_whole value bits bit (width w) value_fits (omega arith)

  bit_at-replaced : (i : ℕ) → bit_at replaced i ≡ max (min (bit_at word i) (bit_at (bit_not w mask) i)) (bit_at moved i)
  bit_at-replaced i = bit_at_or (bit_and word (bit_not w mask)) moved i ∙ ap (λ (n : ℕ). max n (bit_at moved i)) (bit_at_and word (bit_not w mask) i)

  bit_at-unmasked : (i : ℕ) → i < width w → bit_at (bit_not w mask) i ≡ 1 - bit_at ((2 ^ bits - 1) * 2 ^ bit) i
  bit_at-unmasked i within = bit_at_not w mask i (omega arith) within ∙ ap (λ (n : ℕ). 1 - bit_at n i) mask_is

  pub replaced_inside : (k : ℕ) → k < bits → bit_at replaced (bit + k) ≡ bit_at value k
  replaced_inside k within =
      let all = bit_at-replaced (bit + k) in
      let unmasked = bit_at-unmasked (bit + k) (omega arith) in
      let mask_bit = bit_at-shl_high (2 ^ bits - 1) bit k ∙ bit_at_ones bits k within in
      let moved_bit : bit_at moved (bit + k) ≡ bit_at value k = ap (λ (n : ℕ). bit_at n (bit + k)) moved_is ∙ bit_at-shl_high value bit k in
      omega arith

  pub replaced_below : (k : ℕ) → k < bit → bit_at replaced k ≡ bit_at word k
  replaced_below k below =
      let all = bit_at-replaced k in
      let unmasked = bit_at-unmasked k (omega arith) in
      let mask_bit = bit_at-shl_low (2 ^ bits - 1) bit k below in
      let moved_bit : bit_at moved k ≡ 0 = ap (λ (n : ℕ). bit_at n k) moved_is ∙ bit_at-shl_low value bit k below in
      let bound = bit_at-lt word k in
      omega arith

  pub replaced_above : (k : ℕ) → bit + bits ≤ k → bit_at replaced k ≡ bit_at word k
  replaced_above k above =
      let all = bit_at-replaced k in
      let at : bit + (k - bit) ≡ k = omega arith in
      let moved_bit : bit_at moved k ≡ 0 =
      ap (λ (n : ℕ). bit_at n k) moved_is ∙ ap (bit_at (value * 2 ^ bit)) (sym at) ∙ bit_at-shl_high value bit (k - bit) ∙ bit_at_above value bits (k - bit) value_fits (omega arith) in
      elim (cases_lt k (width w)) [
        | inl within ↦
            let unmasked = bit_at-unmasked k within in
            let mask_bit : bit_at ((2 ^ bits - 1) * 2 ^ bit) k ≡ 0 =
            ap (bit_at ((2 ^ bits - 1) * 2 ^ bit)) (sym at) ∙ bit_at-shl_high (2 ^ bits - 1) bit (k - bit) ∙ bit_at_ones_above bits (k - bit) (omega arith) in
            let bound = bit_at-lt word k in
            omega arith
        | inr past ↦
            let none = bit_at_above word (width w) k word_fits past in
            omega arith
      ]

  pub replaced-lt : (n : ℕ) → bit + bits ≤ n → word < 2 ^ n → replaced < 2 ^ n
  replaced-lt n wide fits =
      let kept = and_le_l word (bit_not w mask) in
      let less : value * 2 ^ bit < 2 ^ (bits + bit) = shl_below value bits bit value_fits in
      let at_most : bits + bit ≤ n = omega arith in
      let wider : 2 ^ (bits + bit) ≤ 2 ^ n = pow-le-pow_right {n = 2} (omega arith) {i = bits + bit} {j = n} at_most in
      let small : moved < 2 ^ n = rw moved_is (omega arith) in
      or_lt n (bit_and word (bit_not w mask)) moved (omega arith) small
