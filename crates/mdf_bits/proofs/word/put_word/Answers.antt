use Rattle.std.proofs.Common.{◌≡◌, ◌<◌, ◌*◌, ◌^◌, ◌∙◌, ◌++◌, ℕ, List, [], ◌∷◌, false, drop, set, length, append-nil, ap, sym, subst, arith, rules}
use Rattle.std.proofs.lemmas.List.{drop_all}
use Rattle.std.proofs.Math.Nat.{mod-eq_of_lt}
use Rattle.std.specs.Int.{bytes_low_first, to_le_bytes, w16, w32, w64}
use Rattle.mdf_bits.proofs.Orders.{bit_of-low}
use Rattle.mdf_bits.proofs.word.put_word.Goals as goal

-- the bytes of a number, written over a list that has no more, are the list
whole : (count word : ℕ) (old new : List ℕ) → length old ≡ count → new ≡ bytes_low_first 0 count word ++ drop count old
    → new ≡ bytes_low_first 0 count word
whole count word old new long written =
    let low = bytes_low_first 0 count word in
    written ∙ ap (λ (rest : List ℕ). low ++ rest) (drop_all count old (omega (arith, long))) ∙ append-nil low

-- a byte that is set in a list of one is the list
one : (word : ℕ) (old : List ℕ) → length old ≡ 1 → word < 2 ^ 8 → set old 0 word ≡ bytes_low_first 0 1 word
one word [] long small = absurd (omega (arith, long))
one word (byte ∷ []) long small = ap (λ (low : ℕ). low ∷ []) (sym (mod-eq_of_lt small))
one word (byte ∷ next ∷ rest) long small = absurd (omega (arith, long))

pub returns-in-1-clause-bits : goal.returns-in-1-clause-bits
returns-in-1-clause-bits c = λ k.
    let new = set c.args.bytes.now 0 c.args.word in
    let count : length c.args.bytes.now ≡ 1 = search rules in
    let small : c.args.word < 2 ^ 8 = subst (λ (n : ℕ). c.args.word < 2 ^ (8 * n)) count c.requires in
    let bytes = one c.args.word c.args.bytes.now count small in
    bit_of-low c.args.big new 1 c.args.word k c.if-big.false bytes (omega (arith, small))

pub returns-in-2-clause-bits : goal.returns-in-2-clause-bits
returns-in-2-clause-bits c = λ k.
    let new = c.write_u16.new.buf in
    let little : c.args.big ≡ false = search rules in
    let count : length c.args.bytes.now ≡ 2 = search rules in
    let small : c.args.word < 2 ^ 16 = subst (λ (n : ℕ). c.args.word < 2 ^ (8 * n)) count c.requires in
    let bytes : new ≡ to_le_bytes w16 c.args.word = whole 2 c.args.word c.args.bytes.now new count c.write_u16.ensures in
    bit_of-low c.args.big new 2 c.args.word k little bytes (omega (arith, small))

pub returns-in-4-clause-bits : goal.returns-in-4-clause-bits
returns-in-4-clause-bits c = λ k.
    let new = c.write_u32.new.buf in
    let little : c.args.big ≡ false = search rules in
    let count : length c.args.bytes.now ≡ 4 = search rules in
    let small : c.args.word < 2 ^ 32 = subst (λ (n : ℕ). c.args.word < 2 ^ (8 * n)) count c.requires in
    let bytes : new ≡ to_le_bytes w32 c.args.word = whole 4 c.args.word c.args.bytes.now new count c.write_u32.ensures in
    bit_of-low c.args.big new 4 c.args.word k little bytes (omega (arith, small))

pub returns-in-8-clause-bits : goal.returns-in-8-clause-bits
returns-in-8-clause-bits c = λ k.
    let new = c.write_u64.new.buf in
    let little : c.args.big ≡ false = search rules in
    let count : length c.args.bytes.now ≡ 8 = search rules in
    let small : c.args.word < 2 ^ 64 = subst (λ (n : ℕ). c.args.word < 2 ^ (8 * n)) count c.requires in
    let bytes : new ≡ to_le_bytes w64 c.args.word = whole 8 c.args.word c.args.bytes.now new count c.write_u64.ensures in
    bit_of-low c.args.big new 8 c.args.word k little bytes (omega (arith, small))
