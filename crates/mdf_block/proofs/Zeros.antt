-- The first place that passes, found part by part.
use Rattle.std.proofs.Common.{◌≡◌, ◌+◌, ◌<◌, ◌≤◌, ℕ, zero, suc, Bool, true, false, not, cond, List, [], ◌∷◌, length, take, drop, refl, sym, ◌∙◌, ap, arith, length-drop}
use Rattle.std.proofs.lemmas.List.{length-take-le, drop-drop}
use Rattle.std.proofs.lemmas.List.Sums.{prefix_len-le-length}
use Rattle.std.specs.List.{prefix_len, position_or_len}
use Rattle.mdf_format.specs.Number.{bytes_at}
use Rattle.mdf_block.specs.Text.{is_zero, text_of}
use Rattle.mdf_block.proofs.Parts.{bytes_at-bytes_at}

-- it is in the front
pub position_or_len-front : {X : Type 0} (p : X → Bool) → (count : ℕ) (xs : List X) → position_or_len p (take count xs) < count
    → count ≤ length xs → position_or_len p xs ≡ position_or_len p (take count xs)
position_or_len-front p zero xs early there = absurd (omega arith)
position_or_len-front p (suc count) [] early there = refl
position_or_len-front {X} p (suc count) (x ∷ xs) early there =
    elim (p x) as (λ b. cond (not b) (1 + prefix_len (λ y. not (p y)) (take count xs)) 0 < suc count
    → cond (not b) (1 + prefix_len (λ y. not (p y)) xs) 0 ≡ cond (not b) (1 + prefix_len (λ y. not (p y)) (take count xs)) 0) [
      | true ↦ λ now. refl
      | false ↦ λ now. ap (λ n. 1 + n) (position_or_len-front p count xs (omega (arith, now)) (omega (arith, there)))
    ] early

-- it is not in the front
pub position_or_len-behind : {X : Type 0} (p : X → Bool) → (count : ℕ) (xs : List X) → count ≤ position_or_len p (take count xs)
    → count ≤ length xs → position_or_len p xs ≡ count + position_or_len p (drop count xs)
position_or_len-behind p zero xs late there = omega arith
position_or_len-behind p (suc count) [] late there = absurd (omega (arith, there))
position_or_len-behind {X} p (suc count) (x ∷ xs) late there =
    elim (p x) as (λ b. suc count ≤ cond (not b) (1 + prefix_len (λ y. not (p y)) (take count xs)) 0
    → cond (not b) (1 + prefix_len (λ y. not (p y)) xs) 0 ≡ suc count + prefix_len (λ y. not (p y)) (drop count xs)) [
      | true ↦ λ now. absurd (omega (arith, now))
      | false ↦ λ now.
          let rest = position_or_len-behind p count xs (omega (arith, now)) (omega (arith, there)) in omega (arith, rest)
    ] late

module _ (f : List ℕ) (start len done count zero_place : ℕ) (whole : start + len ≤ length f) (within : done + count ≤ len)
    (chunk : zero_place ≡ position_or_len is_zero (bytes_at count f (start + done)))
    (far : position_or_len is_zero (bytes_at len f start) ≡ done + position_or_len is_zero (drop done (bytes_at len f start))) where
  -- the chunk is the front of what was not yet looked at
  same_chunk : position_or_len is_zero (take count (drop done (bytes_at len f start))) ≡ zero_place
  same_chunk = ap (λ (bytes : List ℕ). position_or_len is_zero bytes) (bytes_at-bytes_at count len done start f within) ∙ sym chunk

  room : count ≤ length (drop done (bytes_at len f start))
  room = omega (arith, length-drop done (bytes_at len f start), length-take-le len (drop start f) (omega (arith, length-drop start f)))

  -- the zero byte is in it
  pub zero_here : zero_place < count → done + zero_place ≡ position_or_len is_zero (bytes_at len f start)
  zero_here early =
      let here = position_or_len-front is_zero count (drop done (bytes_at len f start)) (omega (arith, same_chunk)) room in
      omega (arith, far, here, same_chunk)

  -- it is not
  pub zero_behind : count ≤ zero_place
      → position_or_len is_zero (bytes_at len f start) ≡ done + count + position_or_len is_zero (drop (done + count) (bytes_at len f start))
  zero_behind late =
      let rest = position_or_len-behind is_zero count (drop done (bytes_at len f start)) (omega (arith, same_chunk)) room in
      let next = ap (λ (bytes : List ℕ). position_or_len is_zero bytes) (drop-drop count done (bytes_at len f start)) in
      omega (arith, far, rest, next)

-- the text is as long as the place of the zero byte
pub length-text_of : (body : List ℕ) → length (text_of body) ≡ position_or_len is_zero body
length-text_of body = length-take-le _ body (prefix_len-le-length _ body)
