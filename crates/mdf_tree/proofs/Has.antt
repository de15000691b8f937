-- Blocks among the blocks of a file, by their numbers, and what stands at their addresses.
use Rattle.std.proofs.Common.{◌≡◌, ◌≢◌, ◌+◌, ℕ, List, [], ◌∷◌, ◌++◌, length, take, sym, ◌∙◌, ap, subst, arith, length-append, append_assoc}
use Rattle.std.proofs.lemmas.List.{take_at}
use Rattle.mdf_block.specs.Draft.{Placed, end_of, address_of, Stands, AllStand}

-- the blocks from number n on are these, and maybe more
pub record Has (blocks : List Placed) (n : ℕ) (part : List Placed) : Type 0 where
  pub front : List Placed
  pub rest : List Placed
  pub split : blocks ≡ front ++ (part ++ rest)
  pub number : length front ≡ n

abbrev pub has_left : (blocks : List Placed) (n : ℕ) (a b : List Placed) → Has blocks n (a ++ b) → Has blocks n a
has_left blocks n a b has = record {
  front = has.front;
  rest = b ++ has.rest;
  split = has.split ∙ ap (λ (xs : List Placed). has.front ++ xs) (append_assoc a b has.rest);
  number = has.number;
}

abbrev pub has_right : (blocks : List Placed) (n : ℕ) (a b : List Placed) → Has blocks n (a ++ b) → Has blocks (n + length a) b
has_right blocks n a b has = record {
  front = has.front ++ a;
  rest = has.rest;
  split = has.split ∙ ap (λ (xs : List Placed). has.front ++ xs) (append_assoc a b has.rest) ∙ sym (append_assoc has.front a (b ++ has.rest));
  number = omega (arith, has.number, length-append has.front a);
}

abbrev pub has_more : (blocks : List Placed) (n : ℕ) (b : Placed) (part : List Placed) → Has blocks n (b ∷ part) → Has blocks (n + 1) part
has_more blocks n b part has = record {
  front = has.front ++ b ∷ [];
  rest = has.rest;
  split = has.split ∙ sym (append_assoc has.front (b ∷ []) (part ++ has.rest));
  number = omega (arith, has.number, length-append has.front (b ∷ []));
}

pub address_is : (blocks : List Placed) (n : ℕ) (part : List Placed) (has : Has blocks n part) → address_of blocks n ≡ end_of has.front
address_is blocks n part has =
    ap (λ (xs : List Placed). end_of (take n xs)) has.split ∙ ap end_of (take_at has.front (part ++ has.rest) n has.number)

-- the block at a number stands at its address
pub here : (file : List ℕ) (blocks : List Placed) (n : ℕ) (b : Placed) (part : List Placed) → AllStand file blocks → Has blocks n (b ∷ part)
    → Stands file blocks (address_of blocks n) b
here file blocks n b part all has =
    subst (λ (at : ℕ). Stands file blocks at b) (sym (address_is blocks n (b ∷ part) has)) (all has.front b (part ++ has.rest) has.split)

-- no block stands at 0
pub address_some : (blocks : List Placed) (n : ℕ) → address_of blocks n ≢ 0
address_some blocks n none = omega (arith, none)
