-- Loops along links: what is read so far, with what the rest of the chain gives.
use Rattle.std.proofs.Common.{◌≡◌, ◌≢◌, ◌+◌, ◌-◌, ◌<◌, ℕ, zero, suc, List, [], ◌∷◌, ◌++◌, length, map, Option, Ok, Err, refl, sym, ◌∙◌, ap, subst, ◌⊎◌, inl, inr, arith, append_assoc, append-nil}
use Rattle.std.proofs.lemmas.Bool.{eqb-true, eqb-false, eq-eqb, ne_eqb, cond-true, cond-false}
use Rattle.std.proofs.lemmas.List.Sums.{sum_by-cons}
use Rattle.std.specs.Prelude.{nat_eq, sum_by}
use Rattle.std.specs.List.{AllByRecursion}
use Rattle.mdf_format.specs.Block.{link_at, IsBlock, IsChain}
use Rattle.mdf_format.specs.declared.kind.Kind.{Kind}
use Rattle.mdf_num.specs.declared.halt.Halt.{Halt}
use Rattle.mdf_block.specs.declared.what.What.{What}
use Rattle.mdf_block.specs.Refusal.{Refusal, TooMany, Read, ◌>>=◌, Halts}
use Rattle.mdf_block.specs.Block.{block}
use Rattle.mdf_block.specs.Chain.{Step, chain, full, AreAlong}
use Rattle.mdf_block.proofs.Refusals.{bind_ok, bind_err, halts_then}
use Rattle.mdf_block.proofs.Wholes.{chosen}
use Rattle.mdf_block.proofs.Cases.{ok_injective}

-- what was read so far, and then the rest
abbrev pub with_front : {A S : Type 0} → List A → Read (List A × ℕ × S) → Read (List A × ℕ × S)
with_front front read = read >>= λ rest. Ok (front ++ rest.0, rest.1, rest.2)

with_none : {A S : Type 0} (read : Read (List A × ℕ × S)) → with_front [] read ≡ read
with_none (Ok x) = refl
with_none (Err refusal) = refl

front_moves : {A S : Type 0} (rows : List A) (x : A) (read : Read (List A × ℕ × S))
    → with_front rows (read >>= λ rest. Ok (x ∷ rest.0, rest.1, rest.2)) ≡ with_front (rows ++ x ∷ []) read
front_moves {A} rows x (Ok rest) = ap (λ (xs : List A). Ok (xs, rest.1, rest.2)) (sym (append_assoc rows (x ∷ []) rest.0))
front_moves rows x (Err refusal) = refl

module _ {A S : Type 0} (step : Step A S) (full_at : ℕ → Read (List A × ℕ × S)) where
  -- the loop begins
  pub begins : (room at : ℕ) (left : S) → with_front [] (chain step full_at room at left) ≡ chain step full_at room at left
  begins room at left = with_none (chain step full_at room at left)

  -- the link is 0
  pub is_done : (rows : List A) (room at : ℕ) (left : S) → at ≡ 0
      → with_front rows (chain step full_at room at left) ≡ Ok (rows, room, left)
  unfolding chain
  is_done rows zero at left none =
      ap (with_front rows) (cond-true (nat_eq at 0) _ _ (eq-eqb at 0 none)) ∙ ap (λ (xs : List A). Ok (xs, 0, left)) (append-nil rows)
  is_done rows (suc room) at left none =
      ap (with_front rows) (cond-true (nat_eq at 0) _ _ (eq-eqb at 0 none)) ∙ ap (λ (xs : List A). Ok (xs, suc room, left)) (append-nil rows)

  -- no more may come
  pub is_full : (rows : List A) (room at : ℕ) (left : S) → room ≡ 0 → at ≢ 0
      → with_front rows (chain step full_at room at left) ≡ with_front rows (full_at at)
  unfolding chain
  is_full rows zero at left none some = ap (with_front rows) (cond-false (nat_eq at 0) _ _ (ne_eqb at 0 some))
  is_full rows (suc room) at left none some = absurd (omega (arith, none))

  -- one more was read
  pub goes_on : (rows : List A) (room at : ℕ) (left : S) (x : A) (next : ℕ) (rest : S) → room ≢ 0 → at ≢ 0
      → step at left ≡ Ok (x, next, rest)
      → with_front rows (chain step full_at room at left) ≡ with_front (rows ++ x ∷ []) (chain step full_at (room - 1) next rest)
  unfolding chain
  goes_on rows zero at left x next rest more some found = absurd (more refl)
  goes_on rows (suc room) at left x next rest more some found =
      let one_less : suc room - 1 ≡ room = omega arith in
      ap (with_front rows) (cond-false (nat_eq at 0) _ _ (ne_eqb at 0 some))
      ∙ ap (λ (read : Read (A × ℕ × S)). with_front rows
      (read >>= λ found. chain step full_at room found.1 found.2 >>= λ rest. Ok (found.0 ∷ rest.0, rest.1, rest.2))) found
      ∙ front_moves rows x (chain step full_at room next rest)
      ∙ ap (λ (n : ℕ). with_front (rows ++ x ∷ []) (chain step full_at n next rest)) (sym one_less)

  -- the next one is refused
  pub ends : {E : Type 0} (refusal : E → Option Refusal) (halt : Halt E) (rows : List A) (room at : ℕ) (left : S) → room ≢ 0 → at ≢ 0
      → Halts refusal halt (step at left) → (whole : Read (List A × ℕ × S))
      → with_front rows (chain step full_at room at left) ≡ whole → Halts refusal halt whole
  unfolding chain
  ends refusal halt rows zero at left more some halted whole is = absurd (more refl)
  ends refusal halt rows (suc room) at left more some halted whole is =
      let first = halts_then refusal halt (step at left)
      (λ found. chain step full_at room found.1 found.2 >>= λ rest. Ok (found.0 ∷ rest.0, rest.1, rest.2)) halted in
      let second : Halts refusal halt (chain step full_at (suc room) at left) =
      subst (Halts refusal halt) (sym (cond-false (nat_eq at 0) _ _ (ne_eqb at 0 some))) first in
      let third = halts_then refusal halt (chain step full_at (suc room) at left)
      (λ rest. Ok (rows ++ rest.0, rest.1, rest.2)) second in
      subst (Halts refusal halt) is third

  -- the block past the count is refused
  pub ends_full : {E : Type 0} (refusal : E → Option Refusal) (halt : Halt E) (rows : List A) (room at : ℕ) (left : S) → room ≡ 0 → at ≢ 0
      → Halts refusal halt (full_at at) → (whole : Read (List A × ℕ × S))
      → with_front rows (chain step full_at room at left) ≡ whole → Halts refusal halt whole
  ends_full refusal halt rows room at left none some halted whole is =
      subst (Halts refusal halt) (sym (is_full rows room at left none some) ∙ is)
      (halts_then refusal halt (full_at at) (λ rest. Ok (rows ++ rest.0, rest.1, rest.2)) halted)

-- the block past the count gives nothing
pub full_none : (A : Type 0) (what : What) (kind : Kind) (f : List ℕ) (at : ℕ) (x : A) → full what kind f at ≡ Ok x → ⊥
unfolding full
full_none A what kind f at x found =
    let parts = bind_ok (block f at kind) (λ _. Err (TooMany what at)) x found in
    let wrong : ◌≡◌ {A = Read A} (Err (TooMany what at)) (Ok x) = parts.2 in cc

-- a step reads a block of the kind where it stands, and goes on along its first link
pub record Follows {A S : Type 0} (f : List ℕ) (kind : Kind) (place : A → ℕ) (step : Step A S) : Type 0 where
  pub there : (at : ℕ) (left : S) (x : A) (next : ℕ) (rest : S) → step at left ≡ Ok (x, next, rest)
      → (place x ≡ at) × IsBlock f at kind × (next ≡ link_at f at 0)

-- the same, where what is read does not say its place
pub record GoesAlong {A S : Type 0} (f : List ℕ) (kind : Kind) (step : Step A S) : Type 0 where
  pub there : (at : ℕ) (left : S) (x : A) (next : ℕ) (rest : S) → step at left ≡ Ok (x, next, rest) → IsBlock f at kind × (next ≡ link_at f at 0)

pub goes_along : {A S : Type 0} (f : List ℕ) (kind : Kind) (place : A → ℕ) (step : Step A S) → Follows f kind place step → GoesAlong f kind step
goes_along f kind place step follows = record {
  there = λ at left x next rest is. let all = follows.there at left x next rest is in (all.1, all.2);
}

-- the rest behind an item
abbrev pub rest_of : {A S : Type 0} → Step A S → (ℕ → Read (List A × ℕ × S)) → ℕ → A × ℕ × S → Read (List A × ℕ × S)
rest_of step full_at room found = chain step full_at room found.1 found.2 >>= λ rest. Ok (found.0 ∷ rest.0, rest.1, rest.2)

-- what is found along the links is the chain
pub chain_found : {A S : Type 0} (f : List ℕ) (kind : Kind) (place : A → ℕ) (step : Step A S) (full_at : ℕ → Read (List A × ℕ × S))
    → Follows f kind place step → ((at : ℕ) (y : List A × ℕ × S) → full_at at ≡ Ok y → ⊥)
    → (room at : ℕ) (left : S) (found : List A × ℕ × S) → chain step full_at room at left ≡ Ok found
    → IsChain f at kind (map place found.0)
unfolding chain IsChain
chain_found {A} {S} f kind place step full_at follows none zero at left found is =
    elim (chosen (nat_eq at 0) (Ok ([], zero, left)) (full_at at) (Ok found) is) [
      | inl last ↦
          let same : ([], zero, left) ≡ found = ok_injective _ _ last.1 in
          subst (λ (y : List A × ℕ × S). IsChain f at kind (map place y.0)) same (eqb-true at 0 last.0)
      | inr more ↦ absurd (none at found more.1)
    ]
chain_found {A} {S} f kind place step full_at follows none (suc room) at left found is =
    elim (chosen (nat_eq at 0) (Ok ([], suc room, left)) (step at left >>= rest_of step full_at room) (Ok found) is) [
      | inl last ↦
          let same : ([], suc room, left) ≡ found = ok_injective _ _ last.1 in
          subst (λ (y : List A × ℕ × S). IsChain f at kind (map place y.0)) same (eqb-true at 0 last.0)
      | inr more ↦
          let parts = bind_ok (step at left) (rest_of step full_at room) found more.1 in
          let there = follows.there at left parts.0.0 parts.0.1 parts.0.2 parts.1 in
          let rest = bind_ok (chain step full_at room parts.0.1 parts.0.2) (λ rest. Ok (parts.0.0 ∷ rest.0, rest.1, rest.2)) found parts.2 in
          let behind = chain_found f kind place step full_at follows none room parts.0.1 parts.0.2 rest.0 rest.1 in
          let same : (parts.0.0 ∷ rest.0.0, rest.0.1, rest.0.2) ≡ found = ok_injective _ _ rest.2 in
          subst (λ (y : List A × ℕ × S). IsChain f at kind (map place y.0)) same
          (there.0, there.1, subst (λ (next : ℕ). IsChain f next kind (map place rest.0.0)) there.2 behind)
    ]

-- what holds of each item that a step reads holds of all that are found
pub chain_each : {A S : Type 0} (step : Step A S) (full_at : ℕ → Read (List A × ℕ × S)) (P : A → Type 0)
    → ((at : ℕ) (left : S) (x : A) (next : ℕ) (rest : S) → step at left ≡ Ok (x, next, rest) → P x)
    → ((at : ℕ) (y : List A × ℕ × S) → full_at at ≡ Ok y → ⊥)
    → (room at : ℕ) (left : S) (found : List A × ℕ × S) → chain step full_at room at left ≡ Ok found
    → AllByRecursion P found.0
unfolding chain
chain_each {A} {S} step full_at P item none zero at left found is =
    elim (chosen (nat_eq at 0) (Ok ([], zero, left)) (full_at at) (Ok found) is) [
      | inl last ↦
          let same : ([], zero, left) ≡ found = ok_injective _ _ last.1 in
          subst (λ (y : List A × ℕ × S). AllByRecursion P y.0) same tt
      | inr more ↦ absurd (none at found more.1)
    ]
chain_each {A} {S} step full_at P item none (suc room) at left found is =
    elim (chosen (nat_eq at 0) (Ok ([], suc room, left)) (step at left >>= rest_of step full_at room) (Ok found) is) [
      | inl last ↦
          let same : ([], suc room, left) ≡ found = ok_injective _ _ last.1 in
          subst (λ (y : List A × ℕ × S). AllByRecursion P y.0) same tt
      | inr more ↦
          let parts = bind_ok (step at left) (rest_of step full_at room) found more.1 in
          let here = item at left parts.0.0 parts.0.1 parts.0.2 parts.1 in
          let rest = bind_ok (chain step full_at room parts.0.1 parts.0.2) (λ rest. Ok (parts.0.0 ∷ rest.0, rest.1, rest.2)) found parts.2 in
          let behind = chain_each step full_at P item none room parts.0.1 parts.0.2 rest.0 rest.1 in
          let same : (parts.0.0 ∷ rest.0.0, rest.0.1, rest.0.2) ≡ found = ok_injective _ _ rest.2 in
          subst (λ (y : List A × ℕ × S). AllByRecursion P y.0) same (here, behind)
    ]

-- where a chain is refused: behind blocks along their links, with what is known of what was left before them, of them and
-- of what is left behind them, by the step there or by the block past the count
pub record StopsBehind {A S : Type 0} (f : List ℕ) (kind : Kind) (step : Step A S) (full_at : ℕ → Read (List A × ℕ × S)) (Between : S → List ℕ → S → Type 0) (room at : ℕ) (left : S) (refusal : Refusal) : Type 0 where
  pub places : List ℕ
  pub last : ℕ
  pub rest : S
  pub along : AreAlong f kind at places last
  pub named : last ≢ 0
  pub between : Between left places rest
  pub why : ((length places < room) × (step last rest ≡ Err refusal)) ⊎ ((length places ≡ room) × (full_at last ≡ Err refusal))

pub chain_stops_behind : {A S : Type 0} (f : List ℕ) (kind : Kind) (step : Step A S) (full_at : ℕ → Read (List A × ℕ × S))
    → GoesAlong f kind step → (Between : S → List ℕ → S → Type 0) → ((left : S) → Between left [] left)
    → ((at : ℕ) (left : S) (x : A) (next : ℕ) (rest : S) (places : List ℕ) (last : S) → step at left ≡ Ok (x, next, rest)
    → Between rest places last → Between left (at ∷ places) last)
    → (refusal : Refusal) (room at : ℕ) (left : S) → chain step full_at room at left ≡ Err refusal
    → StopsBehind f kind step full_at Between room at left refusal
unfolding chain AreAlong
chain_stops_behind {A} {S} f kind step full_at goes_on Between none more refusal zero at left is =
    elim (chosen (nat_eq at 0) (Ok ([], zero, left)) (full_at at) (Err refusal) is) [
      | inl last ↦ let wrong : ◌≡◌ {A = Read (List A × ℕ × S)} (Ok ([], zero, left)) (Err refusal) = last.1 in cc
      | inr past ↦ record {
        places = [];
        last = at;
        rest = left;
        along = refl;
        named = eqb-false at 0 past.0;
        between = none left;
        why = inr (refl, past.1);
      }
    ]
chain_stops_behind {A} {S} f kind step full_at goes_on Between none more refusal (suc room) at left is =
    elim (chosen (nat_eq at 0) (Ok ([], suc room, left)) (step at left >>= rest_of step full_at room) (Err refusal) is) [
      | inl last ↦ let wrong : ◌≡◌ {A = Read (List A × ℕ × S)} (Ok ([], suc room, left)) (Err refusal) = last.1 in cc
      | inr some ↦ elim (bind_err (step at left) (rest_of step full_at room) refusal some.1) [
        | inl stops ↦ record {
          places = [];
          last = at;
          rest = left;
          along = refl;
          named = eqb-false at 0 some.0;
          between = none left;
          why = inl (omega arith, stops);
        }
        | inr goes ↦
            let x = goes.0 in
            let there = goes_on.there at left x.0 x.1 x.2 goes.1 in
            elim (bind_err (chain step full_at room x.1 x.2) (λ rest. Ok (x.0 ∷ rest.0, rest.1, rest.2)) refusal goes.2) [
              | inl stops ↦
                  let behind = chain_stops_behind f kind step full_at goes_on Between none more refusal room x.1 x.2 stops in record {
                    places = at ∷ behind.places;
                    last = behind.last;
                    rest = behind.rest;
                    along = (refl, there.0, subst (λ (next : ℕ). AreAlong f kind next behind.places behind.last) there.1 behind.along);
                    named = behind.named;
                    between = more at left x.0 x.1 x.2 behind.places behind.rest goes.1 behind.between;
                    why = elim behind.why [
                      | inl steps ↦ inl (omega (arith, steps.0), steps.1)
                      | inr past ↦ inr (ap suc past.0, past.1)
                    ];
                  }
              | inr ends ↦ let wrong : ◌≡◌ {A = Read (List A × ℕ × S)} (Ok (x.0 ∷ ends.0.0, ends.0.1, ends.0.2)) (Err refusal) = ends.2 in cc
            ]
      ]
    ]

-- the same with what holds of all that is left on the way
pub record Stops {A S : Type 0} (f : List ℕ) (kind : Kind) (step : Step A S) (full_at : ℕ → Read (List A × ℕ × S)) (Holds : S → Type 0) (room at : ℕ) (refusal : Refusal) : Type 0 where
  pub places : List ℕ
  pub last : ℕ
  pub rest : S
  pub along : AreAlong f kind at places last
  pub named : last ≢ 0
  pub holds : Holds rest
  pub why : ((length places < room) × (step last rest ≡ Err refusal)) ⊎ ((length places ≡ room) × (full_at last ≡ Err refusal))

pub chain_stops : {A S : Type 0} (f : List ℕ) (kind : Kind) (place : A → ℕ) (step : Step A S) (full_at : ℕ → Read (List A × ℕ × S))
    → Follows f kind place step → (Holds : S → Type 0)
    → ((at : ℕ) (left : S) (x : A) (next : ℕ) (rest : S) → step at left ≡ Ok (x, next, rest) → Holds left → Holds rest)
    → (refusal : Refusal) (room at : ℕ) (left : S) → Holds left → chain step full_at room at left ≡ Err refusal
    → Stops f kind step full_at Holds room at refusal
chain_stops {A} {S} f kind place step full_at follows Holds keeps refusal room at left holds is =
    let stops = chain_stops_behind f kind step full_at (goes_along f kind place step follows) (λ before places after. Holds before → Holds after) (λ before here. here)
    (λ at before x next rest places last found behind here. behind (keeps at before x next rest found here)) refusal room at left is in record {
      places = stops.places;
      last = stops.last;
      rest = stops.rest;
      along = stops.along;
      named = stops.named;
      holds = stops.between holds;
      why = stops.why;
    }

-- the room falls by one for each item, and what is left by what each item spends
pub chain_spends : {A S : Type 0} (step : Step A S) (full_at : ℕ → Read (List A × ℕ × S)) (size : A → ℕ) (amount : S → ℕ)
    → ((at : ℕ) (left : S) (x : A) (next : ℕ) (rest : S) → step at left ≡ Ok (x, next, rest) → amount rest + size x ≡ amount left)
    → ((at : ℕ) (y : List A × ℕ × S) → full_at at ≡ Ok y → ⊥)
    → (room at : ℕ) (left : S) (found : List A × ℕ × S) → chain step full_at room at left ≡ Ok found
    → (found.1 + length found.0 ≡ room) × (amount found.2 + sum_by size found.0 ≡ amount left)
unfolding chain
chain_spends {A} {S} step full_at size amount item none zero at left found is =
    elim (chosen (nat_eq at 0) (Ok ([], zero, left)) (full_at at) (Ok found) is) [
      | inl last ↦
          let same : ([], zero, left) ≡ found = ok_injective _ _ last.1 in
          subst (λ (y : List A × ℕ × S). (y.1 + length y.0 ≡ zero) × (amount y.2 + sum_by size y.0 ≡ amount left)) same
          (omega arith, omega arith)
      | inr more ↦ absurd (none at found more.1)
    ]
chain_spends {A} {S} step full_at size amount item none (suc room) at left found is =
    elim (chosen (nat_eq at 0) (Ok ([], suc room, left)) (step at left >>= rest_of step full_at room) (Ok found) is) [
      | inl last ↦
          let same : ([], suc room, left) ≡ found = ok_injective _ _ last.1 in
          subst (λ (y : List A × ℕ × S). (y.1 + length y.0 ≡ suc room) × (amount y.2 + sum_by size y.0 ≡ amount left)) same
          (omega arith, omega arith)
      | inr more ↦
          let parts = bind_ok (step at left) (rest_of step full_at room) found more.1 in
          let here = item at left parts.0.0 parts.0.1 parts.0.2 parts.1 in
          let rest = bind_ok (chain step full_at room parts.0.1 parts.0.2) (λ rest. Ok (parts.0.0 ∷ rest.0, rest.1, rest.2)) found parts.2 in
          let behind = chain_spends step full_at size amount item none room parts.0.1 parts.0.2 rest.0 rest.1 in
          let same : (parts.0.0 ∷ rest.0.0, rest.0.1, rest.0.2) ≡ found = ok_injective _ _ rest.2 in
          subst (λ (y : List A × ℕ × S). (y.1 + length y.0 ≡ suc room) × (amount y.2 + sum_by size y.0 ≡ amount left)) same
          (omega (arith, behind.0), omega (arith, here, behind.1, sum_by-cons size parts.0.0 rest.0.0))
    ]
