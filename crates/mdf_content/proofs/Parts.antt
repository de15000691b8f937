-- A range of a stream at the end of a view, part by part.
use Rattle.std.proofs.Common.{◌≡◌, ◌+◌, ◌-◌, ◌≤◌, ℕ, List, [], ◌∷◌, ◌++◌, refl, sym, ◌∙◌, ap, arith, append-nil, append_assoc}
use Rattle.mdf_stream.specs.declared.part.Part.{Part}
use Rattle.mdf_stream.specs.Range.{part_at, parts_between, shared}

-- a range of no bytes has no parts
range_none : (parts : List Part) (at len : ℕ) → len ≡ 0 → parts_between parts at len ≡ []
unfolding parts_between
range_none [] at len none = refl
range_none (part ∷ parts) at len none =
    let here : shared part at len ≡ 0 = omega (arith, none) in
    let rest : len - 0 ≡ 0 = omega (arith, none) in
    ap (λ (n : ℕ). part_at (part.at + at) n ++ parts_between parts (at - part.len) (len - n)) here
    ∙ range_none parts (at - part.len) (len - 0) rest

-- nothing more is to be added
pub range_done : (parts all whole : List Part) (at left : ℕ) → all ++ parts_between parts at left ≡ whole → left ≤ 0 → all ≡ whole
range_done parts all whole at left is done =
    sym (append-nil all) ∙ ap (λ (rest : List Part). all ++ rest) (sym (range_none parts at left (omega (arith, done)))) ∙ is

-- one part more is
pub range_more : (parts all next whole : List Part) (part : Part) (at left : ℕ) → all ++ parts_between parts at left ≡ whole
    → parts_between parts at left ≡ part ∷ parts_between parts (at + part.len) (left - part.len) → next ≡ all ++ part ∷ []
    → next ++ parts_between parts (at + part.len) (left - part.len) ≡ whole
range_more parts all next whole part at left is first added =
    let rest = parts_between parts (at + part.len) (left - part.len) in
    ap (λ (front : List Part). front ++ rest) added
    ∙ append_assoc all (part ∷ []) rest
    ∙ ap (λ (more : List Part). all ++ more) (sym first)
    ∙ is
