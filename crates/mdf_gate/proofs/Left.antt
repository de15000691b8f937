-- What a crash may leave where all was kept and then one range was written.
use Rattle.std.proofs.Common.{◌≡◌, ◌⊎◌, inl, inr, ℕ, suc, ◌+◌, ◌≤◌, ◌<◌, List, [], ◌∷◌, ◌++◌, length, take, drop, get_or, refl, sym, ◌∙◌, ap, arith, length-append, length-drop, take-append-drop, append_assoc}
use Rattle.std.proofs.lemmas.List.{same_lists, get_or_default, get_or-drop, get_or-take, get_or_append_left, get_or-append-add, length-take-le, drop_more, take_at, drop_at}
use Rattle.mdf_format.specs.Number.{patched}
use Rattle.mdf_gate.specs.Images.{IsTorn, IsGrown, IsButGate}

-- behind the end: the file with something behind it
pub left_behind : (kept payload file : List ℕ) → IsTorn (length kept) (length payload) kept file → IsGrown kept payload file
left_behind kept payload file left = (
  (drop (length kept) file, ap (λ (front : List ℕ). front ++ drop (length kept) file) (sym front) ∙ take-append-drop (length kept) file),
  omega (arith, left.not_longer),
)
  where
    long : length (take (length kept) file) ≡ length kept
    long = length-take-le (length kept) file left.not_shorter

    front : take (length kept) file ≡ kept
    front = same_lists (take (length kept) file) kept long (λ place d below.
        let within : place < length kept = omega (arith, below, long) in
        get_or-take (length kept) file place d within
        ∙ get_or_default file place d 0 (omega (arith, within, left.not_shorter))
        ∙ left.kept place within (inl within, tt)
        ∙ get_or_default kept place 0 d within)

-- one byte: the file but for that byte
pub left_one : (front : List ℕ) (gate : ℕ) (rest file : List ℕ) → IsTorn (length front) 1 (front ++ gate ∷ rest) file → IsButGate front rest file
left_one front gate rest file left = (
  get_or file at 0,
  sym (take-append-drop at file) ∙ ap (λ (part : List ℕ). part ++ drop at file) before
      ∙ ap (λ (part : List ℕ). front ++ part) (drop_more file at 0 (omega (arith, long)) ∙ ap (λ (part : List ℕ). get_or file at 0 ∷ part) behind),
)
  where
    at : ℕ
    at = length front

    kept : List ℕ
    kept = front ++ gate ∷ rest

    long : length file ≡ length front + length rest + 1
    long = omega (arith, left.not_shorter, left.not_longer, length-append front (gate ∷ rest))

    in_kept : length kept ≡ length front + length rest + 1
    in_kept = omega (arith, length-append front (gate ∷ rest))

    same : (place : ℕ) → place < length kept → (place < at) ⊎ (at + 1 ≤ place) → get_or file place 0 ≡ get_or kept place 0
    same place within other = left.kept place within (other, tt)

    before : take at file ≡ front
    before = same_lists (take at file) front (length-take-le at file (omega (arith, long))) (λ place d below.
        let within : place < at = omega (arith, below, length-take-le at file (omega (arith, long))) in
        get_or-take at file place d within
        ∙ get_or_default file place d 0 (omega (arith, within, long))
        ∙ same place (omega (arith, within, in_kept)) (inl within)
        ∙ get_or_append_left front (gate ∷ rest) 0 place within
        ∙ get_or_default front place 0 d within)

    next : (place : ℕ) → get_or (gate ∷ rest) (place + 1) 0 ≡ get_or rest place 0
    next place = let e : place + 1 ≡ suc place = omega arith in ap (λ (p : ℕ). get_or (gate ∷ rest) p 0) e

    behind : drop (at + 1) file ≡ rest
    behind = same_lists (drop (at + 1) file) rest (omega (arith, length-drop (at + 1) file, long)) (λ place d below.
        let within : place < length rest = omega (arith, below, length-drop (at + 1) file, long) in
        get_or-drop (at + 1) file place d
        ∙ get_or_default file (at + 1 + place) d 0 (omega (arith, within, long))
        ∙ same (at + 1 + place) (omega (arith, within, in_kept)) (inr (omega arith))
        ∙ ap (λ (p : ℕ). get_or kept p 0) (omega arith)
        ∙ get_or-append-add front (gate ∷ rest) (place + 1) 0
        ∙ next place
        ∙ get_or_default rest place 0 d within)

-- what the two writes make of the content
pub patched_gate : (front : List ℕ) (gate byte : ℕ) (rest : List ℕ) → patched (length front) (byte ∷ []) (front ++ gate ∷ rest) ≡ front ++ byte ∷ rest
patched_gate front gate byte rest =
    let before : take (length front) (front ++ gate ∷ rest) ≡ front = take_at front (gate ∷ rest) (length front) refl in
    let shift : front ++ gate ∷ rest ≡ (front ++ gate ∷ []) ++ rest = sym (append_assoc front (gate ∷ []) rest) in
    let behind : drop (length front + 1) (front ++ gate ∷ rest) ≡ rest =
    ap (drop (length front + 1)) shift ∙ drop_at (front ++ gate ∷ []) rest (length front + 1) (omega (arith, length-append front (gate ∷ []))) in
    ap (λ (part : List ℕ). part ++ (byte ∷ []) ++ drop (length front + 1) (front ++ gate ∷ rest)) before
    ∙ ap (λ (part : List ℕ). front ++ (byte ∷ []) ++ part) behind ∙ append_assoc front (byte ∷ []) rest
