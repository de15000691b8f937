-- The bytes of a stream are moved to the front of the file, where each part stands at its place in the stream or behind it.
use Rattle.std.proofs.Common.{◌≡◌, ◌+◌, ◌-◌, ◌≤◌, ◌<◌, ℕ, zero, suc, List, [], ◌∷◌, ◌++◌, length, get_or, take, drop, refl, sym, ◌∙◌, ap, subst, arith, inl, inr, ◌⊎◌}
use Rattle.std.proofs.lemmas.List.{drop-append-le, drop-take}
use Rattle.std.proofs.lemmas.List.Sums.{sum_by-cons}
use Rattle.std.proofs.lemmas.Bool.Decides.{leb_tells}
use Rattle.std.proofs.Math.Seq.{drop-append-add, drop-drop, take-add}
use Rattle.mdf_format.specs.Number.{bytes_at}
use Rattle.mdf_stream.specs.declared.part.Part.{Part}
use Rattle.mdf_stream.specs.declared.stretch.Stretch.{Stretch}
use Rattle.mdf_stream.specs.Stretch.{parts_of, AreJoined}
use Rattle.mdf_stream.specs.Range.{part_at, shared, parts_between}
use Rattle.mdf_stream.specs.Parts.{AreBehind, part_bytes, stream_of, stream_size, IsPartInside, ArePartsInside}
use Rattle.mdf_stream.proofs.Joins.{length-part}

-- no part
pub none_behind : (parts : List Part) → parts ≡ [] → AreBehind 0 parts
unfolding AreBehind
none_behind [] none = tt
none_behind (part ∷ parts) none = cc

-- one more part behind the stream so far
pub behind_more : (place : ℕ) (parts : List Part) (more : Part) → AreBehind place parts → place + stream_size parts ≤ more.at
    → AreBehind place (parts ++ more ∷ [])
unfolding AreBehind
behind_more place [] more behind after = (omega (arith, after), tt)
behind_more place (part ∷ parts) more behind after =
    (behind.0, behind_more (place + part.len) parts more behind.1 (omega (arith, after, sum_by-cons (λ (p : Part). p.len) part parts)))

-- the first part of a range, of which so many bytes lie in this part
shared_behind : (place at n : ℕ) (part first : Part) (others rest : List Part) → place ≤ part.at
    → part_at (part.at + at) n ++ others ≡ first ∷ rest → (others ≡ first ∷ rest) ⊎ (place + at ≤ first.at)
shared_behind place at zero part first others rest behind is = inl is
shared_behind place at (suc n) part first others rest behind is =
    let same : part.at + at ≡ first.at = cc in
    inr (omega (arith, same, behind))

-- the first part of a range stands at its place in the stream or behind it, where all parts do
pub range_behind : (place : ℕ) (parts : List Part) (at len : ℕ) (first : Part) (rest : List Part) → AreBehind place parts
    → parts_between parts at len ≡ first ∷ rest → place + at ≤ first.at
unfolding AreBehind parts_between
range_behind place [] at len first rest behind is = cc
range_behind place (part ∷ parts) at len first rest behind is =
    let n = shared part at len in
    elim (shared_behind place at n part first (parts_between parts (at - part.len) (len - n)) rest behind.0 is) [
      | inl later ↦ omega (arith, range_behind (place + part.len) parts (at - part.len) (len - n) first rest behind.1 later)
      | inr here ↦ here
    ]

-- the stream is no longer than the file
pub fits : (size place : ℕ) (parts : List Part) → place ≤ size → AreBehind place parts → ArePartsInside size parts → place + stream_size parts ≤ size
unfolding AreBehind
fits size place [] most behind inside = omega (arith, most)
fits size place (part ∷ parts) most behind inside =
    let rest = fits size (place + part.len) parts (omega (arith, behind.0, inside.0)) behind.1 inside.1 in
    omega (arith, rest, sum_by-cons (λ (p : Part). p.len) part parts)

-- a stream from a place behind its first part, and from one in that part
drop_past : (f : List ℕ) (part : Part) (rest : List ℕ) (at : ℕ) → IsPartInside (length f) part → part.len ≤ at
    → drop at (part_bytes f part ++ rest) ≡ drop (at - part.len) rest
drop_past f part rest at inside past =
    let whole : at ≡ length (part_bytes f part) + (at - part.len) = omega (arith, length-part f part inside, past) in
    ap (λ (n : ℕ). drop n (part_bytes f part ++ rest)) whole ∙ drop-append-add (part_bytes f part) rest (at - part.len)

drop_within : (f : List ℕ) (part : Part) (rest : List ℕ) (at : ℕ) → IsPartInside (length f) part → at ≤ part.len
    → drop at (part_bytes f part ++ rest) ≡ take (part.len - at) (drop (part.at + at) f) ++ rest
drop_within f part rest at inside within =
    let whole : part.len ≡ at + (part.len - at) = omega (arith, within) in
    drop-append-le at (part_bytes f part) rest (omega (arith, length-part f part inside, within))
    ∙ ap (λ (n : ℕ). drop at (take n (drop part.at f)) ++ rest) whole
    ∙ ap (λ (xs : List ℕ). xs ++ rest) (drop-take at (part.len - at) (drop part.at f))
    ∙ ap (λ (xs : List ℕ). take (part.len - at) xs ++ rest) (drop-drop at part.at f)

-- two files that are the same from a place on
module _ (xs ys : List ℕ) (from : ℕ) (same : drop from xs ≡ drop from ys) where
  later : (at : ℕ) → from ≤ at → drop at xs ≡ drop at ys
  later at behind =
      let whole : at ≡ from + (at - from) = omega (arith, behind) in
      ap (λ (n : ℕ). drop n xs) whole
      ∙ sym (drop-drop (at - from) from xs)
      ∙ ap (drop (at - from)) same
      ∙ drop-drop (at - from) from ys
      ∙ ap (λ (n : ℕ). drop n ys) (sym whole)

  -- have the same stream from there on
  pub same_rest : (place : ℕ) (parts : List Part) (at : ℕ) → from ≤ place + at → AreBehind place parts → ArePartsInside (length xs) parts
      → ArePartsInside (length ys) parts → drop at (stream_of xs parts) ≡ drop at (stream_of ys parts)
  unfolding AreBehind
  same_rest place [] at below behind inside other = refl
  same_rest place (part ∷ parts) at below behind inside other =
      elim (leb_tells part.len at) [
        | inl past ↦
            drop_past xs part (stream_of xs parts) at inside.0 past.1
            ∙ same_rest (place + part.len) parts (at - part.len) (omega (arith, below, past.1)) behind.1 inside.1 other.1
            ∙ sym (drop_past ys part (stream_of ys parts) at other.0 past.1)
        | inr within ↦
            let less : at ≤ part.len = omega (arith, within.1) in
            drop_within xs part (stream_of xs parts) at inside.0 less
            ∙ ap (λ (zs : List ℕ). take (part.len - at) zs ++ stream_of xs parts) (later (part.at + at) (omega (arith, below, behind.0)))
            ∙ ap (λ (zs : List ℕ). take (part.len - at) (drop (part.at + at) ys) ++ zs)
            (same_rest (place + part.len) parts 0 (omega (arith, below, less)) behind.1 inside.1 other.1)
            ∙ sym (drop_within ys part (stream_of ys parts) at other.0 less)
      ]

-- parts with their places in the stream: each ends there no further on than in the file, so it begins there no further on
abbrev EndsBehind : Stretch → Type 0
EndsBehind stretch = stretch.end ≤ stretch.part.at + stretch.part.len

module _ (d : Stretch) where
  pub all_behind : (at : ℕ) (stretches : List Stretch) (end : ℕ) → AreJoined at stretches end
      → ((k : ℕ) → k < length stretches → EndsBehind (get_or stretches k d)) → AreBehind at (parts_of stretches)
  unfolding AreJoined AreBehind
  all_behind at [] end joined each = tt
  all_behind at (stretch ∷ stretches) end joined each =
      let first = each 0 (omega arith) in (
        omega (arith, joined.0, first),
        subst (λ (n : ℕ). AreBehind n (parts_of stretches)) joined.0
            (all_behind stretch.end stretches end joined.2 (λ k less. each (suc k) (omega (arith, less)))),
      )

  pub each_behind : (at : ℕ) (stretches : List Stretch) (end k : ℕ) → AreJoined at stretches end → AreBehind at (parts_of stretches)
      → k < length stretches → EndsBehind (get_or stretches k d)
  unfolding AreJoined AreBehind
  each_behind at [] end k joined behind below = absurd (omega (arith, below))
  each_behind at (stretch ∷ stretches) end zero joined behind below = omega (arith, joined.0, behind.0)
  each_behind at (stretch ∷ stretches) end (suc k) joined behind below =
      let rest : AreBehind stretch.end (parts_of stretches) = subst (λ (n : ℕ). AreBehind n (parts_of stretches)) (sym joined.0) behind.1 in
      each_behind stretch.end stretches end k joined.2 rest (omega (arith, below))

-- so many bytes are moved: they are those of the stream, and behind them the file is as it was
pub record Moves (file : List ℕ) (parts : List Part) (done : ℕ) (bytes : List ℕ) : Type 0 where
  pub front : take done bytes ≡ take done (stream_of file parts)
  pub rest : drop done bytes ≡ drop done file
  pub len : length bytes ≡ length file

module _ (file : List ℕ) (parts : List Part) (inside : ArePartsInside (length file) parts) (behind : AreBehind 0 parts) where
  -- the parts lie inside the bytes so far
  pub still_inside : (done : ℕ) (bytes : List ℕ) → Moves file parts done bytes → ArePartsInside (length bytes) parts
  still_inside done bytes moves = subst (λ (n : ℕ). ArePartsInside n parts) (sym moves.len) inside

  -- some more are moved
  pub goes_on : (done n : ℕ) (bytes next : List ℕ) → take (done + n) next ≡ take done bytes ++ bytes_at n (stream_of bytes parts) done
      → drop (done + n) next ≡ drop (done + n) bytes → length next ≡ length bytes
      → Moves file parts done bytes → Moves file parts (done + n) next
  goes_on done n bytes next front rest long moves = record {
    front =
        front
        ∙ ap (λ (xs : List ℕ). xs ++ bytes_at n (stream_of bytes parts) done) moves.front
        ∙ ap (λ (xs : List ℕ). take done (stream_of file parts) ++ take n xs)
        (same_rest bytes file done moves.rest 0 parts done (omega arith) behind (still_inside done bytes moves) inside)
        ∙ sym (take-add done n (stream_of file parts));
    rest = rest ∙ later bytes file done moves.rest (done + n) (omega arith);
    len = long ∙ moves.len;
  }
