-- A range of a stream: its first part, its bytes, its size, and where its parts lie.
use Rattle.std.proofs.Common.{◌≡◌, ◌+◌, ◌-◌, ◌<◌, ◌≤◌, ℕ, zero, suc, List, [], ◌∷◌, ◌++◌, length, get_or, take, refl, sym, ◌∙◌, ap, arith, append-nil, inl, inr}
use Rattle.std.specs.Prelude.{min}
use Rattle.std.proofs.lemmas.List.{take_all, drop_all}
use Rattle.std.proofs.lemmas.List.Concat.{flat_map-append}
use Rattle.std.proofs.lemmas.List.Sums.{sum_by-append, sum_by-cons}
use Rattle.std.proofs.lemmas.Bool.Decides.{leb_tells}
use Rattle.mdf_format.specs.Number.{bytes_at}
use Rattle.mdf_block.proofs.Parts.{bytes_at-bytes_at}
use Rattle.mdf_stream.specs.declared.part.Part.{Part}
use Rattle.mdf_stream.specs.declared.stretch.Stretch.{Stretch}
use Rattle.mdf_stream.specs.Parts.{part_bytes, stream_of, stream_size, IsPartInside, ArePartsInside}
use Rattle.mdf_stream.specs.Stretch.{parts_of, AreJoined, front_len, front_part}
use Rattle.mdf_stream.specs.Range.{part_at, shared, parts_between}
use Rattle.mdf_stream.proofs.Joins.{length-part, bytes_at-first, bytes_at-second, bytes_at-add}
use Rattle.mdf_stream.proofs.Links.{all_more}

part_at_some : (at n : ℕ) → 0 < n → part_at at n ≡ record { at = at; len = n } ∷ []
part_at_some at zero some = absurd (omega (arith, some))
part_at_some at (suc n) some = refl

-- where none of the range lies in the first part
range_past : (part : Part) (parts : List Part) (at len : ℕ) → shared part at len ≡ 0
    → parts_between (part ∷ parts) at len ≡ parts_between parts (at - part.len) len
unfolding parts_between
range_past part parts at len none =
    let same : len - 0 ≡ len = omega arith in
    ap (λ (n : ℕ). part_at (part.at + at) n ++ parts_between parts (at - part.len) (len - n)) none
    ∙ ap (parts_between parts (at - part.len)) same

-- where some of it does
range_here : (part : Part) (parts : List Part) (at len n : ℕ) → shared part at len ≡ n → 0 < n
    → parts_between (part ∷ parts) at len ≡ record { at = part.at + at; len = n } ∷ parts_between parts (at - part.len) (len - n)
unfolding parts_between
range_here part parts at len n is some =
    ap (λ (m : ℕ). part_at (part.at + at) m ++ parts_between parts (at - part.len) (len - m)) is
    ∙ ap (λ (xs : List Part). xs ++ parts_between parts (at - part.len) (len - n)) (part_at_some (part.at + at) n some)

-- the range begins in the part that has its place, and goes on behind it
module _ (place len : ℕ) (d : Stretch) where
  range_next : (at : ℕ) (stretches : List Stretch) (end k : ℕ) → AreJoined at stretches end → at ≤ place → k < length stretches
      → ((j : ℕ) → j < k → (get_or stretches j d).end ≤ place) → place < (get_or stretches k d).end → 0 < len
      → parts_between (parts_of stretches) (place - at) len
      ≡ front_part (get_or stretches k d) place len
      ∷ parts_between (parts_of stretches) (place - at + front_len (get_or stretches k d) place len) (len - front_len (get_or stretches k d) place len)
  unfolding AreJoined
  range_next at [] end k joined first below before behind some = absurd (omega (arith, below))
  range_next at (stretch ∷ stretches) end zero joined first below before behind some =
      let part = stretch.part in
      let parts = parts_of stretches in
      let n = front_len stretch place len in
      let here : shared part (place - at) len ≡ n = omega (arith, joined.0, first, behind) in
      let more : 0 < n = omega (arith, some, behind) in
      let spot : part.at + (place - at) ≡ part.at + (part.len - (stretch.end - place)) = omega (arith, joined.0, first, behind) in
      let over : shared part (place - at + n) (len - n) ≡ 0 = omega (arith, joined.0, first, behind) in
      let same : place - at + n - part.len ≡ place - at - part.len = omega (arith, joined.0, first, behind) in
      range_here part parts (place - at) len n here more
      ∙ ap (λ (spot : ℕ). record { at = spot; len = n } ∷ parts_between parts (place - at - part.len) (len - n)) spot
      ∙ ap (λ (rest : List Part). front_part stretch place len ∷ rest)
      (sym (range_past part parts (place - at + n) (len - n) over ∙ ap (λ (a : ℕ). parts_between parts a (len - n)) same))
  range_next at (stretch ∷ stretches) end (suc k) joined first below before behind some =
      let part = stretch.part in
      let parts = parts_of stretches in
      let next = get_or stretches k d in
      let n = front_len next place len in
      let past = before 0 (omega arith) in
      let none : shared part (place - at) len ≡ 0 = omega (arith, joined.0, past) in
      let begin : place - at - part.len ≡ place - stretch.end = omega (arith, joined.0, past) in
      let over : shared part (place - at + n) (len - n) ≡ 0 = omega (arith, joined.0, first, past) in
      let same : place - at + n - part.len ≡ place - stretch.end + n = omega (arith, joined.0, first, past) in
      range_past part parts (place - at) len none
      ∙ ap (λ (a : ℕ). parts_between parts a len) begin
      ∙ range_next stretch.end stretches end k joined.2 past (omega (arith, below)) (λ j less. before (suc j) (omega (arith, less))) behind some
      ∙ ap (λ (rest : List Part). front_part next place len ∷ rest)
      (sym (range_past part parts (place - at + n) (len - n) over ∙ ap (λ (a : ℕ). parts_between parts a (len - n)) same))

  -- the same, in the whole stream
  pub range_first : (stretches : List Stretch) (end k : ℕ) → AreJoined 0 stretches end → k < length stretches
      → ((j : ℕ) → j < k → (get_or stretches j d).end ≤ place) → place < (get_or stretches k d).end → 0 < len
      → parts_between (parts_of stretches) place len
      ≡ front_part (get_or stretches k d) place len
      ∷ parts_between (parts_of stretches) (place + front_len (get_or stretches k d) place len) (len - front_len (get_or stretches k d) place len)
  range_first stretches end k joined below before behind some =
      let n = front_len (get_or stretches k d) place len in
      let same : place ≡ place - 0 = omega arith in
      let back : place - 0 + n ≡ place + n = omega arith in
      ap (λ (a : ℕ). parts_between (parts_of stretches) a len) same
      ∙ range_next 0 stretches end k joined (omega arith) below before behind some
      ∙ ap (λ (a : ℕ). front_part (get_or stretches k d) place len ∷ parts_between (parts_of stretches) a (len - n)) back

-- the bytes of one part
stream_part_at : (f : List ℕ) (at n : ℕ) → stream_of f (part_at at n) ≡ bytes_at n f at
stream_part_at f at zero = refl
stream_part_at f at (suc n) = append-nil (bytes_at (suc n) f at)

-- the bytes of a part and of what is behind it
bytes_joined : (f : List ℕ) (part : Part) (rest : List ℕ) (at len : ℕ) → IsPartInside (length f) part
    → bytes_at len (part_bytes f part ++ rest) at
    ≡ bytes_at (shared part at len) f (part.at + at) ++ bytes_at (len - shared part at len) rest (at - part.len)
bytes_joined f part rest at len inside =
    let here = part_bytes f part in
    let long = length-part f part inside in
    let n = shared part at len in
    elim (leb_tells part.len at) [
      | inl past ↦
          let none : shared part at len ≡ 0 = omega (arith, past.1) in
          let spot : at - length here ≡ at - part.len = omega (arith, long) in
          let whole : len - 0 ≡ len = omega arith in
          bytes_at-second len at here rest (omega (arith, long, past.1))
          ∙ ap (bytes_at len rest) spot
          ∙ sym (ap (λ (m : ℕ). bytes_at m f (part.at + at) ++ bytes_at (len - m) rest (at - part.len)) none
          ∙ ap (λ (m : ℕ). bytes_at m rest (at - part.len)) whole)
      | inr within ↦
          let whole : len ≡ n + (len - n) = omega arith in
          let behind : bytes_at (len - n) (here ++ rest) (at + n) ≡ bytes_at (len - n) rest (at - part.len) =
          elim (leb_tells (part.len - at) len) [
            | inl over ↦
                let spot : at + n - length here ≡ at - part.len = omega (arith, long, within.1, over.1) in
                bytes_at-second (len - n) (at + n) here rest (omega (arith, long, within.1, over.1)) ∙ ap (bytes_at (len - n) rest) spot
            | inr under ↦
                let none : len - n ≡ 0 = omega (arith, under.1) in
                ap (λ (m : ℕ). bytes_at m (here ++ rest) (at + n)) none ∙ sym (ap (λ (m : ℕ). bytes_at m rest (at - part.len)) none)
          ] in
          ap (λ (m : ℕ). bytes_at m (here ++ rest) at) whole
          ∙ bytes_at-add n (len - n) (here ++ rest) at
          ∙ ap (λ (xs : List ℕ). xs ++ bytes_at (len - n) (here ++ rest) (at + n))
          (bytes_at-first n at here rest (omega (arith, long, within.1))
          ∙ bytes_at-bytes_at n part.len at part.at f (omega (arith, within.1)))
          ∙ ap (λ (xs : List ℕ). bytes_at n f (part.at + at) ++ xs) behind
    ]

-- the parts of a range have its bytes
pub range_bytes : (f : List ℕ) (parts : List Part) (at len : ℕ) → ArePartsInside (length f) parts
    → stream_of f (parts_between parts at len) ≡ bytes_at len (stream_of f parts) at
unfolding parts_between
range_bytes f [] at len inside =
    sym (ap (take len) (drop_all at [] (omega arith)) ∙ take_all len [] (omega arith))
range_bytes f (part ∷ parts) at len inside =
    let n = shared part at len in
    let rest = parts_between parts (at - part.len) (len - n) in
    flat_map-append (part_bytes f) (part_at (part.at + at) n) rest
    ∙ ap (λ (xs : List ℕ). xs ++ stream_of f rest) (stream_part_at f (part.at + at) n)
    ∙ ap (λ (xs : List ℕ). bytes_at n f (part.at + at) ++ xs) (range_bytes f parts (at - part.len) (len - n) inside.1)
    ∙ sym (bytes_joined f part (stream_of f parts) at len inside.0)

-- and as many as the stream has there
size_part_at : (at n : ℕ) → stream_size (part_at at n) ≡ n
size_part_at at zero = refl
size_part_at at (suc n) = sum_by-cons (λ (p : Part). p.len) (record { at = at; len = suc n }) [] ∙ omega arith

pub range_size : (parts : List Part) (at len : ℕ) → stream_size (parts_between parts at len) ≡ min (stream_size parts - at) len
unfolding parts_between
range_size [] at len = let none : 0 ≡ min (0 - at) len = omega arith in none
range_size (part ∷ parts) at len =
    let n = shared part at len in
    sum_by-append (λ (p : Part). p.len) (part_at (part.at + at) n) (parts_between parts (at - part.len) (len - n))
    ∙ omega (
      arith,
      size_part_at (part.at + at) n,
      range_size parts (at - part.len) (len - n),
      sum_by-cons (λ (p : Part). p.len) part parts,
    )

-- its parts lie where those of the stream do
part_at_inside : (size at n : ℕ) → (0 < n → at + n ≤ size) → ArePartsInside size (part_at at n)
part_at_inside size at zero some = tt
part_at_inside size at (suc n) some = (some (omega arith), tt)

pub range_inside : (size : ℕ) (parts : List Part) (at len : ℕ) → ArePartsInside size parts → ArePartsInside size (parts_between parts at len)
unfolding parts_between
range_inside size [] at len inside = tt
range_inside size (part ∷ parts) at len inside =
    let n = shared part at len in
    all_more (IsPartInside size) (part_at (part.at + at) n) (parts_between parts (at - part.len) (len - n))
    (part_at_inside size (part.at + at) n (λ some. omega (arith, some, inside.0)))
    (range_inside size parts (at - part.len) (len - n) inside.1)
