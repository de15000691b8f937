-- Chunks that stand one behind the other.
use Rattle.std.proofs.Common.{◌≡◌, ◌≢◌, ◌+◌, ◌-◌, ◌<◌, ◌≤◌, ℕ, zero, suc, List, [], ◌∷◌, ◌++◌, length, get_or, take, drop, Some, refl, sym, ◌∙◌, ap, subst, inl, inr, arith, append-nil, leb, leb-true, leb-false, true, false, length-append, length-take, take-append-drop}
use Rattle.std.specs.Prelude.{slice_get}
use Rattle.std.specs.Arc.{arc_value}
use Rattle.std.proofs.lemmas.List.{take_more, drop_more, take-take, take-map, get_or-map, get_or-take, get_or_at, get_or_append_left, drop-append-le, length-map, map-append}
use Rattle.std.proofs.lemmas.List.Concat.{flat_map-append}
use Rattle.std.proofs.lemmas.Option.{slice_get-get_or}
use Rattle.std.proofs.Math.Seq.{take_all, drop-append-add, take-append-le}
use Rattle.std.specs.List.Sorted.{IsNonDecreasingBy, IsPartitionPoint, IsPartitionedBy}
use Rattle.std.proofs.lemmas.List.Sorted.{IsPartitionedBy-leb}
use Rattle.std.proofs.lemmas.Bool.{cases_lt}
use mathlib.Core.List.{IsPrefix}
use Rattle.mdf_layout.specs.Chunked.{joined, start_of, BeginsNone}
use Rattle.mdf_layout.specs.Parts.{chunks_of, AreParts}
use Rattle.mdf_layout.specs.declared.sample.Sample.{Sample}
use Rattle.mdf_layout.specs.declared.chunks.Part.{Part}

-- the samples of chunks and of more chunks
pub joined-append : (chunks more : List (List Sample)) → joined (chunks ++ more) ≡ joined chunks ++ joined more
joined-append chunks more = flat_map-append (λ (chunk : List Sample). chunk) chunks more

-- a chunk more at the end
pub joined_more : (chunks : List (List Sample)) (chunk : List Sample) → joined (chunks ++ chunk ∷ []) ≡ joined chunks ++ chunk
joined_more chunks chunk = joined-append chunks (chunk ∷ []) ∙ ap (λ (xs : List Sample). joined chunks ++ xs) (append-nil chunk)

-- the samples before chunk k, its own, and those behind it
pub joined_at : (chunks : List (List Sample)) (k : ℕ) (d : List Sample) → k < length chunks
    → joined chunks ≡ joined (take k chunks) ++ (get_or chunks k d ++ joined (drop (k + 1) chunks))
joined_at chunks k d within =
    ap joined (sym (take-append-drop k chunks)) ∙ joined-append (take k chunks) (drop k chunks)
    ∙ ap (λ (rest : List (List Sample)). joined (take k chunks) ++ joined rest) (drop_more chunks k d within)

-- where the next chunk begins
pub start_more : (chunks : List (List Sample)) (k : ℕ) (d : List Sample) → k < length chunks
    → start_of chunks (k + 1) ≡ start_of chunks k + length (get_or chunks k d)
start_more chunks k d within =
    ap length (ap joined (take_more chunks k d within) ∙ joined_more (take k chunks) (get_or chunks k d))
    ∙ length-append (joined (take k chunks)) (get_or chunks k d)

-- behind the last chunk
pub start_past : (chunks : List (List Sample)) (k : ℕ) → length chunks ≤ k → start_of chunks k ≡ length (joined chunks)
start_past chunks k past = ap (λ (xs : List (List Sample)). length (joined xs)) (take_all k chunks past)

-- the chunks begin in their order
pub starts_rise : (chunks : List (List Sample)) (j k : ℕ) → j ≤ k → start_of chunks j ≤ start_of chunks k
starts_rise chunks j k less =
    let parts = ap joined (sym (take-append-drop j (take k chunks))) ∙ joined-append (take j (take k chunks)) (drop j (take k chunks)) in
    let long = ap length parts ∙ length-append (joined (take j (take k chunks))) (joined (drop j (take k chunks))) in
    let same = ap (λ (xs : List (List Sample)). length (joined xs)) (take-take j k chunks less) in
    omega (arith, long, same)

-- what stands from a place inside chunk k on
pub drop_inside : (chunks : List (List Sample)) (k at : ℕ) (d : List Sample) → k < length chunks → start_of chunks k ≤ at → at ≤ start_of chunks (k + 1)
    → drop at (joined chunks) ≡ drop (at - start_of chunks k) (get_or chunks k d) ++ joined (drop (k + 1) chunks)
drop_inside chunks k at d within from to =
    let place : at ≡ start_of chunks k + (at - start_of chunks k) = omega (arith, from) in
    ap (drop at) (joined_at chunks k d within)
    ∙ ap (λ (n : ℕ). drop n (joined (take k chunks) ++ (get_or chunks k d ++ joined (drop (k + 1) chunks)))) place
    ∙ drop-append-add (joined (take k chunks)) (get_or chunks k d ++ joined (drop (k + 1) chunks)) (at - start_of chunks k)
    ∙ drop-append-le (at - start_of chunks k) (get_or chunks k d) (joined (drop (k + 1) chunks)) (omega (arith, from, to, start_more chunks k d within))

-- so many chunks begin at or before a place, and the others behind it
module _ (chunks : List (List Sample)) (at count : ℕ)
    (before : (k : ℕ) → k < count → start_of chunks k ≤ at) (later : (k : ℕ) → count ≤ k → k < length chunks → at < start_of chunks k) where
  pub ends_behind : at < length (joined chunks) → at < start_of chunks count
  ends_behind within = elim (cases_lt count (length chunks)) [
    | inl less ↦ later count (omega arith) less
    | inr past ↦ omega (arith, within, start_past chunks count past)
  ]

  pub some_begins : at < length (joined chunks) → 1 ≤ count
  some_begins within = elim (cases_lt 0 count) [
    | inl less ↦ omega (arith, less)
    | inr none ↦
        let nothing : count ≡ 0 = omega (arith, none) in
        absurd (omega (arith, ends_behind within, ap (start_of chunks) nothing))
  ]

  pub none_begins : (k : ℕ) → count ≡ k + 1 → start_of chunks k ≢ at → BeginsNone chunks at
  none_begins k is other j below same = elim (cases_lt j count) [
    | inl less ↦ other (omega (arith, same, before k (omega (arith, is)), starts_rise chunks j k (omega (arith, less, is))))
    | inr past ↦ absurd (omega (arith, same, later j past below))
  ]

  pub nothing_begins : count ≡ 0 → BeginsNone chunks at
  nothing_begins none j below same = absurd (omega (arith, same, later j (omega (arith, none)) below))

-- the first item behind others
head_of_drop : {A : Type 0} (i : ℕ) (xs : List A) → slice_get (drop i xs) 0 ≡ slice_get xs i
head_of_drop zero xs = refl
head_of_drop (suc i) [] = refl
head_of_drop (suc i) (x ∷ xs) = head_of_drop i xs

-- the first item of a piece of a list
pub first_of_piece : {A : Type 0} (piece xs : List A) (i : ℕ) → IsPrefix piece (drop i xs) → 1 ≤ length piece → slice_get piece 0 ≡ slice_get xs i
first_of_piece [] xs i begins some = absurd (omega (arith, some))
first_of_piece (x ∷ piece) xs i begins some = ap (λ ys. slice_get ys 0) begins.1 ∙ head_of_drop i xs

-- a part of these
module _ (parts : List Part) (len k : ℕ) (part : Part) (are : AreParts parts len) (below : k < length parts) (is : part ≡ get_or parts k part) where
  abbrev chunk : List Sample
  chunk = arc_value part.chunk

  abbrev chunks : List (List Sample)
  chunks = chunks_of parts

  within : k < length chunks
  within = omega (arith, below, length-map parts (λ (part : Part). arc_value part.chunk))

  pub part_start : part.start ≡ start_of chunks k
  part_start = ap (λ (part : Part). part.start) is ∙ are.starts k part below

  part_chunk : get_or chunks k chunk ≡ chunk
  part_chunk = get_or-map (λ (part : Part). arc_value part.chunk) parts k part chunk below ∙ sym (ap (λ (part : Part). arc_value part.chunk) is)

  pub part_end : start_of chunks (k + 1) ≡ part.start + length chunk
  part_end = start_more chunks k chunk within ∙ ap (λ n. n + length (get_or chunks k chunk)) (sym part_start) ∙ ap (λ xs. part.start + length xs) part_chunk

  pub part_is : slice_get chunks k ≡ Some chunk
  part_is = slice_get-get_or chunks k chunk within ∙ ap Some part_chunk

  pub part_begins : (at : ℕ) → part.start ≤ at → at ≤ start_of chunks (k + 1) → IsPrefix (drop (at - part.start) chunk) (drop at (joined chunks))
  part_begins at from to = (
    joined (drop (k + 1) chunks),
    sym (drop_inside chunks k at chunk within (omega (arith, from, part_start)) to
        ∙ ap (λ n. drop (at - n) (get_or chunks k chunk) ++ joined (drop (k + 1) chunks)) (sym part_start)
        ∙ ap (λ xs. drop (at - part.start) xs ++ joined (drop (k + 1) chunks)) part_chunk),
  )

-- of those that begin at or before a place the last one has the sample there
module _ (parts : List Part) (len at count : ℕ) (part : Part) (chunks : List (List Sample)) (are : AreParts parts len) (same : chunks_of parts ≡ chunks)
    (is : part ≡ get_or parts (count - 1) part) (bound : count ≤ length chunks) (before : (k : ℕ) → k < count → start_of chunks k ≤ at)
    (later : (k : ℕ) → count ≤ k → k < length chunks → at < start_of chunks k) (there : at < length (joined chunks)) where
  found_some : 1 ≤ count
  found_some = some_begins chunks at count before later there

  found_within : count - 1 < length parts
  found_within = omega (arith, found_some, bound, ap length same, length-map parts (λ (part : Part). arc_value part.chunk))

  found_next : count - 1 + 1 ≡ count
  found_next = omega (arith, found_some)

  found_start : part.start ≡ start_of chunks (count - 1)
  found_start = part_start parts len (count - 1) part are found_within is ∙ ap (λ (xs : List (List Sample)). start_of xs (count - 1)) same

  found_stop : start_of (chunks_of parts) (count - 1 + 1) ≡ part.start + length (arc_value part.chunk)
  found_stop = part_end parts len (count - 1) part are found_within is

  found_from : part.start ≤ at
  found_from = omega (arith, found_start, before (count - 1) (omega (arith, found_some)))

  pub found_end : at - part.start < length (arc_value part.chunk)
  found_end = omega (
    arith,
    found_from,
    found_stop,
    ap (λ (xs : List (List Sample)). start_of xs (count - 1 + 1)) same,
    ap (start_of chunks) found_next,
    ends_behind chunks at count before later there,
  )

  pub found_begins : IsPrefix (drop (at - part.start) (arc_value part.chunk)) (drop at (joined chunks))
  found_begins =
      subst (λ (xs : List (List Sample)). IsPrefix (drop (at - part.start) (arc_value part.chunk)) (drop at (joined xs))) same
      (part_begins parts len (count - 1) part are found_within is at found_from (omega (arith, found_from, found_end, found_stop)))

-- The parts begin in order, and those that begin at or before a place come first.
parts_rise : (parts : List Part) (len : ℕ) → AreParts parts len → IsNonDecreasingBy (λ (part : Part). part.start) parts
parts_rise parts len are i j d less below =
    omega (arith, are.starts i d (omega (arith, less, below)), are.starts j d below, starts_rise (chunks_of parts) i j less)

pub parts_parted : (parts : List Part) (len at : ℕ) → AreParts parts len → IsPartitionedBy (λ (part : Part). leb part.start at) parts
parts_parted parts len at are = IsPartitionedBy-leb (λ (part : Part). part.start) parts at (parts_rise parts len are)

some_part : (parts : List Part) (k : ℕ) → k < length parts → Part
some_part [] k below = absurd (omega (arith, below))
some_part (part ∷ parts) k below = part

module _ (parts : List Part) (len at count : ℕ) (are : AreParts parts len) (point : IsPartitionPoint (λ (part : Part). leb part.start at ≡ true) (λ (part : Part). leb part.start at ≡ false) parts count) where
  pub starts_before : count ≤ length parts → (k : ℕ) → k < count → start_of (chunks_of parts) k ≤ at
  starts_before bound k less =
      let d = some_part parts k (omega (arith, bound, less)) in
      omega (arith, leb-true _ _ (point.0 k d (omega arith) less), are.starts k d (omega (arith, bound, less)))

  pub starts_later : (k : ℕ) → count ≤ k → k < length parts → at < start_of (chunks_of parts) k
  starts_later k past below =
      let d = some_part parts k below in
      omega (arith, leb-false _ _ (point.1 k d past below), are.starts k d below)

-- chunks begin where they did, whatever stands behind them
starts_stay : (chunks more : List (List Sample)) (k : ℕ) → k ≤ length chunks → start_of (chunks ++ more) k ≡ start_of chunks k
starts_stay chunks more k within = ap (λ (xs : List (List Sample)). length (joined xs)) (take-append-le k chunks more within)

-- a part more at the end
pub chunks_more : (parts : List Part) (part : Part) → chunks_of (parts ++ part ∷ []) ≡ chunks_of parts ++ arc_value part.chunk ∷ []
chunks_more parts part = map-append (λ (part : Part). arc_value part.chunk) parts (part ∷ [])

pub parts_more : (parts : List Part) (len more : ℕ) (part : Part) → AreParts parts len → part.start ≡ len → more ≡ len + length (arc_value part.chunk)
    → AreParts (parts ++ part ∷ []) more
parts_more parts len more part are start more_is = record {
  starts = λ k d below.
      let long = length-map parts (λ (part : Part). arc_value part.chunk) in
      let stays : k ≤ length parts → start_of (chunks_of (parts ++ part ∷ [])) k ≡ start_of (chunks_of parts) k =
      λ within. ap (λ (xs : List (List Sample)). start_of xs k) (chunks_more parts part) ∙ starts_stay (chunks_of parts) (arc_value part.chunk ∷ []) k (omega (arith, within, long)) in
      elim (cases_lt k (length parts)) [
        | inl less ↦ ap (λ (part : Part). part.start) (get_or_append_left parts (part ∷ []) d k less) ∙ are.starts k d less ∙ sym (stays (omega (arith, less)))
        | inr past ↦
            let last : length parts ≡ k = omega (arith, below, past, length-append parts (part ∷ [])) in
            ap (λ (part : Part). part.start) (get_or_at parts part [] d k last) ∙ start ∙ are.whole
            ∙ sym (start_past (chunks_of parts) k (omega (arith, long, last))) ∙ sym (stays (omega (arith, last)))
      ];
  whole =
      more_is ∙ ap (λ n. n + length (arc_value part.chunk)) are.whole
      ∙ sym (ap length (ap joined (chunks_more parts part) ∙ joined_more (chunks_of parts) (arc_value part.chunk)) ∙ length-append (joined (chunks_of parts)) (arc_value part.chunk));
}

-- the first parts
pub chunks_first : (parts : List Part) (n : ℕ) → chunks_of (take n parts) ≡ take n (chunks_of parts)
chunks_first parts n = sym (take-map (λ (part : Part). arc_value part.chunk) n parts)

pub parts_first : (parts : List Part) (len n : ℕ) → AreParts parts len → AreParts (take n parts) (start_of (chunks_of parts) n)
parts_first parts len n are = record {
  starts = λ k d below.
      let less : k < n = omega (arith, below, length-take n parts) in
      ap (λ (part : Part). part.start) (get_or-take n parts k d less) ∙ are.starts k d (omega (arith, below, length-take n parts))
      ∙ ap (λ (xs : List (List Sample)). length (joined xs)) (sym (take-take k n (chunks_of parts) (omega (arith, less))) ∙ ap (take k) (sym (chunks_first parts n)));
  whole = ap (λ (xs : List (List Sample)). length (joined xs)) (sym (chunks_first parts n));
}
