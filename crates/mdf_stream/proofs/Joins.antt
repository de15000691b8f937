-- Parts that are joined: the one that has a place, and the bytes there.
use Rattle.std.proofs.Common.{◌≡◌, ◌+◌, ◌-◌, ◌^◌, ◌<◌, ◌≤◌, ℕ, zero, suc, List, [], ◌∷◌, ◌++◌, length, get_or, take, drop, refl, sym, ◌∙◌, ap, subst, arith, length-append, inl, inr, append_assoc, Option, Some}
use Rattle.std.proofs.lemmas.List.{get_or_default, length-take, length-drop, take-append-le, drop-append-le, take_at, drop_at, take_all, drop_all, append-nil}
use Rattle.std.proofs.lemmas.List.Sums.{sum_by-cons}
use Rattle.std.proofs.Math.Seq.{drop-append-add, take-add, drop-drop}
use Rattle.std.proofs.lemmas.Bool.Decides.{leb_tells}
use Rattle.std.specs.Prelude.{slice_index_or}
use Rattle.std.specs.List.Sorted.{IsNonDecreasingBy}
use Rattle.mdf_format.specs.Number.{bytes_at}
use borrow.Rule.Slice.PartMut.{put_mid, mid_of, post_of, same_len_mid}
use Rattle.mdf_num.specs.Span.{IsTold}
use Rattle.mdf_block.proofs.Parts.{bytes_at-bytes_at}
use Rattle.mdf_stream.specs.declared.part.Part.{Part}
use Rattle.mdf_stream.specs.declared.stretch.Stretch.{Stretch}
use Rattle.mdf_stream.specs.Parts.{part_bytes, stream_of, stream_size, IsPartInside, ArePartsInside}
use Rattle.mdf_stream.specs.Stretch.{parts_of, AreJoined}

-- a part that lies inside the file has all its bytes
pub length-part : (f : List ℕ) (part : Part) → IsPartInside (length f) part → length (part_bytes f part) ≡ part.len
length-part f part inside = length-take part.len (drop part.at f) ∙ omega (arith, length-drop part.at f, inside)

-- the stream has as many bytes as its parts
pub length-stream : (f : List ℕ) (parts : List Part) → ArePartsInside (length f) parts → length (stream_of f parts) ≡ stream_size parts
length-stream f [] inside = refl
length-stream f (part ∷ parts) inside =
    length-append (part_bytes f part) (stream_of f parts)
    ∙ omega (arith, length-part f part inside.0, length-stream f parts inside.1, sum_by-cons (λ (p : Part). p.len) part parts)

-- bytes of the first of two lists, and of the second
pub bytes_at-first : (n at : ℕ) (xs ys : List ℕ) → at + n ≤ length xs → bytes_at n (xs ++ ys) at ≡ bytes_at n xs at
bytes_at-first n at xs ys within =
    ap (take n) (drop-append-le at xs ys (omega (arith, within)))
    ∙ take-append-le n (drop at xs) ys (omega (arith, length-drop at xs, within))

pub bytes_at-second : (n at : ℕ) (xs ys : List ℕ) → length xs ≤ at → bytes_at n (xs ++ ys) at ≡ bytes_at n ys (at - length xs)
bytes_at-second n at xs ys past =
    let whole : at ≡ length xs + (at - length xs) = omega (arith, past) in
    ap (λ (place : ℕ). take n (drop place (xs ++ ys))) whole ∙ ap (take n) (drop-append-add xs ys (at - length xs))

-- where the parts end
pub joined_end : (at : ℕ) (stretches : List Stretch) (end : ℕ) → AreJoined at stretches end → end ≡ at + stream_size (parts_of stretches)
unfolding AreJoined
joined_end at [] end joined = omega (arith, joined)
joined_end at (stretch ∷ stretches) end joined =
    omega (
      arith,
      joined.0,
      joined_end stretch.end stretches end joined.2,
      sum_by-cons (λ (p : Part). p.len) stretch.part (parts_of stretches),
    )

pub joined_ends : (stretches : List Stretch) (end : ℕ) → AreJoined 0 stretches end → end ≡ stream_size (parts_of stretches)
joined_ends stretches end joined = omega (arith, joined_end 0 stretches end joined)

-- every part ends at the end or before it, and behind the beginning
joined_within : (at : ℕ) (stretches : List Stretch) (end k : ℕ) (d : Stretch) → AreJoined at stretches end → k < length stretches
    → at ≤ (get_or stretches k d).end
unfolding AreJoined
joined_within at [] end k d joined below = absurd (omega (arith, below))
joined_within at (stretch ∷ stretches) end zero d joined below = omega (arith, joined.0)
joined_within at (stretch ∷ stretches) end (suc k) d joined below =
    let rest = joined_within stretch.end stretches end k d joined.2 (omega (arith, below)) in
    omega (arith, joined.0, rest)

pub joined_order : (at : ℕ) (stretches : List Stretch) (end : ℕ) → AreJoined at stretches end
    → IsNonDecreasingBy (λ (stretch : Stretch). stretch.end) stretches
unfolding AreJoined
joined_order at [] end joined i j d less below = absurd (omega (arith, below))
joined_order at (stretch ∷ stretches) end joined zero zero d less below = omega arith
joined_order at (stretch ∷ stretches) end joined zero (suc j) d less below =
    joined_within stretch.end stretches end j d joined.2 (omega (arith, below))
joined_order at (stretch ∷ stretches) end joined (suc i) zero d less below = absurd (omega (arith, less))
joined_order at (stretch ∷ stretches) end joined (suc i) (suc j) d less below =
    joined_order stretch.end stretches end joined.2 i j d (omega (arith, less)) (omega (arith, below))

-- where all parts end at a place or before it, so does the stream
pub all_before : (at place : ℕ) (stretches : List Stretch) (end : ℕ) (d : Stretch) → AreJoined at stretches end → at ≤ place
    → ((j : ℕ) → j < length stretches → (get_or stretches j d).end ≤ place) → end ≤ place
unfolding AreJoined
all_before at place [] end d joined first before = omega (arith, joined, first)
all_before at place (stretch ∷ stretches) end d joined first before =
    all_before stretch.end place stretches end d joined.2 (before 0 (omega arith)) (λ j below. before (suc j) (omega (arith, below)))

-- the part that has a place: those before it end there or before, and it ends behind
module _ (place : ℕ) (d : Stretch) where
  pub part_begins : (at : ℕ) (stretches : List Stretch) (end k : ℕ) → AreJoined at stretches end → at ≤ place → k < length stretches
      → ((j : ℕ) → j < k → (get_or stretches j d).end ≤ place)
      → (get_or stretches k d).end ≤ place + (get_or stretches k d).part.len
  unfolding AreJoined
  part_begins at [] end k joined first below before = absurd (omega (arith, below))
  part_begins at (stretch ∷ stretches) end zero joined first below before = omega (arith, joined.0, first)
  part_begins at (stretch ∷ stretches) end (suc k) joined first below before =
      part_begins stretch.end stretches end k joined.2 (before 0 (omega arith)) (omega (arith, below)) (λ j less. before (suc j) (omega (arith, less)))

  pub part_fits : (at : ℕ) (stretches : List Stretch) (end k : ℕ) → AreJoined at stretches end → k < length stretches
      → (get_or stretches k d).part.at + (get_or stretches k d).part.len < 2 ^ 64
  unfolding AreJoined
  part_fits at [] end k joined below = absurd (omega (arith, below))
  part_fits at (stretch ∷ stretches) end zero joined below = joined.1
  part_fits at (stretch ∷ stretches) end (suc k) joined below = part_fits stretch.end stretches end k joined.2 (omega (arith, below))

  pub part_inside : (size : ℕ) (stretches : List Stretch) (k : ℕ) → ArePartsInside size (parts_of stretches) → k < length stretches
      → (get_or stretches k d).part.at + (get_or stretches k d).part.len ≤ size
  part_inside size [] k inside below = absurd (omega (arith, below))
  part_inside size (stretch ∷ stretches) zero inside below = inside.0
  part_inside size (stretch ∷ stretches) (suc k) inside below = part_inside size stretches k inside.1 (omega (arith, below))

  -- bytes of the stream from the place on are bytes of that part
  pub part_bytes_at : (f : List ℕ) (n at : ℕ) (stretches : List Stretch) (end k : ℕ) → AreJoined at stretches end → at ≤ place
      → k < length stretches → ((j : ℕ) → j < k → (get_or stretches j d).end ≤ place) → place < (get_or stretches k d).end
      → ArePartsInside (length f) (parts_of stretches) → place + n ≤ (get_or stretches k d).end
      → bytes_at n (stream_of f (parts_of stretches)) (place - at)
      ≡ bytes_at n f ((get_or stretches k d).part.at + ((get_or stretches k d).part.len - ((get_or stretches k d).end - place)))
  unfolding AreJoined
  part_bytes_at f n at [] end k joined first below before behind inside within = absurd (omega (arith, below))
  part_bytes_at f n at (stretch ∷ stretches) end zero joined first below before behind inside within =
      let part = stretch.part in
      let rest = stream_of f (parts_of stretches) in
      let long = length-part f part inside.0 in
      let same : place - at ≡ part.len - (stretch.end - place) = omega (arith, joined.0, first, behind) in
      bytes_at-first n (place - at) (part_bytes f part) rest (omega (arith, long, joined.0, first, within))
      ∙ bytes_at-bytes_at n part.len (place - at) part.at f (omega (arith, joined.0, first, within))
      ∙ ap (λ (skipped : ℕ). bytes_at n f (part.at + skipped)) same
  part_bytes_at f n at (stretch ∷ stretches) end (suc k) joined first below before behind inside within =
      let part = stretch.part in
      let rest = stream_of f (parts_of stretches) in
      let long = length-part f part inside.0 in
      let past = before 0 (omega arith) in
      let same : place - at - length (part_bytes f part) ≡ place - stretch.end = omega (arith, long, joined.0) in
      bytes_at-second n (place - at) (part_bytes f part) rest (omega (arith, long, joined.0, past))
      ∙ ap (bytes_at n rest) same
      ∙ part_bytes_at f n stretch.end stretches end k joined.2 past (omega (arith, below)) (λ j less. before (suc j) (omega (arith, less)))
      behind inside.1 within

-- one more part
pub joined_more : (at : ℕ) (stretches : List Stretch) (end : ℕ) (more : Stretch) → AreJoined at stretches end → more.end ≡ end + more.part.len
    → more.part.at + more.part.len < 2 ^ 64 → AreJoined at (stretches ++ more ∷ []) more.end
unfolding AreJoined
joined_more at [] end more joined ends fits =
    let here : more.end ≡ at + more.part.len = omega (arith, joined, ends) in (here, fits, refl)
joined_more at (stretch ∷ stretches) end more joined ends fits =
    (joined.0, joined.1, joined_more stretch.end stretches end more joined.2 ends fits)

pub parts_of-append : (xs ys : List Stretch) → parts_of (xs ++ ys) ≡ parts_of xs ++ parts_of ys
parts_of-append [] ys = refl
parts_of-append (x ∷ xs) ys = ap (λ (parts : List Part). x.part ∷ parts) (parts_of-append xs ys)

-- the part that stands where there is none
abbrev pub none : Stretch
none = record { part = record { at = 0; len = 0 }; end = 0 }

-- parts before one that ends at a place or before it do so too
pub rises : (place : ℕ) (stretches : List Stretch) (k j : ℕ) (d : Stretch) → IsNonDecreasingBy (λ (stretch : Stretch). stretch.end) stretches
    → k < length stretches → (get_or stretches (k - 1) none).end ≤ place → j < k → (get_or stretches j d).end ≤ place
rises place stretches k j d order below past less =
    rw (get_or_default stretches j d none (omega (arith, below, less)))
    (omega (arith, order j (k - 1) none (omega (arith, less)) (omega (arith, below)), past))

-- a part that ends behind a place is there, where the stream does
pub below_end : (place : ℕ) (stretches : List Stretch) (end k : ℕ) → AreJoined 0 stretches end → place < end → k ≤ length stretches
    → ((j : ℕ) (d : Stretch) → j < k → (slice_index_or stretches j d).end ≤ place) → k < length stretches
below_end place stretches end k joined within bound before =
    elim (leb_tells (length stretches) k) [
      | inl past ↦
          let ends = all_before 0 place stretches end none joined (omega arith) (λ j less. before j none (omega (arith, less, past.1))) in
          absurd (omega (arith, ends, within))
      | inr below ↦ below.1
    ]

-- parts before one that begins at a place or before it end there or before
part_behind : (at : ℕ) (stretches : List Stretch) (end k : ℕ) (d : Stretch) → AreJoined at stretches end → k < length stretches
    → at + (get_or stretches k d).part.len ≤ (get_or stretches k d).end
unfolding AreJoined
part_behind at [] end k d joined below = absurd (omega (arith, below))
part_behind at (stretch ∷ stretches) end zero d joined below = omega (arith, joined.0)
part_behind at (stretch ∷ stretches) end (suc k) d joined below =
    let rest = part_behind stretch.end stretches end k d joined.2 (omega (arith, below)) in
    omega (arith, joined.0, rest)

pub ends_before : (at place : ℕ) (d : Stretch) (stretches : List Stretch) (end k : ℕ) → AreJoined at stretches end → k < length stretches
    → (get_or stretches k d).end ≤ place + (get_or stretches k d).part.len → (j : ℕ) → j < k → (get_or stretches j d).end ≤ place
unfolding AreJoined
ends_before at place d [] end k joined below begins j less = absurd (omega (arith, below))
ends_before at place d (stretch ∷ stretches) end zero joined below begins j less = absurd (omega (arith, less))
ends_before at place d (stretch ∷ stretches) end (suc k) joined below begins zero less =
    let rest = part_behind stretch.end stretches end k d joined.2 (omega (arith, below)) in
    omega (arith, rest, begins)
ends_before at place d (stretch ∷ stretches) end (suc k) joined below begins (suc j) less =
    ends_before stretch.end place d stretches end k joined.2 (omega (arith, below)) begins j (omega (arith, less))

-- the same, at the place in the whole stream
pub bytes_there : (f : List ℕ) (n place : ℕ) (d : Stretch) (stretches : List Stretch) (end k : ℕ) → AreJoined 0 stretches end
    → k < length stretches → ((j : ℕ) → j < k → (get_or stretches j d).end ≤ place) → place < (get_or stretches k d).end
    → ArePartsInside (length f) (parts_of stretches) → place + n ≤ (get_or stretches k d).end
    → bytes_at n (stream_of f (parts_of stretches)) place
    ≡ bytes_at n f ((get_or stretches k d).part.at + ((get_or stretches k d).part.len - ((get_or stretches k d).end - place)))
bytes_there f n place d stretches end k joined below before behind inside within =
    let same : place ≡ place - 0 = omega arith in
    ap (bytes_at n (stream_of f (parts_of stretches))) same
    ∙ part_bytes_at place d f n 0 stretches end k joined (omega arith) below before behind inside within

-- what lies inside a span lies inside the bytes that it tells
pub told_inside : (told : Option (List ℕ)) (size : ℕ) (f : List ℕ) (parts : List Part) → IsTold told size → told ≡ Some f
    → ArePartsInside size parts → ArePartsInside (length f) parts
told_inside told size f parts whole is inside =
    let same : length f ≡ size = rw is at whole in
    subst (λ (n : ℕ). ArePartsInside n parts) (sym same) inside

-- bytes behind bytes
pub bytes_at-add : (m n : ℕ) (s : List ℕ) (at : ℕ) → bytes_at (m + n) s at ≡ bytes_at m s at ++ bytes_at n s (at + m)
bytes_at-add m n s at =
    take-add m n (drop at s) ∙ ap (λ (xs : List ℕ). bytes_at m s at ++ take n xs) (drop-drop m at s)

-- a buffer that is filled so far, filled further: what was still to be filled is lent for that
pub filled_more : (s before part start : List ℕ) (at done n : ℕ) → done ≤ length start → length before ≡ length start
    → before ≡ bytes_at done s at ++ drop done start → part ≡ bytes_at n s (at + done) ++ drop n (mid_of done (length before - done) before)
    → at + length start ≤ length s
    → put_mid done (length before - done) before part ≡ bytes_at (done + n) s at ++ drop (done + n) start
filled_more s before part start at done n short long is_before is_part within =
    let so_far : length (bytes_at done s at) ≡ done =
    length-take done (drop at s) ∙ omega (arith, length-drop at s, short, within) in
    let front : take done before ≡ bytes_at done s at =
    ap (take done) is_before ∙ take_at (bytes_at done s at) (drop done start) done so_far in
    let rest : drop done before ≡ drop done start =
    ap (drop done) is_before ∙ drop_at (bytes_at done s at) (drop done start) done so_far in
    let lent : mid_of done (length before - done) before ≡ drop done start =
    take_all (length before - done) (drop done before) (omega (arith, length-drop done before)) ∙ rest in
    let behind : post_of done (length before - done) before ≡ [] =
    drop_all (length before - done) (drop done before) (omega (arith, length-drop done before)) in
    let new : part ≡ bytes_at n s (at + done) ++ drop (done + n) start =
    is_part ∙ ap (λ (xs : List ℕ). bytes_at n s (at + done) ++ drop n xs) lent
    ∙ ap (λ (xs : List ℕ). bytes_at n s (at + done) ++ xs) (drop-drop n done start) in
    ap (λ (xs : List ℕ). xs ++ (part ++ post_of done (length before - done) before)) front
    ∙ ap (λ (xs : List ℕ). bytes_at done s at ++ (part ++ xs)) behind
    ∙ ap (λ (xs : List ℕ). bytes_at done s at ++ xs) (append-nil part ∙ new)
    ∙ sym (append_assoc (bytes_at done s at) (bytes_at n s (at + done)) (drop (done + n) start))
    ∙ ap (λ (xs : List ℕ). xs ++ drop (done + n) start) (sym (bytes_at-add done n s at))

-- a part that is lent comes back as long as it was
pub length-put : (xs ys : List ℕ) (a : ℕ) → length ys ≡ length (mid_of a (length xs - a) xs)
    → length (put_mid a (length xs - a) xs ys) ≡ length xs
length-put xs ys a long = same_len_mid a (length xs - a) xs ys long
