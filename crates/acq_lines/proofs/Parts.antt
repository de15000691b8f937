-- The lines of a text, by the first LF of what was read of it.
use Rattle.std.proofs.Common.{◌≡◌, ◌∙◌, sym, ap, refl, ℕ, ◌+◌, ◌-◌, ◌≤◌, ◌<◌, Bool, true, false, List, [], ◌∷◌, ◌++◌, length, get_or, take, drop, Option, Some, None, arith, length-append, length-drop, append-nil, append_assoc, All, Vec}
use Rattle.std.specs.Prelude.{◌==◌, if◌then◌else◌, slice_range}
use Rattle.std.specs.List.{onto_first, slice_split}
use Rattle.std.specs.Vec.{with_items}
use borrow.Rule.Slice.PartMut.{mid_len, mid_of, post_of, put_mid, same_len_mid}
use Rattle.std.proofs.lemmas.Bool.{le-leb}
use Rattle.std.proofs.lemmas.Grind.{get_or_default_zero}
use Rattle.std.proofs.lemmas.List.{drop-append-le, drop-drop, drop-take, drop_at, drop_more, get_or-take, length-take-le, take-append-drop, take-append-le, take_at, with_items_is}
use Rattle.std.proofs.Math.Seq.{take-add}
use Rattle.std.proofs.lemmas.Slice.{between_is}
use Rattle.std.proofs.lemmas.List.Elements.{All-head, All-tail}
use Rattle.std.proofs.lemmas.List.Splits.{length-slice_split, slice_split-cons_no, slice_split_at}
use Rattle.memchr.specs.Find.{NoneBefore, Nowhere, Passes, is_byte}
use Rattle.acq_lines.specs.Lines.{FindsLf, LIMIT, Reads, Unread, closed, limited, lines_behind}

abbrev lf : ℕ → Bool
lf b = b == 10

passed_not : (test : Bool) → (test ≡ true → ⊥) → test ≡ false
passed_not true not = absurd (not refl)
passed_not false not = refl

-- there is a part
some_part : (text : List ℕ) → 0 < length (slice_split lf text)
some_part text = omega (arith, length-slice_split lf text)

closed_more : (long : Bool) (text : List ℕ) (parts : List (List ℕ)) → 0 < length parts → closed long (text ∷ parts) ≡ limited long text ∷ closed false parts
closed_more long text [] some = absurd (omega arith)
closed_more long text (next ∷ more) some = refl

-- no byte before the first LF is one
front : (bytes : List ℕ) (i : ℕ) → NoneBefore (Passes (is_byte 10) bytes) 0 (length bytes) i → All (λ x. lf x ≡ false) (take i bytes)
front bytes i none k d below =
    let short : k < i = omega (arith, length-take-le i bytes (omega (arith, none.high)), below) in
    ap lf (get_or-take i bytes k d short ∙ get_or_default_zero bytes k d (omega (arith, none.high, short))) ∙ passed_not _ (none.before k (omega arith) short)

-- the first line ends at the first LF
first_line : (long : Bool) (bytes later : List ℕ) (i : ℕ) → NoneBefore (Passes (is_byte 10) bytes) 0 (length bytes) i → Passes (is_byte 10) bytes i
    → closed long (slice_split lf (bytes ++ later)) ≡ limited long (take i bytes) ∷ closed false (slice_split lf (drop (i + 1) bytes ++ later))
first_line long bytes later i none here =
    let rest = drop (i + 1) bytes ++ later in
    let whole : bytes ++ later ≡ take i bytes ++ get_or bytes i 0 ∷ rest =
    ap (λ (all : List ℕ). all ++ later) (sym (take-append-drop i bytes) ∙ ap (λ (back : List ℕ). take i bytes ++ back) (drop_more bytes i 0 none.high))
    ∙ append_assoc (take i bytes) (get_or bytes i 0 ∷ drop (i + 1) bytes) later in
    ap (λ (text : List ℕ). closed long (slice_split lf text)) whole
    ∙ ap (closed long) (slice_split_at lf (take i bytes) (get_or bytes i 0) rest (front bytes i none) here)
    ∙ closed_more long (take i bytes) (slice_split lf rest) (some_part rest)

-- the step over a line
pub passed : (old : Unread) (i : ℕ) (bytes : List ℕ) → FindsLf old.bytes (Some i) → bytes ≡ drop (i + 1) old.bytes
    → Reads old [] (limited old.long (take i old.bytes) ∷ []) (record { long = false; bytes = bytes })
passed old i bytes found same = record {
  each = λ later.
      first_line old.long old.bytes later i found.0 found.1
      ∙ ap (λ (rest : List ℕ). limited old.long (take i old.bytes) ∷ closed false (slice_split lf (rest ++ later))) (sym same);
}

-- bytes in front of the first of some parts
abbrev onto : List ℕ → List (List ℕ) → List (List ℕ)
onto before [] = []
onto before (part ∷ parts) = (before ++ part) ∷ parts

onto_none : (parts : List (List ℕ)) → onto [] parts ≡ parts
onto_none [] = refl
onto_none (part ∷ parts) = refl

onto_more : (x : ℕ) (before : List ℕ) (parts : List (List ℕ)) → 0 < length parts → onto_first x (onto before parts) ≡ onto (x ∷ before) parts
onto_more x before [] some = absurd (omega arith)
onto_more x before (part ∷ parts) some = refl

split_behind : (before later : List ℕ) → All (λ x. lf x ≡ false) before → slice_split lf (before ++ later) ≡ onto before (slice_split lf later)
split_behind [] later none = sym (onto_none (slice_split lf later))
split_behind (x ∷ before) later none =
    slice_split-cons_no lf x (before ++ later) (All-head (λ y. lf y ≡ false) x before none)
    ∙ ap (onto_first x) (split_behind before later (All-tail (λ y. lf y ≡ false) x before none))
    ∙ onto_more x before (slice_split lf later) (some_part later)

abbrev chosen : Bool → List ℕ → Option (List ℕ)
chosen long text = if long then None else Some text

too_long : (long : Bool) (text : List ℕ) → LIMIT ≤ length text → limited long text ≡ None
too_long true text high = refl
too_long false text high = ap (λ (b : Bool). chosen b text) (le-leb LIMIT (length text) high)

closed_onto : (long : Bool) (before : List ℕ) (parts : List (List ℕ)) → LIMIT ≤ length before → closed long (onto before parts) ≡ closed true parts
closed_onto long before [] high = refl
closed_onto long before (rest ∷ []) high = refl
closed_onto long before (text ∷ next ∷ more) high =
    ap (λ (line : Option (List ℕ)). line ∷ closed false (next ∷ more)) (too_long long (before ++ text) (omega (arith, length-append before text, high)))

none_in : (bytes : List ℕ) → Nowhere (Passes (is_byte 10) bytes) 0 (length bytes) → All (λ x. lf x ≡ false) bytes
none_in bytes none k d below = ap lf (get_or_default_zero bytes k d below) ∙ passed_not _ (none k (omega arith) below)

-- the front of a line that is too long already may be dropped
pub dropped : (old : Unread) → FindsLf old.bytes None → LIMIT ≤ length old.bytes → Reads old [] [] (record { long = true; bytes = [] })
dropped old none high = record {
  each = λ later. ap (closed old.long) (split_behind old.bytes later (none_in old.bytes none)) ∙ closed_onto old.long old.bytes (slice_split lf later) high;
}

pub same : (old : Unread) (bytes : List ℕ) → bytes ≡ old.bytes → Reads old [] [] (record { long = old.long; bytes = bytes })
same old bytes is = record { each = λ later. ap (λ (before : List ℕ). closed old.long (slice_split lf (before ++ later))) (sym is) }

-- more bytes behind those that were read
pub grown : (old : Unread) (more bytes : List ℕ) → bytes ≡ old.bytes ++ more → Reads old more [] (record { long = old.long; bytes = bytes })
grown old more bytes is = record {
  each = λ later.
      ap (λ (text : List ℕ). closed old.long (slice_split lf text)) (sym (append_assoc old.bytes more later))
      ∙ ap (λ (before : List ℕ). closed old.long (slice_split lf (before ++ later))) (sym is);
}

-- the part of a buffer behind its first bytes
pub range_rest : (items : List ℕ) (start end n : ℕ) → start + n ≤ end → slice_range items (start + n) end ≡ drop n (slice_range items start end)
range_rest items start end n inside =
    let m = end - (start + n) in
    let is : end - start ≡ n + m = omega (arith, inside) in
    sym (ap (λ (k : ℕ). drop n (take k (drop start items))) is ∙ drop-take n m (drop start items) ∙ ap (take m) (drop-drop n start items))

-- how long a part is
pub range_long : (items : List ℕ) (start end : ℕ) → end ≤ length items → length (slice_range items start end) ≡ end - start
range_long items start end within = length-take-le (end - start) (drop start items) (omega (arith, length-drop start items))

-- an LF that was found lies before the end
pub inside : (items : List ℕ) (start end count : ℕ) → start ≤ end → end ≤ length items → FindsLf (slice_range items start end) (Some count) → start + count < end
inside items start end count ordered within found = omega (arith, found.0.high, range_long items start end within, ordered)

-- a buffer that was written over from the end of the part on
pub written : (items more : List ℕ) (start end count : ℕ) → start ≤ end → end ≤ length items
    → slice_range (take end items ++ more) start (end + count) ≡ slice_range items start end ++ take count more
written items more start end count ordered within =
    let part = slice_range items start end in
    let long : length part ≡ end - start = range_long items start end within in
    let shifted : (end + count) - start ≡ (end - start) + count = omega (arith, ordered) in
    let behind : drop start (take end items ++ more) ≡ part ++ more =
    drop-append-le start (take end items) more (omega (arith, length-take-le end items within, ordered))
    ∙ ap (λ (before : List ℕ). before ++ more) (sym (between_is items start end)) in
    ap (λ (k : ℕ). take k (drop start (take end items ++ more))) shifted
    ∙ ap (take ((end - start) + count)) behind
    ∙ take-add (end - start) count (part ++ more)
    ∙ ap (λ (before : List ℕ). before ++ take count (drop (end - start) (part ++ more))) (take_at part more (end - start) long)
    ∙ ap (λ (rest : List ℕ). part ++ take count rest) (drop_at part more (end - start) long)

-- and from the end of the part on with none
kept : (items more : List ℕ) (start end : ℕ) → start ≤ end → end ≤ length items → slice_range (take end items ++ more) start end ≡ slice_range items start end
kept items more start end ordered within =
    let zero : end ≡ end + 0 = omega arith in
    ap (λ (k : ℕ). slice_range (take end items ++ more) start k) zero ∙ written items more start end 0 ordered within ∙ append-nil (slice_range items start end)

-- a vector whose back from the end of the part on was lent, and came back as other bytes
module _ {Z : Type 0} (v : Vec ℕ Z) (lent back : List ℕ) (start end : ℕ) (same_items : lent ≡ v.items) (same_length : length lent ≡ v.len)
    (ordered : start ≤ end) (within : end ≤ length lent) (as_long : length back ≡ length (mid_of end (length lent - end) lent)) where
  abbrev now : List ℕ
  now = (with_items v (put_mid end (length lent - end) lent back)).items

  now_is : now ≡ put_mid end (length lent - end) lent back
  now_is = with_items_is v (put_mid end (length lent - end) lent back) (same_len_mid end (length lent - end) lent back as_long ∙ same_length)

  pub back_long : length back ≡ length lent - end
  back_long = as_long ∙ mid_len end (length lent) lent (omega arith)

  -- the part with so many of them behind it
  pub lent_more : (count : ℕ) → count ≤ length back → slice_range now start (end + count) ≡ slice_range v.items start end ++ take count back
  lent_more count most =
      let rest = post_of end (length lent - end) lent in
      ap (λ (items : List ℕ). slice_range items start (end + count)) now_is
      ∙ written lent (back ++ rest) start end count ordered within
      ∙ ap (λ (bytes : List ℕ). slice_range lent start end ++ bytes) (take-append-le count back rest most)
      ∙ ap (λ (items : List ℕ). slice_range items start end ++ take count back) same_items

  -- and the part alone
  pub lent_none : slice_range now start end ≡ slice_range v.items start end
  lent_none =
      ap (λ (items : List ℕ). slice_range items start end) now_is
      ∙ kept lent (back ++ post_of end (length lent - end) lent) start end ordered within
      ∙ ap (λ (items : List ℕ). slice_range items start end) same_items
