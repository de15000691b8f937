-- Bytes of a stream that are read one behind the other into a list.
use Rattle.std.proofs.Common.{◌≡◌, ◌+◌, ◌-◌, ℕ, List, [], ◌∷◌, ◌++◌, length, get_or, take, refl, sym, ◌∙◌, ap, append_assoc, length-append, ◌<◌, ◌≤◌, arith}
use Rattle.std.proofs.lemmas.Grind.{common_steps}
use Rattle.std.proofs.lemmas.List.{length-take-le, take_at}
use Rattle.std.proofs.lemmas.List.Concat.{flat_map-append}
use Rattle.std.specs.Prelude.{min, sum_by}
use Rattle.std.specs.List.{flat_map}
use Rattle.mdf_format.specs.Number.{bytes_at}
use Rattle.mdf_stream.specs.declared.part.Part.{Part}
use Rattle.mdf_stream.specs.Parts.{part_bytes, stream_of, stream_size, ArePartsInside}
use Rattle.mdf_stream.specs.Range.{parts_between}
use Rattle.mdf_stream.proofs.Ranges.{range_bytes}
use Rattle.mdf_content.specs.Values.{value_size, value_there, values_at}
use borrow.Rule.Slice.PartMut.{mid_of, post_of, put_mid, mid_len}

-- a part of a list that was lent for that
pub read_into : (old part stream : List ℕ) (start size place : ℕ) → start + size ≤ length old
    → length part ≡ length (mid_of start (start + size - start) old) → part ≡ bytes_at (length (mid_of start (start + size - start) old)) stream place
    → take (start + size) (put_mid start (start + size - start) old part) ≡ take start old ++ bytes_at size stream place
read_into old part stream start size place within long is_part =
    let front = take start old in
    let rest = post_of start (start + size - start) old in
    let begins : length front ≡ start = length-take-le start old (omega (arith, within)) in
    let lent : length (mid_of start (start + size - start) old) ≡ size = mid_len start (start + size) old within ∙ omega arith in
    ap (take (start + size)) (sym (append_assoc front part rest))
    ∙ take_at (front ++ part) rest (start + size) (length-append front part ∙ omega (arith, begins, long, lent))
    ∙ ap (λ (xs : List ℕ). front ++ xs) (is_part ∙ ap (λ (n : ℕ). bytes_at n stream place) lent)

-- what stands at one more place
pub more_there : {A : Type 0} (there : ℕ → List A) (places : List ℕ) (so_far next one : List A) (k : ℕ) → k < length places → one ≡ there (get_or places k 0)
    → next ≡ so_far ++ one → so_far ≡ flat_map there (take k places) → next ≡ flat_map there (take (k + 1) places)
more_there there places so_far next one k below is added so_far_is = grind (arith, common_steps)

-- one more size is summed, up to a greatest number
pub more_summed : (size : ℕ → ℕ) (places : List ℕ) (most k total len sum : ℕ) → k < length places → len ≡ size (get_or places k 0)
    → sum ≡ min (total + len) most → total ≡ min (sum_by size (take k places)) most → sum ≡ min (sum_by size (take (k + 1) places)) most
more_summed size places most k total len sum below is added so_far = grind (arith, common_steps)

-- values one behind the other are the stream of their parts
pub values_stream : (f : List ℕ) (parts : List Part) (places : List ℕ) → ArePartsInside (length f) parts
    → flat_map (value_there f parts) places ≡ stream_of f (values_at f parts places)
values_stream f parts [] inside = refl
values_stream f parts (place ∷ places) inside =
    let len = value_size (stream_of f parts) (stream_size parts) place in
    sym
    (flat_map-append (part_bytes f) (parts_between parts place len) (values_at f parts places)
    ∙ ap (λ (xs : List ℕ). xs ++ stream_of f (values_at f parts places)) (range_bytes f parts place len inside)
    ∙ ap (λ (xs : List ℕ). value_there f parts place ++ xs) (sym (values_stream f parts places inside)))
