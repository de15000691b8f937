-- Records without ids at equal steps are the split of their stream.
use Rattle.std.proofs.Common.{◌≡◌, ◌+◌, ◌-◌, ◌*◌, ◌/◌, ◌<◌, ◌≤◌, ℕ, zero, suc, List, ◌∷◌, ◌++◌, length, drop, map, replicate, refl, sym, ◌∙◌, ap, subst, arith, append_assoc, length-append}
use Rattle.std.proofs.lemmas.List.{length-drop}
use Rattle.std.proofs.Math.Nat.{div-mul-le_self, lt-div-mul-add, suc-ne-zero, zero-lt-suc}
use Rattle.std.proofs.lemmas.Bool.{cond-false, ne_eqb}
use Rattle.std.specs.Prelude.{nat_eq}
use Rattle.std.specs.List.{flat_map, AllByRecursion}
use Rattle.mdf_format.specs.Number.{bytes_at}
use Rattle.mdf_data.specs.declared.known.Size.{Size}
use Rattle.mdf_data.specs.declared.known.Size.TheVariants as sizes
use Rattle.mdf_data.specs.declared.known.Known.{Known}
use Rattle.mdf_data.specs.Places.{steps, places_alone}
use Rattle.mdf_data.specs.Split.{Record, IsAlone, IsSplitBy, empty_record, IsSplitAlone, IsRecordSplit, alone_at}
use Rattle.mdf_data.proofs.Steps.{step_more}
use Rattle.mdf_data.proofs.Pieces.{length-bytes, parted}

-- so many records of one length, from a place on
abbrev alones : List ℕ → ℕ → ℕ → ℕ → List Record
alones stream size count at = map (alone_at stream (sizes.Fixed size)) (steps count size at)

abbrev bytes_of : List Record → List ℕ
bytes_of records = flat_map (λ (r : Record). r.bytes) records

first_fits : (at size more total : ℕ) → at + size + more ≤ total → at + size ≤ total
first_fits at size more total within = omega (arith, within)

-- they are whole, and their bytes are those of the stream
all_whole : (n count at : ℕ) (stream : List ℕ) → at + count * suc n ≤ length stream
    → (drop at stream ≡ bytes_of (alones stream (suc n) count at) ++ drop (at + count * suc n) stream)
    × AllByRecursion (IsAlone (suc n)) (alones stream (suc n) count at)
all_whole n zero at stream within =
    let here : at ≡ at + zero * suc n = omega arith in (ap (λ (p : ℕ). drop p stream) here, tt)
all_whole n (suc count) at stream within =
    let same = step_more at (suc n) count in
    let room : at + suc n + count * suc n ≤ length stream = subst (λ (p : ℕ). p ≤ length stream) (sym same) within in
    let rest = all_whole n count (at + suc n) stream room in
    let first = bytes_at (suc n) stream at in (
      parted (suc n) at stream
          ∙ ap (λ (xs : List ℕ). first ++ xs) rest.0
          ∙ sym (append_assoc first (bytes_of (alones stream (suc n) count (at + suc n))) (drop (at + suc n + count * suc n) stream))
          ∙ ap (λ (p : ℕ). (first ++ bytes_of (alones stream (suc n) count (at + suc n))) ++ drop p stream) same,
      (record { which = refl; long = length-bytes (suc n) at stream (first_fits at (suc n) (count * suc n) (length stream) room) }, rest.1),
    )

-- what is left is shorter than a record
too_short : (total taken n more : ℕ) → total < taken + suc n → total - taken ≡ suc n + more → ⊥
too_short total taken n more less is = omega (arith, less, is)

none_left : (n : ℕ) (stream : List ℕ) (r : Record) (more : List ℕ) → IsAlone (suc n) r
    → drop (length stream / suc n * suc n) stream ≡ r.bytes ++ more → ⊥
none_left n stream r more alone is =
    let taken = length stream / suc n * suc n in
    too_short (length stream) taken n (length more) (lt-div-mul-add (zero-lt-suc n))
    (sym (length-drop taken stream) ∙ ap length is ∙ length-append r.bytes more ∙ ap (λ (k : ℕ). k + length more) alone.long)

-- records without bytes
all_empty : (stream : List ℕ) (count at : ℕ) → alones stream zero count at ≡ replicate count empty_record
all_empty stream zero at = refl
all_empty stream (suc count) at = ap (λ (records : List Record). empty_record ∷ records) (all_empty stream count (at + zero))

from_none : (n : ℕ) → 0 + n ≡ n
from_none n = omega arith

alone_found : (stream : List ℕ) (empties : ℕ) (size : Size)
    → (rest : List ℕ) × IsSplitAlone empties size stream (map (alone_at stream size) (places_alone (length stream) empties size)) rest
alone_found stream empties (sizes.Fixed zero) = (stream, record { records_are = all_empty stream empties zero; rest_is = refl })
alone_found stream empties (sizes.Fixed (suc n)) =
    let count = length stream / suc n in
    let taken = count * suc n in
    let start = from_none taken in
    let room = subst (λ (p : ℕ). p ≤ length stream) (sym start) (div-mul-le_self (length stream) (suc n)) in
    let all = all_whole n count zero stream room in
    let told : steps count (suc n) 0 ≡ places_alone (length stream) empties (sizes.Fixed (suc n)) =
    sym (cond-false (nat_eq (suc n) 0) (steps empties 0 0) (steps count (suc n) 0) (ne_eqb (suc n) 0 (suc-ne-zero n))) in (
      drop taken stream,
      subst (λ (places : List ℕ). IsSplitBy (IsAlone (suc n)) stream (map (alone_at stream (sizes.Fixed (suc n))) places) (drop taken stream)) told
          (record {
            whole = all.0 ∙ ap (λ (p : ℕ). bytes_of (alones stream (suc n) count zero) ++ drop p stream) start;
            each = all.1;
            none = none_left n stream;
          }),
    )
alone_found stream empties sizes.Variable = (stream, record { records_are = refl; rest_is = refl })

pub alones_found : (stream : List ℕ) (group : Known) (known : List Known) (empties : ℕ)
    → (rest : List ℕ) × IsRecordSplit stream 0 (group ∷ known) empties
    (map (alone_at stream group.size) (places_alone (length stream) empties group.size)) rest
alones_found stream group known empties = alone_found stream empties group.size
