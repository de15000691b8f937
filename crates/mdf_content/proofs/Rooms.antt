-- The places of records leave room for the bodies of their groups.
use Rattle.std.proofs.Common.{◌≡◌, ◌+◌, ◌*◌, ◌/◌, ◌<◌, ◌≤◌, ℕ, zero, suc, List, [], ◌∷◌, length, get_or, map, sym, ◌∙◌, ap, subst, arith}
use Rattle.std.proofs.lemmas.List.{length-map, get_or-map}
use Rattle.std.proofs.lemmas.Bool.{cond-false, ne_eqb}
use Rattle.std.proofs.Math.Nat.{div-mul-le_self, suc-ne-zero}
use Rattle.std.specs.Prelude.{nat_eq, slice_index_or}
use Rattle.std.specs.List.{AllByRecursion}
use Rattle.mdf_data.specs.declared.known.Size.{Size}
use Rattle.mdf_data.specs.declared.known.Size.TheVariants as sizes
use Rattle.mdf_data.specs.declared.known.Known.{Known}
use Rattle.mdf_data.specs.Record.{least_size}
use Rattle.mdf_data.specs.Places.{steps, places_alone, HaveRoom}
use Rattle.mdf_data.proofs.Steps.{step_more}
use Rattle.mdf_group.specs.declared.row.GroupRow.{GroupRow}
use Rattle.mdf_block.specs.Every.{AllByNumber}
use Rattle.mdf_content.specs.Records.{size_of, known_of, HasRoom}
use Rattle.mdf_block.proofs.Items.{one_of}

-- and so a record at one of these places fits
pub one_fits : (size total : ℕ) (places : List ℕ) (row place : ℕ) → row < length places → place ≡ get_or places row 0
    → AllByRecursion (λ place. place + size ≤ total) places → place + size ≤ total
one_fits size total places row place below is room =
    subst (λ (at : ℕ). at + size ≤ total) (sym is) (one_of (λ (at : ℕ). at + size ≤ total) places row 0 room below)

first_fits : (from step more total : ℕ) → from + step + more ≤ total → from + step ≤ total
first_fits from step more total within = omega (arith, within)

-- so many steps that lie inside
steps_room : (count step from total : ℕ) → from + count * step ≤ total → AllByRecursion (λ place. place + step ≤ total) (steps count step from)
steps_room zero step from total within = tt
steps_room (suc count) step from total within =
    let same : from + step + count * step ≡ from + suc count * step = step_more from step count in
    let rest : from + step + count * step ≤ total = subst (λ (n : ℕ). n ≤ total) (sym same) within in
    (first_fits from step (count * step) total rest, steps_room count step (from + step) total rest)

none_of_them : (count total : ℕ) → 0 + count * 0 ≤ total
none_of_them count total = omega arith

from_zero : (n total : ℕ) → n ≤ total → 0 + n ≤ total
from_zero n total within = omega (arith, within)

alone_room : (total empties : ℕ) (size : Size) → AllByRecursion (λ place. place + least_size size ≤ total) (places_alone total empties size)
alone_room total empties (sizes.Fixed zero) = steps_room empties 0 0 total (none_of_them empties total)
alone_room total empties (sizes.Fixed (suc n)) =
    let told : places_alone total empties (sizes.Fixed (suc n)) ≡ steps (total / suc n) (suc n) 0 =
    cond-false (nat_eq (suc n) 0) (steps empties 0 0) (steps (total / suc n) (suc n) 0) (ne_eqb (suc n) 0 (suc-ne-zero n)) in
    subst (AllByRecursion (λ place. place + suc n ≤ total)) (sym told)
    (steps_room (total / suc n) (suc n) 0 total (from_zero (total / suc n * suc n) total (div-mul-le_self total (suc n))))
alone_room total empties sizes.Variable = tt

one_room : (total empties : ℕ) (group : GroupRow) (k : ℕ) (d : Known) (e : List ℕ) → k < 1
    → AllByRecursion (λ place. place + least_size (slice_index_or (known_of group ∷ []) k d).size ≤ total)
    (slice_index_or (places_alone total empties (size_of group) ∷ []) k e)
one_room total empties group zero d e below = alone_room total empties (size_of group)
one_room total empties group (suc k) d e below = absurd (omega (arith, below))

-- the one group of a stream without ids
pub room_alone : (total empties : ℕ) (size : Size) (groups : List GroupRow) (group : GroupRow) (places : List ℕ) → length groups < 2
    → group ≡ get_or groups 0 group → size ≡ size_of group → places ≡ places_alone total empties size
    → HaveRoom total (map known_of groups) (places ∷ [])
room_alone total empties size [] group places few is size_is places_are = λ k d e below. absurd (omega (arith, below))
room_alone total empties size (first ∷ []) group places few is size_is places_are =
    let same : places ≡ places_alone total empties (size_of first) =
    places_are ∙ ap (places_alone total empties) (size_is ∙ ap size_of is) in
    subst (λ (all : List ℕ). HaveRoom total (known_of first ∷ []) (all ∷ [])) (sym same)
    (λ k d e below. one_room total empties first k d e below)
room_alone total empties size (first ∷ second ∷ rest) group places few is size_is places_are = absurd (omega (arith, few))

-- each group by its number
pub rooms : (total : ℕ) (groups : List GroupRow) (lists : List (List ℕ)) → HaveRoom total (map known_of groups) lists → AllByNumber (HasRoom total lists) groups
rooms total groups lists room = λ k d below. subst
    (λ (known : Known). AllByRecursion (λ place. place + least_size known.size ≤ total) (slice_index_or lists k []))
    (get_or-map known_of groups k d (known_of d) below)
    (room k (known_of d) [] (subst (λ (n : ℕ). k < n) (sym (length-map groups known_of)) below))
