-- What the samples of all sources cost, and a history that has all of them or beginnings.
use Rattle.std.proofs.Common.{◌≡◌, ◌+◌, ◌<◌, ◌≤◌, ℕ, suc, List, [], ◌∷◌, length, cond, All, Some, refl, ap, subst, arith}
use Rattle.std.specs.Prelude.{slice_get, slice_index, sum_by, filter, nat_le, ◌==◌}
use Rattle.std.proofs.lemmas.List.Elements.{All-head, All-tail, All-weaker}
use Rattle.std.proofs.lemmas.List.Sums.{sum_by-append, sum_by-cons}
use mathlib.Core.List.{IsPrefix}
use Rattle.std.proofs.lemmas.Bool.Decides.{nat_tests}
use Rattle.mdf_layout.specs.History.{source_samples}
use Rattle.mdf_layout.specs.Layout.{Layout}
use Rattle.mdf_layout.specs.Record.{cost_of, history_cost}
use Rattle.mdf_layout.specs.declared.sample.Sample.{Sample}
use Rattle.acq_script.specs.Tasks.{samples_of}
use Rattle.acq_script.specs.declared.script.Task.{Task}
use Rattle.book_rotate.specs.Part.{lists_cost, tasks_cost}

-- those of the sources from one on
abbrev from : List ℕ → ℕ → List Sample → List Sample
from owners first history = filter (λ sample. nat_le first (slice_index owners sample.group)) history

split_one : (first owner : ℕ) (sample : Sample) (f : Sample → ℕ) (alls ones laters : List Sample)
    → sum_by f alls ≡ sum_by f ones + sum_by f laters
    → sum_by f (cond (nat_le first owner) (sample ∷ alls) alls)
    ≡ sum_by f (cond (owner == first) (sample ∷ ones) ones) + sum_by f (cond (nat_le (suc first) owner) (sample ∷ laters) laters)
split_one first owner sample f alls ones laters same = grind (arith, nat_tests, sum_by-cons)

split : (f : Sample → ℕ) (owners : List ℕ) (first : ℕ) (history : List Sample)
    → sum_by f (from owners first history) ≡ sum_by f (source_samples owners history first) + sum_by f (from owners (suc first) history)
split f owners first [] = refl
split f owners first (sample ∷ history) =
    split_one first (slice_index owners sample.group) sample f (from owners first history) (source_samples owners history first) (from owners (suc first) history)
    (split f owners first history)

-- all of them are of the sources from the first on
all_one : (owner : ℕ) (sample : Sample) (f : Sample → ℕ) (alls rests : List Sample) → sum_by f alls ≡ sum_by f rests
    → sum_by f (cond (nat_le 0 owner) (sample ∷ alls) alls) ≡ sum_by f (sample ∷ rests)
all_one owner sample f alls rests same = grind (arith, nat_tests, sum_by-cons)

all_from : (f : Sample → ℕ) (owners : List ℕ) (history : List Sample) → sum_by f (from owners 0 history) ≡ sum_by f history
all_from f owners [] = refl
all_from f owners (sample ∷ history) = all_one (slice_index owners sample.group) sample f (from owners 0 history) history (all_from f owners history)

-- what the sources hand in from one on
from_one : (layouts : List Layout) (owners : List ℕ) (history : List Sample) (lists : List (List Task)) (first : ℕ)
    → ((source : ℕ) (tasks : List Task) → slice_get lists source ≡ Some tasks → source_samples owners history (first + source) ≡ samples_of tasks)
    → lists_cost layouts lists ≤ history_cost layouts (from owners first history)
from_one layouts owners history [] first each = omega arith
from_one layouts owners history (tasks ∷ lists) first each =
    let own : source_samples owners history first ≡ samples_of tasks =
    subst (λ n. source_samples owners history n ≡ samples_of tasks) (let e : first + 0 ≡ first = omega arith in e) (each 0 tasks refl) in
    let later = from_one layouts owners history lists (suc first)
    (λ source ts there. subst (λ n. source_samples owners history n ≡ samples_of ts) (let e : first + suc source ≡ suc first + source = omega arith in e) (each (suc source) ts there)) in
    omega (
      arith,
      later,
      ap (history_cost layouts) own,
      split (cost_of layouts) owners first history,
      sum_by-cons (tasks_cost layouts) tasks lists,
    )

-- a history that has all samples of each source costs as much
pub all_cost : (layouts : List Layout) (owners : List ℕ) (history : List Sample) (lists : List (List Task))
    → ((source : ℕ) (tasks : List Task) → slice_get lists source ≡ Some tasks → source_samples owners history source ≡ samples_of tasks)
    → lists_cost layouts lists ≤ history_cost layouts history
all_cost layouts owners history lists each =
    omega (
      arith,
      from_one layouts owners history lists 0
          (λ source tasks there. subst (λ n. source_samples owners history n ≡ samples_of tasks) (let e : source ≡ 0 + source = omega arith in e) (each source tasks there)),
      all_from (cost_of layouts) owners history,
    )

-- none is of those from one on where each is of one before it
none_one : (first owner : ℕ) (sample : Sample) (f : Sample → ℕ) (alls : List Sample) → owner < first → sum_by f alls ≡ 0
    → sum_by f (cond (nat_le first owner) (sample ∷ alls) alls) ≡ 0
none_one first owner sample f alls less none = grind (arith, nat_tests, sum_by-cons)

abbrev IsBefore : List ℕ → ℕ → Sample → Type 0
IsBefore owners first sample = slice_index owners sample.group < first

none_from : (f : Sample → ℕ) (owners : List ℕ) (first : ℕ) (history : List Sample) → All (IsBefore owners first) history → sum_by f (from owners first history) ≡ 0
none_from f owners first [] all = refl
none_from f owners first (sample ∷ history) all =
    none_one first (slice_index owners sample.group) sample f (from owners first history) (All-head (IsBefore owners first) sample history all)
    (none_from f owners first history (All-tail (IsBefore owners first) sample history all))

-- a beginning costs no more
pub beginning_cost : (layouts : List Layout) (xs ys : List Sample) → IsPrefix xs ys → history_cost layouts xs ≤ history_cost layouts ys
beginning_cost layouts xs ys begins = omega (arith, sum_by-append (cost_of layouts) xs begins.0, ap (history_cost layouts) begins.1)

-- what was accepted of the sources from one on
least_from : (layouts : List Layout) (owners : List ℕ) (history : List Sample) (lists : List (List Task)) (first : ℕ)
    → ((source : ℕ) (tasks : List Task) → slice_get lists source ≡ Some tasks → IsPrefix (source_samples owners history (first + source)) (samples_of tasks))
    → All (IsBefore owners (first + length lists)) history → history_cost layouts (from owners first history) ≤ lists_cost layouts lists
least_from layouts owners history [] first each all =
    omega (
      arith,
      none_from (cost_of layouts) owners first history
          (All-weaker (IsBefore owners (first + 0)) (IsBefore owners first) (λ sample less. omega (arith, less)) history all),
    )
least_from layouts owners history (tasks ∷ lists) first each all =
    let own : IsPrefix (source_samples owners history first) (samples_of tasks) =
    subst (λ n. IsPrefix (source_samples owners history n) (samples_of tasks)) (let e : first + 0 ≡ first = omega arith in e) (each 0 tasks refl) in
    let later = least_from layouts owners history lists (suc first)
    (λ source ts there. subst (λ n. IsPrefix (source_samples owners history n) (samples_of ts)) (let e : first + suc source ≡ suc first + source = omega arith in e) (each (suc source) ts there))
    (All-weaker (IsBefore owners (first + length (tasks ∷ lists))) (IsBefore owners (suc first + length lists)) (λ sample less. omega (arith, less)) history all) in
    omega (
      arith,
      later,
      beginning_cost layouts (source_samples owners history first) (samples_of tasks) own,
      split (cost_of layouts) owners first history,
      sum_by-cons (tasks_cost layouts) tasks lists,
    )

-- a history that has beginnings of what the sources hand in costs no more than that
pub least_cost : (layouts : List Layout) (owners : List ℕ) (history : List Sample) (lists : List (List Task))
    → ((source : ℕ) (tasks : List Task) → slice_get lists source ≡ Some tasks → IsPrefix (source_samples owners history source) (samples_of tasks))
    → All (λ sample. slice_index owners sample.group < length lists) history → history_cost layouts history ≤ lists_cost layouts lists
least_cost layouts owners history lists each all =
    omega (
      arith,
      least_from layouts owners history lists 0
          (λ source tasks there.
          subst (λ n. IsPrefix (source_samples owners history n) (samples_of tasks)) (let e : source ≡ 0 + source = omega arith in e) (each source tasks there))
          (All-weaker (IsBefore owners (length lists)) (IsBefore owners (0 + length lists)) (λ sample less. omega (arith, less)) history all),
      all_from (cost_of layouts) owners history,
    )
