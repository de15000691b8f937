-- Each generated sample fits the plan, and is of its source's group.
use Rattle.std.proofs.Common.{◌≡◌, ◌<◌, ◌≤◌, ◌+◌, ◌*◌, ◌%◌, ℕ, zero, suc, Bool, true, false, List, [], ◌∷◌, ◌++◌, length, All, refl, take, add-one, ◌∙◌, ap, cond, arith}
use Rattle.std.specs.Prelude.{◌==◌, codes, slice_index}
use Rattle.std.specs.List.{slice_index_or}
use Rattle.std.proofs.lemmas.List.{length-replicate}
use Rattle.std.proofs.lemmas.List.Elements.{All-nil, All-cons, All-append}
use Rattle.mdf_layout.specs.Record.{encoded_size, long_values}
use Rattle.mdf_layout.specs.Written.{IsEntryOf}
use Rattle.mdf_layout.specs.declared.field.FieldRow.{FieldRow}
use Rattle.mdf_layout.specs.declared.sample.Entry.{Entry}
use Rattle.mdf_layout.specs.declared.sample.Sample.{Sample}
use Rattle.mdf_layout.specs.declared.sample.Value.TheVariants.{Unsigned, Bytes}
use Rattle.acq_script.specs.Plan.{IsPlan, TaskFits, IsTaskOf, layout_of}
use Rattle.acq_script.specs.Stage.{IsScript}
use Rattle.acq_script.specs.declared.script.Task.{Task}
use Rattle.acq_script.specs.declared.script.Task.TheVariants as task
use Rattle.acq_script.specs.Generated.{bytes_of, count_of, first_group, flush_behind, generated_lists, generated_plan, generated_script, last_group, number_of, sample_of, tasks_at, tasks_of, valid}

-- the sample of a group
abbrev sample_in : ℕ → ℕ → Sample
sample_in group i = record {
  group = group;
  values = valid (Unsigned i) ∷ valid (Unsigned (number_of i)) ∷ cond (group == 3) (valid (Bytes (bytes_of i)) ∷ []) [];
}

small_bytes : (i : ℕ) → length (bytes_of i) ≤ 4
small_bytes i = omega (arith, length-replicate (i % 5) (i % 256))

-- its entries are such as the channels can have
abbrev two_rows : List FieldRow
two_rows = (layout_of (first_group (codes "g0"))).rows

abbrev three_rows : List FieldRow
three_rows = (layout_of last_group).rows

two_entries : (i : ℕ) → i < 1000000 → (k : ℕ) (row : FieldRow) (entry : Entry) → k < 2
    → IsEntryOf (slice_index_or two_rows k row) (slice_index_or (valid (Unsigned i) ∷ valid (Unsigned (number_of i)) ∷ []) k entry)
two_entries i few zero row entry below = record { value = omega (arith, few); valid = λ _. refl }
two_entries i few (suc zero) row entry below = record { value = omega arith; valid = λ _. refl }
two_entries i few (suc (suc k)) row entry below = absurd (omega (arith, below))

three_entries : (i : ℕ) → i < 1000000 → (k : ℕ) (row : FieldRow) (entry : Entry) → k < 3
    → IsEntryOf (slice_index_or three_rows k row) (slice_index_or (valid (Unsigned i) ∷ valid (Unsigned (number_of i)) ∷ valid (Bytes (bytes_of i)) ∷ []) k entry)
three_entries i few zero row entry below = record { value = omega (arith, few); valid = λ _. refl }
three_entries i few (suc zero) row entry below = record { value = omega arith; valid = λ _. refl }
three_entries i few (suc (suc zero)) row entry below = record { value = omega (arith, small_bytes i); valid = λ _. refl }
three_entries i few (suc (suc (suc k))) row entry below = absurd (omega (arith, below))

two_size : (i group : ℕ) → group < 3 → encoded_size generated_plan.shapes (sample_in group i) ≤ 65536
unfolding long_values
two_size i zero below = omega arith
two_size i (suc zero) below = omega arith
two_size i (suc (suc zero)) below = omega arith
two_size i (suc (suc (suc group))) below = absurd (omega (arith, below))

three_size : (i : ℕ) → encoded_size generated_plan.shapes (sample_in 3 i) ≤ 65536
unfolding long_values
three_size i = omega (arith, small_bytes i)

fits_in : (group i : ℕ) → group < 4 → i < 1000000 → TaskFits generated_plan (task.Sample (sample_in group i))
fits_in zero i below few = (record { layout = layout_of (first_group (codes "g0")); known = refl; entries = record { count = refl; each = two_entries i few } }, two_size i 0 (omega arith))
fits_in (suc zero) i below few = (record { layout = layout_of (first_group (codes "g1")); known = refl; entries = record { count = refl; each = two_entries i few } }, two_size i 1 (omega arith))
fits_in (suc (suc zero)) i below few = (record { layout = layout_of (first_group (codes "g2")); known = refl; entries = record { count = refl; each = two_entries i few } }, two_size i 2 (omega arith))
fits_in (suc (suc (suc zero))) i below few = (record { layout = layout_of last_group; known = refl; entries = record { count = refl; each = three_entries i few } }, three_size i)
fits_in (suc (suc (suc (suc group)))) i below few = absurd (omega (arith, below))

fits : (i : ℕ) → i < 1000000 → TaskFits generated_plan (task.Sample (sample_of i))
fits i few = fits_in (i % 4) i (omega arith) few

-- its group is that of its source
owner_is : (s : ℕ) → s < 4 → slice_index generated_plan.owners s ≡ s
owner_is zero below = refl
owner_is (suc zero) below = refl
owner_is (suc (suc zero)) below = refl
owner_is (suc (suc (suc zero))) below = refl
owner_is (suc (suc (suc (suc s)))) below = absurd (omega (arith, below))

owned : (s k : ℕ) → s < 4 → slice_index generated_plan.owners ((4 * k + s) % 4) ≡ s
owned s k below =
    let same : (4 * k + s) % 4 ≡ s = omega (arith, below) in
    ap (slice_index generated_plan.owners) same ∙ owner_is s below

-- what holds of each sample, and of a flush, holds of what a source does
flush_is : (P : Task → Type 0) → P task.Flush → (count : ℕ) → All P (flush_behind count)
flush_is P flush count = if_flush (count % 1000 == 0) where
  if_flush : (b : Bool) → All P (cond b (task.Flush ∷ []) [])
  if_flush true = All-cons P task.Flush [] flush (All-nil P)
  if_flush false = All-nil P

each_task : (P : Task → Type 0) (s k : ℕ) → P task.Flush → ((n : ℕ) → n < k → P (task.Sample (sample_of (4 * n + s)))) → All P (tasks_of s k)
unfolding tasks_of
each_task P s zero flush each = All-nil P
each_task P s (suc k) flush each =
    All-append P (tasks_of s k) (tasks_at s k) (each_task P s k flush (λ n below. each n (omega (arith, below))))
    (All-cons P (task.Sample (sample_of (4 * k + s))) (flush_behind (k + 1)) (each k (omega arith)) (flush_is P flush (k + 1)))

pub all_fit : (s k : ℕ) → s < 4 → k ≤ 250000 → All (TaskFits generated_plan) (tasks_of s k)
all_fit s k below few = each_task (TaskFits generated_plan) s k tt (λ n less. fits (4 * n + s) (omega (arith, less, few, below)))

pub all_own : (s k : ℕ) → s < 4 → All (IsTaskOf generated_plan s) (tasks_of s k)
all_own s k below = each_task (IsTaskOf generated_plan s) s k tt (λ n less. owned s n below)

-- one sample more
pub tasks_more : (s k : ℕ) → tasks_of s (k + 1) ≡ tasks_of s k ++ tasks_at s k
unfolding tasks_of
tasks_more s k = ap (tasks_of s) (add-one k)

-- the lists of the first sources, with one more
pub lists_more : (n s : ℕ) → s < 4 → take (s + 1) (generated_lists n) ≡ take s (generated_lists n) ++ tasks_of s (count_of n s) ∷ []
lists_more n zero below = refl
lists_more n (suc zero) below = refl
lists_more n (suc (suc zero)) below = refl
lists_more n (suc (suc (suc zero))) below = refl
lists_more n (suc (suc (suc (suc s)))) below = absurd (omega (arith, below))

-- the generated script is one
pub is_script : (n : ℕ) → n ≤ 1000000 → IsPlan generated_plan → IsScript (generated_script n)
is_script n few plan = record { plan = plan; lists = refl; fit = fit; own = own } where
  fit : (s : ℕ) (d : List Task) → s < 4 → All (TaskFits generated_plan) (slice_index_or (generated_lists n) s d)
  fit zero d below = all_fit 0 (count_of n 0) (omega arith) (omega (arith, few))
  fit (suc zero) d below = all_fit 1 (count_of n 1) (omega arith) (omega (arith, few))
  fit (suc (suc zero)) d below = all_fit 2 (count_of n 2) (omega arith) (omega (arith, few))
  fit (suc (suc (suc zero))) d below = all_fit 3 (count_of n 3) (omega arith) (omega (arith, few))
  fit (suc (suc (suc (suc s)))) d below = absurd (omega (arith, below))

  own : (s : ℕ) (d : List Task) → s < 4 → All (IsTaskOf generated_plan s) (slice_index_or (generated_lists n) s d)
  own zero d below = all_own 0 (count_of n 0) (omega arith)
  own (suc zero) d below = all_own 1 (count_of n 1) (omega arith)
  own (suc (suc zero)) d below = all_own 2 (count_of n 2) (omega arith)
  own (suc (suc (suc zero))) d below = all_own 3 (count_of n 3) (omega arith)
  own (suc (suc (suc (suc s)))) d below = absurd (omega (arith, below))
