-- What tasks cost, and what was moved.
use Rattle.std.proofs.Common.{◌≡◌, ◌+◌, List, [], ◌∷◌, ◌++◌, refl, ap, arith}
use Rattle.std.proofs.lemmas.List.Sums.{sum_by-append}
use Rattle.mdf_layout.specs.Layout.{Layout}
use Rattle.mdf_layout.specs.Record.{cost_of}
use Rattle.acq_script.specs.Tasks.{samples_of}
use Rattle.acq_script.specs.declared.script.Task.{Task}
use Rattle.acq_script.specs.declared.script.Task.TheVariants as task
use Rattle.book_rotate.specs.Part.{task_cost, tasks_cost}

pub samples_of-append : (xs ys : List Task) → samples_of (xs ++ ys) ≡ samples_of xs ++ samples_of ys
samples_of-append [] ys = refl
samples_of-append (task.Sample sample ∷ xs) ys = ap (λ s. sample ∷ s) (samples_of-append xs ys)
samples_of-append (task.Flush ∷ xs) ys = samples_of-append xs ys

pub tasks_cost-append : (layouts : List Layout) (xs ys : List Task) → tasks_cost layouts (xs ++ ys) ≡ tasks_cost layouts xs + tasks_cost layouts ys
tasks_cost-append layouts xs ys = rw (samples_of-append xs ys) (sum_by-append (cost_of layouts) (samples_of xs) (samples_of ys))

-- of one task
pub tasks_cost-one : (layouts : List Layout) (t : Task) → tasks_cost layouts (t ∷ []) ≡ task_cost layouts t
tasks_cost-one layouts (task.Sample sample) = omega arith
tasks_cost-one layouts task.Flush = refl

pub tasks_cost-more : (layouts : List Layout) (xs : List Task) (t : Task) → tasks_cost layouts (xs ++ t ∷ []) ≡ tasks_cost layouts xs + task_cost layouts t
tasks_cost-more layouts xs t = omega (arith, tasks_cost-append layouts xs (t ∷ []), tasks_cost-one layouts t)
