-- What a source does.
use Rattle.std.specs.Prelude.{List, [], ◌∷◌}
use Rattle.mdf_layout.specs.declared.sample.Sample.{Sample}
use Rattle.acq_script.specs.declared.script.Task.{Task}
use Rattle.acq_script.specs.declared.script.Task.TheVariants as task

-- the samples that it hands in, in order
abbrev pub samples_of : List Task → List Sample
samples_of [] = []
samples_of (task.Sample sample ∷ tasks) = sample ∷ samples_of tasks
samples_of (task.Flush ∷ tasks) = samples_of tasks
