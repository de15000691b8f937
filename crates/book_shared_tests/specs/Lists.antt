-- What the sources of the tests hand in.
use Rattle.std.specs.Prelude.{ℕ, ◌≡◌, ◌≤◌, List}
use Rattle.mdf_layout.specs.Layout.{Layout}
use Rattle.mdf_layout.specs.Record.{SampleFits, encoded_size}
use Rattle.acq_run.specs.declared.feed.Fed.{Fed}
use Rattle.acq_run.specs.declared.feed.Fed.TheVariants as fed

-- a sample of this group that has room in a block of 9 bytes, or a flush
abbrev pub IsOf : List Layout → ℕ → Fed → Type 0
IsOf layouts group (fed.Sample sample) = (sample.group ≡ group) × SampleFits layouts sample × (encoded_size layouts sample ≤ 9)
IsOf layouts group fed.Flush = Unit {0}
IsOf layouts group fed.End = ⊥
