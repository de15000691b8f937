-- The last sample of a group.
use Rattle.std.specs.Prelude.{ℕ, ◌==◌, List, Option, find, reverse}
use Rattle.mdf_layout.specs.declared.sample.Sample.{Sample}

-- from the end of the list, the first sample of the group
abbrev pub latest_of : ℕ → List Sample → Option Sample
latest_of group samples = find (λ sample. sample.group == group) (reverse samples)
