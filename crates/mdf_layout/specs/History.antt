-- Which samples of a history are a source's, and which are a group's.
use Rattle.std.specs.Prelude.{ℕ, ◌==◌, List, filter, slice_index}
use Rattle.mdf_layout.specs.declared.sample.Sample.{Sample}

-- those whose group the source owns, in order
abbrev pub source_samples : List ℕ → List Sample → ℕ → List Sample
source_samples owners history source = filter (λ sample. slice_index owners sample.group == source) history

-- those of the group, in order
abbrev pub group_samples : List Sample → ℕ → List Sample
group_samples history group = filter (λ sample. sample.group == group) history
