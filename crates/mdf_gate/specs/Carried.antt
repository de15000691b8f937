-- The samples that a recording carries: those whose records are the data of its opened blocks.
use Rattle.std.specs.Prelude.{ℕ, ◌+◌, ◌≤◌, List, [], length}
use Rattle.std.specs.List.{concat}
use mathlib.Core.List.{IsPrefix}
use Rattle.mdf_layout.specs.Layout.{Layout}
use Rattle.mdf_layout.specs.Read.{AreRead}
use Rattle.mdf_layout.specs.Behind.{AreEncodingsBehind}
use Rattle.mdf_layout.specs.Record.{history_cost}
use Rattle.mdf_layout.specs.declared.sample.Sample.{Sample}
use Rattle.mdf_gate.specs.Recording.{IsOpened}

-- the data of the file's opened blocks, one behind the other, are read as records of these samples
pub record IsCarried (layouts : List Layout) (file : List ℕ) (samples : List Sample) : Type 0 where
  pub blocks : List (List ℕ)
  pub opened : IsOpened file blocks
  pub records : AreRead layouts (concat blocks) samples

-- the data of the opened blocks are the records of these samples as they are written, with the bits of no channel 0
pub record IsEncoded (layouts : List Layout) (file : List ℕ) (samples : List Sample) : Type 0 where
  pub blocks : List (List ℕ)
  pub opened : IsOpened file blocks
  pub records : AreEncodingsBehind layouts [] (concat blocks) samples

-- The file begins with the head, and carries a beginning of the history with at least so many samples. It is no longer than
-- the head, what the history costs and a gate.
pub record Carries (layouts : List Layout) (head : List ℕ) (history : List Sample) (through : ℕ) (file : List ℕ) : Type 0 where
  pub begins : IsPrefix head file
  pub samples : List Sample
  pub carried : IsCarried layouts file samples
  pub beginning : IsPrefix samples history
  pub enough : through ≤ length samples
  pub ends : length file ≤ length head + history_cost layouts history + 1
