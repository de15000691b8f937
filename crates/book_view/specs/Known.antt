-- What contracts see of a view, of its readers and of its notes. Each is of a log, which has a number.
use Rattle.std.specs.Prelude.{ℕ, ◌≡◌, ◌+◌, ◌-◌, ◌^◌, List, min}
use mathlib.Core.List.{IsPrefix}
use Rattle.mdf_layout.specs.declared.sample.Sample.{Sample}

-- a view: what readers see, and what the copies were handed, which may be more where memory was short
pub record Live : Type 0 where
  pub shown : List Sample
  pub handed : List Sample
  pub which : ℕ

-- a note: what was shown when it was made
pub record Note : Type 0 where
  pub samples : List Sample
  pub which : ℕ

-- a reader: the samples that it has seen or was told of, how often it was refused, and how many views it took
pub record Known : Type 0 where
  pub samples : List Sample
  pub which : ℕ
  pub refusals : ℕ
  pub views : ℕ

-- what is known now begins with all that was known before, of the same log, and one view more was taken, as far as is counted
pub record Grows (before now : Known) : Type 0 where
  pub samples : IsPrefix before.samples now.samples
  pub which : now.which ≡ before.which
  pub refusals : now.refusals ≡ before.refusals
  pub views : now.views ≡ min (before.views + 1) (2 ^ 64 - 1)

-- the reader was refused once more, as far as is counted, and knows what it knew
abbrev pub refused_once : Known → Known
refused_once reader = record reader { refusals = min (reader.refusals + 1) (2 ^ 64 - 1) }
