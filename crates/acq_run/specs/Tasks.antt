-- What a source may hand in.
use Rattle.std.specs.Prelude.{ℕ, ◌≡◌, ◌≤◌, List, slice_index}
use Rattle.mdf_layout.specs.Record.{SampleFits, encoded_size}
use Rattle.mdf_layout.specs.declared.sample.Sample.{Sample}
use Rattle.book_owned.specs.Account.{Terms}
use Rattle.acq_run.specs.declared.feed.Fed.{Fed}
use Rattle.acq_run.specs.declared.feed.Fed.TheVariants as fed

-- the source may append the sample to a book of these terms: it owns the sample's group, the sample is one of that group's
-- layout, and its record has room in an empty block
pub record MayAppend (owners : List ℕ) (terms : Terms) (source : ℕ) (sample : Sample) : Type 0 where
  pub owned : slice_index owners sample.group ≡ source
  pub fits : SampleFits terms.layouts sample
  pub size : encoded_size terms.layouts sample ≤ terms.block_limit

-- so of what a source hands in; a flush always may be
abbrev pub MayFeed : List ℕ → Terms → ℕ → Fed → Type 0
MayFeed owners terms source (fed.Sample sample) = MayAppend owners terms source sample
MayFeed owners terms source fed.Flush = Unit {0}
MayFeed owners terms source fed.End = Unit {0}
