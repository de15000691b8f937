-- Samples in chunks that do not change, and an open tail.
use Rattle.std.specs.Prelude.{◌≡◌, ◌≢◌, ◌<◌, ◌≤◌, ℕ, List, Some, length, take, slice_get, flat_map}
use Rattle.std.specs.List.{All}
use mathlib.Core.List.{IsPrefix}
use Rattle.mdf_layout.specs.declared.sample.Sample.{Sample}

-- the samples, how many more they can take without memory, and the chunks
pub record Chunked : Type 0 where
  pub items : List Sample
  pub spare : ℕ
  pub chunks : List (List Sample)

-- the samples of chunks
abbrev pub joined : List (List Sample) → List Sample
joined chunks = flat_map (λ (chunk : List Sample). chunk) chunks

-- how many samples stand before chunk k; at the number of chunks and past it, how many there are
abbrev pub start_of : List (List Sample) → ℕ → ℕ
start_of chunks k = length (joined (take k chunks))

-- this chunk begins at sample `at`
abbrev pub BeginsAt : List (List Sample) → ℕ → List Sample → Type 0
BeginsAt chunks at chunk = (k : ℕ) × (at ≡ start_of chunks k) × (slice_get chunks k ≡ Some chunk)

-- no chunk begins there
abbrev pub BeginsNone : List (List Sample) → ℕ → Type 0
BeginsNone chunks at = (k : ℕ) → k < length chunks → start_of chunks k ≢ at

-- no chunk is empty, and the samples begin with those of the chunks
pub record AreSealed (chunks : List (List Sample)) (items : List Sample) : Type 0 where
  pub some : All (λ chunk. 1 ≤ length chunk) chunks
  pub begins : IsPrefix (joined chunks) items

-- the chunks stay, and with new ones behind them they are the first `upto` samples
pub record Seals (chunks : List (List Sample)) (items : List Sample) (upto : ℕ) (after : List (List Sample)) : Type 0 where
  pub stay : IsPrefix chunks after
  pub ends : joined after ≡ take upto items
