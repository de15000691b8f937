-- Chunks, and where each of them begins.
use Rattle.std.specs.Prelude.{◌≡◌, ◌<◌, ℕ, List, length, get_or, map}
use Rattle.std.specs.Arc.{arc_value}
use Rattle.mdf_layout.specs.Chunked.{joined, start_of}
use Rattle.mdf_layout.specs.declared.sample.Sample.{Sample}
use Rattle.mdf_layout.specs.declared.chunks.Part.{Part}

-- the chunks of parts
abbrev pub chunks_of : List Part → List (List Sample)
chunks_of parts = map (λ (part : Part). arc_value part.chunk) parts

-- each part begins behind those before it, and all have so many samples
pub record AreParts (parts : List Part) (len : ℕ) : Type 0 where
  pub starts : (k : ℕ) (d : Part) → k < length parts → (get_or parts k d).start ≡ start_of (chunks_of parts) k
  pub whole : len ≡ length (joined (chunks_of parts))
