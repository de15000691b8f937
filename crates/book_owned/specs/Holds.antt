-- What a front holds in memory.
use Rattle.std.specs.Prelude.{ℕ, ◌≡◌, ◌≢◌, ◌+◌, ◌≤◌, false, List, [], ◌∷◌, ◌++◌, length, take, drop, All, sum_by}
use Rattle.mdf_layout.specs.Written.{AreApart}
use Rattle.mdf_layout.specs.Record.{SampleFits, cost_of, history_cost}
use Rattle.mdf_layout.specs.Behind.{variables, IsEncodingBehind, AreEncodingsBehind}
use Rattle.mdf_layout.specs.Stored.{IsStored}
use Rattle.mdf_layout.specs.Next.{AreNext}
use Rattle.mdf_layout.specs.declared.sample.Sample.{Sample}
use Rattle.book_owned.specs.declared.in_memory.InMemory.{InMemory}

-- The layouts and limits are admissible, each sample is one of theirs, what the history costs is counted, and where the
-- next values of variable length go is known.
pub record IsCounted {V : Type 0} (front : InMemory V) : Type 0 where
  pub fit : All (SampleFits front.shapes) front.history.items
  pub held : front.held ≡ history_cost front.shapes front.history.items
  pub within : front.held ≤ front.session_limit
  pub session : front.session_limit ≤ 268435456
  pub some : 1 ≤ front.block.limit
  pub block : front.block.limit ≤ 16777216
  pub groups : length front.shapes ≤ 64
  pub fields : sum_by (λ layout. length layout.rows) front.shapes ≤ 1024
  pub variable : sum_by (λ layout. length (variables layout.rows)) front.shapes ≤ 128
  pub disjoint : All (λ layout. AreApart layout.rows) front.shapes
  pub stored : All (λ layout. All IsStored layout.rows) front.shapes
  pub next : AreNext front.shapes front.history.items front.next

-- While the disk has not failed, the block holds the records of the samples behind the last hand-over; and there is room for
-- the mark of a full one.
pub record IsPending {V : Type 0} (front : InMemory V) : Type 0 where
  pub records : front.stopped ≡ false
      → AreEncodingsBehind front.shapes (take front.from front.history.items) front.block.bytes (drop front.from front.history.items)
  pub room : front.block.bytes ≢ [] → 1 ≤ front.marks.spare

-- a sample was put behind the history, and its record behind the pending ones
pub record IsPut {V : Type 0} (old new : InMemory V) (sample : Sample) : Type 0 where
  pub fits : SampleFits old.shapes sample
  pub record_bytes : List ℕ
  pub record_is : IsEncodingBehind old.shapes old.history.items record_bytes sample
  pub block : new.block.bytes ≡ old.block.bytes ++ record_bytes
  pub limit : new.block.limit ≡ old.block.limit
  pub history : new.history.items ≡ old.history.items ++ sample ∷ []
  pub chunks : new.history.chunks ≡ old.history.chunks
  pub held : new.held ≡ old.held + cost_of old.shapes sample
  pub next : AreNext old.shapes new.history.items new.next
  pub rest : new ≡ record old { history = new.history; held = new.held; block = new.block; next = new.next }
