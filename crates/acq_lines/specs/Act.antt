-- What a feed of lines does, in order: it reads bytes of its input, and hands in samples and flushes. It reads no more while a sample that it
-- handed in has no flush behind it.
use Rattle.std.specs.Prelude.{ℕ, ◌≡◌, Bool, true, false, List, [], ◌∷◌, ◌++◌}
use Rattle.acq_run.specs.declared.feed.Fed.{Fed}
use Rattle.acq_run.specs.declared.feed.Fed.TheVariants as fed

pub data Act : Type 0 where
  Read : List ℕ → Act
  Hand : Fed → Act

-- the bytes that were read, and what was handed in
abbrev pub read_in : List Act → List ℕ
read_in [] = []
read_in (Read bytes ∷ acts) = bytes ++ read_in acts
read_in (Hand task ∷ acts) = read_in acts

abbrev pub handed_in : List Act → List Fed
handed_in [] = []
handed_in (Read bytes ∷ acts) = handed_in acts
handed_in (Hand task ∷ acts) = task ∷ handed_in acts

-- whether a sample was handed in behind the last flush
abbrev pub pending_with : Bool → Fed → Bool
pending_with pending (fed.Sample sample) = true
pending_with pending fed.Flush = false
pending_with pending fed.End = pending

abbrev pub pending_behind : Bool → List Fed → Bool
pending_behind pending [] = pending
pending_behind pending (task ∷ feds) = pending_behind (pending_with pending task) feds

-- none was where it read
abbrev pub AreCommitted : Bool → List Act → Type 0
AreCommitted pending [] = Unit {0}
AreCommitted pending (Read bytes ∷ acts) = (pending ≡ false) × AreCommitted pending acts
AreCommitted pending (Hand task ∷ acts) = AreCommitted (pending_with pending task) acts
