-- What a feed hands in.
use Rattle.std.specs.Prelude.{ℕ, suc, ◌+◌, List, [], ◌∷◌}
use Rattle.mdf_layout.specs.declared.sample.Sample.{Sample}
use Rattle.acq_run.specs.declared.feed.Fed.{Fed}
use Rattle.acq_run.specs.declared.feed.Fed.TheVariants as fed

-- a sample or a flush
abbrev pub IsTask : Fed → Type 0
IsTask (fed.Sample sample) = Unit {0}
IsTask fed.Flush = Unit {0}
IsTask fed.End = ⊥

-- From the one to the other a feed handed in just this, and waits to be asked for more; and at the end nothing, and nothing more comes of it.
abbrev pub Feeds : {F : Type 0} → (F → List Fed → F → Type 0) → (F → Fed → Type 0) → (F → Type 0) → F → Fed → F → Type 0
Feeds hands waits ends old (fed.Sample sample) new = hands old (fed.Sample sample ∷ []) new × waits new (fed.Sample sample)
Feeds hands waits ends old fed.Flush new = hands old (fed.Flush ∷ []) new × waits new fed.Flush
Feeds hands waits ends old fed.End new = hands old [] new × ends new

-- the items before the first End
abbrev pub before_end : List Fed → List Fed
before_end [] = []
before_end (fed.Sample sample ∷ items) = fed.Sample sample ∷ before_end items
before_end (fed.Flush ∷ items) = fed.Flush ∷ before_end items
before_end (fed.End ∷ items) = []

-- the samples among these, in order
abbrev pub samples_of : List Fed → List Sample
samples_of [] = []
samples_of (fed.Sample sample ∷ items) = sample ∷ samples_of items
samples_of (fed.Flush ∷ items) = samples_of items
samples_of (fed.End ∷ items) = samples_of items

-- how many flushes are among these
abbrev pub flushes_of : List Fed → ℕ
flushes_of [] = 0
flushes_of (fed.Sample sample ∷ items) = flushes_of items
flushes_of (fed.Flush ∷ items) = suc (flushes_of items)
flushes_of (fed.End ∷ items) = flushes_of items

-- behind how many samples each flush among these stands, where so many stand before the first
abbrev pub flushes_behind : ℕ → List Fed → List ℕ
flushes_behind n [] = []
flushes_behind n (fed.Sample sample ∷ items) = flushes_behind (n + 1) items
flushes_behind n (fed.Flush ∷ items) = n ∷ flushes_behind n items
flushes_behind n (fed.End ∷ items) = flushes_behind n items
