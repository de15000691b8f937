-- What the reader of a source has seen.
use Rattle.std.specs.Prelude.{ℕ, suc, ◌≡◌, ◌≤◌, ◌+◌, ◌-◌, ◌^◌, ◌<◌, ◌⊎◌, min, max, fold, List, length, take, Option, Some, None, IsSomeAnd}
use Rattle.std.specs.Option.{ForSome}
use mathlib.Core.List.{IsPrefix}
use Rattle.mdf_layout.specs.declared.sample.Sample.{Sample}
use Rattle.book_view.specs.Known.{Known, Note}
use Rattle.acq_run.specs.declared.watcher.Watcher.{Watcher}

-- a reader of the view of this number; none where nobody looks
abbrev pub IsOf : Option Known → ℕ → Type 0
IsOf None which = which ≡ 0
IsOf (Some reader) which = suc reader.which ≡ which

-- Where a source has seen this history, and the book has the view of this number: the reader is of that view, and knows the
-- samples that were shown at any flush of the source.
pub record Watches (watcher : Watcher) (which : ℕ) (seen : List Sample) : Type 0 where
  pub within : watcher.told ≤ length seen
  pub of_view : IsOf watcher.reader which
  pub knows : ForSome watcher.reader (λ reader. IsPrefix (take watcher.told seen) reader.samples)

-- how often a reader looked: each time it took a view, or was refused one
abbrev pub looks_of : Known → ℕ
looks_of reader = reader.views + reader.refusals

-- from the one to the other a reader looked just so many times, unless its looks have come to the last value
abbrev pub HasLooked : Known → ℕ → Known → Type 0
HasLooked before times now =
    (looks_of now ≤ looks_of before + times) × (looks_of now + 1 < 2 ^ 64 → looks_of now ≡ looks_of before + times)

-- so of a source's reader, where it has one
abbrev pub AnyLooked : Option Known → ℕ → Option Known → Type 0
AnyLooked None times now = now ≡ None
AnyLooked (Some before) times now = IsSomeAnd now (HasLooked before times)

-- the number that is told behind these, where there is a reader: the greatest of it and them
abbrev pub told_by : Option Known → ℕ → List ℕ → ℕ
told_by None told shown = told
told_by (Some reader) told shown = fold max told shown

-- From the one to the other just these flushes were told, by how many samples were shown at each, unless their count stands at
-- the last value. Where there is a reader, the number that is told reached each of them, and it looked once for each.
abbrev pub Hears : Watcher → List ℕ → Watcher → Type 0
Hears before shown now =
    (now.flushes ≤ before.flushes + length shown) × (now.flushes + 1 < 2 ^ 64 → now.flushes ≡ before.flushes + length shown)
    × (now.told ≡ told_by before.reader before.told shown) × AnyLooked before.reader (length shown) now.reader

-- no flush has told it anything, and its reader has not looked
pub record IsFresh (watcher : Watcher) : Type 0 where
  pub told : watcher.told ≡ 0
  pub flushes : watcher.flushes ≡ 0
  pub looks : ForSome watcher.reader (λ reader. (reader.views ≡ 0) × (reader.refusals ≡ 0))

-- a reader has learnt a note, and knows all that it knew; it took one view, or was refused one
pub record Looks (before : Known) (note : Note) (now : Known) : Type 0 where
  pub told : IsPrefix note.samples now.samples
  pub seen : IsPrefix before.samples now.samples
  pub which : now.which ≡ before.which
  pub looked : ((now.views ≡ min (before.views + 1) (2 ^ 64 - 1)) × (now.refusals ≡ before.refusals))
      ⊎ ((now.views ≡ before.views) × (now.refusals ≡ min (before.refusals + 1) (2 ^ 64 - 1)))

-- so many samples were shown at one of the flushes that were told, where the last one has this note
abbrev pub told_with : ℕ → Option Note → ℕ
told_with told None = told
told_with told (Some note) = max told (length note.samples)

-- so of a source's reader, where it has one
abbrev pub AnyLooks : Option Known → Note → Option Known → Type 0
AnyLooks None note now = now ≡ None
AnyLooks (Some before) note now = IsSomeAnd now (Looks before note)

-- how many samples a note tells of
abbrev pub counted : Option Note → Option ℕ
counted None = None
counted (Some note) = Some (length note.samples)
