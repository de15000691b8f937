-- The copies of what is shown: one that readers enter, and one that the writer changes.
use Rattle.std.specs.Prelude.{ℕ, ◌≡◌, ◌⊎◌, List, [], ◌∷◌, ◌++◌, take}
use Rattle.std.specs.Arc.{arc_value}
use mathlib.Core.Option.{some}
use lib.ListN.{get_elem?}
use Rattle.mdf_layout.specs.Chunked.{joined}
use Rattle.book_view.specs.Names.{name_of}
use Rattle.book_view.specs.declared.store.Store.{Store}
use Rattle.book_view.specs.declared.store.Addition.{Addition}

-- a copy that took one chunk more, behind the first so many of its own
abbrev pub added : Store → Addition → Store
added store addition = record { chunks = take addition.keep store.chunks ++ arc_value addition.chunk ∷ []; front = addition.front }

-- which log a copy is of
abbrev pub log_of : Store → List ℕ
log_of store = name_of store.front.seen.book

-- the samples of its chunks are a beginning of the log
abbrev pub IsWhole : Store → Type 0
IsWhole store = joined store.chunks ≡ store.front.seen.log

-- who knows a log at all knows this one
abbrev pub AllOf : List ℕ → List (List ℕ) → Type 0
AllOf name views = (seat : ℕ) (view : List ℕ) → get_elem? views seat ≡ some view → (view ≡ []) ⊎ (view ≡ name)

-- What holds of the copy that readers enter, and of what each of them and the writer knows.
abbrev pub Holds : Store → List (List ℕ) → Type 0
Holds store views = IsWhole store × AllOf (log_of store) views

-- Who enters a copy, or shows another one, finds a beginning of the log that it knows.
abbrev pub Tells : List ℕ → Store → Store → List ℕ → Type 0
Tells view before now after = (after ≡ view) × IsWhole now × ((view ≡ []) ⊎ (view ≡ log_of now))

-- who shows the first copy knows its log
abbrev pub Opened : List ℕ → Store → Store → List ℕ → Type 0
Opened view before now after = after ≡ log_of now
