-- What a crash may leave of a recording that is being written.
use Rattle.std.specs.Prelude.{ℕ, ◌≡◌, ◌+◌, ◌≤◌, ◌⊎◌, List, [], ◌∷◌, ◌++◌, length, take, Option, Some, None}
use mathlib.Core.List.{IsPrefix}
use Rattle.mdf_format.specs.Identification.{IsMdf}
use Rattle.mdf_disk.specs.Story.{Story, MayLeave, settled}
use Rattle.mdf_disk.specs.Calls.{range_of, touched}
use Rattle.mdf_gate.specs.Recording.{IsOpened}

-- the first bytes of the present content, where the story is told: the head of the file
abbrev pub head_of : Option Story → ℕ → List ℕ
head_of None first = []
head_of (Some story) first = take first story.now.content

-- no tool takes it for MDF
abbrev pub IsNotMdf : List ℕ → Type 0
IsNotMdf file = ¬ IsMdf file

-- the file ends behind the gate of a place at the latest
abbrev pub EndsBy : ℕ → List ℕ → Type 0
EndsBy place file = length file ≤ place + 1

-- the head with these opened blocks, and nothing behind the gate of this place
abbrev pub Opens : List ℕ → List (List ℕ) → ℕ → List ℕ → Type 0
Opens head blocks place file = IsPrefix head file × IsOpened file blocks × EndsBy place file

-- while a file with this head is made: no MDF, or the head with no opened block and at most a gate
abbrev pub IsBegun : List ℕ → List ℕ → Type 0
IsBegun head file = IsNotMdf file ⊎ Opens head [] (length head) file

-- while a block is appended: the head with the opened blocks before it, or with the block too, and nothing behind the gate
-- of the place that follows
abbrev pub OpensEither : List ℕ → List (List ℕ) → List ℕ → ℕ → List ℕ → Type 0
OpensEither head blocks body place file =
    IsPrefix head file × (IsOpened file blocks ⊎ IsOpened file (blocks ++ body ∷ [])) × EndsBy place file

-- what a crash may leave in a write of so many bytes from a place on, into a file that was kept
abbrev pub IsTorn : ℕ → ℕ → List ℕ → List ℕ → Type 0
IsTorn at count kept file = MayLeave (touched (range_of at count) kept (settled kept)) file

-- the bytes before a place and those behind it, with any byte between them
abbrev pub IsButGate : List ℕ → List ℕ → List ℕ → Type 0
IsButGate front rest file = (gate : ℕ) × (file ≡ front ++ gate ∷ rest)

-- the file with something behind it, no longer than the payload
abbrev pub IsGrown : List ℕ → List ℕ → List ℕ → Type 0
IsGrown kept payload file = IsPrefix kept file × (length file ≤ length kept + length payload)

-- What a crash may leave in the four calls that write a payload behind the last gate of a file and open that gate: the
-- file with something behind it, or the file but for that gate, and the payload.
abbrev pub IsStage : ℕ → List ℕ → List ℕ → List ℕ → Type 0
IsStage place kept payload file = IsGrown kept payload file ⊎ IsButGate (take place kept) payload file

-- what the disk keeps while a payload is written, until the gate before it is open: the file as it was, or with the whole
-- payload behind it
abbrev pub IsStaged : List ℕ → List ℕ → List ℕ → Type 0
IsStaged file payload kept = (kept ≡ file) ⊎ (kept ≡ file ++ payload)
