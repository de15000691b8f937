-- Why the readers of a file refuse it, and what their answers say of what a definition over the whole file finds.
use Rattle.std.specs.Prelude.{ℕ, ◌≡◌, Bool, true, false, Option, Some, None, IsSome, Result, Ok, Err}
use Rattle.mdf_format.specs.declared.kind.Kind.{Kind}
use Rattle.mdf_num.specs.declared.halt.Halt.{Halt}
use Rattle.mdf_num.specs.declared.halt.Halt.TheVariants as halts
use Rattle.mdf_block.specs.declared.what.What.{What}

-- all that any reader refuses a file for
pub data Refusal : Type 0 where
  -- the first 64 bytes are no identification
  NotMdf : Refusal
  -- the standard and the custom flags of an unfinalized file
  Unfinalized : ℕ → ℕ → Refusal
  -- the standard and the custom flags of a file that is no recording
  NotRecording : ℕ → ℕ → Refusal
  -- the version
  Version : ℕ → Refusal
  -- the address, and the kind of block that does not stand whole there
  Bad : ℕ → Kind → Refusal
  -- the address of compressed data
  Compressed : ℕ → Refusal
  -- what there is too many of, and the address of the one that is too many
  TooMany : What → ℕ → Refusal
  -- the address of a conversion that lies too deep
  Deep : ℕ → Refusal
  -- the address of a channel, and its kind
  ChannelKind : ℕ → ℕ → Refusal
  -- the address of a channel, and its data type
  ChannelType : ℕ → ℕ → Refusal
  -- the address of a channel whose field has no place in the record, or of its data group
  Layout : ℕ → Refusal
  -- the record id, and the place in the stream
  UnknownId : ℕ → ℕ → Refusal
  -- the place in the stream where no whole record begins
  Cut : ℕ → Refusal
  -- the group, how many cycles it says, and how many there are
  Cycles : ℕ → ℕ → ℕ → Refusal
  -- the channel, the row, and the offset that meets no value
  Offset : ℕ → ℕ → ℕ → Refusal

-- a fault of a reader and the fault that the reader above it makes of it are told for the same refusal
abbrev pub Renames : {E F : Type 0} → (E → Option Refusal) → (F → Option Refusal) → E → F → Type 0
Renames below above fault raised = above raised ≡ below fault

-- what is found, or the first reason to refuse
abbrev pub Read : Type 0 → Type 0
Read A = Result A Refusal

-- one step after another; the first refusal is the answer
infixl 10 ◌>>=◌
abbrev pub ◌>>=◌ : {A B : Type 0} → Read A → (A → Read B) → Read B
(Ok x) >>= next = next x
(Err refusal) >>= next = Err refusal

-- a fault that no refusal stands for is want of memory, and that is no answer about the file
abbrev pub Refuses : {A : Type 0} → Option Refusal → Read A → Type 0
Refuses None read = ⊥
Refuses (Some refusal) read = read ≡ Err refusal

-- a fault is the first reason to refuse; a stop by the device or for want of memory says nothing of the file
abbrev pub Halts : {E A : Type 0} → (E → Option Refusal) → Halt E → Read A → Type 0
Halts refusal (halts.Fault fault) read = Refuses (refusal fault) read
Halts refusal halts.Failed read = Unit {0}
Halts refusal halts.Memory read = Unit {0}

-- an answer of a reader over a span is what is found, or the first reason to refuse
abbrev pub Gives : {E A : Type 0} → (E → Option Refusal) → Result A (Halt E) → Read A → Type 0
Gives refusal (Ok x) read = read ≡ Ok x
Gives refusal (Err halt) read = Halts refusal halt read

-- the same for a reader that leaves a part of what is found behind a reference
abbrev pub GivesAnd : {E A S : Type 0} → (E → Option Refusal) → Result A (Halt E) → S → Read (A × S) → Type 0
GivesAnd refusal (Ok x) left read = read ≡ Ok (x, left)
GivesAnd refusal (Err halt) left read = Halts refusal halt read

-- the same for readers of bytes in memory; a fault that no refusal stands for is want of memory
abbrev pub Fails : {A : Type 0} → Option Refusal → Read A → Type 0
Fails None read = Unit {0}
Fails (Some refusal) read = read ≡ Err refusal

abbrev pub GivesOf : {E A : Type 0} → (E → Option Refusal) → Result A E → Read A → Type 0
GivesOf refusal (Ok x) read = read ≡ Ok x
GivesOf refusal (Err fault) read = Fails (refusal fault) read

abbrev pub GivesSlice : {E A S : Type 0} → (E → Option Refusal) → Result A E → S → Read (A × S) → Type 0
GivesSlice refusal (Ok x) left read = read ≡ Ok (x, left)
GivesSlice refusal (Err fault) left read = Fails (refusal fault) read

-- want of memory hides no refusal: where the span wants no memory, it is wanted only where something is found
abbrev pub HidesNone : {E A B : Type 0} → Bool → Result A (Halt E) → Read B → Type 0
HidesNone true result read = Unit {0}
HidesNone false (Ok x) read = Unit {0}
HidesNone false (Err (halts.Fault fault)) read = Unit {0}
HidesNone false (Err halts.Failed) read = Unit {0}
HidesNone {E} {A} {B} false (Err halts.Memory) read = (x : B) × (read ≡ Ok x)

-- a reader over a span never has want of memory inside its fault, which no refusal stands for
abbrev pub IsPlain : {E : Type 0} → (E → Option Refusal) → Halt E → Type 0
IsPlain refusal (halts.Fault fault) = IsSome (refusal fault)
IsPlain refusal halts.Failed = Unit {0}
IsPlain refusal halts.Memory = Unit {0}
