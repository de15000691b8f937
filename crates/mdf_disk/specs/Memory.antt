-- What a disk in memory has.
use Rattle.std.specs.Prelude.{ℕ, ◌≡◌, ◌⊎◌, ◌+◌, ◌-◌, ◌^◌, min, Contains, OnOk, List, [], ◌∷◌, ◌++◌, Option, Some, None, IsSome, false, Result, Ok, Err}
use Rattle.mdf_num.specs.Plan.{Plan}
use Rattle.mdf_disk.specs.declared.call.Call.{Call}
use Rattle.mdf_disk.specs.declared.call.Call.TheVariants.{Write, Refused}
use Rattle.mdf_disk.specs.declared.role.Role.{Role}
use Rattle.mdf_disk.specs.declared.role.Role.TheVariants.{Read, Create}
use Rattle.mdf_disk.specs.declared.memory.MemoryDisk.{MemoryDisk}

-- the calls that it recorded
abbrev pub calls_of : MemoryDisk → List Call
calls_of disk = disk.tape

-- the file that was there at first, if any
abbrev pub file_of : MemoryDisk → Option (List ℕ)
file_of disk = disk.file

-- which of its calls are to fail, and how many were begun
abbrev pub plan_of : MemoryDisk → Plan
plan_of disk = disk.plan

-- one more call is begun, and of those that are to fail none succeeds
pub record CountsCall {T E : Type 0} (old new : Plan) (result : Result T E) : Type 0 where
  pub planned : OnOk result (¬ Contains old.failing old.calls)
  pub failing : new.failing ≡ old.failing
  pub begun : new.calls ≡ min (old.calls + 1) (2 ^ 64 - 1)

-- A call is recorded as done behind the others, or as one that failed; of one that failed the record may be missing.
abbrev pub Records : {T E : Type 0} → List Call → List Call → Call → Call → Result T E → Type 0
Records old new done failed (Ok _) = new ≡ old ++ done ∷ []
Records old new done failed (Err _) = (new ≡ old) ⊎ (new ≡ old ++ failed ∷ [])

-- the record of a write that failed; into a file that was there at first nothing is written
abbrev pub failed_write : Option (List ℕ) → ℕ → List ℕ → Call
failed_write None at bytes = Write at bytes false
failed_write (Some file) at bytes = Refused

-- what can be attached: to read, a file that is there; to make one, a name under which there is none
abbrev pub IsThere : Role → Option (List ℕ) → Type 0
IsThere Read file = IsSome file
IsThere Create file = file ≡ None
