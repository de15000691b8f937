-- How a reader through pages ended, by what its disk tells before and after, and before it was attached.
use Rattle.std.proofs.Common.{◌≡◌, ◌≤◌, ℕ, List, length, true, Option, Some, None, Result, Ok, Err, refl, ◌∙◌, sym, ap, subst, inl, inr}
use Rattle.std.specs.Prelude.{IfSome}
use Rattle.mdf_format.specs.Cause.{Rose}
use Rattle.mdf_num.specs.declared.halt.Halt.{Halt}
use Rattle.mdf_num.specs.declared.halt.Halt.TheVariants as halts
use Rattle.mdf_block.specs.Refusal.{Read, Refuses, Halts, IsPlain}
use Rattle.mdf_content.specs.declared.fault.ReadFault.{ReadFault}
use Rattle.mdf_content.specs.Fault.{read_refusal}
use Rattle.mdf_disk.specs.State.{DiskState}
use Rattle.mdf_command.specs.Faults.{READING_LIMIT}
use Rattle.mdf_command.specs.Load.{LoadFaultOf}
use Rattle.mdf_command.specs.declared.fault.Fault.{Fault}
use Rattle.mdf_command.specs.declared.fault.Fault.TheVariants as fault
use Rattle.mdf_inspect.specs.Paged.{HaltComes, IfReadOf, PagedComes, PagedFaultComes, StopComes}

-- has at most so many bytes, and no more than a file may have that is read piece by piece
abbrev pub IsShortOf : ℕ → Option (List ℕ) → Type 0
IsShortOf most content = IfSome content (λ (file : List ℕ). length file ≤ most)

abbrev pub IsShort : Option (List ℕ) → Type 0
IsShort = IsShortOf READING_LIMIT

module _ (most : ℕ) where
  told_then : (content : Option (List ℕ)) (P : List ℕ → Type 0) → IsShortOf most content → ((file : List ℕ) → content ≡ Some file → P file)
      → IfSome content (λ (file : List ℕ). (length file ≤ most) × P file)
  told_then None P short holds = tt
  told_then (Some file) P short holds = (short, holds file refl)

  -- what holds of each file that the disk tells holds of it, if it tells one
  pub if_read : (disk : DiskState) (P : List ℕ → Type 0) → IsShortOf most disk.content → ((file : List ℕ) → disk.content ≡ Some file → P file)
      → IfReadOf most disk P
  if_read disk P short holds = told_then disk.content P short holds

  told_also : (content : Option (List ℕ)) (P Q : List ℕ → Type 0) → ((file : List ℕ) → P file → Q file)
      → IfSome content (λ (file : List ℕ). (length file ≤ most) × P file) → IfSome content (λ (file : List ℕ). (length file ≤ most) × Q file)
  told_also None P Q then holds = tt
  told_also (Some file) P Q then holds = (holds.0, then file holds.1)

  -- and what follows of it
  pub also_read : (disk : DiskState) (P Q : List ℕ → Type 0) → ((file : List ℕ) → P file → Q file) → IfReadOf most disk P → IfReadOf most disk Q
  also_read disk P Q then holds = told_also disk.content P Q then holds

  -- a file that was not opened is not read
  pub unopened : {A : Type 0} (read : List ℕ → Read A) (old new : DiskState) (problem : Fault) → LoadFaultOf most old new problem
      → PagedFaultComes most read old new problem
  unopened read old new (fault.Read refused) comes = absurd comes
  unopened read old new problem comes = comes

  -- of a disk whose file is attached
  module _ (mid new : DiskState) (attached : new.attached ≡ true) (short : IsShortOf most mid.content) where
    pub stopped : (problem : Fault) → StopComes mid.faults new.faults problem → LoadFaultOf most mid new problem
    stopped fault.Device rose = rose
    stopped fault.Memory calm = inr (attached, short, calm)
    stopped problem comes = absurd comes

    pub halted : {A : Type 0} (read : List ℕ → Read A) (halt : Halt ReadFault) (problem : Fault) → HaltComes mid.faults new.faults halt problem
        → IsPlain read_refusal halt → ((file : List ℕ) → mid.content ≡ Some file → Halts read_refusal halt (read file))
        → PagedFaultComes most read mid new problem
    halted read (halts.Fault refused) problem is plain refuses =
        subst (PagedFaultComes most read mid new) (sym is) (plain, if_read mid (λ file. Refuses (read_refusal refused) (read file)) short refuses)
    halted read halts.Failed problem comes plain refuses = unopened read mid new problem (stopped problem comes)
    halted read halts.Memory problem comes plain refuses = unopened read mid new problem (stopped problem comes)

  -- and of what it told before it was attached
  module _ (old mid new : DiskState) (content : mid.content ≡ old.content) (calm : mid.faults ≡ old.faults) (attached : mid.attached ≡ true)
      (short : IsShortOf most old.content) where
    pub read_from : (P : List ℕ → Type 0) → IfReadOf most mid P → IfReadOf most old P
    read_from P holds = subst (λ (told : Option (List ℕ)). IfSome told (λ (file : List ℕ). (length file ≤ most) × P file)) content holds

    pub load_from : (problem : Fault) → LoadFaultOf most mid new problem → LoadFaultOf most old new problem
    load_from fault.Device rose = subst (λ (n : ℕ). Rose n new.faults) calm rose
    load_from (fault.InputOver size limit) over = record {
      limit_is = over.limit_is;
      over = over.over;
      told = subst (λ (told : Option (List ℕ)). IfSome told (λ (file : List ℕ). size ≡ length file)) content over.told;
    }
    load_from fault.Memory (inl same) = inr (ap (λ (disk : DiskState). disk.attached) same ∙ attached, short, ap (λ (disk : DiskState). disk.faults) same ∙ calm)
    load_from fault.Memory (inr wants) = inr (wants.0, short, wants.2 ∙ calm)
    load_from problem comes = absurd comes

    fault_from : {A : Type 0} (read : List ℕ → Read A) (problem : Fault) → PagedFaultComes most read mid new problem → PagedFaultComes most read old new problem
    fault_from read (fault.Read refused) comes = (comes.0, read_from (λ file. Refuses (read_refusal refused) (read file)) comes.1)
    fault_from read problem comes = load_from problem comes

    pub paged_from : {A : Type 0} (read : List ℕ → Read A) (end : Result A Fault) → PagedComes most read mid new end → PagedComes most read old new end
    paged_from read (Ok found) comes = read_from (λ file. read file ≡ Ok found) comes
    paged_from read (Err problem) comes = fault_from read problem comes
