-- What `finalize` makes of a file, and why it refuses it, by what is found of its standard flags.
use Rattle.std.proofs.Common.{◌≡◌, ⊎_elim, inl, inr, ℕ, List, Option, Some, None, Result, Ok, Err, refl, subst, sym}
use Rattle.std.proofs.lemmas.Bool.{false≢true}
use Rattle.std.specs.Prelude.{IsSome}
use Rattle.mdf_block.specs.Refusal.{Fails, Read, Refusal}
use Rattle.mdf_disk.specs.Crash.{Adds}
use Rattle.mdf_disk.specs.State.{DiskState}
use Rattle.mdf_disk.specs.Story.{Story}
use Rattle.mdf_disk.proofs.Crash.{adds_more}
use Rattle.mdf_head.specs.declared.identity.Ident.{Ident}
use Rattle.tool_complete.specs.Flags.{unfinished}
use Rattle.mdf_tool.specs.declared.fault.ToolFault.{ToolFault}
use Rattle.mdf_tool.specs.declared.fault.ToolFault.TheVariants as tool
use Rattle.mdf_tool.specs.declared.made.Report.{Report}
use Rattle.tool_complete.specs.Complete.{CompleteEnds, IsCompleteImage}
use Rattle.tool_complete.specs.declared.told.Completed.{Completed}
use Rattle.tool_final.specs.Finalize.{FinalizeEnds, IsFinalizeImage, IsFinalizedOf}
use Rattle.mdf_command.specs.Faults.{fault_of_tool}
use Rattle.mdf_command.specs.declared.fault.Fault.{Fault}
use Rattle.mdf_command.specs.declared.fault.Fault.TheVariants as fault
use Rattle.mdf_make.specs.declared.said.Said.{Said}
use Rattle.mdf_make.specs.Finalize.{Finalizes, FinalizesBy, IsFinalImage, IsImageBy, IsNotFinalized, RefusesBy}
use Rattle.mdf_make.specs.Tool.{IsImage, ToolEnds}
use Rattle.mdf_make.proofs.WithoutRest.{made_image, no_rest, told_adds, told_ends}

-- what is told of a completed file
abbrev pub with_rest : Completed → Said
with_rest told = record { report = told.report; rest = Some told.rest }

-- a file that is refused by its flags
pub refused_flags : (file : List ℕ) (refusal : Option Refusal) → IsSome refusal → Fails refusal (unfinished file)
    → (one : Refusal) × (unfinished file ≡ Err one)
refused_flags file None some fails = absurd (false≢true some)
refused_flags file (Some refusal) some fails = (refusal, fails)

-- it refuses none for the source
pub source_is_none : (file : List ℕ) → IsNotFinalized file fault.Source → ⊥
source_is_none file refused = by_read (unfinished file) refused
  where
    by_read : (read : Read Ident) → RefusesBy file read fault.Source → ⊥
    by_read (Ok id) refuses = refuses
    by_read (Err refusal) refuses = refuses

module _ (file : List ℕ) (now : ℕ) where
  -- how it ends, by what is found of the flags
  abbrev EndsBy : Read Ident → DiskState → DiskState → Result Said Fault → Type 0
  EndsBy read = ToolEnds (FinalizesBy now file read) (RefusesBy file read)

  ends_so : (read : Read Ident) (old new : DiskState) (end : Result Said Fault) → unfinished file ≡ read → EndsBy read old new end
      → ToolEnds (Finalizes now file) (IsNotFinalized file) old new end
  ends_so read old new end is ends = subst (λ (r : Read Ident). EndsBy r old new end) (sym is) ends

  -- of a file that can be mended
  module _ (id : Ident) (is : unfinished file ≡ Ok id) (old new : DiskState) where
    completed_fault : (problem : ToolFault) → CompleteEnds file now old new (Err problem) → EndsBy (Ok id) old new (Err (fault_of_tool problem))
    completed_fault (tool.Read refused) ends = ((ends.0, ends.1), ends.2)
    completed_fault tool.Failed ends = ends
    completed_fault tool.Memory ends = ends

    pub complete_fault : (problem : ToolFault) → CompleteEnds file now old new (Err problem)
        → ToolEnds (Finalizes now file) (IsNotFinalized file) old new (Err (fault_of_tool problem))
    complete_fault problem ends = ends_so (Ok id) old new (Err (fault_of_tool problem)) is (completed_fault problem ends)

    pub complete_ends : (told : Completed) (said : Said) → said ≡ with_rest told → CompleteEnds file now old new (Ok told)
        → ToolEnds (Finalizes now file) (IsNotFinalized file) old new (Ok said)
    complete_ends told said told_is ends =
        subst (λ (s : Said). ToolEnds (Finalizes now file) (IsNotFinalized file) old new (Ok s)) (sym told_is)
        (ends_so (Ok id) old new (Ok (with_rest told)) is (ends.0, (told.rest, refl, ends.1), ends.2))

  -- of any other
  module _ (refusal : Refusal) (is : unfinished file ≡ Err refusal) (old new : DiskState) where
    session_fault : (problem : ToolFault) → FinalizeEnds file now old new (Err problem) → EndsBy (Err refusal) old new (Err (fault_of_tool problem))
    session_fault (tool.Read refused) ends = ((ends.0, ends.1), ends.2)
    session_fault tool.Failed ends = ends
    session_fault tool.Memory ends = ends

    pub finalize_fault : (problem : ToolFault) → FinalizeEnds file now old new (Err problem)
        → ToolEnds (Finalizes now file) (IsNotFinalized file) old new (Err (fault_of_tool problem))
    finalize_fault problem ends = ends_so (Err refusal) old new (Err (fault_of_tool problem)) is (session_fault problem ends)

    pub finalize_ends : (report : Report) (said : Said) → said ≡ no_rest report → FinalizeEnds file now old new (Ok report)
        → ToolEnds (Finalizes now file) (IsNotFinalized file) old new (Ok said)
    finalize_ends report said told_is ends =
        ends_so (Err refusal) old new (Ok said) is (told_ends (IsFinalizedOf file now) (RefusesBy file (Err refusal)) old new report said told_is ends)

  -- what a crash leaves, by what is found of the flags
  abbrev Left : Read Ident → List ℕ → Type 0
  Left read = IsImage (FinalizesBy now file read)

  completed_left : (id : Ident) (image : List ℕ) → IsCompleteImage file now image → Left (Ok id) image
  completed_left id image left = ⊎_elim inl (λ made. inr (with_rest made.0, (made.0.rest, refl, made.1))) left

  adds_so : (read : Read Ident) (old new : Option Story) → unfinished file ≡ read → Adds old new (Left read) → Adds old new (IsImage (Finalizes now file))
  adds_so read old new is adds = subst (λ (r : Read Ident). Adds old new (Left r)) (sym is) adds

  pub complete_adds : (id : Ident) (old new : Option Story) → unfinished file ≡ Ok id → Adds old new (IsCompleteImage file now)
      → Adds old new (IsImage (Finalizes now file))
  complete_adds id old new is adds =
      adds_so (Ok id) old new is (adds_more old new (IsCompleteImage file now) (Left (Ok id)) (completed_left id) adds)

  pub finalize_adds : (refusal : Refusal) (old new : Option Story) → unfinished file ≡ Err refusal → Adds old new (IsFinalizeImage file now)
      → Adds old new (IsImage (Finalizes now file))
  finalize_adds refusal old new is adds = adds_so (Err refusal) old new is (told_adds (IsFinalizedOf file now) old new adds)

  image_by : (read : Read Ident) (image : List ℕ) → Left read image → IsImageBy file now read image
  image_by (Ok id) image left =
      ⊎_elim inl (λ made. let told : Completed = record { report = made.0.report; rest = made.1.0 } in inr (told, made.1.2)) left
  image_by (Err refusal) image left = made_image (IsFinalizedOf file now) image left

  pub final_image : (image : List ℕ) → IsImage (Finalizes now file) image → IsFinalImage file now image
  final_image image left = image_by (unfinished file) image left
