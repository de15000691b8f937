-- How the writing of a completed file ends, and what a crash leaves of it.
use Rattle.std.proofs.Common.{◌≡◌, inl, inr, ⊎_elim, ℕ, List, Option, Some, None, Ok, Err, sym, ◌∙◌, ap, subst}
use Rattle.std.proofs.lemmas.Bool.{false≢true}
use Rattle.std.specs.Prelude.{IfNone, IsSome, codes}
use Rattle.mdf_block.specs.Refusal.{Fails, Read, Refusal, ◌>>=◌}
use Rattle.mdf_disk.specs.Crash.{Adds}
use Rattle.mdf_disk.specs.State.{DiskState}
use Rattle.mdf_disk.specs.Story.{Story}
use Rattle.mdf_disk.proofs.Crash.{adds_more}
use Rattle.mdf_head.specs.declared.identity.Ident.{Ident}
use Rattle.mdf_model.specs.Measurement.{Measured, measurement}
use Rattle.tool_complete.specs.Completed.{completed_file, completion, dropped_rest}
use Rattle.tool_complete.specs.Flags.{unfinished}
use Rattle.mdf_tool.specs.Tool.{IsToolImage, WriteEnds}
use Rattle.mdf_tool.specs.declared.made.Made.{Made}
use Rattle.mdf_tool.specs.declared.made.Report.{Report}
use Rattle.mdf_tool.specs.declared.fault.ToolFault.{ToolFault}
use Rattle.mdf_tool.specs.declared.fault.ToolFault.TheVariants as tool
use Rattle.tool_sort.specs.Kept.{IsSortedOf}
use Rattle.tool_sort.specs.Made.{IsMadeOf}
use Rattle.tool_complete.specs.declared.told.Completed.{Completed}
use Rattle.tool_complete.specs.Complete.{CompleteEnds, IsCompleteImage, IsCompleting}

-- what is found of a file and what was dropped of it
abbrev dropping : ℕ → Measured → Read (Measured × ℕ)
dropping rest found = Ok (found, rest)

-- a file that can be mended, and the measurement of its completed file
module _ (file : List ℕ) where
  abbrev measured : Read Measured → Read (Measured × ℕ)
  measured read = read >>= λ found. Ok (found, dropped_rest file)

  completion_is : (id : Ident) → unfinished file ≡ Ok id → completion file ≡ measured (measurement (completed_file file))
  unfolding completion
  completion_is id is = ap (λ (read : Read Ident). read >>= λ _. measured (measurement (completed_file file))) is

  -- what is refused of the identification is refused
  pub unfinished_fails : (refusal : Option Refusal) → Fails refusal (unfinished file) → Fails refusal (completion file)
  unfolding completion
  unfinished_fails None fails = tt
  unfinished_fails (Some refusal) fails = ap (λ (read : Read Ident). read >>= λ _. measured (measurement (completed_file file))) fails

  module _ (id : Ident) (whole : List ℕ) (is : unfinished file ≡ Ok id) (whole_is : whole ≡ completed_file file) where
    -- what is found of the completed file is found
    pub completed_is : (found : Measured) (rest : ℕ) → rest ≡ dropped_rest file → measurement whole ≡ Ok found → completion file ≡ Ok (found, rest)
    completed_is found rest rest_is read =
        completion_is id is
        ∙ ap measured (ap measurement (sym whole_is) ∙ read)
        ∙ ap (λ (n : ℕ). dropping n found) (sym rest_is)

    -- what is refused of it is refused
    pub completed_fails : (refusal : Option Refusal) → Fails refusal (measurement whole) → Fails refusal (completion file)
    completed_fails None fails = tt
    completed_fails (Some refusal) fails = completion_is id is ∙ ap measured (ap measurement (sym whole_is) ∙ fails)

-- a fault that a refusal stands for is no want of memory
pub no_want : (Known : Type 0) (refusal : Option Refusal) → IsSome refusal → IfNone refusal Known
no_want Known (Some refusal) some = tt
no_want Known None some = absurd (false≢true some)

-- and of what is known memory may be wanted
pub may_want : (Known : Type 0) (refusal : Option Refusal) → Known → IfNone refusal Known
may_want Known (Some refusal) known = tt
may_want Known None known = known

module _ (file : List ℕ) (now rest : ℕ) (found : Measured) (made : Made) (read : completion file ≡ Ok (found, rest))
    (is : IsMadeOf found (codes "finalize") now made) (keeps : IsSortedOf found (codes "finalize") now made.bytes) where
  abbrev told : Report → Completed
  told report = record { report = report; rest = rest }

  of_file : IsCompleting file now made.bytes (told made.report)
  of_file = record { found = found; is_read = read; bytes_are = is.bytes_are; keeps = keeps; report_is = is.report_is }

  pub ends : (old new : DiskState) (report : Report) → WriteEnds made old new (Ok report) → CompleteEnds file now old new (Ok (told report))
  ends old new report end =
      (made.bytes, subst (λ (one : Report). IsCompleting file now made.bytes (told one)) (sym end.0) of_file, end.1)

  pub fails : (old new : DiskState) (fault : ToolFault) → WriteEnds made old new (Err fault) → CompleteEnds file now old new (Err fault)
  fails old new (tool.Read fault) end = absurd end
  fails old new tool.Failed end = end
  fails old new tool.Memory end = absurd end

  image_of : (image : List ℕ) → IsToolImage made.bytes image → IsCompleteImage file now image
  image_of image left =
      ⊎_elim inl (λ same. inr (told made.report, subst (λ (bytes : List ℕ). IsCompleting file now bytes (told made.report)) (sym same) of_file)) left

  pub leaves : (old new : Option Story) → Adds old new (IsToolImage made.bytes) → Adds old new (IsCompleteImage file now)
  leaves old new adds = adds_more old new (IsToolImage made.bytes) (IsCompleteImage file now) image_of adds
