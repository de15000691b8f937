-- How the writing of what was cut ends, and what a crash leaves of it.
use Rattle.std.proofs.Common.{◌≡◌, inl, inr, ⊎_elim, ℕ, List, Option, Ok, Err, sym, subst}
use Rattle.std.specs.Prelude.{Result, codes}
use Rattle.mdf_disk.specs.Crash.{Adds}
use Rattle.mdf_disk.specs.State.{DiskState}
use Rattle.mdf_disk.specs.Story.{Story}
use Rattle.mdf_disk.proofs.Crash.{adds_more}
use Rattle.mdf_model.specs.Measurement.{Measured, measurement}
use Rattle.tool_sort.specs.Kept.{IsSortedOf}
use Rattle.tool_sort.specs.Made.{IsMadeOf}
use Rattle.mdf_tool.specs.Tool.{IsToolImage, WriteEnds}
use Rattle.mdf_tool.specs.declared.made.Made.{Made}
use Rattle.mdf_tool.specs.declared.made.Report.{Report}
use Rattle.mdf_tool.specs.declared.fault.ToolFault.{ToolFault}
use Rattle.mdf_tool.specs.declared.fault.ToolFault.TheVariants as tool
use Rattle.tool_cut.specs.Cut.{CutEnds, Cutting, IsCutImage, IsCutOf}
use Rattle.tool_cut.specs.Kept.{cut_of}

module _ (file : List ℕ) (asked : Cutting) (found : Measured) (made : Made) (read : measurement file ≡ Ok found)
    (is : IsMadeOf (cut_of asked.from asked.to found) (codes "cut") asked.now made)
    (keeps : IsSortedOf (cut_of asked.from asked.to found) (codes "cut") asked.now made.bytes) where
  of_file : IsCutOf file asked made.bytes made.report
  of_file = record { found = found; is_read = read; bytes_are = is.bytes_are; keeps = keeps; report_is = is.report_is }

  pub ends : (old new : DiskState) (result : Result Report ToolFault) → WriteEnds made old new result → CutEnds file asked old new result
  ends old new (Ok report) end = (made.bytes, subst (λ (told : Report). IsCutOf file asked made.bytes told) (sym end.0) of_file, end.1)
  ends old new (Err (tool.Read fault)) end = absurd end
  ends old new (Err tool.Failed) end = end
  ends old new (Err tool.Memory) end = absurd end

  image_of : (image : List ℕ) → IsToolImage made.bytes image → IsCutImage file asked image
  image_of image left =
      ⊎_elim inl (λ same. inr (made.report, subst (λ (bytes : List ℕ). IsCutOf file asked bytes made.report) (sym same) of_file)) left

  pub leaves : (old new : Option Story) → Adds old new (IsToolImage made.bytes) → Adds old new (IsCutImage file asked)
  leaves old new adds = adds_more old new (IsToolImage made.bytes) (IsCutImage file asked) image_of adds
