-- How the writing of a sorted file ends, and what a crash leaves of it.
use Rattle.std.proofs.Common.{◌≡◌, inl, inr, ⊎_elim, ℕ, List, Option, Ok, Err, sym, subst}
use Rattle.std.specs.Prelude.{Result, codes}
use Rattle.mdf_disk.specs.Crash.{Adds}
use Rattle.mdf_disk.specs.State.{DiskState}
use Rattle.mdf_disk.specs.Story.{Story}
use Rattle.mdf_disk.proofs.Crash.{adds_more}
use Rattle.mdf_model.specs.Measurement.{Measured, measurement}
use Rattle.tool_sort.specs.Kept.{IsSortedOf}
use Rattle.tool_sort.specs.Made.{IsMadeOf}
use Rattle.mdf_tool.specs.Tool.{IsToolImage, WriteEnds}
use Rattle.mdf_tool.specs.declared.made.Made.{Made}
use Rattle.mdf_tool.specs.declared.made.Report.{Report}
use Rattle.mdf_tool.specs.declared.fault.ToolFault.{ToolFault}
use Rattle.mdf_tool.specs.declared.fault.ToolFault.TheVariants as tool
use Rattle.tool_sort.specs.Sort.{IsSorting, SortEnds, IsSortImage}

module _ (file : List ℕ) (now : ℕ) (found : Measured) (made : Made) (read : measurement file ≡ Ok found) (is : IsMadeOf found (codes "sort") now made)
    (keeps : IsSortedOf found (codes "sort") now made.bytes) where
  of_file : IsSorting file now made.bytes made.report
  of_file = record { found = found; is_read = read; bytes_are = is.bytes_are; keeps = keeps; report_is = is.report_is }

  pub ends : (old new : DiskState) (result : Result Report ToolFault) → WriteEnds made old new result → SortEnds file now old new result
  ends old new (Ok report) end = (made.bytes, subst (λ (told : Report). IsSorting file now made.bytes told) (sym end.0) of_file, end.1)
  ends old new (Err (tool.Read fault)) end = absurd end
  ends old new (Err tool.Failed) end = end
  ends old new (Err tool.Memory) end = absurd end

  image_of : (image : List ℕ) → IsToolImage made.bytes image → IsSortImage file now image
  image_of image left =
      ⊎_elim inl (λ same. inr (made.report, subst (λ (bytes : List ℕ). IsSorting file now bytes made.report) (sym same) of_file)) left

  pub leaves : (old new : Option Story) → Adds old new (IsToolImage made.bytes) → Adds old new (IsSortImage file now)
  leaves old new adds = adds_more old new (IsToolImage made.bytes) (IsSortImage file now) image_of adds
