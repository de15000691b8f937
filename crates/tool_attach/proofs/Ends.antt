-- How the writing of the file with attachments ends, and what a crash leaves of it.
use Rattle.std.proofs.Common.{◌≡◌, inl, inr, ⊎_elim, ℕ, List, Option, Ok, Err, refl, sym, subst}
use Rattle.mdf_disk.specs.Crash.{Adds}
use Rattle.mdf_disk.specs.State.{DiskState}
use Rattle.mdf_disk.specs.Story.{Story}
use Rattle.mdf_disk.proofs.Crash.{adds_more}
use Rattle.mdf_attach.specs.declared.attachment.Attachment.{Attachment}
use Rattle.mdf_model.specs.Measurement.{Measured, measurement}
use Rattle.mdf_tool.specs.Tool.{IsToolImage, WriteEnds}
use Rattle.mdf_tool.specs.declared.fault.ToolFault.{ToolFault}
use Rattle.mdf_tool.specs.declared.fault.ToolFault.TheVariants as tool
use Rattle.mdf_tool.specs.declared.made.Made.{Made}
use Rattle.mdf_tool.specs.declared.made.Report.{Report}
use Rattle.tool_attach.specs.declared.fault.CarryFault.{CarryFault}
use Rattle.tool_attach.specs.declared.fault.CarryFault.TheVariants as faults
use Rattle.tool_attach.specs.Attached.{IsAttachedOf}
use Rattle.tool_attach.specs.Carry.{Carrying, IsCarrying, CarryEnds, IsCarryImage}
use Rattle.tool_attach.specs.Making.{AreTaken, FromRead, FileRead, IsMadeWith, IsMadeOf, IsRefusal, unwritten}

-- refusals before the disk is touched
module _ (asked : Carrying) where
  pub from_refused : (fault : CarryFault) → FromRead asked.from (Err fault) → IsRefusal asked fault
  from_refused (faults.From fault) is state = (is, refl)
  from_refused (faults.File fault) is state = absurd is
  from_refused faults.Failed is state = absurd is
  from_refused faults.Memory is state = (is, refl)

  module _ (rows : List Attachment) (taken : AreTaken asked.from rows) where
    -- memory that is wanted is wanted behind the header
    pub wanted : IsRefusal asked faults.Memory
    wanted state = ((taken.attached.begins, taken.attached.header), refl)

    pub file_refused : (fault : CarryFault) → FileRead asked.file (Err fault) → IsRefusal asked fault
    file_refused (faults.From fault) is state = absurd is
    file_refused (faults.File fault) is state = ((rows, taken.attached, taken.few), is.0, is.1, refl)
    file_refused faults.Failed is state = absurd is
    file_refused faults.Memory is state = wanted state

    pub of_files : (found : Measured) (made : Made) → measurement asked.file ≡ Ok found → IsMadeWith found rows asked.now made
        → IsAttachedOf found rows asked.now made.bytes → IsMadeOf asked made
    of_files found made is_read is keeps = record {
      read = record { rows = rows; found = found; attached = taken.attached; few = taken.few; is_read = is_read };
      bytes_are = is.bytes_are;
      keeps = keeps;
      report_is = is.report_is;
    }

-- how the writing ends
module _ (asked : Carrying) (made : Made) (is : IsMadeOf asked made) where
  pub written_ends : (old new : DiskState) (report : Report) → WriteEnds made old new (Ok report) → CarryEnds asked old new (Ok report)
  written_ends old new report ends =
      (made.bytes, subst (λ (told : Report). IsCarrying asked made.bytes told) (sym ends.0) is, ends.1)

  image_of : (image : List ℕ) → IsToolImage made.bytes image → IsCarryImage asked image
  image_of image left =
      ⊎_elim inl (λ same. inr (made.report, subst (λ (bytes : List ℕ). IsCarrying asked bytes made.report) (sym same) is)) left

  pub leaves : (old new : Option Story) → Adds old new (IsToolImage made.bytes) → Adds old new (IsCarryImage asked)
  leaves old new adds = adds_more old new (IsToolImage made.bytes) (IsCarryImage asked) image_of adds

pub unwritten_ends : (asked : Carrying) (made : Made) (old new : DiskState) (fault : ToolFault) → WriteEnds made old new (Err fault)
    → CarryEnds asked old new (Err (unwritten fault))
unwritten_ends asked made old new (tool.Read fault) ends = absurd ends
unwritten_ends asked made old new tool.Failed ends = ends
unwritten_ends asked made old new tool.Memory ends = absurd ends
