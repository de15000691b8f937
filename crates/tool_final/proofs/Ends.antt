-- How `finalize` ends with the file that was made of a session, and what a crash leaves of it.
use Rattle.std.proofs.Common.{◌≡◌, inl, inr, ⊎_elim, ℕ, List, Option, Result, Ok, Err, sym, subst}
use Rattle.mdf_disk.specs.State.{DiskState}
use Rattle.mdf_disk.specs.Crash.{Adds}
use Rattle.mdf_disk.specs.Story.{Story}
use Rattle.mdf_disk.proofs.Crash.{adds_more}
use Rattle.mdf_session.specs.Session.{SessionParts, session}
use Rattle.mdf_spell.specs.Standing.{AreBytes}
use Rattle.mdf_tool.specs.Tool.{IsToolImage, WriteEnds}
use Rattle.mdf_tool.specs.declared.made.Report.{Report}
use Rattle.mdf_tool.specs.declared.fault.ToolFault.{ToolFault}
use Rattle.mdf_tool.specs.declared.fault.ToolFault.TheVariants as tool
use Rattle.mdf_tool.specs.declared.made.Made.{Made}
use Rattle.tool_final.specs.Finalized.{IsMadeOf}
use Rattle.tool_final.specs.Finalize.{IsFinalizedOf, FinalizeEnds, IsFinalizeImage}

module _ (file : List ℕ) (now : ℕ) (found : SessionParts) (made : Made) (whole : AreBytes file) (read : session file ≡ Ok found) (is : IsMadeOf found now made) where
  of_file : IsFinalizedOf file now made.bytes made.report
  of_file = record { found = found; is_read = read; bytes_are = is.bytes_are; keeps = is.keeps file whole read; report_is = is.report_is }

  pub ends : (old new : DiskState) (result : Result Report ToolFault) → WriteEnds made old new result → FinalizeEnds file now old new result
  ends old new (Ok report) done =
      (made.bytes, subst (λ (told : Report). IsFinalizedOf file now made.bytes told) (sym done.0) of_file, done.1)
  ends old new (Err (tool.Read fault)) done = absurd done
  ends old new (Err tool.Failed) done = done
  ends old new (Err tool.Memory) done = absurd done

  image_of : (image : List ℕ) → IsToolImage made.bytes image → IsFinalizeImage file now image
  image_of image left =
      ⊎_elim inl (λ same. inr (made.report, subst (λ (bytes : List ℕ). IsFinalizedOf file now bytes made.report) (sym same) of_file)) left

  pub leaves : (old new : Option Story) → Adds old new (IsToolImage made.bytes) → Adds old new (IsFinalizeImage file now)
  leaves old new adds = adds_more old new (IsToolImage made.bytes) (IsFinalizeImage file now) image_of adds
