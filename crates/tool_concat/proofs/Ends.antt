-- How the writing of what was joined ends, and what a crash leaves of it.
use Rattle.std.proofs.Common.{◌≡◌, inl, inr, ⊎_elim, ℕ, List, Option, Ok, Err, refl, sym, subst}
use Rattle.mdf_disk.specs.Crash.{Adds}
use Rattle.mdf_disk.specs.State.{DiskState}
use Rattle.mdf_disk.specs.Story.{Story}
use Rattle.mdf_disk.proofs.Crash.{adds_more}
use Rattle.mdf_model.specs.Measurement.{Measured, measurement}
use Rattle.mdf_model.proofs.Identified.{measured_is_identified}
use Rattle.tool_sort.specs.Kept.{StandsIn}
use Rattle.mdf_tool.specs.Tool.{IsToolImage, WriteEnds}
use Rattle.mdf_tool.specs.declared.fault.ToolFault.{ToolFault}
use Rattle.mdf_tool.specs.declared.fault.ToolFault.TheVariants as tool
use Rattle.mdf_tool.specs.declared.made.Made.{Made}
use Rattle.mdf_tool.specs.declared.made.Report.{Report}
use Rattle.tool_concat.specs.declared.fault.ConcatFault.{ConcatFault}
use Rattle.tool_concat.specs.declared.fault.ConcatFault.TheVariants as faults
use Rattle.tool_concat.specs.Concat.{ConcatEnds, IsConcatImage, IsConcatOf, Joining}
use Rattle.tool_concat.specs.Making.{FirstRead, IsMadeFrom, IsMadeOf, IsRefusal, IsRefused, SecondRead, unwritten}

module _ (asked : Joining) (one other : Measured) (made : Made) (first : measurement asked.first ≡ Ok one) (second : measurement asked.second ≡ Ok other)
    (stands : StandsIn asked.first one) (is : IsMadeFrom one other asked.now made) where
  pub of_files : IsMadeOf asked made
  of_files = record {
    read = record { one = one; other = other; first = first; second = second };
    alike = is.can.alike;
    held = is.can.held;
    joined = is.joined;
    is_joined = is.is_joined;
    bytes_are = is.bytes_are;
    keeps = is.keeps asked.first stands;
    report_is = is.report_is;
  }

-- refusals before the disk is touched
module _ (asked : Joining) where
  pub first_refused : (fault : ConcatFault) → FirstRead asked.first (Err fault) → IsRefusal asked fault
  first_refused (faults.First fault) is state = (is.0, is.1, refl)
  first_refused (faults.Second fault) is state = absurd is
  first_refused (faults.Differs group) is state = absurd is
  first_refused (faults.Wide group channel) is state = absurd is
  first_refused faults.Failed is state = absurd is
  first_refused faults.Memory is state = (is, refl)

  module _ (one : Measured) (first : measurement asked.first ≡ Ok one) where
    pub second_refused : (fault : ConcatFault) → SecondRead asked.second (Err fault) → IsRefusal asked fault
    second_refused (faults.First fault) is state = absurd is
    second_refused (faults.Second fault) is state = ((one, first), is.0, is.1, refl)
    second_refused (faults.Differs group) is state = absurd is
    second_refused (faults.Wide group channel) is state = absurd is
    second_refused faults.Failed is state = absurd is
    second_refused faults.Memory is state = (measured_is_identified asked.first one first, refl)

    pub join_refused : (other : Measured) → measurement asked.second ≡ Ok other → (fault : ConcatFault) → IsRefused one other fault → IsRefusal asked fault
    join_refused other second (faults.First fault) is state = absurd is
    join_refused other second (faults.Second fault) is state = absurd is
    join_refused other second (faults.Differs group) is state =
        (record { read = record { one = one; other = other; first = first; second = second }; first = is }, refl)
    join_refused other second (faults.Wide group channel) is state =
        (record { read = record { one = one; other = other; first = first; second = second }; alike = is.0; first = is.1 }, refl)
    join_refused other second faults.Failed is state = absurd is
    join_refused other second faults.Memory is state = (measured_is_identified asked.first one first, refl)

-- how the writing ends
module _ (asked : Joining) (made : Made) (is : IsMadeOf asked made) where
  pub written_ends : (old new : DiskState) (report : Report) → WriteEnds made old new (Ok report) → ConcatEnds asked old new (Ok report)
  written_ends old new report ends =
      (made.bytes, subst (λ (told : Report). IsConcatOf asked made.bytes told) (sym ends.0) is, ends.1)

  image_of : (image : List ℕ) → IsToolImage made.bytes image → IsConcatImage asked image
  image_of image left =
      ⊎_elim inl (λ same. inr (made.report, subst (λ (bytes : List ℕ). IsConcatOf asked bytes made.report) (sym same) is)) left

  pub leaves : (old new : Option Story) → Adds old new (IsToolImage made.bytes) → Adds old new (IsConcatImage asked)
  leaves old new adds = adds_more old new (IsToolImage made.bytes) (IsConcatImage asked) image_of adds

pub unwritten_ends : (asked : Joining) (made : Made) (old new : DiskState) (fault : ToolFault) → WriteEnds made old new (Err fault)
    → ConcatEnds asked old new (Err (unwritten fault))
unwritten_ends asked made old new (tool.Read fault) ends = absurd ends
unwritten_ends asked made old new tool.Failed ends = ends
unwritten_ends asked made old new tool.Memory ends = absurd ends
