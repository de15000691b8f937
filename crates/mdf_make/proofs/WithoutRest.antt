-- What a tool makes that tells no rest, as what its own call makes.
use Rattle.std.proofs.Common.{◌≡◌, ⊎_elim, inl, inr, ℕ, List, Option, Some, None, Ok, refl, subst, sym}
use Rattle.std.specs.Prelude.{◌⊎◌}
use Rattle.mdf_disk.specs.Crash.{Adds}
use Rattle.mdf_disk.specs.State.{DiskState}
use Rattle.mdf_disk.specs.Story.{Story}
use Rattle.mdf_disk.proofs.Crash.{adds_more}
use Rattle.mdf_seal.specs.Seal.{IsKept}
use Rattle.mdf_tool.specs.Tool.{IsSealed}
use Rattle.mdf_tool.specs.declared.made.Report.{Report}
use Rattle.mdf_command.specs.declared.fault.Fault.{Fault}
use Rattle.mdf_make.specs.declared.said.Said.{Said}
use Rattle.mdf_make.specs.Making.{LeavesOf}
use Rattle.mdf_make.specs.Tool.{IsImage, ToolEnds, WithoutRest}

-- what is told of a file that was made
abbrev pub no_rest : Report → Said
no_rest report = record { report = report; rest = None }

-- a file under its seal, or what is made
abbrev pub Image : (List ℕ → Report → Type 0) → List ℕ → Type 0
Image Makes image = IsSealed image ⊎ ((report : Report) × Makes image report)

module _ (Makes : List ℕ → Report → Type 0) where
  told_image : (image : List ℕ) → Image Makes image → IsImage (WithoutRest Makes) image
  told_image image left = ⊎_elim inl (λ made. inr (no_rest made.0, (refl, made.1))) left

  pub made_image : (image : List ℕ) → IsImage (WithoutRest Makes) image → Image Makes image
  made_image image left = ⊎_elim inl (λ made. inr (made.0.report, made.1.1)) left

  -- a crash leaves no more
  pub told_adds : (old new : Option Story) → Adds old new (Image Makes) → Adds old new (IsImage (WithoutRest Makes))
  told_adds old new adds = adds_more old new (Image Makes) (IsImage (WithoutRest Makes)) told_image adds

  -- it ends as it does
  pub told_ends : (Refuses : Fault → Type 0) (old new : DiskState) (report : Report) (said : Said) → said ≡ no_rest report
      → ((bytes : List ℕ) × Makes bytes report × IsKept new.content new.story bytes) → ToolEnds (WithoutRest Makes) Refuses old new (Ok said)
  told_ends Refuses old new report said is ends =
      subst (λ (s : Said). ToolEnds (WithoutRest Makes) Refuses old new (Ok s)) (sym is) (ends.0, (refl, ends.1), ends.2)

-- of inputs that were loaded a crash leaves no more
pub leaves_more : {Input : Type 0} (AreLoaded : Input → Type 0) (P Q : Input → List ℕ → Type 0) (out out' : DiskState)
    → ((input : Input) (image : List ℕ) → P input image → Q input image) → LeavesOf AreLoaded P out out' → LeavesOf AreLoaded Q out out'
leaves_more AreLoaded P Q out out' more left =
    ⊎_elim inl (λ made. inr (made.0, made.1, λ file late. more made.0 file (made.2 file late))) left

pub made_leaves : {Input : Type 0} (AreLoaded : Input → Type 0) (Makes : Input → List ℕ → Report → Type 0) (out out' : DiskState)
    → LeavesOf AreLoaded (λ input. IsImage (WithoutRest (Makes input))) out out' → LeavesOf AreLoaded (λ input. Image (Makes input)) out out'
made_leaves AreLoaded Makes out out' left =
    leaves_more AreLoaded (λ input. IsImage (WithoutRest (Makes input))) (λ input. Image (Makes input)) out out' (λ input. made_image (Makes input)) left
