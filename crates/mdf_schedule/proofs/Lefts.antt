-- What a crash leaves of what the command `record` writes.
use Rattle.std.proofs.Common.{◌≡◌, ◌≢◌, ◌⊎◌, inl, inr, ℕ, List, [], ◌++◌, length, Option, map, sym, ◌∙◌, ap, subst, arith, length-append, append-nil}
use Rattle.std.proofs.lemmas.List.{nil_from_length}
use mathlib.Core.List.{IsPrefix}
use Rattle.mdf_disk.specs.State.{DiskState}
use Rattle.mdf_disk.specs.Story.{LeftSince}
use Rattle.mdf_layout.specs.Layout.{Layout}
use Rattle.mdf_layout.specs.declared.sample.Sample.{Sample}
use Rattle.mdf_content.specs.Layouts.{layout_of}
use Rattle.mdf_gate.specs.Carried.{Carries, IsCarried}
use Rattle.mdf_gate.specs.Images.{IsNotMdf}
use Rattle.book_owned.specs.Kept.{MarkHolds}
use Rattle.book_owned.specs.Marks.{durable, last_mark}
use Rattle.book_owned.proofs.Lasts.{last_holds}
use Rattle.acq_script.specs.declared.script.Script.{Script}
use Rattle.mdf_command.specs.declared.fault.Fault.{Fault}
use Rattle.mdf_record.specs.Head.{script_head}
use Rattle.mdf_record.specs.Record.{Outcome}
use Rattle.mdf_record.specs.Recorded.{IsClosed}
use Rattle.mdf_schedule.specs.Outcomes.{IsLeftBy}
use Rattle.mdf_schedule.specs.Schedules.{IsLeftOf}
use Rattle.mdf_schedule.proofs.Closed.{is_script, recorded}
use Rattle.mdf_schedule.proofs.Files.{layouts_same}

module _ (script : Script) {name : List ℕ} {start : ℕ} {disk : DiskState} {left : Outcome} {accepted : List ℕ} {samples last : ℕ} {live : Option ℕ}
    {fault : Option Fault} {seen : List (List Sample)} (closed : IsClosed (λ said. said ≡ script) name start disk left accepted samples last live fault seen)
  where
    shapes_are : script.plan.shapes ≡ map layout_of script.plan.rows
    shapes_are =
        let of_script = is_script script closed in
        of_script.plan.shapes ∙ layouts_same script.plan.rows of_script.plan.planned.each

    pub left_with : (file : List ℕ) (through : ℕ) (carries : Carries script.plan.shapes (script_head start script) left.history through file)
        → IsLeftOf script.plan.form start script.plan.rows carries.samples file
    left_with file through carries =
        record { begins = carries.begins; carried = subst (λ (layouts : List Layout). IsCarried layouts file carries.samples) shapes_are carries.carried }

pub left_by : (script : Script) (start : ℕ) (file : List ℕ) (is : IsLeftBy script start file)
    → IsNotMdf file ⊎ ((samples : List Sample) × IsPrefix samples is.left.history × IsLeftOf script.plan.form start script.plan.rows samples file)
left_by script start file is = elim ((recorded script is.closed).start_holds file is.since) [
  | inl none ↦ inl none
  | inr carries ↦ inr (carries.samples, carries.beginning, left_with script is.closed file 0 carries)
]

-- of a recording that is all durable, what a crash leaves since its last mark has the whole history
module _ (script : Script) {name : List ℕ} {start : ℕ} {disk : DiskState} {left : Outcome} {accepted : List ℕ} {samples last : ℕ} {live : Option ℕ}
    {fault : Option Fault} {seen : List (List Sample)} (closed : IsClosed (λ said. said ≡ script) name start disk left accepted samples last live fault seen)
    (begun : left.marks ≢ []) (all : durable left.marks ≡ length left.history) (file : List ℕ)
    (since : LeftSince left.disk.story (last_mark left.marks).moment file) where
  carries : Carries script.plan.shapes (script_head start script) left.history (last_mark left.marks).through file
  carries =
      (last_holds (MarkHolds script.plan.shapes (script_head start script) left.disk.story left.disk.moment left.history) left.marks begun
      (recorded script closed).marks_hold).carries file since

  whole : carries.samples ≡ left.history
  whole =
      let behind = carries.beginning in
      let none : behind.0 ≡ [] = nil_from_length behind.0 (omega (arith, ap length behind.1, length-append carries.samples behind.0, carries.enough, all)) in
      sym (append-nil carries.samples) ∙ ap (λ (more : List Sample). carries.samples ++ more) (sym none) ∙ behind.1

  pub left_whole : IsLeftOf script.plan.form start script.plan.rows left.history file
  left_whole =
      subst (λ (history : List Sample). IsLeftOf script.plan.form start script.plan.rows history file) whole
      (left_with script closed file (last_mark left.marks).through carries)
