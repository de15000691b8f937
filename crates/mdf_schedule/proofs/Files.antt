-- The file of a whole recording begins with the head of its rows, and its opened blocks are the records of its history.
use Rattle.std.proofs.Common.{◌≡◌, ◌%◌, ℕ, false, List, [], ◌∷◌, map, refl, sym, ◌∙◌, ap, subst, inl, inr, arith}
use Rattle.std.proofs.lemmas.Bool.{cond-false}
use Rattle.std.proofs.lemmas.Option.{same_Some}
use Rattle.std.specs.Prelude.{nat_eq, Option, Some, IfSome}
use Rattle.std.specs.List.{AllByRecursion}
use mathlib.Core.List.{IsPrefix}
use Rattle.mdf_disk.specs.Story.{Story, MayLeave, LeftSince}
use Rattle.mdf_group.specs.declared.row.ChannelRow.{ChannelRow}
use Rattle.mdf_group.specs.declared.row.GroupRow.{GroupRow}
use Rattle.mdf_group.specs.Group.{is_variable}
use Rattle.mdf_group.specs.Recordable.{IsRecordableGroup}
use Rattle.mdf_layout.specs.Layout.{Layout}
use Rattle.mdf_content.specs.Layouts.{field_of}
use Rattle.mdf_content.specs.Layouts as contents
use Rattle.mdf_gate.specs.Carried.{IsCarried, IsEncoded}
use Rattle.acq_script.specs.Plan as plans
use Rattle.acq_script.specs.Stage.{IsScript}
use Rattle.acq_script.specs.declared.script.Script.{Script}
use Rattle.mdf_record.specs.Head.{script_head}
use Rattle.mdf_record.specs.Record.{Outcome}
use Rattle.mdf_schedule.specs.Schedules.{IsRecordingOf}
use Rattle.mdf_schedule.specs.Outcomes.{LeavesWhole}

-- the layouts of a plan's rows
layout_same : (row : GroupRow) → IsRecordableGroup row → plans.layout_of row ≡ contents.layout_of row
layout_same row is =
    let samples : is_variable row ≡ false = ap (λ (flags : ℕ). nat_eq (flags % 2) 1) is.flags in
    ap (λ (channels : List ChannelRow). record { rows = map field_of channels; data_bytes = row.data_bytes; inval_bytes = row.inval_bytes })
    (sym (cond-false (is_variable row) [] row.channels samples))

pub layouts_same : (rows : List GroupRow) → AllByRecursion IsRecordableGroup rows → map plans.layout_of rows ≡ map contents.layout_of rows
layouts_same [] each = refl
layouts_same (row ∷ rows) each =
    ap (λ (l : Layout). l ∷ map plans.layout_of rows) (layout_same row each.0) ∙ ap (λ (ls : List Layout). contents.layout_of row ∷ ls) (layouts_same rows each.1)

held : (content : Option (List ℕ)) (file : List ℕ) (P : List ℕ → Type 0) → content ≡ Some file → IfSome content P → P file
held content file P is has = subst (λ (o : Option (List ℕ)). IfSome o P) is has

module _ (script : Script) (start : ℕ) (left : Outcome) (file : List ℕ) (is : IsScript script) (whole : LeavesWhole script start left file) where
  encoded : IsEncoded script.plan.shapes file left.history
  encoded =
      (held left.disk.content file (λ f. IsCarried script.plan.shapes f left.history × IsEncoded script.plan.shapes f left.history) whole.content
      whole.complete.saved.holds).1

  -- what a crash leaves now is what the disk holds
  left_now : LeftSince left.disk.story whole.begun file
  left_now =
      let same : whole.story.now.content ≡ file = same_Some whole.story.now.content file (sym whole.now.content_is ∙ whole.content) in
      let may : MayLeave whole.story.now file = subst (MayLeave whole.story.now) same whole.now.possible in
      subst (λ (s : Option Story). LeftSince s whole.begun file) (sym whole.told) (inl (omega (arith, whole.past, whole.now.moment_is), may))

  begins : IsPrefix (script_head start script) file
  begins = elim (whole.start_holds file left_now) [
    | inl none ↦ absurd (none encoded.opened.1.recording.identified)
    | inr carries ↦ carries.begins
  ]

  pub recording_of : IsRecordingOf script.plan.form start script.plan.rows left.history file
  recording_of = record {
    bytes = whole.bytes;
    begins = begins;
    encoded = subst (λ (ls : List Layout). IsEncoded ls file left.history) (is.plan.shapes ∙ layouts_same script.plan.rows is.plan.planned.each) encoded;
  }
