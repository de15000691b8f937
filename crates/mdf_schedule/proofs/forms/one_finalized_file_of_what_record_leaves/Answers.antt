use Rattle.std.proofs.Common.{ℕ, List, inl, inr, sym, subst}
use Rattle.mdf_format.specs.Identification.{IsMdf}
use Rattle.mdf_group.specs.declared.row.GroupRow.{GroupRow}
use Rattle.mdf_layout.specs.declared.sample.Sample.{Sample}
use Rattle.mdf_carried.specs.Recovers.{IsReadHead}
use Rattle.acq_script.specs.declared.script.Script.{Script}
use Rattle.mdf_tool.specs.declared.made.Report.{Report}
use Rattle.tool_final.specs.Finalize.{IsFinalizedOf}
use Rattle.mdf_schedule.specs.Outcomes.{IsLeftBy}
use Rattle.mdf_schedule.specs.Schedules.{IsLeftOf}
use Rattle.mdf_schedule.proofs.Closed.{head_is_read, is_script}
use Rattle.mdf_schedule.proofs.forms.one_finalized_file_of_what_record_leaves.Goals as goal

pub returns : goal.returns
returns c = λ script other start file second now final last of_final of_last rows one two same fin fin'.
    let first = left_of script start file one (read_of file fin) in
    let next = left_of other start second two (read_of second fin') in
    c.one_finalized_file_of_both_forms.ensures script.plan.form other.plan.form start script.plan.rows first.0 next.0 file second now final last of_final of_last
    (is_script script one.closed).plan.planned (head_is_read script one.closed)
    (subst (λ (rs : List GroupRow). IsReadHead other.plan.form start rs) (sym rows) (head_is_read other two.closed))
    first.1 (subst (λ (rs : List GroupRow). IsLeftOf other.plan.form start rs next.0 second) (sym rows) next.1) same fin fin'
  where
    read_of : (f : List ℕ) {now : ℕ} {bytes : List ℕ} {report : Report} → IsFinalizedOf f now bytes report → IsMdf f
    read_of f fin = (c.what_is_read_is_recovered.ensures f fin.found fin.is_read).1.records.opened.1.recording.identified

    left_of : (s : Script) (begun : ℕ) (f : List ℕ) → IsLeftBy s begun f → IsMdf f → (samples : List Sample) × IsLeftOf s.plan.form begun s.plan.rows samples f
    left_of s begun f is mdf = elim (c.what_record_leaves.ensures s begun f is) [
      | inl none ↦ absurd (none mdf)
      | inr some ↦ (some.0, some.2)
    ]
