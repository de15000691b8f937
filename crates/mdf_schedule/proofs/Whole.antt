-- What the command `record` left of a script of these rows, and of which a file was finished, is a recording with its history.
use Rattle.std.proofs.Common.{◌≡◌, ℕ, List, [], ◌∷◌, ◌++◌, Option, map, refl, ap, subst}
use Rattle.std.specs.Prelude.{flat_map}
use Rattle.std.specs.List.{AllZip}
use Rattle.mdf_group.specs.declared.row.GroupRow.{GroupRow}
use Rattle.mdf_group.specs.Recordable.{AreRecordable}
use Rattle.mdf_layout.specs.declared.sample.Sample.{Sample}
use Rattle.mdf_model.specs.Measurement.{Measured}
use Rattle.mdf_command.specs.declared.fault.Fault.{Fault}
use Rattle.mdf_disk.specs.State.{DiskState}
use Rattle.acq_script.specs.declared.script.Script.{Script}
use Rattle.mdf_record.specs.Record.{Outcome}
use Rattle.mdf_record.specs.Recorded.{IsClosed}
use Rattle.mdf_carried.specs.Recovers.{IsReadHead}
use Rattle.mdf_schedule.specs.Joined.{IsFinished, IsFinishedOf, IsFinishedSince}
use Rattle.mdf_schedule.specs.Schedules.{IsLeftOf, IsRecordingOf}
use Rattle.mdf_schedule.proofs.Closed.{head_is_read, is_script, leaves_whole}
use Rattle.mdf_schedule.proofs.Files.{recording_of}
use Rattle.mdf_schedule.proofs.Found.{left_of}
use Rattle.mdf_schedule.proofs.Lefts.{left_whole}

module _ (start : ℕ) (rows : List GroupRow) where
  -- of a script of these rows
  module _ (script : Script) (of_rows : script.plan.rows ≡ rows) {name : List ℕ} {disk : DiskState} {left : Outcome} {accepted : List ℕ} {samples last : ℕ}
      {live : Option ℕ} {fault : Option Fault} {seen : List (List Sample)}
      (closed : IsClosed (λ said. said ≡ script) name start disk left accepted samples last live fault seen) where
    recordable : AreRecordable rows
    recordable = subst AreRecordable of_rows (is_script script closed).plan.planned

    readable : IsReadHead script.plan.form start rows
    readable = subst (IsReadHead script.plan.form start) of_rows (head_is_read script closed)

  module _ (left : Outcome) (m : Measured) (done : IsFinishedOf start rows left m) where
    pub are_recordable : AreRecordable rows
    are_recordable = recordable done.script done.of_rows done.recorded.closed

    pub finished_of : IsFinished start rows left.history m
    finished_of =
        let form = done.script.plan.form in
        record {
          form = form;
          read = readable done.script done.of_rows done.recorded.closed;
          file = done.file;
          recording = left_of form start rows left.history done.file (subst (λ (rs : List GroupRow). IsRecordingOf form start rs left.history done.file) done.of_rows
              (recording_of done.script start left done.file (is_script done.script done.recorded.closed)
              (leaves_whole done.script start left done.file done.recorded)));
          now = done.now;
          final = done.final;
          finalized = done.finalized;
          measured = done.measured;
          bytes = done.bytes;
        }

  module _ (left : Outcome) (m : Measured) (done : IsFinishedSince start rows left m) where
    pub are_recordable_since : AreRecordable rows
    are_recordable_since = recordable done.script done.of_rows done.closed

    pub finished_since : IsFinished start rows left.history m
    finished_since =
        let form = done.script.plan.form in
        record {
          form = form;
          read = readable done.script done.of_rows done.closed;
          file = done.file;
          recording = subst (λ (rs : List GroupRow). IsLeftOf form start rs left.history done.file) done.of_rows
              (left_whole done.script done.closed done.begun done.all_durable done.file done.since);
          now = done.now;
          final = done.final;
          finalized = done.finalized;
          measured = done.measured;
          bytes = done.bytes;
        }

  abbrev pub histories_of : List Outcome → List (List Sample)
  histories_of lefts = map (λ (left : Outcome). left.history) lefts

  -- what each of them is, all are
  pub all_finished : (P : Outcome → Measured → Type 0) → ((left : Outcome) (m : Measured) → P left m → IsFinished start rows left.history m)
      → (lefts : List Outcome) (later : List Measured) → AllZip P lefts later → AllZip (IsFinished start rows) (histories_of lefts) later
  all_finished P is [] [] each = tt
  all_finished P is [] (m ∷ later) each = absurd each
  all_finished P is (left ∷ lefts) [] each = absurd each
  all_finished P is (left ∷ lefts) (m ∷ later) each = (is left m each.0, all_finished P is lefts later each.1)

pub same_history : (lefts : List Outcome)
    → flat_map (λ (history : List Sample). history) (map (λ (left : Outcome). left.history) lefts) ≡ flat_map (λ (left : Outcome). left.history) lefts
same_history [] = refl
same_history (left ∷ lefts) = ap (λ (more : List Sample). left.history ++ more) (same_history lefts)
