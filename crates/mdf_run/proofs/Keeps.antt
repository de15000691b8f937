-- What a recording keeps, whatever happened.
use Rattle.std.proofs.Common.{◌≡◌, ◌≢◌, ◌⊎◌, ◌<◌, ◌≤◌, inl, inr, ⊎_elim, ℕ, List, [], ◌∷◌, length, Option, Some, None, Ok, refl, subst, arith, ◌++◌, sym, ◌∙◌, ap, append-nil}
use Rattle.std.specs.Prelude.{slice_get, IfSome, IsSomeAnd, ◌==◌}
use Rattle.std.specs.Io.KnownBytes.{Appends}
use Rattle.std.proofs.lemmas.Bool.{cases_eq, cond-false, ne_eqb}
use Rattle.mdf_port.specs.State.{SinkState}
use Rattle.mdf_disk.specs.State.{DiskState}
use Rattle.mdf_layout.specs.declared.sample.Sample.{Sample}
use Rattle.mdf_gate.proofs.Carrying.{carries_begun}
use Rattle.book_owned.specs.Marks.{durable}
use Rattle.book_owned.specs.declared.mark.Mark.{Mark}
use Rattle.acq_script.specs.Script.{script_of}
use Rattle.acq_script.specs.Tasks.{samples_of}
use Rattle.acq_script.specs.declared.script.Script.{Script}
use Rattle.mdf_block.specs.Refusal.{Refusal}
use Rattle.mdf_content.specs.Fault.{read_refusal}
use Rattle.mdf_command.specs.Faults.{fault_status, refused_status}
use Rattle.mdf_disk.specs.Crash.{HoldsSince}
use Rattle.mdf_gate.specs.Images.{IsBegun}
use Rattle.mdf_record.specs.Head.{script_head}
use Rattle.mdf_run.specs.Kept.{IsDone, IsDurable, IsReported, Keeps}
use Rattle.mdf_record.specs.Record.{AreAccepted, CloseComes, IsComplete, Outcome, fault_code, fault_text, live_of, live_text, record_status, record_text, summary_text}
use Rattle.mdf_command.specs.Faults.{SCRIPT_LIMIT}
use Rattle.mdf_record.specs.Recorded.{IsClosed, IsNotBegun, IsRefused, IsUnread, RecordComes}
use Rattle.mdf_command.specs.Texts.{Prints, unwritten_status}
use Rattle.mdf_command.specs.declared.fault.Fault.{Fault}
use Rattle.mdf_command.specs.declared.fault.Fault.TheVariants as fault
use Rattle.mdf_record.specs.declared.record.RecordEnd.{RecordEnd}
use Rattle.mdf_record.specs.declared.record.RecordEnd.TheVariants.{Refused, Closed}
use Rattle.mdf_record.proofs.Runs.{none_own}

-- a status that was printed is that of the end, or stands for it
pub was_status : (text : List ℕ) (status : ℕ) (sink sink' : SinkState) (result : ℕ) → Prints text status sink sink' result
    → (result ≡ status) ⊎ (result ≡ unwritten_status status)
was_status text status sink sink' result prints = ⊎_elim (λ all. inl all.1) (λ front. inr front.2) prints

not_read : (refusal : Option Refusal) (result : ℕ) → (result ≡ refused_status refusal) ⊎ (result ≡ unwritten_status (refused_status refusal)) → ¬ IsDone result
not_read None result is done = absurd (omega (arith, is, done))
not_read (Some refusal) result is done = absurd (omega (arith, is, done))

-- no fault has the status of a command that did what it was asked for
not_done : (problem : Fault) (result : ℕ) → (result ≡ fault_status problem) ⊎ (result ≡ unwritten_status (fault_status problem)) → ¬ IsDone result
not_done (fault.Gate refused) result is done = absurd (omega (arith, is, done))
not_done fault.Source result is done = absurd (omega (arith, is, done))
not_done fault.Device result is done = absurd (omega (arith, is, done))
not_done (fault.InputOver size limit) result is done = absurd (omega (arith, is, done))
not_done (fault.ScriptOver limit) result is done = absurd (omega (arith, is, done))
not_done (fault.SessionFull held size limit) result is done = absurd (omega (arith, is, done))
not_done fault.Memory result is done = absurd (omega (arith, is, done))
not_done (fault.Script number) result is done = absurd (omega (arith, is, done))
not_done (fault.Read refused) result is done = not_read (read_refusal refused) result is done
not_done (fault.NoGroup said groups) result is done = absurd (omega (arith, is, done))
not_done (fault.Differs group) result is done = absurd (omega (arith, is, done))
not_done (fault.Wide group channel) result is done = absurd (omega (arith, is, done))
not_done (fault.Attached at) result is done = absurd (omega (arith, is, done))

completes : (script : Script) (faults : ℕ) (left : Outcome) (seen : List (List Sample)) (result : ℕ) (problem : Option Fault)
    → (result ≡ fault_code problem) ⊎ (result ≡ unwritten_status (fault_code problem)) → IsDone result
    → CloseComes script faults left seen problem → IsComplete script left
completes script faults left seen result None is done comes = comes
completes script faults left seen result (Some problem) is done comes = absurd (not_done problem result is done)

-- all that was accepted is durable but where a disk failed
saves : (script : Script) (faults : ℕ) (left : Outcome) (seen : List (List Sample)) (result : ℕ) (problem : Option Fault)
    → (result ≡ fault_code problem) ⊎ (result ≡ unwritten_status (fault_code problem)) → result ≢ 4
    → CloseComes script faults left seen problem → durable left.marks ≡ length left.history
saves script faults left seen result None is other comes = comes.saved.all_durable
saves script faults left seen result (Some fault.Device) is other comes = absurd (⊎_elim other other is)
saves script faults left seen result (Some (fault.SessionFull held size limit)) is other comes = comes.are.saved.all_durable
saves script faults left seen result (Some fault.Memory) is other comes =
    ⊎_elim (λ short. short.are.saved.all_durable)
    (λ other. ⊎_elim (λ unshown. unshown.1.saved.all_durable) (λ idle. idle.saved.all_durable) other) comes
saves script faults left seen result (Some _) is other comes = absurd comes

-- a status 0 was printed only with all of the text, of a command that ended so
all_printed : (text : List ℕ) (status : ℕ) (sink sink' : SinkState) (result : ℕ) → result ≡ 0 → Prints text status sink sink' result → Appends sink.held sink'.held text
all_printed text status sink sink' result ok (inl all) = all.0
all_printed text status sink sink' result ok (inr front) = absurd (unwritten status (sym front.2 ∙ ok)) where
  unwritten : (s : ℕ) → unwritten_status s ≡ 0 → ⊥
  unwritten s is =
      ⊎_elim (λ none. absurd (omega (arith, sym (ap unwritten_status none) ∙ is)))
      (λ some. absurd (some (sym (cond-false (s == 0) 6 s (ne_eqb s 0 some)) ∙ is))) (cases_eq s 0)

-- what is printed of a recording in which nothing went wrong
module _ (script : Script) (left : Outcome) (sink sink' : SinkState) (result : ℕ) (ok : result ≡ 0) where
  reports : (accepted : List ℕ) (samples last : ℕ) (live : Option ℕ) (problem : Option Fault)
      → (result ≡ fault_code problem) ⊎ (result ≡ unwritten_status (fault_code problem)) → AreAccepted script left accepted → samples ≡ length left.history
      → last ≡ durable left.marks → IsComplete script left → live ≡ live_of script.plan.live problem (length left.history)
      → Appends sink.held sink'.held (summary_text accepted samples last ++ (live_text live ++ fault_text problem))
      → IsReported script left.disk left.history left.marks sink sink'
  reports accepted samples last live None is are samples_is last_is complete live_is printed = record {
    accepted = accepted;
    accepted_is = are;
    printed = subst (λ (text : List ℕ). Appends sink.held sink'.held text) same printed;
  } where
    same : summary_text accepted samples last ++ (live_text live ++ fault_text None)
        ≡ summary_text accepted (length left.history) (length left.history) ++ live_text (live_of script.plan.live None (length left.history))
    same =
        ap (λ (n : ℕ). summary_text accepted n last ++ (live_text live ++ [])) samples_is
        ∙ ap (λ (n : ℕ). summary_text accepted (length left.history) n ++ (live_text live ++ [])) (last_is ∙ complete.saved.all_durable)
        ∙ ap (λ (text : List ℕ). summary_text accepted (length left.history) (length left.history) ++ text) (append-nil (live_text live))
        ∙ ap (λ (l : Option ℕ). summary_text accepted (length left.history) (length left.history) ++ live_text l) live_is
  reports accepted samples last live (Some problem) is are samples_is last_is complete live_is printed = absurd (not_done problem result is (inl ok))

same_script : (text : List ℕ) (script other : Script) → script_of text ≡ Ok script → script_of text ≡ Ok other → other ≡ script
same_script text script other is also = cc

-- the script that a source says, where it tells its bytes, is the one that they are
pub source_says : (left : Option (List ℕ)) (text : List ℕ) (script other : Script) → left ≡ Some text → script_of text ≡ Ok script
    → IfSome left (λ t. (script_of t ≡ Ok other) × (length t ≤ SCRIPT_LIMIT)) → other ≡ script
source_says left text script other told is says =
    let of_text = subst (λ (l : Option (List ℕ)). IfSome l (λ t. (script_of t ≡ Ok other) × (length t ≤ SCRIPT_LIMIT))) told says in
    same_script text script other is of_text.0

-- marks of which the first is known are some
some_from : (marks : List Mark) → IsSomeAnd (slice_get marks 0) (λ mark. mark.through ≡ 0) → 0 < length marks
some_from [] first = absurd first
some_from (mark ∷ marks) first = omega arith

module _ (Says : Script → Type 0) (Refuses : Fault → Type 0) (name : List ℕ) (now : ℕ) (out disk : DiskState) (history : List Sample) (marks : List Mark) (sink sink' : SinkState) (status : ℕ)
    (script : Script) (means : (other : Script) → Says other → other ≡ script) where
  abbrev left : Outcome
  left = record { disk = disk; history = history; marks = marks }

  abbrev Keep : List Sample → List Mark → Type 0
  Keep samples ms = Keeps out.moment now script disk samples ms sink sink' status

  of_refused : (problem : Fault) → IsRefused Says Refuses name now out left problem
      → (status ≡ fault_status problem) ⊎ (status ≡ unwritten_status (fault_status problem)) → Keep history marks
  of_refused problem refused is = rw (refused.history, refused.marks) (record {
    marks_hold = λ k mark within. absurd (omega (arith, within));
    start_holds = λ file may. carries_begun script.plan.shapes (script_head now script) [] file (begun refused.comes file may);
    marks_rise = inl refl;
    own_prefix = λ source tasks there. (samples_of tasks, refl);
    flush_lines = λ source tasks there. none_own script.plan.owners source [] [] 0 [] tasks (omega arith);
    causes = inl refl;
    pending = omega arith;
    complete = λ done. absurd (not_done problem status is done);
    reported = λ ok. absurd (not_done problem status is (inl ok));
  }) where
    begun : IsUnread Refuses out disk problem ⊎ IsNotBegun Says name now out disk problem → HoldsSince disk.story out.moment (IsBegun (script_head now script))
    begun (inl unread) = unread.begun (script_head now script)
    begun (inr unmade) =
        subst (λ (s : Script). HoldsSince disk.story out.moment (IsBegun (script_head now s))) (means unmade.script unmade.says) unmade.begun

  of_closed : (accepted : List ℕ) (samples last : ℕ) (live : Option ℕ) (problem : Option Fault) (seen : List (List Sample)) → IsClosed Says name now out left accepted samples last live problem seen
      → Prints (summary_text accepted samples last ++ (live_text live ++ fault_text problem)) (fault_code problem) sink sink' status → Keep history marks
  of_closed accepted samples last live problem seen closed prints =
      let is = was_status (summary_text accepted samples last ++ (live_text live ++ fault_text problem)) (fault_code problem) sink sink' status prints in
      let script_is : closed.script ≡ script = means closed.script closed.says in
      let recorded = rw script_is at closed.recorded in
      let comes = rw script_is at closed.comes in
      let accepted_is = rw script_is at closed.accepted_is in
      let live_is = rw script_is at closed.live_is in
      record {
        marks_hold = recorded.marks_hold;
        start_holds = recorded.start_holds;
        marks_rise = inr recorded.marks_rise;
        own_prefix = recorded.own_prefix;
        flush_lines = recorded.flush_lines;
        causes = inr recorded.causes;
        pending = recorded.pending;
        complete = λ done. completes script out.faults left seen status problem is done comes;
        reported = λ ok. reports script left sink sink' status ok accepted samples last live problem is accepted_is closed.samples_is closed.durable_is
            (completes script out.faults left seen status problem is (inl ok) comes) live_is
            (all_printed (summary_text accepted samples last ++ (live_text live ++ fault_text problem)) (fault_code problem) sink sink' status ok prints);
      }

  pub recording_keeps : (end : RecordEnd) → RecordComes Says Refuses name now out left end
      → Prints (record_text end) (record_status end) sink sink' status → Keep history marks
  recording_keeps (Refused problem) comes prints =
      of_refused problem comes (was_status (record_text (Refused problem)) (record_status (Refused problem)) sink sink' status prints)
  recording_keeps (Closed accepted samples last live problem seen) comes prints = of_closed accepted.items samples last live problem seen comes prints

-- all is durable of a recording, whatever its script is
module _ (Says : Script → Type 0) (Refuses : Fault → Type 0) (name : List ℕ) (now : ℕ) (out : DiskState) (left : Outcome) (sink sink' : SinkState) (status : ℕ) where
  durable_refused : (problem : Fault) → IsRefused Says Refuses name now out left problem
      → (status ≡ fault_status problem) ⊎ (status ≡ unwritten_status (fault_status problem)) → IsDurable status left.history left.marks
  durable_refused problem refused is = λ ended.
      ⊎_elim (λ done. absurd (not_done problem status is done)) (λ begun. absurd (omega (arith, begun.0, ap length refused.marks))) ended

  durable_closed : (accepted : List ℕ) (samples last : ℕ) (live : Option ℕ) (problem : Option Fault) (seen : List (List Sample)) → IsClosed Says name now out left accepted samples last live problem seen
      → (status ≡ fault_code problem) ⊎ (status ≡ unwritten_status (fault_code problem)) → IsDurable status left.history left.marks
  durable_closed accepted samples last live problem seen closed is = λ ended. (
    some_from left.marks closed.recorded.marks_rise.first,
    ⊎_elim (λ done. (completes closed.script out.faults left seen status problem is done closed.comes).saved.all_durable)
        (λ begun. saves closed.script out.faults left seen status problem is begun.1 closed.comes) ended,
  )

  pub recording_durable : (end : RecordEnd) → RecordComes Says Refuses name now out left end
      → Prints (record_text end) (record_status end) sink sink' status → IsDurable status left.history left.marks
  recording_durable (Refused problem) comes prints =
      durable_refused problem comes (was_status (record_text (Refused problem)) (record_status (Refused problem)) sink sink' status prints)
  recording_durable (Closed accepted samples last live problem seen) comes prints =
      durable_closed accepted.items samples last live problem seen comes
      (was_status (record_text (Closed accepted samples last live problem seen)) (fault_code problem) sink sink' status prints)
