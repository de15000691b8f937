-- How a rotation ends, and with which status.
use Rattle.std.proofs.Common.{◌≡◌, ◌≢◌, ◌∙◌, ℕ, List, [], ◌∷◌, map, Option, Some, None, Ok, Err, inl, inr, ⊎_elim, ap, subst, sym, refl, arith}
use Rattle.std.specs.Prelude.{◌↔◌, ◌==◌, codes}
use Rattle.std.proofs.lemmas.Bool.{cond-false, ne_eqb}
use Rattle.mdf_block.specs.Refusal.{Refusal}
use Rattle.mdf_content.specs.Fault.{read_refusal}
use Rattle.mdf_port.specs.State.{SinkState, SourceState}
use Rattle.mdf_disk.specs.State.{DiskState}
use Rattle.book_owned.specs.Members.{DiskOf}
use Rattle.acq_script.specs.Stage.{IsScript}
use Rattle.acq_script.specs.declared.script.Script.{Script}
use Rattle.mdf_command.specs.Faults.{fault_status, refused_status}
use Rattle.mdf_command.specs.Texts.{Prints, usage_line}
use Rattle.mdf_command.specs.declared.fault.Fault.{Fault}
use Rattle.mdf_command.specs.declared.fault.Fault.TheVariants as fault
use Rattle.mdf_record.specs.Record.{Outcome}
use Rattle.mdf_record.specs.Script.{SaysScript, ScriptFaultComes}
use Rattle.mdf_rotate.specs.Course.{BeginComes, Course, end_of}
use Rattle.mdf_rotate.specs.Part.{PartsCome, outcomes}
use Rattle.mdf_rotate.specs.Rotate.{AreUnused, CourseComes, EndsRotate, IsWholeStatus, RotateComes, RotateRuns, recorded_in}
use Rattle.mdf_rotate.specs.Text.{Recording, records_of, record_of, rotate_status, rotate_text}
use Rattle.mdf_rotate.specs.Whole.{KeepsWhole}
use Rattle.mdf_rotate.specs.Words.{AsksNoRotation, AsksToRotate}
use Rattle.mdf_rotate.specs.declared.course.RotateEnd.{RotateEnd}
use Rattle.mdf_rotate.specs.declared.course.RotateEnd.TheVariants.{Whole, Over, Faulted}
use Rattle.mdf_rotate.specs.declared.part.Part.{Part}
use Rattle.mdf_rotate.proofs.Keeps.{RecoverEach, ended, keeps_all, keeps_begun}
use Rattle.mdf_rotate.proofs.Room.{ends_not_full, not_full_last}

-- a status that is neither that of a whole rotation nor that of other words
record IsFailing (status : ℕ) : Type 0 where
  done : status ≢ 0
  usage : status ≢ 1
  sink : status ≢ 6

refused_fails : (refusal : Option Refusal) → IsFailing (refused_status refusal)
refused_fails None = record { done = λ is. omega (arith, is); usage = λ is. omega (arith, is); sink = λ is. omega (arith, is) }
refused_fails (Some refusal) = record { done = λ is. omega (arith, is); usage = λ is. omega (arith, is); sink = λ is. omega (arith, is) }

fault_fails : (problem : Fault) → IsFailing (fault_status problem)
fault_fails (fault.Read refused) = refused_fails (read_refusal refused)
fault_fails problem = record { done = λ is. omega (arith, is); usage = λ is. omega (arith, is); sink = λ is. omega (arith, is) }

-- it stands, be its text written or not
failing_is : (text : List ℕ) (status : ℕ) (sink sink' : SinkState) (result : ℕ) → IsFailing status → Prints text status sink sink' result → result ≡ status
failing_is text status sink sink' result fails (inl all) = all.1
failing_is text status sink sink' result fails (inr front) = front.2 ∙ cond-false (status == 0) 6 status (ne_eqb status 0 fails.done)

not_whole : (text : List ℕ) (status : ℕ) (sink sink' : SinkState) (result : ℕ) → IsFailing status → Prints text status sink sink' result → ¬ IsWholeStatus result
not_whole text status sink sink' result fails prints whole =
    let is = failing_is text status sink sink' result fails prints in
    ⊎_elim (λ done. fails.done (sym is ∙ done)) (λ six. fails.sink (sym is ∙ six)) whole

over_fails : IsFailing 5
over_fails = record { done = λ is. omega (arith, is); usage = λ is. omega (arith, is); sink = λ is. omega (arith, is) }

-- a rotation with the status of a whole one is whole
whole_is : (text : List ℕ) (end : RotateEnd) (sink sink' : SinkState) (status : ℕ) → Prints text (rotate_status end) sink sink' status → IsWholeStatus status → end ≡ Whole
whole_is text Whole sink sink' status prints whole = refl
whole_is text Over sink sink' status prints whole = absurd (not_whole text 5 sink sink' status over_fails prints whole)
whole_is text (Faulted problem) sink sink' status prints whole =
    absurd (not_whole text (fault_status problem) sink sink' status (fault_fails problem) prints whole)

-- no rotation has the status of other words
never_usage : (text : List ℕ) (end : RotateEnd) (sink sink' : SinkState) (status : ℕ) → Prints text (rotate_status end) sink sink' status → status ≢ 1
never_usage text Whole sink sink' status prints is = ⊎_elim (λ all. omega (arith, is, all.1)) (λ front. omega (arith, is, front.2)) prints
never_usage text Over sink sink' status prints is = over_fails.usage (sym (failing_is text 5 sink sink' status over_fails prints) ∙ is)
never_usage text (Faulted problem) sink sink' status prints is =
    let fails = fault_fails problem in fails.usage (sym (failing_is text (fault_status problem) sink sink' status fails prints) ∙ is)

usage_status : (sink sink' : SinkState) (status : ℕ) → Prints usage_line 1 sink sink' status → status ≡ 1
usage_status sink sink' status prints = ⊎_elim (λ all. all.1) (λ front. front.2) prints

-- what was recorded of the parts
pub records_same : {C : Type 0} (tells : DiskOf C) (parts : List (Part C)) → map recorded_in (outcomes tells parts) ≡ records_of parts
records_same tells [] = refl
records_same tells (part ∷ parts) = ap (λ records. record_of part ∷ records) (records_same tells parts)

-- the words ask for one output
output_same : (words : List (List ℕ)) (output other : List ℕ) → AsksToRotate words output → AsksToRotate words other → output ≡ other
output_same words output other asks also = let same : codes "rotate" ∷ output ∷ [] ≡ codes "rotate" ∷ other ∷ [] = sym asks ∙ also in cc

module _ (source source' : SourceState) (output : List ℕ) (now : ℕ) (disks : List DiskState) (lefts : List Outcome) (last : Course) (recovered : RecoverEach disks lefts) where
  -- a script that was begun
  begun_comes : (script : Script) (first : Course) → SaysScript source source' script → IsScript script → BeginComes script first → PartsCome output now 0 disks lefts first last
      → RotateComes (SaysScript source source') (ScriptFaultComes source source') output now disks lefts (end_of last)
  begun_comes script (Ok left) says is_script begins parts = inr (record {
    script = script;
    says = says;
    is_script = is_script;
    first = Ok left;
    begins = begins;
    last = last;
    parts = parts;
    end_is = refl;
    keeps = keeps_all output now 0 disks lefts script last (subst (λ s. PartsCome output now 0 disks lefts (Ok s) last) begins.0 parts) recovered;
    session = λ held size limit is.
        absurd (ends_not_full last (not_full_last output now 0 disks lefts (Ok left) last parts (λ h s l same. let no : ⊥ = cc in no)) held size limit is);
  })
  begun_comes script (Err Whole) says is_script begins parts = absurd begins
  begun_comes script (Err Over) says is_script begins parts = absurd begins
  begun_comes script (Err (Faulted problem)) says is_script begins parts =
      let stopped = ended output now 0 disks lefts (Faulted problem) last parts in
      inr (record {
        script = script;
        says = says;
        is_script = is_script;
        first = Err (Faulted problem);
        begins = begins;
        last = last;
        parts = parts;
        end_is = refl;
        keeps = subst (λ course. KeepsWhole script now disks lefts (end_of course)) (sym stopped.1) (keeps_begun script now disks lefts problem stopped.0 recovered);
        session = λ held size limit is.
            let same : Faulted problem ≡ Faulted (fault.SessionFull held size limit) = sym (ap end_of stopped.1) ∙ is in
            let begun = subst (λ end. BeginComes script (Err end)) same begins in
            (begun.0, begun.1, stopped.0);
      })

  rotate_comes : (first : Course) → CourseComes source source' first → PartsCome output now 0 disks lefts first last
      → RotateComes (SaysScript source source') (ScriptFaultComes source source') output now disks lefts (end_of last)
  rotate_comes first (inl begun) parts = begun_comes begun.0 first begun.1 begun.2 begun.3 parts
  rotate_comes first (inr refused) parts =
      let stopped = ended output now 0 disks lefts (Faulted refused.0) last (subst (λ course. PartsCome output now 0 disks lefts course last) refused.2 parts) in
      inl (record { fault = refused.0; comes = refused.1; end_is = ap end_of stopped.1; unused = stopped.0 })

  -- with what was printed
  pub rotation_ends : (records : List Recording) → map recorded_in lefts ≡ records → (sink sink' : SinkState) (status : ℕ) (first : Course) → CourseComes source source' first
      → PartsCome output now 0 disks lefts first last → Prints (rotate_text records (end_of last)) (rotate_status (end_of last)) sink sink' status
      → EndsRotate source source' output now disks lefts sink sink' status
  rotation_ends records same sink sink' status first begins parts prints = record {
    end = end_of last;
    comes = rotate_comes first begins parts;
    printed = subst (λ rs. Prints (rotate_text rs (end_of last)) (rotate_status (end_of last)) sink sink' status) (sym same) prints;
    whole = whole_is (rotate_text records (end_of last)) (end_of last) sink sink' status prints;
  }

-- the words of a rotation
pub runs_rotation : (words : List (List ℕ)) (source source' : SourceState) (now : ℕ) (disks : List DiskState) (lefts : List Outcome) (sink sink' : SinkState) (status : ℕ) (output : List ℕ)
    → AsksToRotate words output → EndsRotate source source' output now disks lefts sink sink' status → RotateRuns words source source' now disks lefts sink sink' status
runs_rotation words source source' now disks lefts sink sink' status output asks ends = record {
  usage = λ none. absurd (none output asks);
  rotate = λ other also. subst (λ name. EndsRotate source source' name now disks lefts sink sink' status) (output_same words output other asks also) ends;
}

pub rotation_usage : (words : List (List ℕ)) (source source' : SourceState) (now : ℕ) (disks : List DiskState) (lefts : List Outcome) (sink sink' : SinkState) (status : ℕ) (output : List ℕ)
    → AsksToRotate words output → EndsRotate source source' output now disks lefts sink sink' status → (status ≡ 1) ↔ AsksNoRotation words
rotation_usage words source source' now disks lefts sink sink' status output asks ends =
    (λ is. absurd (never_usage (rotate_text (map recorded_in lefts) ends.end) ends.end sink sink' status ends.printed is), λ none. absurd (none output asks))

-- other words
pub other_runs : (words : List (List ℕ)) (source : SourceState) (now : ℕ) (disks : List DiskState) (lefts : List Outcome) (sink sink' : SinkState) (status : ℕ)
    → AsksNoRotation words → Prints usage_line 1 sink sink' status → AreUnused disks lefts → RotateRuns words source source now disks lefts sink sink' status
other_runs words source now disks lefts sink sink' status none prints unused = record {
  usage = λ other. (prints, unused, refl);
  rotate = λ output asks. absurd (none output asks);
}

pub other_usage : (words : List (List ℕ)) (sink sink' : SinkState) (status : ℕ) → AsksNoRotation words → Prints usage_line 1 sink sink' status → (status ≡ 1) ↔ AsksNoRotation words
other_usage words sink sink' status none prints = (λ is. none, λ other. usage_status sink sink' status prints)
