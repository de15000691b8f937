-- A command on a sound input does what it was asked for, unless a disk fails or memory is wanted.
use Rattle.std.proofs.Common.{◌≡◌, ◌⊎◌, ◌≤◌, inl, inr, ⊎_elim, ℕ, Bool, true, false, List, length, Option, Some, None, Result, Ok, Err, refl, sym, ◌∙◌, ap, subst, arith}
use Rattle.std.proofs.lemmas.Bool.{eqb-true}
use Rattle.std.specs.Prelude.{◌||◌, IfSome, nat_eq, not, if◌then◌else◌}
use Rattle.mdf_port.specs.State.{SinkState}
use Rattle.mdf_disk.specs.State.{DiskState}
use Rattle.mdf_block.specs.Refusal.{NotRecording, Refusal, Read, Fails, ◌>>=◌}
use Rattle.mdf_content.specs.Fault.{read_refusal}
use Rattle.mdf_attach.specs.declared.attachment.Attachment.{Attachment}
use Rattle.mdf_attach.specs.declared.entry.Entry.{Entry}
use Rattle.mdf_attach.specs.declared.fault.AttachFault.{AttachFault}
use Rattle.mdf_attach.specs.declared.fault.AttachFault.TheVariants as attach
use Rattle.mdf_attach.specs.Listed.{attachments}
use Rattle.mdf_attach.specs.Lacks.{AreRefused}
use Rattle.mdf_attach.proofs.Reached.{attachments_there}
use Rattle.mdf_model.specs.Measurement.{Measured, measurement}
use Rattle.mdf_session.specs.Session.{recording, recording_by, session}
use Rattle.mdf_session.proofs.Identified.{session_is_identified}
use Rattle.mdf_carried.specs.Recovers.{IsReadable}
use Rattle.mdf_record.specs.Recovers.{IsFinalizable}
use Rattle.mdf_make.specs.declared.said.Said.{Said}
use Rattle.mdf_command.specs.Faults.{INPUT_LIMIT, READING_LIMIT, end_status, fault_line, fault_status, refused_status}
use Rattle.mdf_command.specs.Load.{IsLoaded, IsOverOf}
use Rattle.mdf_command.specs.Texts.{unwritten_status}
use Rattle.mdf_command.specs.declared.fault.Fault.{Fault}
use Rattle.mdf_command.specs.declared.fault.Fault.TheVariants as fault
use Rattle.mdf_head.specs.declared.identity.Ident.{Ident}
use Rattle.mdf_head.specs.Ident.{identify}
use Rattle.tool_complete.specs.Completed.{completed_file, completion, dropped_rest}
use Rattle.tool_complete.specs.Flags.{is_mendable, unfinished, unfinished_by}
use Rattle.mdf_make.specs.Finalize.{IsNotFinalized, RefusesBy}
use Rattle.mdf_make.specs.Sort.{IsNotMeasured}
use Rattle.mdf_make.specs.Making.{EndsMaking, Inputs, MakingComes, making_text, one_input}
use Rattle.tool_export.specs.Export.{HasNoGroup}
use Rattle.mdf_inspect.specs.Export.{EndsExport, LacksGroup, PrintsEnd, TableComes, TableFaultComes}
use Rattle.mdf_inspect.specs.declared.table.TableEnd.{TableEnd}
use Rattle.mdf_inspect.specs.declared.table.TableEnd.TheVariants.{Given, Unwritten, Refused}
use Rattle.mdf_inspect.specs.Attachments.{AreRefusedWith, EndsListing, ListingComes, ListingFaultComes, listing_text}
use Rattle.mdf_inspect.specs.Paged.{IfReadOf}
use Rattle.mdf_run.specs.Kept.{HasGroup, IsCompletable, IsDoneOrLacked, IsListable, IsMeasured}
use Rattle.mdf_run.proofs.Keeps.{was_status}

-- one measurement is read of a file
pub one_read : {A : Type 0} (read : Read A) (found other : A) → read ≡ Ok found → read ≡ Ok other → found ≡ other
one_read read found other is also = cc

-- what is read is not refused
pub not_refused : {A : Type 0} (refusal : Option Refusal) (read : Read A) (found : A) → read ≡ Ok found → Fails refusal read → refused_status refusal ≡ 7
not_refused None read found is fails = refl
not_refused {A = A} (Some refusal) read found is fails =
    let wrong : ◌≡◌ {A = Read A} (Ok found) (Err refusal) = sym is ∙ fails in cc

ends_well : (status result : ℕ) → (result ≡ status) ⊎ (result ≡ unwritten_status status) → (status ≡ 0) ⊎ ((status ≡ 4) ⊎ (status ≡ 7)) → IsDoneOrLacked result
ends_well status result was (inl none) =
    ⊎_elim (λ same. inl (same ∙ none)) (λ other. inr (inr (inl (other ∙ ap unwritten_status none)))) was
ends_well status result was (inr (inl device)) =
    ⊎_elim (λ same. inr (inl (same ∙ device))) (λ other. inr (inl (other ∙ ap unwritten_status device))) was
ends_well status result was (inr (inr memory)) =
    ⊎_elim (λ same. inr (inr (inr (same ∙ memory)))) (λ other. inr (inr (inr (other ∙ ap unwritten_status memory)))) was

-- a command that makes a file, of inputs of which none is too long, with a tool that refuses them for want of memory alone
module _ {Input : Type 0} (inputs : Inputs Input) (Makes : Input → List ℕ → Said → Type 0) (Refuses : Input → Fault → Type 0) (out out' : DiskState)
    (short : (size limit : ℕ) → ¬ inputs.IsOver size limit)
    (takes : (input : Input) → inputs.AreLoaded input → (problem : Fault) → Refuses input problem → fault_status problem ≡ 7) where
  making_fault : (problem : Fault) → MakingComes inputs Makes Refuses out out' (Err problem)
      → (fault_status problem ≡ 0) ⊎ ((fault_status problem ≡ 4) ⊎ (fault_status problem ≡ 7))
  making_fault fault.Device comes = inr (inl refl)
  making_fault (fault.InputOver size limit) comes = absurd (short size limit comes.0)
  making_fault fault.Memory comes = inr (inr refl)
  making_fault problem comes = inr (inr (takes comes.0.0 comes.0.1 problem comes.0.2))

  making_end : (end : Result Said Fault) → MakingComes inputs Makes Refuses out out' end
      → (end_status end ≡ 0) ⊎ ((end_status end ≡ 4) ⊎ (end_status end ≡ 7))
  making_end (Ok report) comes = inl refl
  making_end (Err problem) comes = making_fault problem comes

  pub making_well : (sink sink' : SinkState) (status : ℕ) → EndsMaking inputs Makes Refuses out out' sink sink' status → IsDoneOrLacked status
  making_well sink sink' status ends =
      ends_well (end_status ends.0) status (was_status (making_text ends.0) (end_status ends.0) sink sink' status ends.2) (making_end ends.0 ends.1)

-- what holds of what a disk tells that tells this file
module _ (disk : DiskState) (file : List ℕ) (told : disk.content ≡ Some file) where
  said : (P : List ℕ → Type 0) → IfSome disk.content P → P file
  said P holds = subst (λ (content : Option (List ℕ)). IfSome content P) told holds

  pub loaded_is : (loaded : List ℕ) → IsLoaded disk loaded → loaded ≡ file
  loaded_is loaded is = said (λ f. loaded ≡ f) is.told

  pub not_over : (most : ℕ) → length file ≤ most → (size limit : ℕ) → ¬ IsOverOf most disk size limit
  not_over most short size limit is =
      let long : size ≡ length file = said (λ f. size ≡ length f) is.told in absurd (omega (arith, is.limit_is, is.over, long, short))

  -- a command that prints the table of a group that is there
  module _ (short : length file ≤ READING_LIMIT) (group : ℕ) (has : HasGroup file group) (disk' : DiskState) (sink between : SinkState) where
    not_lacking : (groups : ℕ) → ¬ LacksGroup disk group groups
    not_lacking groups comes =
        let lacks = (said (λ f. (length f ≤ READING_LIMIT) × HasNoGroup f group groups) comes.1).1 in
        let same : has.found ≡ lacks.found = one_read (measurement file) has.found lacks.found has.is_read lacks.is_read in
        let many : length has.found.groups ≡ groups = ap (λ (m : Measured). length m.groups) same ∙ sym lacks.count in
        absurd (omega (arith, many, has.there, lacks.past))

    table_fault : (problem : Fault) → TableFaultComes group disk disk' sink between problem
        → (fault_status problem ≡ 0) ⊎ ((fault_status problem ≡ 4) ⊎ (fault_status problem ≡ 7))
    table_fault fault.Device comes = inr (inl refl)
    table_fault (fault.InputOver size limit) comes = absurd (not_over READING_LIMIT short size limit comes.0)
    table_fault fault.Memory comes = inr (inr refl)
    table_fault (fault.Read refused) comes =
        let fails = (said (λ f. (length f ≤ READING_LIMIT) × Fails (read_refusal refused) (measurement f)) comes.0.1).1 in
        inr (inr (not_refused (read_refusal refused) (measurement file) has.found has.is_read fails))
    table_fault (fault.NoGroup number groups) comes = absurd (not_lacking groups comes.1)
    table_fault problem comes = absurd comes

    pub table_well : (end : TableEnd) (sink' : SinkState) (status : ℕ) → TableComes group disk disk' sink between end → PrintsEnd end between sink' status
        → IsDoneOrLacked status
    table_well (Given rows) sink' status comes prints = inl prints.1
    table_well Unwritten sink' status comes prints = inr (inr (inl prints.1))
    table_well (Refused problem) sink' status comes prints =
        ends_well (fault_status problem) status (was_status (fault_line problem) (fault_status problem) between sink' status prints) (table_fault problem comes)

-- attachments that are read are not refused
not_both : (read : Read (List Attachment)) (rows : List Attachment) (refusal : Refusal) → read ≡ Ok rows → ¬ (read ≡ Err refusal)
not_both read rows refusal is also = cc

not_listed : (file : List ℕ) → IsListable file → (refused : AttachFault) → ¬ AreRefused file refused
not_listed file listable attach.Memory refused = absurd refused
not_listed file listable (attach.TooMany at) refused =
    not_both (attachments file) listable.rows _ (attachments_there file listable.rows listable.attached listable.few) refused.0.1
not_listed file listable attach.NotMdf refused =
    not_both (attachments file) listable.rows _ (attachments_there file listable.rows listable.attached listable.few) refused.0
not_listed file listable (attach.Version ver) refused =
    not_both (attachments file) listable.rows _ (attachments_there file listable.rows listable.attached listable.few) refused.0
not_listed file listable (attach.Unfinalized std custom) refused =
    not_both (attachments file) listable.rows _ (attachments_there file listable.rows listable.attached listable.few) refused.0
not_listed file listable (attach.Bad at want) refused =
    not_both (attachments file) listable.rows _ (attachments_there file listable.rows listable.attached listable.few) refused.0

pub not_refused_with : (file : List ℕ) → IsListable file → (problem : Fault) → ¬ AreRefusedWith file problem
not_refused_with file listable problem refused = not_listed file listable refused.0 refused.1

-- a command that lists them
module _ (disk disk' : DiskState) (file : List ℕ) (told : disk.content ≡ Some file) (short : length file ≤ INPUT_LIMIT) (listable : IsListable file) where
  of_read : (problem : Fault) → ¬ IfReadOf INPUT_LIMIT disk (λ f. AreRefusedWith f problem)
  of_read problem comes =
      not_refused_with file listable problem (said disk file told (λ f. (length f ≤ INPUT_LIMIT) × AreRefusedWith f problem) comes).1

  listing_fault : (problem : Fault) → ListingFaultComes disk disk' problem
      → (fault_status problem ≡ 0) ⊎ ((fault_status problem ≡ 4) ⊎ (fault_status problem ≡ 7))
  listing_fault fault.Device comes = inr (inl refl)
  listing_fault (fault.InputOver size limit) comes = absurd (not_over disk file told INPUT_LIMIT short size limit comes)
  listing_fault fault.Memory comes = inr (inr refl)
  listing_fault (fault.Read refused) comes = absurd (of_read (fault.Read refused) comes.1)
  listing_fault (fault.Attached at) comes = absurd (of_read (fault.Attached at) comes)
  listing_fault problem comes = absurd comes

  listing_end : (end : Result (List Entry) Fault) → ListingComes disk disk' end
      → (end_status end ≡ 0) ⊎ ((end_status end ≡ 4) ⊎ (end_status end ≡ 7))
  listing_end (Ok rows) comes = inl refl
  listing_end (Err problem) comes = listing_fault problem comes

pub listable_is_listed : (disk disk' : DiskState) (sink sink' : SinkState) (status : ℕ) (content : Option (List ℕ)) → disk.content ≡ content
    → EndsListing disk disk' sink sink' status → IfSome content (λ file. IsListable file → length file ≤ INPUT_LIMIT → IsDoneOrLacked status)
listable_is_listed disk disk' sink sink' status None told ends = tt
listable_is_listed disk disk' sink sink' status (Some file) told ends = λ listable short.
    ends_well (end_status ends.0) status (was_status (listing_text ends.0) (end_status ends.0) sink sink' status ends.2)
    (listing_end disk disk' file told short listable ends.0 ends.1)

-- a command that makes a file of one input, which it refuses for want of memory alone
pub one_is_made : (Makes : List ℕ → List ℕ → Said → Type 0) (Refuses : List ℕ → Fault → Type 0) (IsSound : List ℕ → Type 0)
    → ((file : List ℕ) → IsSound file → (problem : Fault) → Refuses file problem → fault_status problem ≡ 7)
    → (disk disk' out out' : DiskState) (sink sink' : SinkState) (status : ℕ) (content : Option (List ℕ)) → disk.content ≡ content
    → EndsMaking (one_input disk disk') Makes Refuses out out' sink sink' status
    → IfSome content (λ file. IsSound file → length file ≤ INPUT_LIMIT → IsDoneOrLacked status)
one_is_made Makes Refuses IsSound takes disk disk' out out' sink sink' status None told ends = tt
one_is_made Makes Refuses IsSound takes disk disk' out out' sink sink' status (Some file) told ends = λ sound short.
    making_well (one_input disk disk') Makes Refuses out out' (not_over disk file told INPUT_LIMIT short)
    (λ input loaded problem refuses. takes file sound problem (subst (λ f. Refuses f problem) (loaded_is disk file told input loaded) refuses)) sink sink' status ends

-- a recording has the custom word 1 or 3, and a file that can be mended has 0
no_both_words : (finalized is_bare is_listed is_zero other : Bool) (word : ℕ) (id one two : Ident) (first second : Refusal)
    → nat_eq word 1 ≡ is_bare → nat_eq word 3 ≡ is_listed → nat_eq word 0 ≡ is_zero
    → ◌≡◌ {A = Read Ident} (if finalized || not (is_bare || is_listed) then Err first else Ok id) (Ok one)
    → ◌≡◌ {A = Read Ident} (if finalized || (not is_zero || other) then Err second else Ok id) (Ok two) → ⊥
no_both_words true is_bare is_listed is_zero other word id one two first second bare listed none recorded mended = cc
no_both_words false false false is_zero other word id one two first second bare listed none recorded mended = cc
no_both_words false true is_listed false other word id one two first second bare listed none recorded mended = cc
no_both_words false false true false other word id one two first second bare listed none recorded mended = cc
no_both_words false true is_listed true other word id one two first second bare listed none recorded mended =
    let wrong : ◌≡◌ {A = ℕ} 1 0 = sym (eqb-true word 1 bare) ∙ eqb-true word 0 none in omega (arith, wrong)
no_both_words false false true true other word id one two first second bare listed none recorded mended =
    let wrong : ◌≡◌ {A = ℕ} 3 0 = sym (eqb-true word 3 listed) ∙ eqb-true word 0 none in omega (arith, wrong)

no_both : (read : Read Ident) (one two : Ident) → (read >>= recording_by) ≡ Ok one → (read >>= unfinished_by) ≡ Ok two → ⊥
no_both (Ok id) one two recorded mended =
    no_both_words id.finalized (nat_eq id.custom_flags 1) (nat_eq id.custom_flags 3) (nat_eq id.custom_flags 0) (not (is_mendable id.std_flags)) id.custom_flags
    id one two (NotRecording id.std_flags id.custom_flags) (NotRecording id.std_flags id.custom_flags) refl refl refl recorded mended
no_both (Err refusal) one two recorded mended = cc

recording_is_none : (file : List ℕ) (id : Ident) → IsReadable file → unfinished file ≡ Ok id → ⊥
unfolding recording unfinished
recording_is_none file id readable is =
    let recorded = session_is_identified file readable.found readable.is_read in no_both (identify file) recorded.0 id recorded.1 is

-- a file that can't be mended has no completed one
not_unfinished : (file : List ℕ) (refusal : Refusal) (found : Measured × ℕ) → unfinished file ≡ Err refusal → completion file ≡ Ok found → ⊥
unfolding completion
not_unfinished file refusal found is read =
    let refused : completion file ≡ Err refusal = ap (λ (one : Read Ident). one >>= λ _. measurement (completed_file file) >>= λ m. Ok (m, dropped_rest file)) is in
    let wrong : ◌≡◌ {A = Read (Measured × ℕ)} (Ok found) (Err refusal) = sym read ∙ refused in cc

-- each file that is read as a recording is finalized
pub read_is_taken : (file : List ℕ) → IsReadable file → (problem : Fault) → IsNotFinalized file problem → fault_status problem ≡ 7
read_is_taken file readable problem fails = by_read (unfinished file) refl problem fails
  where
    by_read : (read : Read Ident) → unfinished file ≡ read → (problem : Fault) → RefusesBy file read problem → fault_status problem ≡ 7
    by_read (Ok id) is problem fails = absurd (recording_is_none file id readable is)
    by_read (Err refusal) is (fault.Read refused) fails = not_refused (read_refusal refused) (session file) readable.found readable.is_read fails.1
    by_read (Err refusal) is fault.Memory known = refl
    by_read (Err refusal) is problem fails = absurd fails

-- and so is each that another tool left unfinished, where its completed file is read
pub completable_is_taken : (file : List ℕ) → IsCompletable file → (problem : Fault) → IsNotFinalized file problem → fault_status problem ≡ 7
completable_is_taken file completable problem fails = by_read (unfinished file) refl problem fails
  where
    by_read : (read : Read Ident) → unfinished file ≡ read → (problem : Fault) → RefusesBy file read problem → fault_status problem ≡ 7
    by_read (Ok id) is (fault.Read refused) fails = not_refused (read_refusal refused) (completion file) completable.found completable.is_read fails.1
    by_read (Ok id) is fault.Memory known = refl
    by_read (Ok id) is problem fails = absurd fails
    by_read (Err refusal) is problem fails = absurd (not_unfinished file refusal completable.found is completable.is_read)

pub finalizable_is_taken : (content : Option (List ℕ)) (P : Type 0) → IfSome content (λ file. IsReadable file → length file ≤ INPUT_LIMIT → P)
    → IfSome content (λ file. IsFinalizable file → P)
finalizable_is_taken None P each = tt
finalizable_is_taken (Some file) P each = λ finalizable. each finalizable.readable finalizable.short

-- and each finished file is sorted and cut
pub measured_is_taken : (file : List ℕ) → IsMeasured file → (problem : Fault) → IsNotMeasured file problem → fault_status problem ≡ 7
measured_is_taken file measured (fault.Read refused) fails = not_refused (read_refusal refused) (measurement file) measured.found measured.is_read fails.1
measured_is_taken file measured fault.Memory known = refl
measured_is_taken file measured problem fails = absurd fails

-- and each of its groups is exported
pub group_is_exported : (group : ℕ) (disk disk' : DiskState) (sink sink' : SinkState) (status : ℕ) (content : Option (List ℕ)) → disk.content ≡ content
    → EndsExport group disk disk' sink sink' status → IfSome content (λ file. HasGroup file group → length file ≤ READING_LIMIT → IsDoneOrLacked status)
group_is_exported group disk disk' sink sink' status None told ends = tt
group_is_exported group disk disk' sink sink' status (Some file) told ends = λ has short.
    table_well disk file told short group has disk' sink ends.1 ends.0 sink' status ends.2 ends.3
