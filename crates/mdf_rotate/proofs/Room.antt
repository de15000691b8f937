-- A session has room for each part, so no part's recording ends for want of room.
use Rattle.std.proofs.Common.{◌≡◌, ◌≢◌, Bool, true, false, ◌+◌, ◌<◌, ◌≤◌, ◌∙◌, ℕ, zero, suc, List, [], ◌∷◌, ◌++◌, length, cond, All, Some, None, Ok, Err, inl, inr, ⊎_elim, refl, sym, ap, subst, arith, append-nil, append_assoc}
use Rattle.std.specs.Prelude.{◌==◌, IfSome, if◌then◌else◌, slice_get, slice_index}
use Rattle.std.specs.List.{slice_index_or}
use Rattle.std.proofs.lemmas.Bool.{cases_eq, cond-false, cond-true, eq-eqb, ne_eqb}
use Rattle.std.proofs.lemmas.List.Elements.{All-head, All-push, All-tail, All-weaker, filter-append}
use Rattle.std.proofs.lemmas.List.Sums.{sum_by-append, sum_by-cons}
use Rattle.std.proofs.lemmas.Option.{get_or_from_slice_get}
use mathlib.Core.List.{IsPrefix}
use Rattle.mdf_disk.specs.State.{DiskState}
use Rattle.mdf_layout.specs.History.{source_samples}
use Rattle.mdf_layout.specs.Record.{cost_of, history_cost}
use Rattle.mdf_layout.specs.declared.sample.Sample.{Sample}
use Rattle.acq_run.specs.Ran.{AreOwned, IsOwned}
use Rattle.acq_script.specs.Plan.{IsTaskOf}
use Rattle.acq_script.specs.Stage.{IsScript}
use Rattle.acq_script.specs.Tasks.{samples_of}
use Rattle.acq_script.specs.declared.script.Plan.{Plan}
use Rattle.acq_script.specs.declared.script.Script.{Script}
use Rattle.acq_script.specs.declared.script.Task.{Task}
use Rattle.acq_script.specs.declared.script.Task.TheVariants as task
use Rattle.book_rotate.specs.Part.{IsPart, is_done, lists_cost}
use Rattle.mdf_command.specs.declared.fault.Fault.TheVariants as fault
use Rattle.mdf_record.specs.Finish.{FileFaultComes}
use Rattle.mdf_record.specs.Head.{script_head}
use Rattle.mdf_record.specs.Record.{CloseComes, IsFull, IsNext, IsRecorded, LackedRoom, OfSources, Outcome, SourceComes}
use Rattle.mdf_record.specs.Recorded.{RecordComes}
use Rattle.mdf_record.specs.declared.record.RecordEnd.{RecordEnd}
use Rattle.mdf_record.specs.declared.record.RecordEnd.TheVariants.{Refused, Closed}
use Rattle.mdf_record.specs.declared.sources.End.TheVariants as end_
use Rattle.mdf_rotate.specs.Course.{Course, course_behind, end_of}
use Rattle.mdf_rotate.specs.Part.{PartComes, PartsCome}
use Rattle.mdf_rotate.specs.Words.{part_name}
use Rattle.mdf_rotate.specs.declared.course.RotateEnd.TheVariants.{Whole, Faulted}
use Rattle.mdf_rotate.proofs.Costs.{beginning_cost, least_cost}

-- an item that is there stands within the list
within_of : {X : Type 0} (xs : List X) (i : ℕ) (x : X) → slice_get xs i ≡ Some x → i < length xs
within_of [] i x there = let no : ⊥ = cc in absurd no
within_of (y ∷ xs) zero x there = omega arith
within_of (y ∷ xs) (suc i) x there = omega (arith, within_of xs i x there)

get_within : {X : Type 0} (xs : List X) (i : ℕ) → i < length xs → (x : X) × (slice_get xs i ≡ Some x)
get_within [] i within = absurd (omega (arith, within))
get_within (x ∷ xs) zero within = (x, refl)
get_within (x ∷ xs) (suc i) within = get_within xs i (omega (arith, within))

-- behind a beginning comes the first item that it has not
at_seam : (xs : List Sample) (y : Sample) (ys : List Sample) → slice_get (xs ++ y ∷ ys) (length xs) ≡ Some y
at_seam [] y ys = refl
at_seam (x ∷ xs) y ys = at_seam xs y ys

at_end : (xs : List Sample) → slice_get (xs ++ []) (length xs) ≡ None
at_end [] = refl
at_end (x ∷ xs) = at_end xs

begins_further : (xs ys : List Sample) (y : Sample) → IsPrefix xs ys → slice_get ys (length xs) ≡ Some y → IsPrefix (xs ++ y ∷ []) ys
begins_further xs ys y begins there = further begins.0 begins.1 where
  further : (rest : List Sample) → xs ++ rest ≡ ys → IsPrefix (xs ++ y ∷ []) ys
  further [] is =
      let same : None ≡ Some y = sym (at_end xs) ∙ ap (λ l. slice_get l (length xs)) is ∙ there in
      let no : ⊥ = cc in
      absurd no
  further (r ∷ rest) is =
      let both : Some r ≡ Some y = sym (at_seam xs r rest) ∙ ap (λ l. slice_get l (length xs)) is ∙ there in
      let same : r ≡ y = cc in
      (rest, append_assoc xs (y ∷ []) rest ∙ ap (λ z. xs ++ z ∷ rest) (sym same) ∙ is)

-- a sample of a source's tasks is of a group that the source owns
owner_of : (plan : Plan) (source : ℕ) (tasks : List Task) → All (IsTaskOf plan source) tasks → (n : ℕ) (sample : Sample) → slice_get (samples_of tasks) n ≡ Some sample
    → slice_index plan.owners sample.group ≡ source
owner_of plan source [] own n sample there = let no : ⊥ = cc in absurd no
owner_of plan source (task.Sample first ∷ tasks) own zero sample there =
    let same : first ≡ sample = cc in
    subst (λ s. slice_index plan.owners s.group ≡ source) same (All-head (IsTaskOf plan source) (task.Sample first) tasks own)
owner_of plan source (task.Sample first ∷ tasks) own (suc n) sample there =
    owner_of plan source tasks (All-tail (IsTaskOf plan source) (task.Sample first) tasks own) n sample there
owner_of plan source (task.Flush ∷ tasks) own n sample there = owner_of plan source tasks (All-tail (IsTaskOf plan source) task.Flush tasks own) n sample there

-- one more sample of a source
module _ (owners : List ℕ) (history : List Sample) (sample : Sample) (source : ℕ) (owner : slice_index owners sample.group ≡ source) where
  apart : (k : ℕ) → source_samples owners (history ++ sample ∷ []) k ≡ source_samples owners history k ++ cond (slice_index owners sample.group == k) (sample ∷ []) []
  apart k = filter-append (λ s. slice_index owners s.group == k) history (sample ∷ [])

  more_of : source_samples owners (history ++ sample ∷ []) source ≡ source_samples owners history source ++ sample ∷ []
  more_of =
      apart source
      ∙ ap (λ l. source_samples owners history source ++ l) (cond-true (slice_index owners sample.group == source) (sample ∷ []) [] (eq-eqb (slice_index owners sample.group) source owner))

  same_of : (k : ℕ) → k ≢ source → source_samples owners (history ++ sample ∷ []) k ≡ source_samples owners history k
  same_of k other =
      apart k
      ∙ ap (λ l. source_samples owners history k ++ l)
      (cond-false (slice_index owners sample.group == k) (sample ∷ []) [] (ne_eqb (slice_index owners sample.group) k (λ same. other (sym same ∙ owner))))
      ∙ append-nil (source_samples owners history k)

module _ (part : Script) (is_script : IsScript part) (left : Outcome) (owned : AreOwned part.plan.owners (length part.plan.shapes) part.plan.sources left.history)
    (begins : OfSources part (λ source tasks. IsPrefix (source_samples part.plan.owners left.history source) (samples_of tasks))) where
  -- with its next sample too a source has a beginning
  module _ (source : ℕ) (tasks : List Task) (there : slice_get part.lists source ≡ Some tasks) (sample : Sample) (next : IsNext part left source tasks sample) where
    owner : slice_index part.plan.owners sample.group ≡ source
    owner =
        owner_of part.plan source tasks
        (subst (All (IsTaskOf part.plan source)) (get_or_from_slice_get part.lists source tasks [] there) (is_script.own source [] (within_of part.lists source tasks there)))
        (length (source_samples part.plan.owners left.history source)) sample next

    begin_more : OfSources part (λ k list. IsPrefix (source_samples part.plan.owners (left.history ++ sample ∷ []) k) (samples_of list))
    begin_more k list at =
        ⊎_elim
        (λ same.
        let both : Some tasks ≡ Some list = sym there ∙ ap (slice_get part.lists) (sym same) ∙ at in
        let lists : tasks ≡ list = cc in
        subst (λ l. IsPrefix (source_samples part.plan.owners (left.history ++ sample ∷ []) k) (samples_of l)) lists
        (subst (λ n. IsPrefix (source_samples part.plan.owners (left.history ++ sample ∷ []) n) (samples_of tasks)) (sym same)
        (subst (λ l. IsPrefix l (samples_of tasks)) (sym (more_of part.plan.owners left.history sample source owner))
        (begins_further (source_samples part.plan.owners left.history source) (samples_of tasks) sample (begins source tasks there) next))))
        (λ other. subst (λ l. IsPrefix l (samples_of list)) (sym (same_of part.plan.owners left.history sample source owner k other)) (begins k list at))
        (cases_eq k source)

    costs_more : history_cost part.plan.shapes left.history + cost_of part.plan.shapes sample ≤ lists_cost part.plan.shapes part.lists
    costs_more =
        omega (
          arith,
          least_cost part.plan.shapes part.plan.owners (left.history ++ sample ∷ []) part.lists begin_more
              (All-push (λ s. slice_index part.plan.owners s.group < length part.lists) left.history sample
              (All-weaker (IsOwned part.plan.owners (length part.plan.shapes) part.plan.sources) (λ s. slice_index part.plan.owners s.group < length part.lists)
              (λ s of. omega (arith, of.owner, is_script.lists)) left.history owned)
              (omega (arith, owner, within_of part.lists source tasks there))),
          sum_by-append (cost_of part.plan.shapes) left.history (sample ∷ []),
          sum_by-cons (cost_of part.plan.shapes) sample [],
        )

  -- so it had room
  had_room : lists_cost part.plan.shapes part.lists ≤ part.plan.session → (source : ℕ) (tasks : List Task) → slice_get part.lists source ≡ Some tasks
      → (seen : List Sample) (held size limit : ℕ) → ¬ LackedRoom part left source tasks seen held size limit
  had_room within source tasks there seen held size limit lacked =
      omega (
        arith,
        within,
        lacked.over,
        lacked.held_is,
        lacked.size_is,
        lacked.limit_is,
        beginning_cost part.plan.shapes seen left.history lacked.at.saw.begins,
        costs_more source tasks there lacked.at.sample lacked.at.next,
      )

  never_full : lists_cost part.plan.shapes part.lists ≤ part.plan.session → (seen : List (List Sample)) (held size limit : ℕ) → ¬ IsFull part left seen held size limit
  never_full within seen held size limit full =
      let place : full.source < length part.lists = omega (arith, within_of full.ends full.source (Err (end_.SessionFull held size limit)) full.told, full.are.count) in
      let tasks = get_within part.lists full.source place in
      had_room within full.source tasks.0 tasks.1 (slice_index_or seen full.source []) held size limit
      (subst (λ found. IfSome found (SourceComes part left full.source tasks.0 (slice_index_or seen full.source []))) full.told (full.are.each full.source tasks.0 tasks.1))

-- behind a part the rotation did not end for want of room in a session
abbrev pub IsNotFull : Course → Type 0
IsNotFull course = (held size limit : ℕ) → course ≢ Err (Faulted (fault.SessionFull held size limit))

going_on : (rest : Script) (done : Bool) → IsNotFull (if done then Err Whole else Ok rest)
going_on rest true held size limit is = cc
going_on rest false held size limit is = cc

refused_room : (name head : List ℕ) (disk left : DiskState) (held size limit : ℕ) → ¬ FileFaultComes head disk left (fault.SessionFull held size limit)
refused_room name head disk left held size limit comes = comes

module _ (script part rest : Script) (is : IsPart script part rest) (is_script : IsScript part) (name : List ℕ) (now : ℕ) (disk : DiskState) (left : Outcome) where
  room : lists_cost part.plan.shapes part.lists ≤ part.plan.session
  room = subst (λ plan. lists_cost plan.shapes part.lists ≤ plan.session) (sym is.plan_is) is.within

  behind_part : (end : RecordEnd) → RecordComes (λ said. said ≡ part) (λ problem. ⊥) name now disk left end → IsNotFull (course_behind end rest)
  behind_part (Refused problem) comes held size limit is =
      let same : problem ≡ fault.SessionFull held size limit = cc in
      ⊎_elim (λ unread. unread.comes) (λ not. subst (FileFaultComes (script_head now not.script) disk left.disk) same not.comes) comes.comes
  behind_part (Closed accepted samples last live (Some problem) seen) comes held size limit is =
      let same : problem ≡ fault.SessionFull held size limit = cc in
      let recorded = subst (λ said. IsRecorded said (script_head now said) disk.moment left) comes.says comes.recorded in
      let full = subst (λ said. CloseComes said disk.faults left seen (Some problem)) comes.says comes.comes in
      never_full part is_script left recorded.owned recorded.own_prefix room seen held size limit
      (subst (λ p. CloseComes part disk.faults left seen (Some p)) same full)
  behind_part (Closed accepted samples last live None seen) comes held size limit is = going_on rest (is_done rest.lists) held size limit is

not_full_behind : (output : List ℕ) (now number : ℕ) (disk : DiskState) (left : Outcome) (course next : Course) → PartComes output now number disk left course next
    → IsNotFull course → IsNotFull next
not_full_behind output now number disk left (Err end) next comes before = subst IsNotFull (sym comes.1) before
not_full_behind output now number disk left (Ok script) next (inl none) before = λ held size limit is.
    let no : Err (Faulted fault.Memory) ≡ Err (Faulted (fault.SessionFull held size limit)) = sym none.1 ∙ is in cc
not_full_behind output now number disk left (Ok script) next (inr one) before =
    subst IsNotFull (sym one.next_is) (behind_part script one.part one.rest one.is_part one.is_script (part_name output number) now disk left one.end one.comes)

-- so behind the last
pub not_full_last : (output : List ℕ) (now number : ℕ) (disks : List DiskState) (lefts : List Outcome) (course last : Course) → PartsCome output now number disks lefts course last
    → IsNotFull course → IsNotFull last
not_full_last output now number [] [] course last come before = subst IsNotFull (sym come) before
not_full_last output now number [] (left ∷ lefts) course last come before = absurd come
not_full_last output now number (disk ∷ disks) [] course last come before = absurd come
not_full_last output now number (disk ∷ disks) (left ∷ lefts) course last come before =
    not_full_last output now (suc number) disks lefts come.0 last come.2 (not_full_behind output now number disk left course come.0 come.1 before)

pub ends_not_full : (course : Course) → IsNotFull course → (held size limit : ℕ) → end_of course ≢ Faulted (fault.SessionFull held size limit)
ends_not_full (Ok rest) before held size limit is = cc
ends_not_full (Err end) before held size limit is = before held size limit (ap Err is)
