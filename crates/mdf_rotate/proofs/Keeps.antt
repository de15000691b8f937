-- What a rotation keeps, whatever happens.
use Rattle.std.proofs.Common.{◌≡◌, ◌+◌, ◌<◌, ◌≤◌, ℕ, suc, List, [], ◌∷◌, ◌++◌, length, All, Bool, true, false, Some, None, Ok, Err, refl, sym, ◌∙◌, ap, subst, inl, inr, arith, append-nil, append_assoc, length-append}
use Rattle.std.specs.Prelude.{◌≢◌, ◌⊎◌, ◌==◌, if◌then◌else◌, slice_get, slice_index}
use Rattle.std.specs.List.{AllZip, Contains}
use Rattle.std.proofs.lemmas.List.Elements.{All-cons, All-head, All-nil, All-tail, All-weaker, Contains-append_right, filter-append}
use mathlib.Core.List.{IsPrefix}
use Rattle.mdf_disk.specs.Crash.{HoldsSince}
use Rattle.mdf_disk.specs.State.{DiskState}
use Rattle.mdf_gate.specs.Images.{IsBegun}
use Rattle.mdf_gate.proofs.Carrying.{carries_begun, prefix_append, prefix_trans}
use Rattle.mdf_layout.specs.History.{source_samples}
use Rattle.mdf_layout.specs.Record.{cost_of, history_cost}
use Rattle.mdf_layout.specs.declared.sample.Sample.{Sample}
use Rattle.mdf_spell.specs.Recording.{head_file}
use Rattle.book_owned.specs.Kept.{MarkHolds, MarksHold, StartHolds}
use Rattle.book_owned.specs.Marks.{last_mark}
use Rattle.book_owned.proofs.Lasts.{last_holds}
use Rattle.acq_script.specs.Tasks.{samples_of}
use Rattle.acq_script.specs.declared.script.Script.{Script}
use Rattle.acq_script.specs.declared.script.Task.{Task}
use Rattle.book_rotate.specs.Part.{HasNoRoom, IsPart, is_done, lists_cost, part_plan}
use Rattle.book_rotate.proofs.Costs.{samples_of-append}
use Rattle.mdf_carried.specs.Recovers.{Recovers}
use Rattle.mdf_carried.specs.Samples.{IsRecovered}
use Rattle.mdf_command.specs.declared.fault.Fault.{Fault}
use Rattle.mdf_command.specs.declared.fault.Fault.TheVariants as fault
use Rattle.mdf_record.specs.Head.{script_head}
use Rattle.mdf_record.specs.Record.{IsComplete, IsRecorded, IsSaved, OfSources, Outcome}
use Rattle.mdf_record.specs.Recorded.{IsNotBegun, IsUnread, RecordComes}
use Rattle.mdf_record.specs.Recovers.{AreRecovered, MarkRecovers}
use Rattle.mdf_record.specs.declared.record.RecordEnd.{RecordEnd}
use Rattle.mdf_record.specs.declared.record.RecordEnd.TheVariants.{Refused, Closed}
use Rattle.mdf_rotate.specs.Course.{Course, course_behind, end_of, goes_on}
use Rattle.mdf_rotate.specs.Part.{PartComes, PartsCome}
use Rattle.mdf_rotate.specs.Rotate.{AreUnused}
use Rattle.mdf_rotate.specs.Whole.{AreFull, IsAll, IsBeginning, IsFullPart, IsRecoveredWhole, KeepEach, KeepsPart, KeepsWhole, whole_history}
use Rattle.mdf_rotate.specs.Words.{part_name}
use Rattle.mdf_rotate.specs.declared.course.RotateEnd.{RotateEnd}
use Rattle.mdf_rotate.specs.declared.course.RotateEnd.TheVariants.{Whole, Over, Faulted}
use Rattle.mdf_rotate.proofs.Costs.{all_cost}
use Rattle.mdf_rotate.proofs.Cuts.{cut_of, left_of, next_of, none_left}

-- what is recovered of each disk
abbrev pub RecoverEach : List DiskState → List Outcome → Type 0
RecoverEach disks lefts = AllZip (λ disk left. AreRecovered disk.moment left) disks lefts

-- where the rotation has ended, nothing is recorded on the disks that follow
pub ended : (output : List ℕ) (now number : ℕ) (disks : List DiskState) (lefts : List Outcome) (end : RotateEnd) (last : Course)
    → PartsCome output now number disks lefts (Err end) last → AreUnused disks lefts × (last ≡ Err end)
ended output now number [] [] end last come = (tt, come)
ended output now number [] (left ∷ lefts) end last come = absurd come
ended output now number (disk ∷ disks) [] end last come = absurd come
ended output now number (disk ∷ disks) (left ∷ lefts) end last come =
    let later = ended output now (suc number) disks lefts end last (subst (λ c. PartsCome output now (suc number) disks lefts c last) come.1.1 come.2) in
    ((come.1.0, later.0), later.1)

none_recorded : (disks : List DiskState) (lefts : List Outcome) → AreUnused disks lefts → whole_history lefts ≡ []
none_recorded [] [] unused = refl
none_recorded [] (left ∷ lefts) unused = absurd unused
none_recorded (disk ∷ disks) [] unused = absurd unused
none_recorded (disk ∷ disks) (left ∷ lefts) unused = ap (λ h. h ++ whole_history lefts) unused.0.history ∙ none_recorded disks lefts unused.1

no_marks : (disks : List DiskState) (lefts : List Outcome) → AreUnused disks lefts → All (λ left. left.marks ≡ []) lefts
no_marks [] [] unused = All-nil (λ left. left.marks ≡ [])
no_marks [] (left ∷ lefts) unused = absurd unused
no_marks (disk ∷ disks) [] unused = absurd unused
no_marks (disk ∷ disks) (left ∷ lefts) unused = All-cons (λ l. l.marks ≡ []) left lefts unused.0.marks (no_marks disks lefts unused.1)

-- a part that was not begun keeps nothing but that
keeps_none : (script : Script) (now : ℕ) (disk : DiskState) (left : Outcome) → left.marks ≡ [] → HoldsSince left.disk.story disk.moment (IsBegun (script_head now script))
    → AreRecovered disk.moment left → KeepsPart script now disk left
keeps_none script now disk left marks begun recovered = record {
  marks_hold = subst (λ ms. MarksHold script.plan.shapes (script_head now script) left.disk.story left.disk.moment left.history ms) (sym marks)
      (All-nil (MarkHolds script.plan.shapes (script_head now script) left.disk.story left.disk.moment left.history));
  start_holds = λ file may. carries_begun script.plan.shapes (script_head now script) left.history file (begun file may);
  marks_rise = inl marks;
  recovered = recovered;
}

keep_unused : (script : Script) (now : ℕ) (disks : List DiskState) (lefts : List Outcome) → AreUnused disks lefts → RecoverEach disks lefts → KeepEach script now disks lefts
keep_unused script now [] [] unused recovered = tt
keep_unused script now [] (left ∷ lefts) unused recovered = absurd unused
keep_unused script now (disk ∷ disks) [] unused recovered = absurd unused
keep_unused script now (disk ∷ disks) (left ∷ lefts) unused recovered =
    (keeps_none script now disk left unused.0.marks (unused.0.begun (script_head now script)) recovered.0, keep_unused script now disks lefts unused.1 recovered.1)

-- a part that was begun keeps what its recording does
keeps_recorded : (script part rest : Script) (now : ℕ) (disk : DiskState) (left : Outcome) → IsPart script part rest
    → IsRecorded part (script_head now part) disk.moment left → AreRecovered disk.moment left → KeepsPart script now disk left
keeps_recorded script part rest now disk left is recorded recovered = record {
  marks_hold = subst (λ plan. MarksHold plan.shapes (head_file plan.form now plan.rows) left.disk.story left.disk.moment left.history left.marks) is.plan_is recorded.marks_hold;
  start_holds = subst (λ plan. StartHolds plan.shapes (head_file plan.form now plan.rows) left.disk.story disk.moment left.history) is.plan_is recorded.start_holds;
  marks_rise = inr recorded.marks_rise;
  recovered = recovered;
}

-- what is kept of a script's plan is kept of an equal one
keeps_same : (one other : Script) (now : ℕ) (disk : DiskState) (left : Outcome) → one.plan ≡ other.plan → KeepsPart one now disk left → KeepsPart other now disk left
keeps_same one other now disk left same keeps = record {
  marks_hold = subst (λ plan. MarksHold plan.shapes (head_file plan.form now plan.rows) left.disk.story left.disk.moment left.history left.marks) same keeps.marks_hold;
  start_holds = subst (λ plan. StartHolds plan.shapes (head_file plan.form now plan.rows) left.disk.story disk.moment left.history) same keeps.start_holds;
  marks_rise = keeps.marks_rise;
  recovered = keeps.recovered;
}

keep_same : (one other : Script) (now : ℕ) (disks : List DiskState) (lefts : List Outcome) → one.plan ≡ other.plan → KeepEach one now disks lefts → KeepEach other now disks lefts
keep_same one other now [] [] same keep = tt
keep_same one other now [] (left ∷ lefts) same keep = absurd keep
keep_same one other now (disk ∷ disks) [] same keep = absurd keep
keep_same one other now (disk ∷ disks) (left ∷ lefts) same keep = (keeps_same one other now disk left same keep.0, keep_same one other now disks lefts same keep.1)

-- of a part that is all durable just its history is recovered
nothing_behind : (xs ys : List Sample) → length (xs ++ ys) ≤ length xs → xs ≡ xs ++ ys
nothing_behind xs [] short = sym (append-nil xs)
nothing_behind xs (y ∷ ys) short = absurd (omega (arith, short, length-append xs (y ∷ ys)))

recovers_whole : (history : List Sample) (through : ℕ) (file : List ℕ) → through ≡ length history → Recovers history through file → IsRecovered file history
recovers_whole history through file all recovers =
    let behind = recovers.beginning in
    let same : recovers.samples ≡ history =
    nothing_behind recovers.samples behind.0 (omega (arith, all, recovers.enough, ap length behind.1)) ∙ behind.1 in
    subst (IsRecovered file) same recovers.recovered

recovered_whole : (start : ℕ) (left : Outcome) → AreRecovered start left → IsRecoveredWhole left
recovered_whole start left recovered = λ some all file may.
    let last = last_holds (MarkRecovers left.disk.story left.disk.moment left.history) left.marks some recovered.marks_recover in
    recovers_whole left.history (last_mark left.marks).through file all (last.recovers file may)

recovered_each : (disks : List DiskState) (lefts : List Outcome) → RecoverEach disks lefts → All IsRecoveredWhole lefts
recovered_each [] [] each = All-nil IsRecoveredWhole
recovered_each [] (left ∷ lefts) each = absurd each
recovered_each (disk ∷ disks) [] each = absurd each
recovered_each (disk ∷ disks) (left ∷ lefts) each = All-cons IsRecoveredWhole left lefts (recovered_whole disk.moment left each.0) (recovered_each disks lefts each.1)

-- what stands behind another in a list
later_of : {X : Type 0} (P : X → Type 0) (xs ys : List X) → All P (xs ++ ys) → All P ys
later_of P [] ys all = all
later_of P (x ∷ xs) ys all = later_of P xs ys (All-tail P x (xs ++ ys) all)

tails : {X : Type 0} (x y : X) (xs ys : List X) → x ∷ xs ≡ y ∷ ys → xs ≡ ys
tails x y xs ys same = cc

heads : {X : Type 0} (x y : X) (xs ys : List X) → x ∷ xs ≡ y ∷ ys → x ≡ y
heads x y xs ys same = cc

behind_first : (P : Outcome → Type 0) (first : Outcome) (xs : List Outcome) → All P xs → (before : List Outcome) (left next : Outcome) (later : List Outcome)
    → first ∷ xs ≡ before ++ left ∷ next ∷ later → P next
behind_first P first xs all [] left next later same = All-head P next later (subst (All P) (tails first left xs (next ∷ later) same) all)
behind_first P first xs all (b ∷ before) left next later same =
    All-head P next later (All-tail P left (next ∷ later) (later_of P before (left ∷ next ∷ later)
    (subst (All P) (tails first b xs (before ++ left ∷ next ∷ later) same) all)))

no_two : (before : List Outcome) (left next : Outcome) (later : List Outcome) → [] ≡ before ++ left ∷ next ∷ later → ⊥
no_two [] left next later same = cc
no_two (b ∷ before) left next later same = cc

-- before the first disk
none_yet : (script : Script) (now : ℕ) → KeepsWhole script now [] [] Over
none_yet script now = record {
  beginning = λ source tasks there. (samples_of tasks, refl);
  all = λ whole. let no : ⊥ = cc in absurd no;
  each = tt;
  full = λ before left next later same marks. absurd (no_two before left next later same);
  over = λ is. All-nil (IsFullPart script);
  recovered = All-nil IsRecoveredWhole;
}

-- behind a part with which the rotation ended
keeps_ended : (script : Script) (now : ℕ) (disk : DiskState) (disks : List DiskState) (left : Outcome) (lefts : List Outcome) (end : RotateEnd)
    → OfSources script (λ source tasks. IsPrefix (source_samples script.plan.owners left.history source) (samples_of tasks))
    → (end ≡ Whole → OfSources script (λ source tasks. source_samples script.plan.owners left.history source ≡ samples_of tasks))
    → end ≢ Over → KeepsPart script now disk left → AreUnused disks lefts → RecoverEach (disk ∷ disks) (left ∷ lefts)
    → KeepsWhole script now (disk ∷ disks) (left ∷ lefts) end
keeps_ended script now disk disks left lefts end begins all not_over keeps unused recovered =
    let whole : left.history ≡ whole_history (left ∷ lefts) =
    sym (append-nil left.history) ∙ ap (λ h. left.history ++ h) (sym (none_recorded disks lefts unused)) in
    record {
      beginning = λ source tasks there. subst (λ h. IsPrefix (source_samples script.plan.owners h source) (samples_of tasks)) whole (begins source tasks there);
      all = λ is source tasks there. subst (λ h. source_samples script.plan.owners h source ≡ samples_of tasks) whole (all is source tasks there);
      each = (keeps, keep_unused script now disks lefts unused recovered.1);
      full = λ before l next later same marks. absurd (marks (behind_first (λ o. o.marks ≡ []) left lefts (no_marks disks lefts unused) before l next later same));
      over = λ is. absurd (not_over is);
      recovered = recovered_each (disk ∷ disks) (left ∷ lefts) recovered;
    }

-- a part that is the script's but for what is left of it
full_lifted : (script part rest : Script) (left : Outcome) → IsPart script part rest → IsFullPart rest left → IsFullPart script left
full_lifted script part rest left is full =
    let there = left_of script part rest is full.source full.tasks full.there in
    record {
      saved = subst (λ plan. IsSaved plan left) is.same_plan full.saved;
      source = full.source;
      tasks = there.part ++ full.tasks;
      there = there.there;
      large = full.large;
      among = subst (λ samples. Contains samples full.large) (sym (samples_of-append there.part full.tasks))
          (Contains-append_right (samples_of there.part) (samples_of full.tasks) full.large full.among);
      full = subst (λ plan. plan.session < history_cost plan.shapes left.history + cost_of plan.shapes full.large) is.same_plan full.full;
    }

-- of a source the samples of two histories
own_append : (owners : List ℕ) (one other : List Sample) (source : ℕ) → source_samples owners (one ++ other) source ≡ source_samples owners one source ++ source_samples owners other source
own_append owners one other source = filter-append (λ sample. slice_index owners sample.group == source) one other

-- with its next part, which was recorded whole, the samples of a source begin with all that the part has
begins_behind : (xs parts ys rests : List Sample) → xs ≡ parts → IsPrefix ys rests → IsPrefix (xs ++ ys) (parts ++ rests)
begins_behind xs parts ys rests same begins =
    (begins.0, append_assoc xs ys begins.0 ∙ ap (λ z. xs ++ z) begins.1 ∙ ap (λ z. z ++ rests) same)

module _ (script part rest : Script) (is : IsPart script part rest) where
  own_part : (left : Outcome) → IsComplete part left → (source : ℕ) (tasks : List Task) → slice_get part.lists source ≡ Some tasks
      → source_samples script.plan.owners left.history source ≡ samples_of tasks
  own_part left complete source tasks there =
      subst (λ plan. source_samples plan.owners left.history source ≡ samples_of tasks) is.plan_is (complete.whole source tasks there).history_is

  -- the part is full where something is left
  first_full : (left : Outcome) → IsComplete part left → is_done rest.lists ≡ false → IsFullPart script left
  first_full left complete unfinished =
      let next = next_of (HasNoRoom script.plan (lists_cost script.plan.shapes part.lists)) rest.lists unfinished is.full in
      let there = left_of script part rest is next.source next.tasks next.there in
      let saved : IsSaved (part_plan script.plan) left = subst (λ plan. IsSaved plan left) is.plan_is complete.saved in
      record {
        saved = record { all_durable = saved.all_durable; holds = saved.holds; blocks = saved.blocks };
        source = next.source;
        tasks = there.part ++ next.tasks;
        there = there.there;
        large = next.sample;
        among = subst (λ samples. Contains samples next.sample) (sym (samples_of-append there.part next.tasks))
            (Contains-append_right (samples_of there.part) (samples_of next.tasks) next.sample next.among);
        full = omega (arith, next.holds, all_cost script.plan.shapes script.plan.owners left.history part.lists (own_part left complete));
      }

  -- and goes on with what is left
  begins_on : (left : Outcome) (lefts : List Outcome) → IsComplete part left → IsBeginning rest lefts → IsBeginning script (left ∷ lefts)
  begins_on left lefts complete later = λ source tasks there.
      let cut = cut_of script part rest is source tasks there in
      let owners = script.plan.owners in
      let more = subst (λ plan. IsPrefix (source_samples plan.owners (whole_history lefts) source) (samples_of cut.rest)) is.same_plan (later source cut.rest cut.rest_at) in
      let both = begins_behind (source_samples owners left.history source) (samples_of cut.part) (source_samples owners (whole_history lefts) source) (samples_of cut.rest)
      (own_part left complete source cut.part cut.part_at) more in
      subst (λ samples. IsPrefix samples (samples_of tasks)) (sym (own_append owners left.history (whole_history lefts) source))
      (subst (λ samples. IsPrefix (source_samples owners left.history source ++ source_samples owners (whole_history lefts) source) samples)
      (sym (ap samples_of cut.tasks_are ∙ samples_of-append cut.part cut.rest)) both)

  all_on : (left : Outcome) (lefts : List Outcome) → IsComplete part left → IsAll rest lefts → IsAll script (left ∷ lefts)
  all_on left lefts complete later = λ source tasks there.
      let cut = cut_of script part rest is source tasks there in
      let owners = script.plan.owners in
      let more = subst (λ plan. source_samples plan.owners (whole_history lefts) source ≡ samples_of cut.rest) is.same_plan (later source cut.rest cut.rest_at) in
      own_append owners left.history (whole_history lefts) source
      ∙ ap (λ xs. xs ++ source_samples owners (whole_history lefts) source) (own_part left complete source cut.part cut.part_at)
      ∙ ap (λ ys. samples_of cut.part ++ ys) more ∙ sym (ap samples_of cut.tasks_are ∙ samples_of-append cut.part cut.rest)

  full_on : (left : Outcome) (lefts : List Outcome) → IsFullPart script left → AreFull rest lefts → (before : List Outcome) (l next : Outcome) (more : List Outcome)
      → left ∷ lefts ≡ before ++ l ∷ next ∷ more → next.marks ≢ [] → IsFullPart script l
  full_on left lefts first later [] l next more same marks = subst (IsFullPart script) (heads left l lefts (next ∷ more) same) first
  full_on left lefts first later (b ∷ before) l next more same marks =
      full_lifted script part rest l is (later before l next more (tails left b lefts (before ++ l ∷ next ∷ more) same) marks)

  keeps_on : (now : ℕ) (disk : DiskState) (disks : List DiskState) (left : Outcome) (lefts : List Outcome) (end : RotateEnd) → IsComplete part left → is_done rest.lists ≡ false
      → KeepsPart script now disk left → KeepsWhole rest now disks lefts end → RecoverEach (disk ∷ disks) (left ∷ lefts) → KeepsWhole script now (disk ∷ disks) (left ∷ lefts) end
  keeps_on now disk disks left lefts end complete unfinished keeps later recovered =
      let first = first_full left complete unfinished in
      record {
        beginning = begins_on left lefts complete later.beginning;
        all = λ whole. all_on left lefts complete (later.all whole);
        each = (keeps, keep_same rest script now disks lefts is.same_plan later.each);
        full = full_on left lefts first later.full;
        over = λ over. All-cons (IsFullPart script) left lefts first
            (All-weaker (IsFullPart rest) (IsFullPart script) (λ l full. full_lifted script part rest l is full) lefts (later.over over));
        recovered = recovered_each (disk ∷ disks) (left ∷ lefts) recovered;
      }

  -- where nothing is left, the part was all
  all_done : (left : Outcome) → IsComplete part left → is_done rest.lists ≡ true → OfSources script (λ source tasks. source_samples script.plan.owners left.history source ≡ samples_of tasks)
  all_done left complete done = λ source tasks there.
      let cut = cut_of script part rest is source tasks there in
      own_part left complete source cut.part cut.part_at
      ∙ sym (ap samples_of (cut.tasks_are ∙ ap (λ r. cut.part ++ r) (none_left rest.lists done source cut.rest cut.rest_at) ∙ append-nil cut.part))

  begins_part : (left : Outcome) → OfSources part (λ source tasks. IsPrefix (source_samples part.plan.owners left.history source) (samples_of tasks))
      → OfSources script (λ source tasks. IsPrefix (source_samples script.plan.owners left.history source) (samples_of tasks))
  begins_part left begins = λ source tasks there.
      let cut = cut_of script part rest is source tasks there in
      let one = subst (λ plan. IsPrefix (source_samples plan.owners left.history source) (samples_of cut.part)) is.plan_is (begins source cut.part cut.part_at) in
      subst (λ samples. IsPrefix (source_samples script.plan.owners left.history source) samples) (sym (ap samples_of cut.tasks_are ∙ samples_of-append cut.part cut.rest))
      (prefix_trans (source_samples script.plan.owners left.history source) (samples_of cut.part) (samples_of cut.part ++ samples_of cut.rest) one
      (prefix_append (samples_of cut.part) (samples_of cut.rest)))

-- how a rotation goes on behind a part that was recorded whole, by whether nothing is left
abbrev choice : Script → Bool → Course
choice rest done = if done then Err Whole else Ok rest

-- what comes next, by what came of the part
abbrev Later : ℕ → List DiskState → List Outcome → Course → Course → Type 0
Later now disks lefts next last = (rest : Script) → next ≡ Ok rest → KeepsWhole rest now disks lefts (end_of last)

abbrev Stops : List DiskState → List Outcome → Course → Course → Type 0
Stops disks lefts next last = (end : RotateEnd) → next ≡ Err end → AreUnused disks lefts × (last ≡ Err end)

-- the disk of a part that was not begun
begun_of : (script part rest : Script) (now : ℕ) (disk left : DiskState) (name : List ℕ) (problem : Fault) → IsPart script part rest
    → IsUnread (λ fault. ⊥) disk left problem ⊎ IsNotBegun (λ said. said ≡ part) name now disk left problem
    → HoldsSince left.story disk.moment (IsBegun (script_head now script))
begun_of script part rest now disk left name problem is (inl unread) = unread.begun (script_head now script)
begun_of script part rest now disk left name problem is (inr not) =
    subst (λ plan. HoldsSince left.story disk.moment (IsBegun (head_file plan.form now plan.rows))) is.plan_is
    (subst (λ said. HoldsSince left.story disk.moment (IsBegun (script_head now said))) not.says not.begun)

module _ (now : ℕ) (script : Script) (disk : DiskState) (disks : List DiskState) (left : Outcome) (lefts : List Outcome) (next last : Course)
    (later : Later now disks lefts next last) (stops : Stops disks lefts next last) (recovered : RecoverEach (disk ∷ disks) (left ∷ lefts)) where
  -- nothing was recorded
  keeps_stopped : (problem : Fault) → left.history ≡ [] → left.marks ≡ [] → HoldsSince left.disk.story disk.moment (IsBegun (script_head now script))
      → next ≡ Err (Faulted problem) → KeepsWhole script now (disk ∷ disks) (left ∷ lefts) (end_of last)
  keeps_stopped problem history marks begun next_is =
      let stopped = stops (Faulted problem) next_is in
      subst (λ course. KeepsWhole script now (disk ∷ disks) (left ∷ lefts) (end_of course)) (sym stopped.1)
      (keeps_ended script now disk disks left lefts (Faulted problem)
      (λ source tasks there. subst (λ h. IsPrefix (source_samples script.plan.owners h source) (samples_of tasks)) (sym history) (samples_of tasks, refl))
      (λ whole. let no : ⊥ = cc in absurd no) (λ over. let no : ⊥ = cc in no)
      (keeps_none script now disk left marks begun recovered.0) stopped.0 recovered)

  module _ (part rest : Script) (is : IsPart script part rest) (recorded : IsRecorded part (script_head now part) disk.moment left) where
    keeps : KeepsPart script now disk left
    keeps = keeps_recorded script part rest now disk left is recorded recovered.0

    -- something went wrong while the part was recorded
    keeps_broken : (problem : Fault) → next ≡ Err (Faulted problem) → KeepsWhole script now (disk ∷ disks) (left ∷ lefts) (end_of last)
    keeps_broken problem next_is =
        let stopped = stops (Faulted problem) next_is in
        subst (λ course. KeepsWhole script now (disk ∷ disks) (left ∷ lefts) (end_of course)) (sym stopped.1)
        (keeps_ended script now disk disks left lefts (Faulted problem) (begins_part script part rest is left recorded.own_prefix)
        (λ whole. let no : ⊥ = cc in absurd no) (λ over. let no : ⊥ = cc in no) keeps stopped.0 recovered)

    -- it was recorded whole
    keeps_whole : (done : Bool) → is_done rest.lists ≡ done → IsComplete part left → next ≡ goes_on rest → KeepsWhole script now (disk ∷ disks) (left ∷ lefts) (end_of last)
    keeps_whole true done complete next_is =
        let stopped = stops Whole (next_is ∙ ap (choice rest) done) in
        let all = all_done script part rest is left complete done in
        subst (λ course. KeepsWhole script now (disk ∷ disks) (left ∷ lefts) (end_of course)) (sym stopped.1)
        (keeps_ended script now disk disks left lefts Whole
        (λ source tasks there. subst (λ samples. IsPrefix samples (samples_of tasks)) (sym (all source tasks there)) ([], append-nil (samples_of tasks)))
        (λ whole. all) (λ over. let no : ⊥ = cc in no) keeps stopped.0 recovered)
    keeps_whole false unfinished complete next_is =
        keeps_on script part rest is now disk disks left lefts (end_of last) complete unfinished keeps
        (later rest (next_is ∙ ap (choice rest) unfinished)) recovered

  by_end : (name : List ℕ) (part rest : Script) → IsPart script part rest → (end : RecordEnd) → RecordComes (λ said. said ≡ part) (λ problem. ⊥) name now disk left end
      → next ≡ course_behind end rest → KeepsWhole script now (disk ∷ disks) (left ∷ lefts) (end_of last)
  by_end name part rest is (Refused problem) comes next_is =
      keeps_stopped problem comes.history comes.marks (begun_of script part rest now disk left.disk name problem is comes.comes) next_is
  by_end name part rest is (Closed accepted samples last_mark live (Some problem) seen) comes next_is =
      keeps_broken part rest is (subst (λ said. IsRecorded said (script_head now said) disk.moment left) comes.says comes.recorded) problem next_is
  by_end name part rest is (Closed accepted samples last_mark live None seen) comes next_is =
      keeps_whole part rest is (subst (λ said. IsRecorded said (script_head now said) disk.moment left) comes.says comes.recorded)
      (is_done rest.lists) refl (subst (λ said. IsComplete said left) comes.says comes.comes) next_is

  of_part : (output : List ℕ) (number : ℕ) → PartComes output now number disk left (Ok script) next → KeepsWhole script now (disk ∷ disks) (left ∷ lefts) (end_of last)
  of_part output number (inl none) = keeps_stopped fault.Memory none.0.history none.0.marks (none.0.begun (script_head now script)) none.1
  of_part output number (inr one) = by_end (part_name output number) one.part one.rest one.is_part one.end one.comes one.next_is

pub keeps_all : (output : List ℕ) (now number : ℕ) (disks : List DiskState) (lefts : List Outcome) (script : Script) (last : Course)
    → PartsCome output now number disks lefts (Ok script) last → RecoverEach disks lefts → KeepsWhole script now disks lefts (end_of last)
keeps_all output now number [] [] script last come recovered = subst (λ course. KeepsWhole script now [] [] (end_of course)) (sym come) (none_yet script now)
keeps_all output now number [] (left ∷ lefts) script last come recovered = absurd come
keeps_all output now number (disk ∷ disks) [] script last come recovered = absurd come
keeps_all output now number (disk ∷ disks) (left ∷ lefts) script last come recovered =
    of_part now script disk disks left lefts come.0 last
    (λ rest next. keeps_all output now (suc number) disks lefts rest last
    (subst (λ course. PartsCome output now (suc number) disks lefts course last) next come.2) recovered.1)
    (λ end next. ended output now (suc number) disks lefts end last
    (subst (λ course. PartsCome output now (suc number) disks lefts course last) next come.2))
    recovered output number come.1

-- a script that was not begun leaves all disks unused
pub keeps_begun : (script : Script) (now : ℕ) (disks : List DiskState) (lefts : List Outcome) (problem : Fault) → AreUnused disks lefts → RecoverEach disks lefts
    → KeepsWhole script now disks lefts (Faulted problem)
keeps_begun script now [] [] problem unused recovered = record {
  beginning = λ source tasks there. (samples_of tasks, refl);
  all = λ whole. let no : ⊥ = cc in absurd no;
  each = tt;
  full = λ before left next later same marks. absurd (no_two before left next later same);
  over = λ over. let no : ⊥ = cc in absurd no;
  recovered = All-nil IsRecoveredWhole;
}
keeps_begun script now [] (left ∷ lefts) problem unused recovered = absurd unused
keeps_begun script now (disk ∷ disks) [] problem unused recovered = absurd unused
keeps_begun script now (disk ∷ disks) (left ∷ lefts) problem unused recovered =
    keeps_ended script now disk disks left lefts (Faulted problem)
    (λ source tasks there. subst (λ h. IsPrefix (source_samples script.plan.owners h source) (samples_of tasks)) (sym unused.0.history) (samples_of tasks, refl))
    (λ whole. let no : ⊥ = cc in absurd no) (λ over. let no : ⊥ = cc in no)
    (keeps_none script now disk left unused.0.marks (unused.0.begun (script_head now script)) recovered.0) unused.1 recovered
