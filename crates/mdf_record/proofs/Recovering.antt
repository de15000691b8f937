-- What is recovered of what a crash may leave of a recording.
use Rattle.std.proofs.Common.{false, ◌≡◌, ◌≤◌, ◌⊎◌, ◌%◌, inl, inr, ⊎_elim, ℕ, List, [], ◌∷◌, ◌++◌, map, get_or, Option, Some, None, refl, sym, ◌∙◌, ap, subst, arith}
use Rattle.std.proofs.lemmas.Bool.{cond-false}
use Rattle.std.specs.Prelude.{nat_eq, is_some, IfSome}
use Rattle.std.specs.List.{AllByRecursion}
use Rattle.mdf_format.specs.Number.{bytes_at}
use Rattle.mdf_disk.specs.Story.{Story, Agrees, IsFresh, LeftSince}
use Rattle.mdf_disk.specs.Crash.{HoldsSince}
use Rattle.mdf_disk.specs.State.{DiskState, state_of}
use Rattle.book_owned.specs.Members.{DiskOf}
use Rattle.mdf_format.specs.declared.form.Form.{Form}
use Rattle.mdf_group.specs.declared.row.ChannelRow.{ChannelRow}
use Rattle.mdf_group.specs.declared.row.GroupRow.{GroupRow}
use Rattle.mdf_group.specs.Group.{is_variable}
use Rattle.mdf_group.specs.Recordable.{IsRecordableGroup, AreRecordable}
use Rattle.mdf_layout.specs.Layout.{Layout}
use Rattle.mdf_layout.specs.Record.{history_cost}
use Rattle.mdf_layout.specs.declared.sample.Sample.{Sample}
use Rattle.mdf_content.specs.Layouts as contents
use Rattle.mdf_content.specs.Layouts.{field_of}
use Rattle.mdf_spell.specs.Recording.{head_file, IsRecordingTree, FindsHead, FindsGroups}
use Rattle.mdf_gate.specs.Gated.{Gated}
use Rattle.mdf_gate.specs.Images.{IsNotMdf, IsBegun, head_of}
use Rattle.mdf_gate.specs.Carried.{Carries}
use Rattle.mdf_gate.proofs.Carrying.{carries_begun}
use Rattle.mdf_carried.specs.Recovers.{IsReadHead, Recovers}
use Rattle.acq_script.specs.Plan as plans
use Rattle.acq_script.specs.Plan.{IsPlan}
use Rattle.acq_script.specs.declared.script.Script.{Script}
use Rattle.mdf_record.specs.Head.{script_head}
use Rattle.mdf_record.specs.Record.{IsRecorded, Outcome}
use Rattle.mdf_record.specs.Recorded.{HasRun, RunComes}
use Rattle.mdf_record.specs.Recovers.{IsFinalizable, MarksRecover, StartRecovers, AreRecovered}
use Rattle.mdf_record.specs.declared.record.RecordEnd.{RecordEnd}
use Rattle.mdf_record.specs.declared.record.RecordEnd.TheVariants.{Refused, Closed}
use Rattle.mdf_record.proofs.Lengths.{head_short}
use Rattle.mdf_command.specs.declared.fault.Fault.TheVariants as fault
use Rattle.mdf_record.specs.Created.{IsNotCreated}
use Rattle.mdf_record.proofs.Recording.{fresh_begun, recorded_told, unmade}

-- two disks of one story are at one moment
pub one_moment : (story other : Option Story) (content content' : Option (List ℕ)) (clock clock' : ℕ) → Agrees story content clock
    → Agrees other content' clock' → other ≡ story → IfSome story (λ _. clock' ≡ clock)
one_moment None other content content' clock clock' agrees agrees' same = tt
one_moment (Some s) other content content' clock clock' agrees agrees' same =
    let there = subst (λ (o : Option Story). Agrees o content' clock') same agrees' in there.moment_is ∙ sym agrees.moment_is

-- what a file carries behind the head of rows is recovered of it
abbrev pub CarriedIsRecovered : Type 0
CarriedIsRecovered = (form : Form) (start : ℕ) (rows : List GroupRow) (layouts : List Layout) (history : List Sample) (through : ℕ) (file : List ℕ)
    → AreRecordable rows → IsReadHead form start rows → layouts ≡ map contents.layout_of rows
    → Carries layouts (head_file form start rows) history through file → Recovers history through file

-- a head that is made is read in each file that begins with it
pub head_read : (bytes : List ℕ) (form : Form) (start : ℕ) (rows : List GroupRow) → bytes ≡ head_file form start rows
    → ((more : List ℕ) → IsRecordingTree (bytes ++ more) start rows) → ((more : List ℕ) → FindsHead (bytes ++ more) start rows)
    → ((more : List ℕ) → FindsGroups (bytes ++ more) start rows) → IsReadHead form start rows
head_read bytes form start rows is tree head groups = record {
  tree = λ more. subst (λ (b : List ℕ). IsRecordingTree (b ++ more) start rows) is (tree more);
  head_found = λ more. subst (λ (b : List ℕ). FindsHead (b ++ more) start rows) is (head more);
  groups_found = λ more. subst (λ (b : List ℕ). FindsGroups (b ++ more) start rows) is (groups more);
}

-- a file that begins with a zero byte is no MDF file
first_byte : (file : List ℕ) → get_or (bytes_at 8 file 0) 0 0 ≡ get_or file 0 0
first_byte [] = refl
first_byte (byte ∷ file) = refl

zero_first : (file : List ℕ) → get_or file 0 0 ≡ 0 → IsNotMdf file
zero_first file none mdf =
    elim mdf.marked [
      | inl closed ↦
          let first : get_or (bytes_at 8 file 0) 0 0 ≡ 77 = ap (λ (xs : List ℕ). get_or xs 0 0) closed in omega (arith, none, first, first_byte file)
      | inr left_open ↦
          let first : get_or (bytes_at 8 file 0) 0 0 ≡ 85 = ap (λ (xs : List ℕ). get_or xs 0 0) left_open in omega (arith, none, first, first_byte file)
    ]

-- so where a file may begin with any head, it is none
pub begun_none : (file : List ℕ) → ((head : List ℕ) → IsBegun head file) → IsNotMdf file
begun_none file begun =
    ⊎_elim (λ none. none) (λ begins. zero_first file (ap (λ (xs : List ℕ). get_or xs 0 0) (sym begins.0.1))) (begun (0 ∷ []))

pub none_recovered : (story : Option Story) (start : ℕ) → ((head : List ℕ) → HoldsSince story start (IsBegun head)) → StartRecovers story start []
none_recovered story start begun =
    let none : (file : List ℕ) → LeftSince story start file → IsNotMdf file = λ file may. begun_none file (λ head. begun head file may) in
    record { recovers = λ file may. inl (none file may); finalizable = λ file may. inl (none file may) }

-- on a disk that was asked for nothing no file was created, for want of memory, and a crash leaves no MDF file
pub not_created : {C : Type 0} (tells : DiskOf C) (name head : List ℕ) (out : C) → tells.asked out ≡ None → Agrees (tells.story out) (tells.content out) (tells.moment out)
    → IsFresh (tells.story out) → IsNotCreated tells name head out out fault.Memory
not_created tells name head out asked agrees fresh = record {
  unmade = unmade tells name head out asked agrees fresh;
  untouched = λ none. refl;
  recovers = none_recovered (tells.story out) (tells.moment out) (λ h. fresh_begun h (tells.story out) (tells.content out) (tells.moment out) agrees fresh);
}

-- what carries samples of no more than the greatest session limit is finalized
carries_finalizable : CarriedIsRecovered → (form : Form) (start : ℕ) (rows : List GroupRow) (layouts : List Layout) (history : List Sample) (through : ℕ) (file : List ℕ)
    → AreRecordable rows → IsReadHead form start rows → layouts ≡ map contents.layout_of rows → history_cost layouts history ≤ 268435456
    → Carries layouts (head_file form start rows) history through file → IsFinalizable file
carries_finalizable law form start rows layouts history through file are read layouts_are cost carries = record {
  readable = (law form start rows layouts history through file are read layouts_are carries).readable;
  short = omega (arith, carries.ends, cost, head_short form start rows are read);
}

-- a file that was just begun
pub begun_recovered : CarriedIsRecovered → (story : Option Story) (since : ℕ) (form : Form) (start : ℕ) (rows : List GroupRow) → AreRecordable rows → IsReadHead form start rows
    → HoldsSince story since (IsBegun (head_file form start rows)) → StartRecovers story since []
begun_recovered law story since form start rows are read begun = record {
  recovers = λ file may. ⊎_elim inl (λ carries. inr (law form start rows (map contents.layout_of rows) [] 0 file are read refl carries)) (carried file may);
  finalizable = λ file may. ⊎_elim inl
      (λ carries. inr (carries_finalizable law form start rows (map contents.layout_of rows) [] 0 file are read refl (omega arith) carries)) (carried file may);
} where
  carried : (file : List ℕ) → LeftSince story since file → IsNotMdf file ⊎ Carries (map contents.layout_of rows) (head_file form start rows) [] 0 file
  carried file may = carries_begun (map contents.layout_of rows) (head_file form start rows) [] file (begun file may)

-- the layouts of a plan are those of its rows
layouts_same : (rows : List GroupRow) → AllByRecursion IsRecordableGroup rows → map plans.layout_of rows ≡ map contents.layout_of rows
layouts_same [] each = refl
layouts_same (row ∷ rows) each =
    let plain : is_variable row ≡ false = ap (λ (flags : ℕ). nat_eq (flags % 2) 1) each.0.flags in
    let same : plans.layout_of row ≡ contents.layout_of row =
    ap (λ (channels : List ChannelRow). record { rows = map field_of channels; data_bytes = row.data_bytes; inval_bytes = row.inval_bytes })
    (sym (cond-false (is_variable row) [] row.channels plain)) in
    ap (λ (layout : Layout). layout ∷ map plans.layout_of rows) same ∙ ap (λ (ls : List Layout). contents.layout_of row ∷ ls) (layouts_same rows each.1)

-- a recording that was begun
module _ (law : CarriedIsRecovered) (now : ℕ) (script : Script) (plan : IsPlan script.plan) (read : IsReadHead script.plan.form now script.plan.rows) where
  layouts_are : script.plan.shapes ≡ map contents.layout_of script.plan.rows
  layouts_are = plan.shapes ∙ layouts_same script.plan.rows plan.planned.each

  carries_recovers : (history : List Sample) (through : ℕ) (file : List ℕ) → Carries script.plan.shapes (script_head now script) history through file
      → Recovers history through file
  carries_recovers history through file carries = law script.plan.form now script.plan.rows script.plan.shapes history through file plan.planned read layouts_are carries

  finalizable : (history : List Sample) (through : ℕ) (file : List ℕ) → history_cost script.plan.shapes history ≤ script.plan.session
      → Carries script.plan.shapes (script_head now script) history through file → IsFinalizable file
  finalizable history through file cost carries =
      carries_finalizable law script.plan.form now script.plan.rows script.plan.shapes history through file plan.planned read layouts_are
      (omega (arith, cost, plan.limits.session_high)) carries

  recorded_recovers : (start : ℕ) (left : Outcome) → IsRecorded script (script_head now script) start left → AreRecovered start left
  recorded_recovers start left recorded = record {
    marks_recover = λ k mark within.
        let hold = recorded.marks_hold k mark within in record {
          past = hold.past;
          within = hold.within;
          recovers = λ file may. carries_recovers left.history (get_or left.marks k mark).through file (hold.carries file may);
          finalizable = λ file may. finalizable left.history (get_or left.marks k mark).through file recorded.cost (hold.carries file may);
        };
    start_recovers = record {
      recovers = λ file may. ⊎_elim inl (λ carries. inr (carries_recovers left.history 0 file carries)) (recorded.start_holds file may);
      finalizable = λ file may. ⊎_elim inl (λ carries. inr (finalizable left.history 0 file recorded.cost carries)) (recorded.start_holds file may);
    };
  }

  pub run_recovers : {C : Type 0} (tells : DiskOf C) (out : C) (file : Gated C) (left : Outcome) (end : RecordEnd)
      → HoldsSince (tells.story file.disk) (tells.moment out) (IsBegun (script_head now script))
      → IfSome (tells.story file.disk) (λ _. head_of (tells.story file.disk) file.first ≡ script_head now script)
      → is_some (tells.story file.disk) ≡ is_some (tells.story out) → IfSome (tells.story out) (λ _. file.start ≡ tells.moment out)
      → HasRun tells script file left end → AreRecovered (tells.moment out) left
  run_recovers tells out file left end begun head_is told start_is run = of_end end run.comes where
    of_end : (e : RecordEnd) → RunComes script (state_of tells file.disk) (head_of (tells.story file.disk) file.first) file.start file.faults left e
        → AreRecovered (tells.moment out) left
    of_end (Refused problem) comes = record {
      marks_recover = subst (MarksRecover left.disk.story left.disk.moment left.history) (sym comes.3) (λ k mark within. absurd (omega (arith, within)));
      start_recovers = subst (StartRecovers left.disk.story (tells.moment out)) (sym comes.2)
          (subst (λ (d : DiskState). StartRecovers d.story (tells.moment out) []) (sym comes.1)
          (begun_recovered law (tells.story file.disk) (tells.moment out) script.plan.form now script.plan.rows plan.planned read begun));
    }
    of_end (Closed accepted samples last live problem seen) comes =
        recorded_recovers (tells.moment out) left
        (recorded_told script (head_of (tells.story file.disk) file.first) (script_head now script) left.disk.story (tells.story file.disk) (tells.story out)
        file.start (tells.moment out) left refl run.told told head_is start_is comes.recorded)
