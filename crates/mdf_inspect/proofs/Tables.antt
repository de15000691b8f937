-- How a table ends whose file was read through pages, or was not opened.
use Rattle.std.proofs.Common.{◌≡◌, ◌⊎◌, ◌≤◌, ℕ, List, length, true, Option, Some, None, Result, Ok, Err, refl, sym, subst, inl, inr, ⊎_elim}
use Rattle.std.specs.Prelude.{IfErr, IfSome}
use Rattle.mdf_num.specs.declared.halt.Halt.{Halt}
use Rattle.mdf_num.specs.declared.halt.Halt.TheVariants as halts
use Rattle.mdf_block.specs.Refusal.{Fails}
use Rattle.mdf_content.specs.Fault.{read_refusal}
use Rattle.mdf_disk.specs.State.{DiskState}
use Rattle.mdf_model.specs.Measurement.{measurement}
use Rattle.mdf_port.specs.State.{SinkState}
use Rattle.tool_export.specs.Export.{ExportCause, ExportEnds, ExportHalts, GaveAtMost, GaveFront, HasNoGroup, IsPlainExport}
use Rattle.tool_export.specs.declared.fault.ExportFault.{ExportFault}
use Rattle.tool_export.specs.declared.fault.ExportFault.TheVariants as export
use Rattle.mdf_command.specs.Faults.{READING_LIMIT}
use Rattle.mdf_command.specs.Load.{LoadFaultOf}
use Rattle.mdf_command.specs.declared.fault.Fault.{Fault}
use Rattle.mdf_command.specs.declared.fault.Fault.TheVariants as fault
use Rattle.mdf_inspect.specs.Paged.{StopComes}
use Rattle.mdf_inspect.specs.Export.{GaveAtMostFront, StopsTable, TableAnswers, TableComes, TableFaultComes}
use Rattle.mdf_inspect.specs.declared.table.TableEnd.{TableEnd}
use Rattle.mdf_inspect.specs.declared.table.TableEnd.TheVariants.{Given, Unwritten, Refused}
use Rattle.mdf_inspect.proofs.Paging.{IsShort, if_read, load_from, read_from, stopped}

-- nothing is given of a file that was not opened
pub unopened_table : (group : ℕ) (old new : DiskState) (sink : SinkState) (problem : Fault) → LoadFaultOf READING_LIMIT old new problem
    → TableFaultComes group old new sink sink problem
unopened_table group old new sink fault.Device comes = (comes, inl refl)
unopened_table group old new sink (fault.InputOver size limit) comes = (comes, refl)
unopened_table group old new sink fault.Memory comes = (comes, inl refl)
unopened_table group old new sink problem comes = absurd comes

front_then : (content : Option (List ℕ)) (group : ℕ) (sink sink' : SinkState) → IsShort content
    → ((file : List ℕ) → content ≡ Some file → GaveAtMost file group sink sink') → sink'.faults ≡ sink.faults
    → (sink' ≡ sink) ⊎ (IfSome content (λ (file : List ℕ). (length file ≤ READING_LIMIT) × GaveFront file group sink sink') × (sink'.faults ≡ sink.faults))
front_then None group sink sink' short gave calm = inr (tt, calm)
front_then (Some file) group sink sink' short gave calm = ⊎_elim (λ same. inl same) (λ front. inr ((short, front.0), front.1)) (gave file refl)

-- of a disk whose file is attached
module _ (group : ℕ) (mid new : DiskState) (attached : new.attached ≡ true) (short : IsShort mid.content) (sink sink' : SinkState) where
  stopped_table : (problem : Fault) → StopComes mid.faults new.faults problem → GaveAtMostFront mid group sink sink' → TableFaultComes group mid new sink sink' problem
  stopped_table fault.Device rose gave = (rose, gave)
  stopped_table fault.Memory calm gave = (stopped READING_LIMIT mid new attached short fault.Memory calm, gave)
  stopped_table problem comes gave = absurd comes

  stopped_end : (end : TableEnd) → StopsTable mid.faults new.faults end → GaveAtMostFront mid group sink sink' → TableComes group mid new sink sink' end
  stopped_end (Refused problem) comes gave = stopped_table problem comes gave
  stopped_end end comes gave = absurd comes

  pub table_comes : (table : Result ℕ (Halt ExportFault)) (end : TableEnd) → TableAnswers mid.faults new.faults table end → IfErr table (IsPlainExport group)
      → ExportCause sink sink' table → ((file : List ℕ) → mid.content ≡ Some file → ExportHalts file group sink sink' table)
      → TableComes group mid new sink sink' end
  table_comes (Ok rows) end is plain cause ends =
      subst (TableComes group mid new sink sink') (sym is) (if_read READING_LIMIT mid (λ file. ExportEnds file group sink sink' (Ok rows)) short ends)
  table_comes (Err (halts.Fault (export.Read refused))) end is plain cause ends =
      subst (TableComes group mid new sink sink') (sym is)
      ((plain, if_read READING_LIMIT mid (λ file. Fails (read_refusal refused) (measurement file)) short (λ file told. (ends file told).1)), cause.moves)
  table_comes (Err (halts.Fault (export.NoGroup said groups))) end is plain cause ends =
      subst (TableComes group mid new sink sink') (sym is)
      (plain.0, (subst (λ (n : ℕ). groups ≤ n) plain.0 plain.1, if_read READING_LIMIT mid (λ file. HasNoGroup file group groups) short (λ file told. (ends file told).1)), cause.moves)
  table_comes (Err (halts.Fault export.Failed)) end is plain cause ends =
      subst (TableComes group mid new sink sink') (sym is) (if_read READING_LIMIT mid (λ file. GaveFront file group sink sink') short (λ file told. (ends file told).0), cause.moves)
  table_comes (Err (halts.Fault export.Memory)) end is plain cause ends = absurd plain
  table_comes (Err halts.Failed) end is plain cause ends = stopped_end end is (front_then mid.content group sink sink' short ends cause.moves)
  table_comes (Err halts.Memory) end is plain cause ends = stopped_end end is (front_then mid.content group sink sink' short ends cause.moves)

-- and of what it told before it was attached
module _ (group : ℕ) (old mid new : DiskState) (content : mid.content ≡ old.content) (calm : mid.faults ≡ old.faults) (attached : mid.attached ≡ true)
    (short : IsShort old.content) (sink sink' : SinkState) where
  front_from : GaveAtMostFront mid group sink sink' → GaveAtMostFront old group sink sink'
  front_from (inl same) = inl same
  front_from (inr gave) = inr (read_from READING_LIMIT old mid new content calm attached short (λ file. GaveFront file group sink sink') gave.0, gave.1)

  fault_from : (problem : Fault) → TableFaultComes group mid new sink sink' problem → TableFaultComes group old new sink sink' problem
  fault_from fault.Device comes = (load_from READING_LIMIT old mid new content calm attached short fault.Device comes.0, front_from comes.1)
  fault_from (fault.InputOver size limit) comes = (load_from READING_LIMIT old mid new content calm attached short (fault.InputOver size limit) comes.0, comes.1)
  fault_from fault.Memory comes = (load_from READING_LIMIT old mid new content calm attached short fault.Memory comes.0, front_from comes.1)
  fault_from (fault.Read refused) comes =
      ((comes.0.0, read_from READING_LIMIT old mid new content calm attached short (λ file. Fails (read_refusal refused) (measurement file)) comes.0.1), comes.1)
  fault_from (fault.NoGroup said groups) comes =
      (comes.0, (comes.1.0, read_from READING_LIMIT old mid new content calm attached short (λ file. HasNoGroup file group groups) comes.1.1), comes.2)
  fault_from problem comes = absurd comes

  pub table_from : (end : TableEnd) → TableComes group mid new sink sink' end → TableComes group old new sink sink' end
  table_from (Given rows) comes = read_from READING_LIMIT old mid new content calm attached short (λ file. ExportEnds file group sink sink' (Ok rows)) comes
  table_from Unwritten comes = (read_from READING_LIMIT old mid new content calm attached short (λ file. GaveFront file group sink sink') comes.0, comes.1)
  table_from (Refused problem) comes = fault_from problem comes
