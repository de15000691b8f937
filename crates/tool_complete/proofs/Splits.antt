-- The stream of a data group, as it is counted.
use Rattle.std.proofs.Common.{◌≡◌, ◌≤◌, ℕ, true, false, List, Option, Some, None, Result, Ok, Err, length, sym, subst}
use Rattle.std.proofs.lemmas.Bool.{false≢true}
use Rattle.std.specs.Prelude.{IfOk, IsSome}
use Rattle.mdf_format.specs.declared.kind.Kind.TheVariants.{Dt}
use Rattle.mdf_block.specs.Refusal.{Fails}
use Rattle.mdf_stream.specs.declared.fault.DataFault.{DataFault}
use Rattle.mdf_stream.specs.declared.fault.DataFault.TheVariants as faults
use Rattle.mdf_stream.specs.declared.part.Part.{Part}
use Rattle.mdf_stream.specs.Link.{data_parts, data_refusal}
use Rattle.mdf_stream.specs.Parts.{stream_of, stream_size}
use Rattle.mdf_group.specs.declared.row.DataRow.{DataRow}
use Rattle.mdf_content.specs.Layouts.{has_id_size}
use Rattle.tool_complete.specs.declared.split.Counted.{Counted}
use Rattle.tool_complete.specs.Completed.{IsCountedOf, split_of}
use Rattle.tool_complete.specs.Records.{IsTally, whole_records}

module _ (file : List ℕ) (row : DataRow) where
  -- ids of no size of the standard's
  pub not_sized : has_id_size row ≡ false → IsCountedOf (length row.groups) (split_of file row) None
  unfolding split_of
  not_sized other_size = rw other_size tt

  -- no blocks of data
  no_parts : (fault : DataFault) → has_id_size row ≡ true → IsSome (data_refusal fault) → Fails (data_refusal fault) (data_parts file Dt row.content)
      → IsCountedOf (length row.groups) (split_of file row) None
  unfolding split_of
  no_parts (faults.Bad at want) sized some fails = rw (sized, fails) tt
  no_parts (faults.Compressed at) sized some fails = rw (sized, fails) tt
  no_parts (faults.TooMany at) sized some fails = rw (sized, fails) tt
  no_parts faults.Memory sized some fails = absurd (false≢true some)

  pub not_read : {E : Type 0} (fault : DataFault) (result : Result (Option Counted) E) → has_id_size row ≡ true
      → IfOk result (λ counted. (counted ≡ None) × IsSome (data_refusal fault)) → Fails (data_refusal fault) (data_parts file Dt row.content)
      → IfOk result (IsCountedOf (length row.groups) (split_of file row))
  not_read fault (Ok counted) sized is fails =
      subst (IsCountedOf (length row.groups) (split_of file row)) (sym is.0) (no_parts fault sized is.1 fails)
  not_read fault (Err problem) sized is fails = tt

  -- blocks of data whose whole records are counted
  pub is_counted : (parts : List Part) (found : Counted) → has_id_size row ≡ true → data_parts file Dt row.content ≡ Ok parts
      → found.total ≡ stream_size parts → IsTally (length row.groups) (whole_records (stream_of file parts) (stream_size parts) row) found.tally
      → found.tally.whole ≤ stream_size parts → IsCountedOf (length row.groups) (split_of file row) (Some found)
  unfolding split_of
  is_counted parts found sized is total tally within = rw (sized, is) (record { total = total; tally = tally; within = rw total within })
