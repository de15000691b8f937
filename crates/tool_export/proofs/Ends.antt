-- How an export ends, by what was found and what was given.
use Rattle.std.proofs.Common.{◌≡◌, ◌<◌, ℕ, arith, true, Ok, Err, List, length, get_or, Option, Some, None, IsSome, refl, sym, subst, ap, inl, inr}
use Rattle.std.specs.Prelude.{IfNone}
use Rattle.std.specs.Option.{option_and_then, option_map_or}
use Rattle.std.proofs.lemmas.Option.{slice_get-get_or}
use Rattle.mdf_block.specs.Refusal.{Fails, Halts, IsPlain, Read, Refusal, Refuses}
use Rattle.mdf_content.specs.Fault.{read_refusal}
use Rattle.mdf_content.specs.declared.fault.ReadFault.{ReadFault}
use Rattle.mdf_model.specs.declared.part.Measure.{Measure}
use Rattle.mdf_model.specs.Identified.{IsIdentified}
use Rattle.mdf_model.specs.Measurement.{Measured, measurement, sample_of}
use Rattle.mdf_model.proofs.Identified.{measured_is_identified}
use Rattle.mdf_num.specs.Halt.{HaltCause}
use Rattle.mdf_num.specs.declared.failure.Failed.{Failed}
use Rattle.mdf_num.specs.declared.halt.Halt.{Halt}
use Rattle.mdf_num.specs.declared.halt.Halt.TheVariants as halts
use Rattle.mdf_port.specs.State.{SinkState}
use Rattle.mdf_model.specs.InWords.{IsMeasurement}
use Rattle.mdf_block.proofs.Items.{item_of}
use Rattle.tool_export.specs.declared.fault.ExportFault.{ExportFault}
use Rattle.tool_export.specs.declared.fault.ExportFault.TheVariants as export
use Rattle.tool_export.specs.Export.{ExportEnds, ExportHalts, GivesText, IsGroupOf, NamesNone, SinkCause, fault_or_memory, fault_of_halt, halt_of_read, halt_of_table}
use Rattle.tool_export.specs.Table.{count_in, sample_in, table_of, table_text}

-- the table of a group of a measurement is that of its samples
pub same_table : (found : Measured) (group : ℕ) (d : Measure) → group < length found.groups
    → table_text (get_or found.groups group d).part.row.channels (sample_in found group) (count_in found group)
    ≡ table_of (get_or found.groups group d)
same_table found group d below =
    ap (λ (one : Option Measure). table_text (get_or found.groups group d).part.row.channels
    (λ (i : ℕ). option_and_then (λ (m : Measure). sample_of m i) one) (option_map_or (λ (m : Measure). m.count) one 0))
    (slice_get-get_or found.groups group d below)

-- the file is refused, or memory was wanted to read it
pub read_ends : (file : List ℕ) (group : ℕ) (state : SinkState) (fault : ReadFault) (refusal : Option Refusal) → read_refusal fault ≡ refusal
    → Fails refusal (measurement file) → IfNone refusal (IsIdentified file) → ExportEnds file group state state (Err (fault_or_memory fault refusal))
read_ends file group state fault None is fails known = (known, inl refl)
read_ends file group state fault (Some refusal) is fails known =
    (subst IsSome (sym is) refl, subst (λ (one : Option Refusal). Fails one (measurement file)) (sym is) fails, refl)

-- the same over a span
refused_is : {A : Type 0} (refusal : Option Refusal) (read : Read A) → Refuses refusal read → Fails refusal read
refused_is None read refused = absurd refused
refused_is (Some refusal) read refused = refused

pub read_halts : (file : List ℕ) (group : ℕ) (state : SinkState) (halt : Halt ReadFault) → IsPlain read_refusal halt
    → Halts read_refusal halt (measurement file) → ExportHalts file group state state (Err (halt_of_read halt))
read_halts file group state (halts.Fault fault) plain halted = (plain, refused_is (read_refusal fault) (measurement file) halted, refl)
read_halts file group state halts.Failed plain halted = inl refl
read_halts file group state halts.Memory plain halted = inl refl

module _ (file : List ℕ) (found : Measured) (read : measurement file ≡ Ok found) where
  -- the file has no such group
  pub none_ends : (said : ℕ) (state : SinkState) (fault : ExportFault) → NamesNone said (length found.groups) fault → ExportEnds file said state state (Err fault)
  none_ends said state (export.NoGroup number groups) none = (none.0, record { found = found; is_read = read; count = none.1; past = none.2 }, refl)
  none_ends said state (export.Read fault) none = absurd none
  none_ends said state export.Failed none = absurd none
  none_ends said state export.Memory none = absurd none

  module _ (is : IsMeasurement file found.head found.history found.groups) (group : ℕ) (below : group < length found.groups) where
    measure : Measure
    measure = get_or found.groups group (item_of found.groups group below)

    is_group : IsGroupOf file group measure
    unfolding measure
    is_group = record { found = found; is_read = read; is = is; there = slice_get-get_or found.groups group (item_of found.groups group below) below }

    -- the table was given
    pub given_ends : (old new : SinkState) (rows : ℕ) → rows ≡ (get_or found.groups group (item_of found.groups group below)).count
        → GivesText (table_of (get_or found.groups group (item_of found.groups group below))) old new (Ok tt) → ExportEnds file group old new (Ok rows)
    unfolding measure
    given_ends old new rows count gives = (measure, is_group, count, gives.ok)

    -- a front of it was
    pub stopped_ends : (old new : SinkState) (halt : Halt Failed)
        → GivesText (table_of (get_or found.groups group (item_of found.groups group below))) old new (Err halt) → SinkCause old.faults new.faults (Err halt)
        → HaltCause {T = Unit} true 0 0 (Err halt) → ExportEnds file group old new (Err (fault_of_halt halt))
    unfolding measure
    stopped_ends old new (halts.Fault failed) gives sink cause = (record { measure = measure; is = is_group; front = gives.err }, sink.reason)
    stopped_ends old new halts.Failed gives sink cause = absurd (omega (arith, cause.reason))
    stopped_ends old new halts.Memory gives sink cause =
        (measured_is_identified file found read, inr (record { measure = measure; is = is_group; front = gives.err }, sink.reason))

    -- the same over a span
    pub halted_ends : (old new : SinkState) (halt : Halt Failed)
        → GivesText (table_of (get_or found.groups group (item_of found.groups group below))) old new (Err halt) → SinkCause old.faults new.faults (Err halt)
        → ExportHalts file group old new (Err (halt_of_table halt))
    unfolding measure
    halted_ends old new (halts.Fault failed) gives sink = (record { measure = measure; is = is_group; front = gives.err }, sink.reason)
    halted_ends old new halts.Failed gives sink = inr (record { measure = measure; is = is_group; front = gives.err }, sink.reason)
    halted_ends old new halts.Memory gives sink = inr (record { measure = measure; is = is_group; front = gives.err }, sink.reason)
