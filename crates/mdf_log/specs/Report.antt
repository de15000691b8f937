-- What a log prints at its end, and its status.
use Rattle.std.specs.Prelude.{ℕ, zero, suc, Bool, true, false, not, ◌&&◌, nat_eq, if◌then◌else◌, List, [], ◌∷◌, ◌++◌, codes, Some, None}
use Rattle.std.specs.List.{list_any}
use Rattle.std.specs.Fmt.{decimal}
use Rattle.mdf_command.specs.Texts.{line, numbered}
use Rattle.mdf_command.specs.Faults.{fault_line, fault_status}
use Rattle.mdf_record.specs.Record.{fault_text, live_text, source_line, totals_line}
use Rattle.acq_lines.specs.declared.feed.Halt.TheVariants as halts
use Rattle.mdf_log.specs.declared.end.LogEnd.{LogEnd}
use Rattle.mdf_log.specs.declared.end.LogEnd.TheVariants.{Closed, Inputs, Refused}
use Rattle.mdf_log.specs.declared.end.SourceEnd.{SourceEnd}
use Rattle.mdf_log.specs.declared.end.Stop.{Stop}
use Rattle.mdf_log.specs.declared.end.Stop.TheVariants as stops

-- the input of a source failed
abbrev pub failed_by : Stop → Bool
failed_by (stops.Halted halts.Failed) = true
failed_by _ = false

-- A source stopped before nothing more came: memory was wanted for a line, as much was handled and handed in as can be counted, it was called off, or
-- a task of it was not done.
abbrev pub short_by : Stop → Bool
short_by (stops.Halted halts.Input) = false
short_by (stops.Halted halts.Line) = false
short_by (stops.Halted halts.Failed) = false
short_by _ = true

-- nothing more came of its input: it was at its end, or it failed
abbrev pub ran_out : Stop → Bool
ran_out (stops.Halted halts.Input) = true
ran_out (stops.Halted halts.Failed) = true
ran_out _ = false

abbrev pub has_failed : SourceEnd → Bool
has_failed end = failed_by end.stop

abbrev pub was_short : SourceEnd → Bool
was_short end = short_by end.stop

abbrev pub has_bad : SourceEnd → Bool
has_bad end = not (nat_eq end.bad 0)

-- its input ran out in the middle of a line
abbrev pub is_cut : SourceEnd → Bool
is_cut end = end.cut && ran_out end.stop

abbrev pub is_deaf : SourceEnd → Bool
is_deaf end = end.deaf

-- how many lines of a source no rule admits, where there are any
abbrev pub bad_line : ℕ → ℕ → List ℕ
bad_line source zero = []
bad_line source (suc n) = line (codes "source " ∷ decimal source ∷ codes " refused " ∷ decimal (suc n) ∷ [])

-- the line that says this of a source, where it is so
abbrev pub word_line : ℕ → List ℕ → Bool → List ℕ
word_line source word false = []
word_line source word true = line (codes "source " ∷ decimal source ∷ word ∷ [])

-- the lines of a source
abbrev pub source_text : ℕ → SourceEnd → List ℕ
source_text source end =
    source_line source end.accepted
    ++ (bad_line source end.bad ++ (word_line source (codes " failed") (has_failed end) ++ word_line source (codes " cut") (is_cut end)))

abbrev pub log_text : LogEnd → List ℕ
log_text (Inputs sources) = line (codes "sources " ∷ decimal sources ∷ [])
log_text (Refused fault) = fault_line fault
log_text (Closed sources samples durable live fault) =
    numbered source_text 0 sources.items ++ (totals_line samples durable ++ (live_text live ++ fault_text fault))

-- the status by the sources alone: 7, 2, 8 and 6, in this order, and 0 where all lines of all inputs were recorded and each sink was told
abbrev pub sources_status : List SourceEnd → ℕ
sources_status sources =
    if list_any was_short sources then 7
    else (if list_any has_failed sources then 2
    else (if list_any has_bad sources then 8
    else (if list_any is_deaf sources then 6 else 0)))

-- The status: that of the fault, if there is one.
abbrev pub log_status : LogEnd → ℕ
log_status (Inputs sources) = 1
log_status (Refused fault) = fault_status fault
log_status (Closed sources samples durable live (Some fault)) = fault_status fault
log_status (Closed sources samples durable live None) = sources_status sources.items
