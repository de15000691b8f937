-- What a log is set up with: the front of a script, up to its `begin`.
use Rattle.std.specs.Prelude.{ℕ, ◌≡◌, ◌≤◌, ◌<◌, ◌⊎◌, ◌++◌, List, [], length, map, replicate, codes, Option, Some, None, IfSome, Ok, Err, if◌then◌else◌, ◌&&◌, nat_eq}
use Rattle.std.specs.Io.KnownBytes.{IsAtEnd}
use Rattle.mdf_format.specs.Cause.{Rose}
use Rattle.mdf_port.specs.Source.{TakesAtMost, TakesFront}
use Rattle.mdf_port.specs.State.{SourceState}
use Rattle.mdf_group.specs.declared.row.ChannelRow.{ChannelRow}
use Rattle.mdf_group.specs.declared.row.GroupRow.{GroupRow}
use Rattle.acq_script.specs.Script.{script_of}
use Rattle.acq_script.specs.declared.script.Plan.{Plan}
use Rattle.acq_script.specs.declared.script.Script.{Script}
use Rattle.script_line.specs.declared.float.Width.{Width}
use Rattle.script_line.specs.declared.float.Width.TheVariants.{Single, Double}
use Rattle.acq_lines.specs.Rules.{Rules}
use Rattle.mdf_command.specs.Faults.{SCRIPT_LIMIT}
use Rattle.mdf_command.specs.declared.fault.Fault.{Fault}
use Rattle.mdf_command.specs.declared.fault.Fault.TheVariants as fault

-- what stands behind a front so that it is a script
abbrev pub END : List ℕ
END = codes "end\n"

-- the script of a plan in which no source does anything
abbrev pub idle_script : Plan → Script
idle_script plan = record { plan = plan; lists = replicate plan.sources [] }

-- the text is the front of a script of this plan, in which no source does anything yet
abbrev pub IsSetup : List ℕ → Plan → Type 0
IsSetup text plan = script_of (text ++ END) ≡ Ok (idle_script plan)

-- The source, where it tells its bytes, had the setup of this plan. Nothing of it is left, and it has not failed meanwhile.
pub record SaysSetup (old new : SourceState) (plan : Plan) : Type 0 where
  pub text : IfSome old.left (λ text. IsSetup text plan × (length text ≤ SCRIPT_LIMIT))
  pub end : IsAtEnd new.left
  pub taken : TakesFront old.left new.left
  pub calm : new.faults ≡ old.faults

-- a source does something in it, and then the number is 0
pub record IsBusy (text : List ℕ) (number : ℕ) : Type 0 where
  pub script : Script
  pub says : script_of (text ++ END) ≡ Ok script
  pub busy : ¬ (script ≡ idle_script script.plan)
  pub number_is : number ≡ 0

-- why a text is no setup: no rule admits the line of this number, or a source does something in it; or memory was wanted
abbrev pub IsNoSetup : List ℕ → Fault → Type 0
IsNoSetup text (fault.Script number) = (script_of (text ++ END) ≡ Err number) ⊎ IsBusy text number
IsNoSetup text fault.Memory = Unit {0}
IsNoSetup text _ = ⊥

-- Why a setup is refused, by the source before and after. Memory was wanted before more bytes were taken than a setup has at most, and
-- while the source did not fail.
abbrev pub SetupFaultCause : SourceState → SourceState → Fault → Type 0
SetupFaultCause old new fault.Source = Rose old.faults new.faults
SetupFaultCause old new (fault.ScriptOver limit) = (limit ≡ SCRIPT_LIMIT) × IfSome old.left (λ text. limit < length text)
SetupFaultCause old new fault.Memory = TakesAtMost old.left new.left SCRIPT_LIMIT × (new.faults ≡ old.faults)
SetupFaultCause old new (fault.Script number) =
    IfSome old.left (λ text. IsNoSetup text (fault.Script number) × (length text ≤ SCRIPT_LIMIT)) × IsAtEnd new.left × (new.faults ≡ old.faults)
SetupFaultCause old new _ = ⊥

-- The setup is refused only where this holds of the source before and after.
pub record SetupFaultComes (old new : SourceState) (fault : Fault) : Type 0 where
  pub cause : SetupFaultCause old new fault
  pub taken : TakesFront old.left new.left
  pub later : old.faults ≤ new.faults

-- how wide the floats of a channel are, if it has floats: those have the data type 4
abbrev pub width_of : ChannelRow → Option Width
width_of channel =
    if nat_eq channel.data_type 4 && nat_eq channel.bits 32 then Some Single
    else (if nat_eq channel.data_type 4 && nat_eq channel.bits 64 then Some Double else None)

abbrev pub widths_of : GroupRow → List (Option Width)
widths_of row = map width_of row.channels

-- which channels of each group have floats
abbrev pub floats_in : Plan → List (List (Option Width))
floats_in plan = map widths_of plan.rows

-- the rules of the lines of a plan's inputs
abbrev pub rules_in : Plan → Rules
rules_in plan = record { shapes = plan.shapes; floats = floats_in plan; owners = plan.owners; block = plan.block }
