-- The program's faults: the status of each, its line, and when it may come.
use Rattle.std.specs.Prelude.{ℕ, List, [], ◌∷◌, codes, Option, Some, None, Result, Ok, Err}
use Rattle.std.specs.Fmt.{decimal}
use Rattle.mdf_format.specs.Block.{name_of}
use Rattle.mdf_gate.specs.declared.answer.GateFault.{GateFault}
use Rattle.mdf_gate.specs.declared.answer.GateFault.TheVariants as gates
use Rattle.mdf_block.specs.declared.what.What.{What}
use Rattle.mdf_block.specs.declared.what.What.TheVariants.{Fh, Dg, Cg, Cn, Cc, Text, Block, Sample}
use Rattle.mdf_block.specs.Refusal as refusals
use Rattle.mdf_block.specs.Refusal.{Refusal}
use Rattle.mdf_content.specs.Fault.{read_refusal}
use Rattle.mdf_disk.specs.declared.load.LoadFault.{LoadFault}
use Rattle.mdf_disk.specs.declared.load.LoadFault.TheVariants as load
use Rattle.mdf_port.specs.declared.source.TakeFault.{TakeFault}
use Rattle.mdf_port.specs.declared.source.TakeFault.TheVariants as take
use Rattle.acq_script.specs.declared.fault.ScriptFault.{ScriptFault}
use Rattle.mdf_tool.specs.declared.fault.ToolFault.{ToolFault}
use Rattle.mdf_tool.specs.declared.fault.ToolFault.TheVariants as tool
use Rattle.acq_script.specs.declared.fault.ScriptFault.TheVariants as script
use Rattle.mdf_command.specs.Texts.{line}
use Rattle.mdf_command.specs.declared.fault.Fault.{Fault}
use Rattle.mdf_command.specs.declared.fault.Fault.TheVariants.{Gate, Source, Device, InputOver, ScriptOver, SessionFull, Memory, Script, Read, NoGroup, Differs, Wide, Attached}

-- the status of a file that is refused, and of one for which there was no memory
abbrev pub refused_status : Option Refusal → ℕ
refused_status None = 7
refused_status (Some refusal) = 3

abbrev pub fault_status : Fault → ℕ
fault_status (Gate fault) = 3
fault_status Source = 2
fault_status Device = 4
fault_status (InputOver size limit) = 5
fault_status (ScriptOver limit) = 5
fault_status (SessionFull held size limit) = 5
fault_status Memory = 7
fault_status (Script number) = 8
fault_status (Read fault) = refused_status (read_refusal fault)
fault_status (NoGroup said groups) = 3
fault_status (Differs group) = 3
fault_status (Wide group channel) = 3
fault_status (Attached at) = 3

abbrev pub gate_line : GateFault → List ℕ
gate_line gates.NotMdf = line (codes "not MDF" ∷ [])
gate_line (gates.Version ver) = line (codes "version " ∷ decimal ver ∷ [])
gate_line (gates.NotRecording std custom) = line (codes "not a recording " ∷ decimal std ∷ codes " " ∷ decimal custom ∷ [])
gate_line (gates.Bad at want) = line (codes "block at " ∷ decimal at ∷ codes " is not " ∷ name_of want ∷ [])

-- the word for what there is too many of
abbrev pub what_text : What → List ℕ
what_text Fh = codes "FH"
what_text Dg = codes "DG"
what_text Cg = codes "CG"
what_text Cn = codes "CN"
what_text Cc = codes "CC"
what_text Text = codes "text"
what_text Block = codes "block"
what_text Sample = codes "sample"

-- a line of a text and a number, and of two texts with a number each
abbrev pub text_line : List ℕ → ℕ → List ℕ
text_line text n = line (text ∷ decimal n ∷ [])

abbrev pub texts_line : List ℕ → ℕ → List ℕ → ℕ → List ℕ
texts_line text n more m = line (text ∷ decimal n ∷ more ∷ decimal m ∷ [])

-- why the file is refused
abbrev pub refusal_line : Refusal → List ℕ
refusal_line refusals.NotMdf = line (codes "not MDF" ∷ [])
refusal_line (refusals.Unfinalized std custom) = texts_line (codes "unfinalized ") std (codes " ") custom
refusal_line (refusals.NotRecording std custom) = texts_line (codes "not a recording ") std (codes " ") custom
refusal_line (refusals.Version ver) = text_line (codes "version ") ver
refusal_line (refusals.Bad at want) = line (codes "block at " ∷ decimal at ∷ codes " is not " ∷ name_of want ∷ [])
refusal_line (refusals.Compressed at) = text_line (codes "compressed at ") at
refusal_line (refusals.TooMany what at) = line (codes "too many " ∷ what_text what ∷ codes " at " ∷ decimal at ∷ [])
refusal_line (refusals.Deep at) = text_line (codes "deep at ") at
refusal_line (refusals.ChannelKind at kind) = texts_line (codes "channel kind ") kind (codes " at ") at
refusal_line (refusals.ChannelType at kind) = texts_line (codes "channel type ") kind (codes " at ") at
refusal_line (refusals.Layout at) = text_line (codes "layout at ") at
refusal_line (refusals.UnknownId id at) = texts_line (codes "unknown id ") id (codes " at ") at
refusal_line (refusals.Cut at) = text_line (codes "cut at ") at
refusal_line (refusals.Cycles group said found) =
    line (codes "cycles group " ∷ decimal group ∷ codes " said " ∷ decimal said ∷ codes " found " ∷ decimal found ∷ [])
refusal_line (refusals.Offset channel row offset) =
    line (codes "offset " ∷ decimal offset ∷ codes " channel " ∷ decimal channel ∷ codes " row " ∷ decimal row ∷ [])

-- why the file could not be read
abbrev pub read_line : Option Refusal → List ℕ
read_line None = line (codes "want of memory" ∷ [])
read_line (Some refusal) = refusal_line refusal

abbrev pub input_over_line : ℕ → ℕ → List ℕ
input_over_line size limit = line (codes "input over " ∷ decimal size ∷ codes " " ∷ decimal limit ∷ [])

abbrev pub fault_line : Fault → List ℕ
fault_line (Gate fault) = gate_line fault
fault_line Source = line (codes "source fault" ∷ [])
fault_line Device = line (codes "device fault" ∷ [])
fault_line (InputOver size limit) = input_over_line size limit
fault_line (ScriptOver limit) = line (codes "script over " ∷ decimal limit ∷ [])
fault_line (SessionFull held size limit) =
    line (codes "session full " ∷ decimal held ∷ codes " " ∷ decimal size ∷ codes " " ∷ decimal limit ∷ [])
fault_line Memory = line (codes "want of memory" ∷ [])
fault_line (Script number) = line (codes "script line " ∷ decimal number ∷ [])
fault_line (Read fault) = read_line (read_refusal fault)
fault_line (NoGroup said groups) = texts_line (codes "no group ") said (codes " of ") groups
fault_line (Differs group) = text_line (codes "differs group ") group
fault_line (Wide group channel) = texts_line (codes "wide group ") group (codes " channel ") channel
fault_line (Attached at) = text_line (codes "too many AT at ") at

-- the status of a command that ended so: 0, or that of the fault
abbrev pub end_status : {T : Type 0} → Result T Fault → ℕ
end_status (Ok done) = 0
end_status (Err problem) = fault_status problem

-- how many bytes a script has at most
abbrev pub SCRIPT_LIMIT : ℕ
SCRIPT_LIMIT = 67108864

-- how many bytes an input file has at most that is held whole
abbrev pub INPUT_LIMIT : ℕ
INPUT_LIMIT = 536870912

-- and one that is read piece by piece
abbrev pub READING_LIMIT : ℕ
READING_LIMIT = 1099511627776

-- the fault of a file that could not be read whole
abbrev pub fault_of_load : LoadFault → Fault
fault_of_load load.Failed = Device
fault_of_load (load.TooLong size limit) = InputOver size limit
fault_of_load load.Memory = Memory

-- the fault of a script that could not be taken whole, and of one that is refused
abbrev pub fault_of_take : TakeFault → Fault
fault_of_take take.Failed = Source
fault_of_take (take.TooLong limit) = ScriptOver limit
fault_of_take take.Memory = Memory

abbrev pub fault_of_script : ScriptFault → Fault
fault_of_script (script.Line number) = Script number
fault_of_script script.Memory = Memory

-- the fault of a tool that made no file
abbrev pub fault_of_tool : ToolFault → Fault
fault_of_tool (tool.Read refused) = Read refused
fault_of_tool tool.Failed = Device
fault_of_tool tool.Memory = Memory
