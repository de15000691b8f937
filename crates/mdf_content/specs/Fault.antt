-- What the faults say of a file.
use Rattle.std.specs.Prelude.{Option, Some, None}
use Rattle.mdf_block.specs.Refusal.{Refusal, NotMdf, Unfinalized, NotRecording, Version, Bad, Compressed, TooMany, Deep, ChannelKind, ChannelType, Layout, UnknownId, Cut, Cycles, Offset}
use Rattle.mdf_content.specs.declared.fault.ReadFault.{ReadFault}
use Rattle.mdf_content.specs.declared.fault.ReadFault.TheVariants as faults

abbrev pub read_refusal : ReadFault → Option Refusal
read_refusal faults.NotMdf = Some NotMdf
read_refusal (faults.Unfinalized std custom) = Some (Unfinalized std custom)
read_refusal (faults.Version ver) = Some (Version ver)
read_refusal (faults.Block at want) = Some (Bad at want)
read_refusal (faults.Compressed at) = Some (Compressed at)
read_refusal (faults.TooMany what at) = Some (TooMany what at)
read_refusal (faults.ChannelKind at kind) = Some (ChannelKind at kind)
read_refusal (faults.ChannelType at value) = Some (ChannelType at value)
read_refusal (faults.Layout at) = Some (Layout at)
read_refusal (faults.UnknownId id at) = Some (UnknownId id at)
read_refusal (faults.Cut at) = Some (Cut at)
read_refusal (faults.Cycles group said found) = Some (Cycles group said found)
read_refusal (faults.Offset channel row offset) = Some (Offset channel row offset)
read_refusal (faults.Deep at) = Some (Deep at)
read_refusal (faults.NotRecording std custom) = Some (NotRecording std custom)
read_refusal faults.Memory = None
