-- How often a source and a sink over std have failed, and the error that was met last.
use Rattle.mdf_num.specs.declared.system.SystemFaults.{SystemFaults}
use Rattle.mdf_port.specs.declared.source.StdSource.{StdSource}
use Rattle.mdf_port.specs.declared.sink.StdSink.{StdSink}

abbrev pub source_faults : {R : Type 0} → StdSource R → SystemFaults
source_faults source = source.faults

abbrev pub sink_faults : {W : Type 0} → StdSink W → SystemFaults
sink_faults sink = sink.faults
