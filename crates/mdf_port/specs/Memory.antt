-- What a source and a sink in memory have besides what they tell.
use Rattle.mdf_num.specs.Plan.{Plan}
use Rattle.mdf_port.specs.declared.memory.MemorySource.{MemorySource}
use Rattle.mdf_port.specs.declared.memory.MemorySink.{MemorySink}

-- which of its calls are to fail, and how many were begun
abbrev pub source_plan : MemorySource → Plan
source_plan source = source.plan

abbrev pub sink_plan : MemorySink → Plan
sink_plan sink = sink.plan
