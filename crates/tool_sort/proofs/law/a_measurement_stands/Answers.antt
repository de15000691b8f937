use Rattle.tool_sort.proofs.Reading.{measured_stands}
use Rattle.tool_sort.proofs.law.a_measurement_stands.Goals as goal

pub returns : goal.returns
returns c = measured_stands
