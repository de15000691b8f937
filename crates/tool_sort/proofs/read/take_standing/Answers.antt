use Rattle.std.proofs.Common.{subst}
use Rattle.mdf_spell.specs.Standing.{AreBytes}
use Rattle.tool_sort.proofs.Reading.{read_stands}
use Rattle.tool_sort.proofs.read.take_standing.Goals as goal

pub returns-clause-stands : goal.returns-clause-stands
returns-clause-stands c =
    let bytes : AreBytes c.args.file = subst AreBytes c.as_slice.ensures c.are_bytes.ensures in
    read_stands c.args.file c.take_file.result bytes c.take_file.ensures.exact
