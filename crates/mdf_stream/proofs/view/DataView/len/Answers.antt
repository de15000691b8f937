use Rattle.std.proofs.Common.{◌∙◌, ap}
use Rattle.mdf_stream.specs.Parts.{stream_size}
use Rattle.mdf_stream.proofs.Joins.{joined_ends}
use Rattle.mdf_stream.proofs.view.DataView.len.Goals as goal

pub returns-clause-size : goal.returns-clause-size
returns-clause-size c = joined_ends c.self.inside.items.items c.self.inside.end c.self.invariant.0 ∙ ap stream_size c.self.view_is
