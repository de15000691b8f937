use Rattle.std.proofs.Common.{ap, sym}
use Rattle.mdf_content.specs.declared.contents.Contents.{Contents}
use Rattle.mdf_paged.specs.Groups.{located}
use Rattle.mdf_paged.proofs.Measures.{group_is}
use Rattle.mdf_paged.proofs.measurement.PagedMeasurement.samples.Goals as goal

pub returns-clause-measured : goal.returns-clause-measured
returns-clause-measured c = λ f d read.
    sym (ap (λ (held : Contents). held.count)
    (group_is f c.args.self.now c.args.group d (located c.place.result.0.now c.place.result.1.now) read c.place.ensures.place))
