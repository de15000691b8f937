use Rattle.std.proofs.Common.{sym, subst}
use Rattle.mdf_stream.specs.Parts.{ArePartsInside, IsPartInside}
use Rattle.mdf_stream.specs.Range.{parts_between}
use Rattle.mdf_stream.proofs.Links.{all_more}
use Rattle.mdf_stream.proofs.Ranges.{range_inside}
use Rattle.mdf_content.proofs.values.add_value.Goals as goal

pub returns-clause-lies : goal.returns-clause-lies
returns-clause-lies g c = λ before.
    let size = g.P.Span.size c.args.span.now in
    let view = c.args.view.now in
    subst (ArePartsInside size) (sym c.in_ok-add_range.ensures)
    (all_more (IsPartInside size) c.args.values.now (parts_between view c.args.place c.in_ok-len.len) before
    (range_inside size view c.args.place c.in_ok-len.len c.requires.inside))
