use Rattle.std.proofs.Common.{◌∙◌, ap, sym}
use Rattle.mdf_port.specs.State.{source_state}
use Rattle.mdf_rotate.specs.Part.{outcomes, states}
use Rattle.mdf_rotate.specs.Text.{records_of}
use Rattle.mdf_rotate.proofs.Ending.{records_same, rotation_ends}
use Rattle.mdf_rotate.proofs.rotate.rotate.Goals as goal

pub returns-clause-ends : goal.returns-clause-ends
returns-clause-ends g c =
    let parts = c.record_all-course.new.parts.items in
    rotation_ends (source_state g.S.Source c.args.source.now) (source_state g.S.Source c.course_of-course.new.source) c.args.output.now c.args.means.now.now_ns (states g.C.Disk c.args.outs.items)
    (outcomes g.C.Disk parts) c.record_all-course.result c.record_all-course.ensures.recovered (records_of c.as_slice.result.now)
    (records_same g.C.Disk parts ∙ ap records_of (sym c.as_slice.ensures.value)) _ _ _ c.course_of-course.result c.course_of-course.ensures c.record_all-course.ensures.come (rw c.end_of.ensures at c.report.ensures)
